-- A message that is written ends within its buffer, so the place after it is a signed number as it is.
use Rattle.std.specs.Prelude.{Err}
use Prim.Native.Nat.{ℕ, ◌+◌, ◌<◌}
use native.Mathlib.Omega.{arith}
use mathlib.Core.Path.{◌≡◌, refl}
use mathlib.Core.Bool.{Bool, true, false, cond}
use mathlib.Core.List.{List}
use lib.ListN.{length}
use lib.Dec.{eqb, leb, ltb}
use borrow.Author.Tests.{leb-true}
use Rattle.config.specs.declared.answer.Refusal.{Refusal}
use Rattle.message.specs.Answers.{fits, Written, place}
use Rattle.server.specs.declared.record.Server.{Server}
use Rattle.server.specs.Servers.{fits as fits_server}
use Rattle.server.specs.Shares.{share_message, share_of}
use Rattle.desk.specs.declared.record.Desk.{Desk}
use Rattle.desk.specs.Operations.{running}
use Rattle.desk.specs.Desks.{fits as fits_desk}
use Rattle.desk.specs.Asks.{request_message, ask_of}
use Rattle.host.specs.Codes.{Within}

-- what a call wrote ends below a bound, if it wrote at all
pub record Ends (bound : ℕ) (w : Written) : Type 0 where
  pub ends : Within bound w.answer

-- a test before the write takes nothing from that
guarded : (bound : ℕ) (b : Bool) (w : Written) (k : Refusal) (out : List ℕ)
    → (b ≡ true → Ends bound w) → Ends bound (cond b w (record { answer = Err k; out = out }))
guarded bound true w k out e = e refl
guarded bound false w k out e = record { ends = tt }

place-ends : (m out : List ℕ) (at bound : ℕ) → length out < bound → Ends bound (place m out at)
unfolding place fits
place-ends m out at bound l =
    guarded bound (leb (at + length m) (length out)) _ _ out
    (λ e. record { ends = omega (arith, leb-true (at + length m) (length out) e) })

pub ask-ends : (x : Desk) (i : ℕ) (out : List ℕ) (at bound : ℕ) → length out < bound → Ends bound (ask_of x i out at)
unfolding ask_of
ask-ends x i out at bound l =
    guarded bound (fits_desk x) _ _ out
    (λ _. guarded bound (eqb x.operation.mode running) _ _ out
    (λ _. guarded bound (ltb i x.config.n) _ _ out (λ _. place-ends (request_message x i) out at bound l)))

pub share-ends : (s : Server) (out : List ℕ) (at bound : ℕ) → length out < bound → Ends bound (share_of s out at)
unfolding share_of
share-ends s out at bound l = guarded bound (fits_server s) _ _ out (λ _. place-ends (share_message s) out at bound l)
