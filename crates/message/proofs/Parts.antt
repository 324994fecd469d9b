-- The value of a message without a fault lies within the message, and has at most 64 bytes.
use Prim.Native.Nat.{ℕ, ◌+◌, ◌≤◌}
use native.Mathlib.Omega.{arith}
use mathlib.Core.Path.{◌≡◌, refl}
use mathlib.Core.Bool.{Bool, true, false, cond}
use mathlib.Core.List.{List}
use borrow.Author.Tests.{leb-true, eq-eqb}
use lib.Dec.{leb}
use lib.ListN.{length, drop, length-take}
use Rattle.config.specs.declared.cluster.Config.{Config}
use Rattle.message.specs.Cursors.{Cursor}
use Rattle.message.specs.Cursors.{stay, skip}
use Rattle.message.specs.Scans.{register_of, scan_of}
use Rattle.message.specs.Answers.{value_part}
use Rattle.message.proofs.Sticky.{skip-open, sheet-open, note-open, end-open}
use Rattle.message.proofs.Backs.{number-most}

-- bytes that were skipped are there
skip-fits : (msg : List ℕ) (w : ℕ) (c : Cursor) → (skip msg w c).number ≡ 0 → c.at + w ≤ length msg
unfolding skip
skip-fits msg w c e = by-test _ refl (simp (eq-eqb _ _ (skip-open msg w c e)) at e)
  where
    by-test : (b : Bool) → leb (c.at + w) (length msg) ≡ b → (cond b (record { number = 0; at = c.at + w; x = 0 }) (stay 2 c)).number ≡ 0 → c.at + w ≤ length msg
    by-test true t d = leb-true _ _ t
    by-test false t d = absurd (omega arith)

register-fits : (c : Config) (msg : List ℕ) (s : ℕ) (from : Cursor) → (register_of c msg s from).cursor.number ≡ 0
    → (register_of c msg s from).from + (register_of c msg s from).length ≤ length msg
unfolding register_of
register-fits c msg s from e = skip-fits msg _ _ e

register-short : (c : Config) (msg : List ℕ) (s : ℕ) (from : Cursor) → (register_of c msg s from).length ≤ 64
unfolding register_of
register-short c msg s from = number-most msg s 1 0 64 _

pub value-within : (c : Config) (msg : List ℕ) → (scan_of c msg).number ≡ 0 → (scan_of c msg).register.from + (scan_of c msg).register.length ≤ length msg
unfolding scan_of
value-within c msg e = register-fits c msg _ _ (sheet-open c msg _ _ (note-open msg _ _ (end-open c msg _ _ e)))

pub part-short : (c : Config) (msg : List ℕ) (s : ℕ) (from : Cursor) → length (value_part msg (register_of c msg s from)) ≤ 64
part-short c msg s from =
    let r = register_of c msg s from in
    omega (arith, register-short c msg s from, length-take r.length (drop r.from msg))

pub value-short : (c : Config) (msg : List ℕ) → length (value_part msg (scan_of c msg).register) ≤ 64
unfolding scan_of
value-short c msg = part-short c msg _ _
