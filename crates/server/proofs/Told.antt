-- What serve comes to at each of its tests.
use Rattle.std.specs.Prelude.{Ok}
use Prim.Native.Nat.{ℕ}
use mathlib.Core.Path.{◌≡◌, refl, sym}
use mathlib.Core.Bool.{Bool, true, false, cond, not, false≢true}
use mathlib.Core.List.{List}
use lib.Dec.{eqb, ltb}
use lib.ListN.{length}
use Rattle.config.specs.Refusals.{refusal}
use Rattle.ledger.specs.Ledgers.{count_of}
use Rattle.message.specs.Answers.{fits as room, place}
use Rattle.message.specs.declared.envelope.Envelope.{Envelope}
use Rattle.replica.specs.declared.replica.Replica.{Replica}
use Rattle.replica.specs.Replicas.{joinable}
use Rattle.server.specs.declared.record.Server.{Server}
use Rattle.server.specs.Serves.{refuse, stray, clashes, joined_server, reply_message, reply_of, serve_fields}

-- ---- a join

-- 6 where the other knows more of the server's own transfers; where it does not, the replicas decide
pub clash-own : (s : Server) (r : Replica) → ltb (count_of s.replica.ledger s.number) (count_of r.ledger s.number) ≡ true → clashes s r ≡ true
unfolding clashes
clash-own s r m = rw m refl

pub clash-rest : (s : Server) (r : Replica) (j : Bool)
    → ltb (count_of s.replica.ledger s.number) (count_of r.ledger s.number) ≡ false
    → joinable s.config s.replica r ≡ j
    → clashes s r ≡ not j
unfolding clashes
clash-rest s r j m e = rw (m, e) refl

-- a replica that does not clash joins with the server's
pub clear-joinable : (s : Server) (r : Replica) → clashes s r ≡ false → joinable s.config s.replica r ≡ true
unfolding clashes
clear-joinable s r e =
    by_tests (ltb (count_of s.replica.ledger s.number) (count_of r.ledger s.number)) (joinable s.config s.replica r) e
  where
    by_tests : (m j : Bool) → cond m true (not j) ≡ false → j ≡ true
    by_tests true j d = absurd (false≢true (sym d))
    by_tests false true d = refl
    by_tests false false d = absurd (false≢true (sym d))

-- ---- serve of the fields of a message

pub fields-stray : (s : Server) (e : Envelope) (r : Replica) (out : List ℕ) (at : ℕ)
    → stray s e ≡ true
    → serve_fields s e r out at ≡ refuse (refusal 7) s out
unfolding serve_fields
fields-stray s e r out at t = rw t refl

pub fields-clash : (s : Server) (e : Envelope) (r : Replica) (out : List ℕ) (at : ℕ)
    → stray s e ≡ false
    → clashes s r ≡ true
    → serve_fields s e r out at ≡ refuse (refusal 6) s out
unfolding serve_fields
fields-clash s e r out at t c = rw (t, c) refl

pub fields_share : (s : Server) (e : Envelope) (r : Replica) (out : List ℕ) (at : ℕ)
    → stray s e ≡ false
    → clashes s r ≡ false
    → eqb e.kind 3 ≡ true
    → serve_fields s e r out at ≡ record { answer = Ok at; server = joined_server s r; out = out }
unfolding serve_fields
fields_share s e r out at t c k = rw (t, c, k) refl

pub fields-reply : (s : Server) (e : Envelope) (r : Replica) (out : List ℕ) (at : ℕ)
    → stray s e ≡ false
    → clashes s r ≡ false
    → eqb e.kind 3 ≡ false
    → serve_fields s e r out at ≡ reply_of s (joined_server s r) (reply_message (joined_server s r) e) out at
unfolding serve_fields
fields-reply s e r out at t c k = rw (t, c, k) refl

-- ---- a reply that has room, and one that has none

pub reply-written : (s t : Server) (m out : List ℕ) (at : ℕ)
    → room (length out) at (length m) ≡ true
    → reply_of s t m out at ≡ record { answer = (place m out at).answer; server = t; out = (place m out at).out }
unfolding reply_of
reply-written s t m out at b = rw b refl

pub reply-narrow : (s t : Server) (m out : List ℕ) (at : ℕ) → room (length out) at (length m) ≡ false → reply_of s t m out at ≡ refuse (refusal 13) s out
unfolding reply_of
reply-narrow s t m out at b = rw b refl
