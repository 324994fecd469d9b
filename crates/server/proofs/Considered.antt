-- What becomes of a message, by what was taken of it.
use Rattle.std.specs.Prelude.{Result, Ok, Err, IfOk}
use mathlib.Core.Path.{◌≡◌, refl, sym, ap}
use mathlib.Core.Bool.{Bool, true, false, cond}
use mathlib.Core.List.{List}
use Prim.Native.Nat.{ℕ, ◌<◌, ◌≤◌}
use borrow.Author.Tests.{lt-ltb, le-ltb}
use Rattle.config.specs.Refusals.{refusal}
use Rattle.config.specs.declared.answer.Refusal.{Refusal}
use Rattle.ledger.specs.declared.ledger.Ledger.{Ledger}
use Rattle.ledger.specs.Ledgers.{count_of}
use Rattle.ledger.specs.declared.join.Compared.{Compared}
use Rattle.message.specs.Answers.{taken_answer, taken_ledger, receive_of}
use Rattle.message.specs.Answers.{Received}
use Rattle.message.specs.declared.answer.Taken.{Taken}
use Rattle.message.specs.declared.envelope.Envelope.{Envelope}
use Rattle.message.proofs.TakenLemmas.{taken-refused, taken-received}
use Rattle.replica.specs.declared.replica.Replica.{Replica}
use Rattle.replica.specs.Replicas.{compared_of}
use Rattle.server.specs.declared.record.Server.{Server}
use Rattle.server.specs.declared.serve.Considered.{Considered}
use Rattle.server.specs.declared.serve.Serving.{Serving}
use Rattle.server.specs.Serves.{stray, knows_more}
use Rattle.server.specs.Servings.{by_answer, serving_of, considered_of}

-- whether a message brings a transfer
abbrev pub brings : Bool → Result Serving Refusal
brings more = cond more (Ok Serving.More) (Ok Serving.Known)

-- what the tests of a message that the reader takes come to
abbrev pub tested : Bool → Bool → Result Compared Refusal → Result Serving Refusal
tested t m x = cond t (Err (refusal 7)) (cond m (Err (refusal 6)) (by_answer x (λ y. brings y.lacks) Err))

-- the same with the envelope, where it is not refused
abbrev pub with_envelope : Envelope → Result Serving Refusal → Result Considered Refusal
with_envelope e v = by_answer v (λ z. Ok (record { envelope = e; serving = z })) Err

pub with-refused : (e : Envelope) (v : Result Serving Refusal) (k : Refusal) → with_envelope e v ≡ Err k → v ≡ Err k
with-refused e (Ok z) k d = cc
with-refused e (Err i) k d = cc

pub with-told : (e : Envelope) (v : Result Serving Refusal) (x : Considered) → with_envelope e v ≡ Ok x → (x.envelope ≡ e) × (v ≡ Ok x.serving)
with-told e (Ok z) x d = let p : record { envelope = e; serving = z } ≡ x = cc in (ap (λ (y : Considered). y.envelope) (sym p), ap (λ (y : Considered). Ok y.serving) p)
with-told e (Err i) x d = cc

-- a message that the reader refuses is refused
pub considered-refused : (s : Server) (msg : List ℕ) (k : Refusal) → taken_answer s.config msg ≡ Err k → considered_of s msg ≡ Err k
unfolding considered_of serving_of
considered-refused s msg k d = rw (taken-refused s.config msg k d) refl

-- what was taken of a message, beside its ledger
module _ (s : Server) (msg : List ℕ) (t : Taken) (l : Ledger) (d : taken_answer s.config msg ≡ Ok t) (g : l ≡ taken_ledger s.config msg) where
  abbrev told : Replica
  told = record { ledger = l; register = t.register }

  abbrev compared : Result Compared Refusal
  compared = compared_of s.config.n s.replica told

  pub taken-replica : told ≡ (receive_of s.config msg).replica
  taken-replica = ap (λ (x : Received). x.replica) (sym (taken-received s.config msg t d l g))

  -- such a message is refused or not by its tests
  considered-taken : considered_of s msg ≡ with_envelope t.envelope (tested (stray s t.envelope) (knows_more s told) compared)
  unfolding considered_of serving_of
  considered-taken = rw (taken-received s.config msg t d l g) refl

  pub taken-stray : stray s t.envelope ≡ true → considered_of s msg ≡ Err (refusal 7)
  taken-stray p = rw (considered-taken, p) refl

  module _ (p : stray s t.envelope ≡ false) where
    pub taken-ahead : count_of s.replica.ledger s.number < count_of l s.number → considered_of s msg ≡ Err (refusal 6)
    taken-ahead q = rw (considered-taken, p, lt-ltb _ _ q) refl

    module _ (q : count_of l s.number ≤ count_of s.replica.ledger s.number) where
      pub taken-apart : (k : Refusal) → compared ≡ Err k → considered_of s msg ≡ Err k
      taken-apart k j = rw (considered-taken, p, le-ltb _ _ q, j) refl

      module _ (x : Compared) (j : compared ≡ Ok x) where
        pub taken-more : x.lacks ≡ true → considered_of s msg ≡ Ok (record { envelope = t.envelope; serving = Serving.More })
        taken-more b = rw (considered-taken, p, le-ltb _ _ q, j, b) refl

        pub taken-known : x.lacks ≡ false → considered_of s msg ≡ Ok (record { envelope = t.envelope; serving = Serving.Known })
        taken-known b = rw (considered-taken, p, le-ltb _ _ q, j, b) refl

-- an answer that is a refusal tells nothing beside it
pub refusal-told : (x y : Result Considered Refusal) (k : Refusal) (P : Considered → Type 0) → x ≡ Err k → y ≡ Err k → (x ≡ y) × IfOk x P
refusal-told x y k P e d = rw (e, d) (refl, tt)

-- by which the check proves `consider`
pub ruleset considering = (considered-refused, taken-replica, taken-stray, taken-ahead, taken-apart, taken-more, taken-known)
