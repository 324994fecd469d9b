-- What the answer of serve tells: whom an accepted message was for, that 13 is the last test, and that the reply which was written reads back to the
-- request's desk, round and note and the pair after joining.
use Rattle.std.specs.Prelude.{Ok, Err}
use Prim.Native.Nat.{ℕ}
use native.Mathlib.Omega.{arith}
use mathlib.Core.Path.{◌≡◌, refl, sym, ap, ◌∙◌}
use mathlib.Core.Logic.{◌⊎◌, inl, inr}
use mathlib.Core.Bool.{Bool, true, false, cond, not, false≢true}
use mathlib.Core.List.{List}
use borrow.Author.Tests.{eqb-true}
use lib.Dec.{eqb}
use Rattle.config.specs.Refusals.{refusal, granted}
use Rattle.config.proofs.Clusters.{value-not-refused}
use Rattle.message.specs.Envelopes.{Bytes, trimmed_replica}
use Rattle.message.specs.declared.envelope.Envelope.{Envelope}
use Rattle.message.specs.Answers.{Received}
use Rattle.replica.specs.declared.replica.Replica.{Replica}
use Rattle.message.specs.Answers.{between, receive_of}
use Rattle.message.proofs.Envelopes.{receive-told}
use Rattle.message.proofs.Placed.{placed-message}
use Rattle.server.specs.declared.record.Server.{Server}
use Rattle.server.specs.Servers.{Typed}
use Rattle.server.specs.Serves.{Outcome, stray, reply_envelope, serve_fields, serve_of}
use Rattle.server.proofs.Outcomes.{Joins, reply, fields-cases, serve-cases}
use Rattle.server.proofs.Serves.{reply-back}

-- a message that is no stray is a share, or a request for this server
pub addressed-told : (s : Server) (e : Envelope) → stray s e ≡ false → (e.kind ≡ 3) ⊎ ((e.kind ≡ 1) × (e.server ≡ s.number))
unfolding stray
addressed-told s e = by_kind (eqb e.kind 3) refl (eqb e.kind 1) refl (eqb e.server s.number) refl
  where
    by_kind : (a : Bool) → eqb e.kind 3 ≡ a → (b : Bool) → eqb e.kind 1 ≡ b → (c : Bool) → eqb e.server s.number ≡ c
        → cond a false (cond b (not c) true) ≡ false
        → (e.kind ≡ 3) ⊎ ((e.kind ≡ 1) × (e.server ≡ s.number))
    by_kind true p b q c r d = inl (eqb-true e.kind 3 p)
    by_kind false p true q true r d = inr (eqb-true e.kind 1 q, eqb-true e.server s.number r)
    by_kind false p true q false r d = absurd (false≢true (sym d))
    by_kind false p false q c r d = absurd (false≢true (sym d))

module _ (s : Server) (e : Envelope) (r : Replica) (out : List ℕ) (at : ℕ) where
  -- An accepted message is a share, or a request for this server.
  pub serve-addressed : (x : ℕ) → (serve_fields s e r out at).answer ≡ Ok x → (e.kind ≡ 3) ⊎ ((e.kind ≡ 1) × (e.server ≡ s.number))
  serve-addressed x =
      fields-cases (λ o. o.answer ≡ Ok x → (e.kind ≡ 3) ⊎ ((e.kind ≡ 1) × (e.server ≡ s.number))) s e r out at
      (record {
        strays = λ t d. absurd (value-not-refused x (refusal 7) (sym d));
        clash = λ t c d. absurd (value-not-refused x (refusal 6) (sym d));
        shares = λ j k d. inl k;
        replies = λ j k q d. addressed-told s e j.addressed;
        narrow = λ j k q d. absurd (value-not-refused x (refusal 13) (sym d));
      })

  -- 13 is told only of what is no stray and joins.
  pub narrow-last : (serve_fields s e r out at).answer ≡ Err (refusal 13) → Joins s e r
  narrow-last =
      fields-cases (λ o. o.answer ≡ Err (refusal 13) → Joins s e r) s e r out at
      (record {
        strays = λ t d. let z : ◌≡◌ {A = ℕ} 0 1 = cc in absurd (omega arith);
        clash = λ t c d. let z : ◌≡◌ {A = ℕ} 0 1 = cc in absurd (omega arith);
        shares = λ j k d. j;
        replies = λ j k q d. j;
        narrow = λ j k q d. j;
      })

module _ (s : Server) (msg out : List ℕ) (at next : ℕ) (b : Bytes msg) (t : Typed s) where
  -- what the message says
  abbrev got : Received
  got = receive_of s.config msg

  -- what the reply is to say, where serve came to o
  abbrev Says : Outcome → Type 0
  Says o =
      receive_of s.config (between o.out at next)
      ≡ record { verdict = granted; envelope = reply_envelope s got.envelope; replica = trimmed_replica o.server.replica }

  -- The bytes that an accepted request left in the buffer, from the place given up to the place handed back, read back to the reply that was meant.
  pub serve-replies : got.envelope.kind ≡ 1 → (serve_of s msg out at).answer ≡ Ok next → Says (serve_of s msg out at)
  serve-replies request =
      serve-cases (λ o. o.answer ≡ Ok next → Says o) s msg out at (λ k d. absurd (value-not-refused next k (sym d)))
      (λ f a. record {
        strays = λ u d. absurd (value-not-refused next (refusal 7) (sym d));
        clash = λ u c d. absurd (value-not-refused next (refusal 6) (sym d));
        shares = λ j k d. absurd (omega arith);
        replies = λ j k q d.
            ap (receive_of s.config) (placed-message (reply s got.envelope got.replica) out at next d)
            ∙ reply-back s got.envelope got.replica t f (receive-told s.config msg b a) request j.clear;
        narrow = λ j k q d. absurd (value-not-refused next (refusal 13) (sym d));
      })
