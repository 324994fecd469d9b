-- A desk that passes the record test, with an operation that runs, writes a request to each server that the server's reader takes, and finds again. The
-- envelope is lawful by what of the test is not about the pair, so the pair may be tested by the writer.
use Rattle.std.specs.Prelude.{Ok, Err}
use Prim.Native.Nat.{ℕ, ◌≤◌, ◌<◌}
use native.Mathlib.Omega.{arith}
use mathlib.Core.Path.{◌≡◌, refl, sym, ap, ◌∙◌}
use mathlib.Core.Bool.{Bool, true, false, cond}
use mathlib.Core.List.{List}
use borrow.Author.Tests.{lt-ltb, le-ltb, ltb-true, eq-eqb, ne_eqb, eqb-true}
use lib.Dec.{eqb, ltb}
use Rattle.config.specs.Refusals.{refusal, granted}
use Rattle.config.proofs.Clusters.{valid-bounds, value-not-refused}
use Rattle.replica.specs.Replicas.{fits as fits_replica}
use Rattle.message.specs.Cursors.{within}
use Rattle.message.specs.Faults.{kind_number_fits, lawful, send_of}
use Rattle.message.specs.Envelopes.{trimmed_replica, Typed as TypedEnvelope}
use Rattle.message.specs.Answers.{Written, place, between, receive_of}
use Rattle.message.proofs.Lawful.{told-lawful}
use Rattle.message.proofs.Found.{sends-held}
use Rattle.message.proofs.Envelopes.{received-back}
use Rattle.message.proofs.Placed.{placed-message}
use Rattle.desk.specs.declared.record.Desk.{Desk}
use Rattle.desk.specs.Operations.{running}
use Rattle.desk.specs.Desks.{fits, sound, Typed}
use Rattle.desk.specs.Asks.{request_envelope, request_message, unwritten, ask_of}
use Rattle.desk.proofs.Desks.{fits_told, sound-first, sound-told, fits-sound, fits-valid, number-told, running-round}

-- ---- what the call comes to

pub request-lawful : (x : Desk) (i : ℕ) → sound x ≡ true → x.operation.mode ≡ running → i < x.config.n
    → lawful x.config (request_envelope x i) ≡ true
unfolding within kind_number_fits
request-lawful x i e m l =
    let t = sound-told x e in
    told-lawful x.config (request_envelope x i) (record {
      kind-good = refl;
      fields-good =
          simp (
            ne_eqb x.number 0 (λ z. omega (arith, number-told x.number t.number_in)),
            ne_eqb x.round 0 (λ z. omega (arith, running-round x.config x.round x.operation t.operation-fits m)),
          );
      server-good = lt-ltb i x.config.n l;
    })

module _ (x : Desk) (i : ℕ) (out : List ℕ) (at : ℕ) where
  pub ask-unsound : sound x ≡ false → ask_of x i out at ≡ unwritten (refusal 1) out
  unfolding ask_of
  ask-unsound s = rw (sound-first x, s) refl

  -- no operation runs: the replica decides between 9 and 1
  pub ask-idle : sound x ≡ true → (x.operation.mode ≡ running → ⊥)
      → ask_of x i out at
      ≡ record { answer = cond (fits_replica x.config x.replica) (Err (refusal 9)) (Err (refusal 1)); out = out }
  unfolding ask_of
  ask-idle s m = rw (sound-first x, s, ne_eqb x.operation.mode running m) (by-test (fits_replica x.config x.replica))
    where
      by-test : (b : Bool)
          → cond b (unwritten (refusal 9) out) (unwritten (refusal 1) out)
          ≡ record { answer = cond b (Err (refusal 9)) (Err (refusal 1)); out = out }
      by-test true = refl
      by-test false = refl

  pub ask-beyond : x.operation.mode ≡ running → x.config.n ≤ i → ask_of x i out at ≡ unwritten (refusal 1) out
  unfolding ask_of
  ask-beyond m l = rw (eq-eqb x.operation.mode running m, le-ltb i x.config.n l) (by-test (fits x))
    where
      by-test : (b : Bool) → cond b (unwritten (refusal 1) out) (unwritten (refusal 1) out) ≡ unwritten (refusal 1) out
      by-test true = refl
      by-test false = refl

  -- the rest is what the writer sends, by its own test of the replica
  pub ask-sends : sound x ≡ true → x.operation.mode ≡ running → i < x.config.n
      → ask_of x i out at ≡ send_of x.config (request_envelope x i) x.replica out at
  unfolding ask_of
  ask-sends s m l =
      rw (sound-first x, s, eq-eqb x.operation.mode running m, lt-ltb i x.config.n l)
      (sym (sends-held x.config (request_envelope x i) x.replica (request-lawful x i s m l) out at))

-- ---- what the reader makes of it

pub request-typed : (x : Desk) (i : ℕ) → Typed x → fits x ≡ true → i < x.config.n → TypedEnvelope (request_envelope x i)
request-typed x i t e l = record {
  kind_fits = omega arith;
  server-fits = omega (arith, (valid-bounds x.config (fits-valid x e)).most);
  desk-fits = (number-told x.number (fits_told x e).number_in).1;
  round-fits = t.round-fits;
  note-fits = t.operation-typed.note-fits;
}

-- The reader of the request finds the desk's number, round and note, and the replica that the desk holds.
pub request-back : (x : Desk) (i : ℕ) → Typed x → fits x ≡ true → x.operation.mode ≡ running → i < x.config.n
    → receive_of x.config (request_message x i)
    ≡ record { verdict = granted; envelope = request_envelope x i; replica = trimmed_replica x.replica }
request-back x i t e m l =
    received-back x.config (request_envelope x i) x.replica (request-typed x i t e l) t.replica-typed (request-lawful x i (fits-sound x e) m l)
    (fits_told x e).replica-fits

-- what an accepted ask says: the record passes the test, an operation runs, the server is one of the cluster, and the request stands in the buffer
pub record Asked (x : Desk) (i : ℕ) (out : List ℕ) (at : ℕ) (w : Written) : Type 0 where
  pub fitting : fits x ≡ true
  pub runs : x.operation.mode ≡ running
  pub one_of : i < x.config.n
  pub placed : w ≡ place (request_message x i) out at

pub ask-told : (x : Desk) (i : ℕ) (out : List ℕ) (at next : ℕ) → (ask_of x i out at).answer ≡ Ok next → Asked x i out at (ask_of x i out at)
unfolding ask_of
ask-told x i out at next = by_tests (fits x) refl (eqb x.operation.mode running) refl (ltb i x.config.n) refl
  where
    asked : Bool → Bool → Bool → Written
    asked f m l =
        cond f (cond m (cond l (place (request_message x i) out at) (unwritten (refusal 1) out)) (unwritten (refusal 9) out)) (unwritten (refusal 1) out)

    by_tests : (f : Bool) → fits x ≡ f → (m : Bool) → eqb x.operation.mode running ≡ m → (l : Bool) → ltb i x.config.n ≡ l
        → (asked f m l).answer ≡ Ok next → Asked x i out at (asked f m l)
    by_tests true p true q true r d =
        record { fitting = p; runs = eqb-true x.operation.mode running q; one_of = ltb-true i x.config.n r; placed = refl }
    by_tests true p true q false r d = absurd (value-not-refused next (refusal 1) (sym d))
    by_tests true p false q l r d = absurd (value-not-refused next (refusal 9) (sym d))
    by_tests false p m q l r d = absurd (value-not-refused next (refusal 1) (sym d))

-- The bytes that an accepted ask left in the buffer, from the place given up to the place handed back, read back to the request that was meant.
pub ask-asks : (x : Desk) (i : ℕ) (out : List ℕ) (at next : ℕ) → Typed x → (ask_of x i out at).answer ≡ Ok next
    → receive_of x.config (between (ask_of x i out at).out at next)
    ≡ record { verdict = granted; envelope = request_envelope x i; replica = trimmed_replica x.replica }
ask-asks x i out at next t e =
    let a = ask-told x i out at next e in
    ap (λ (w : Written). receive_of x.config (between w.out at next)) a.placed
    ∙ ap (receive_of x.config) (placed-message (request_message x i) out at next (sym (ap (λ (w : Written). w.answer) a.placed) ∙ e))
    ∙ request-back x i t a.fitting a.runs a.one_of
