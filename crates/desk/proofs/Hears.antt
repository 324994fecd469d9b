-- Hear keeps a desk one that passes the record test, and one that a call can have. A refusal and "late" leave it as it was; after an accepted hear it
-- has all that it and the reply had.
use Rattle.std.specs.Prelude.{Ok, Err}
use Prim.Native.Nat.{ℕ, suc, ◌≤◌, ◌<◌, ◌^◌}
use native.Mathlib.Nat.{pow-le-pow_right}
use native.Mathlib.Omega.{arith}
use mathlib.Core.Path.{◌≡◌, refl}
use mathlib.Core.Bool.{true, false}
use mathlib.Core.List.{List}
use borrow.Author.Tests.{ltb-true}
use Rattle.config.specs.declared.cluster.Config.{Config}
use Rattle.config.specs.declared.answer.Refusal.{Refusal}
use Rattle.config.proofs.Clusters.{valid-bounds}
use Rattle.ledger.specs.Maps.{map_of}
use Rattle.ledger.proofs.Maps.{map-valid}
use Rattle.message.specs.Cursors.{within}
use Rattle.message.specs.Envelopes.{Bytes}
use Rattle.replica.specs.declared.replica.Replica.{Replica}
use Rattle.replica.specs.Registers.{Typed as TypedRegister}
use Rattle.replica.specs.Replicas.{join, fits as fits_replica, Typed as TypedReplica}
use Rattle.message.specs.Answers.{receive_of}
use Rattle.replica.proofs.Values.{empty-fits, empty-typed}
use Rattle.replica.proofs.Replicas.{fits_told as replica-told, told-fits as told-replica, join-typed, join-fits, Grows, grows-left, grows-right}
use Rattle.message.proofs.Lawful.{lawful-told}
use Rattle.message.proofs.Envelopes.{receive-told}
use Rattle.desk.specs.declared.operation.Operation.{Operation}
use Rattle.desk.specs.declared.record.Desk.{Desk}
use Rattle.desk.specs.declared.record.Hearing.{Hearing}
use Rattle.desk.specs.declared.record.Heard.{Heard}
use Rattle.desk.specs.Operations.{running, ended, phase_lawful, Typed as TypedOperation}
use Rattle.desk.specs.Desks.{most_round, fits, Typed}
use Rattle.desk.specs.Hears.{moved, answered_by, restarted, marked, no_stamp, chosen_of, in_phase_two, chose, finished_operation, finished, hear_of}
use Rattle.desk.proofs.Operations.{FitsOperation, operation-told, told-operation, mode-later, kind-told, kind_fits, none-answered}
use Rattle.desk.proofs.Desks.{fits_told, told-fits, fits-valid, running-round}
use Rattle.desk.proofs.Marks.{marked-map}
use Rattle.desk.proofs.Choices.{chosen-fits, chosen-typed, chosen-above}
use Rattle.desk.proofs.Heeded.{waiting, hear-cases}

-- ---- the record test

module _ (x : Desk) (p : Replica) (e : fits x ≡ true) (h : fits_replica x.config p ≡ true) (m : x.operation.mode ≡ running) where
  before : FitsOperation x.config x.round x.operation
  before = operation-told x.config x.round x.operation (fits_told x e).operation-fits

  -- the desk with another pair, round and operation
  kept : (q : Replica) (k : ℕ) (o : Operation) → fits_replica x.config q ≡ true → FitsOperation x.config k o → fits (moved x q k o) ≡ true
  kept q k o f t =
      told-fits (moved x q k o)
      (record { number_in = (fits_told x e).number_in; replica-fits = f; operation-fits = told-operation x.config k o t })

  restarted-fits : fits (restarted x p) ≡ true
  restarted-fits =
      kept p (suc x.round) (answered_by x.operation 0 (suc x.operation.restarts)) h (record {
        mode-in = mode-later x.operation.mode (suc x.round) (omega arith) (omega arith);
        kind-in = before.kind-in;
        phase-in = before.phase-in;
        answered-in = none-answered x.config (fits-valid x e);
        restarts-in = omega (arith, before.restarts-in);
        value-fits = before.value-fits;
        chosen-fits = before.chosen-fits;
      })

  chose-fits : no_stamp x p.register ≡ false → fits (chose x p) ≡ true
  unfolding phase_lawful within
  chose-fits n =
      let t = replica-told x.config p h in
      let g = chosen-fits x p.register e n t.register-fits in
      kept (record { ledger = p.ledger; register = chosen_of x p.register }) (suc x.round) (in_phase_two x.operation (chosen_of x p.register))
      (told-replica x.config (record { ledger = p.ledger; register = chosen_of x p.register })
      (record { lawful = t.lawful; ledger-bounded = t.ledger-bounded; ledger-above = t.ledger-above; register-fits = g }))
      (record {
        mode-in = mode-later running (suc x.round) (omega arith) (omega arith);
        kind-in = kind_fits running x.operation.kind (kind-told x.operation.mode x.operation.kind before.kind-in m);
        phase-in = refl;
        answered-in = none-answered x.config (fits-valid x e);
        restarts-in = omega (arith, before.restarts-in);
        value-fits = before.value-fits;
        chosen-fits = g;
      })

  finished-fits : fits (finished x p) ≡ true
  unfolding phase_lawful
  finished-fits =
      kept p x.round (finished_operation x.operation) h (record {
        mode-in = mode-later ended x.round (omega arith) (running-round x.config x.round x.operation (fits_told x e).operation-fits m);
        kind-in = kind_fits ended x.operation.kind (kind-told x.operation.mode x.operation.kind before.kind-in m);
        phase-in = refl;
        answered-in = none-answered x.config (fits-valid x e);
        restarts-in = before.restarts-in;
        value-fits = empty-fits;
        chosen-fits = before.chosen-fits;
      })

  waiting-fits : (i : ℕ) → i < x.config.n → fits (waiting x p i) ≡ true
  waiting-fits i l =
      kept p x.round (answered_by x.operation (marked x.operation.answered i) x.operation.restarts) h (record {
        mode-in = before.mode-in;
        kind-in = before.kind-in;
        phase-in = before.phase-in;
        answered-in = marked-map x.config x.operation.answered i l before.answered-in;
        restarts-in = before.restarts-in;
        value-fits = before.value-fits;
        chosen-fits = before.chosen-fits;
      })

pub hear-fits : (x : Desk) (msg : List ℕ) → Bytes msg → fits x ≡ true → fits (hear_of x msg).desk ≡ true
hear-fits x msg b e =
    hear-cases (λ (h : Heard). fits h.desk ≡ true) x (λ k. e) msg e
    (λ f a s.
    let c = x.config in
    let y = receive_of c msg in
    let g = receive-told c msg b a in
    let h = join-fits c x.replica y.replica (fits_told x e).replica-fits g.replica-fits s.joining in
    let p = join x.replica y.replica in
    record {
      restarts = λ r. restarted-fits x p e h s.runs;
      chooses = λ r n. chose-fits x p e h s.runs n;
      finishes = finished-fits x p e h s.runs;
      waits = λ q. waiting-fits x p e h s.runs y.envelope.server (ltb-true _ _ (lawful-told c y.envelope g.envelope-lawful).server-good);
    })

-- ---- a record that a call can have

-- a map of a cluster is a number of 16 bits
map-small : (c : Config) (m : ℕ) → map_of c m ≡ true → m ≤ 65535
map-small c m e =
    let v = map-valid c m e in
    let most : 2 ^ c.n ≤ 2 ^ 16 = pow-le-pow_right (omega arith) (valid-bounds c v.0).most in
    omega arith

module _ (x : Desk) (p : Replica) (t : Typed x) (e : fits x ≡ true) (s : TypedReplica p) where
  -- the desk with another pair, round and operation
  held : (q : Replica) (k : ℕ) (o : Operation) → TypedReplica q → k ≤ 4294967295 → TypedOperation o → Typed (moved x q k o)
  held q k o r l d = record {
    config-typed = t.config-typed;
    number_fits = t.number_fits;
    replica-typed = r;
    round-fits = l;
    operation-typed = d;
  }

  answered-typed : (map restarts : ℕ) → map ≤ 65535 → restarts ≤ 4294967295 → TypedOperation (answered_by x.operation map restarts)
  answered-typed map restarts a b = record {
    mode-fits = t.operation-typed.mode-fits;
    note-fits = t.operation-typed.note-fits;
    restarts-fits = b;
    kind_fits = t.operation-typed.kind_fits;
    phase-fits = t.operation-typed.phase-fits;
    answered-fits = a;
    value-typed = t.operation-typed.value-typed;
    chosen-typed = t.operation-typed.chosen-typed;
  }

  restarts-below : x.operation.restarts ≤ x.round
  restarts-below = (operation-told x.config x.round x.operation (fits_told x e).operation-fits).restarts-in

  restarted-typed : x.round < most_round → Typed (restarted x p)
  restarted-typed l =
      held p (suc x.round) _ s l (answered-typed 0 (suc x.operation.restarts) (omega arith) (omega (arith, restarts-below)))

  chose-typed : x.round < most_round → no_stamp x p.register ≡ false → Typed (chose x p)
  chose-typed l n =
      let g : TypedRegister (chosen_of x p.register) = chosen-typed x p.register t e n s.register-typed in
      held (record { ledger = p.ledger; register = chosen_of x p.register }) (suc x.round) (in_phase_two x.operation (chosen_of x p.register))
      (record { ledger-typed = s.ledger-typed; register-typed = g }) l (record {
        mode-fits = omega arith;
        note-fits = t.operation-typed.note-fits;
        restarts-fits = t.operation-typed.restarts-fits;
        kind_fits = t.operation-typed.kind_fits;
        phase-fits = omega arith;
        answered-fits = omega arith;
        value-typed = t.operation-typed.value-typed;
        chosen-typed = g;
      })

  finished-typed : Typed (finished x p)
  finished-typed =
      held p x.round (finished_operation x.operation) s t.round-fits (record {
        mode-fits = omega arith;
        note-fits = omega arith;
        restarts-fits = t.operation-typed.restarts-fits;
        kind_fits = t.operation-typed.kind_fits;
        phase-fits = omega arith;
        answered-fits = omega arith;
        value-typed = empty-typed;
        chosen-typed = t.operation-typed.chosen-typed;
      })

  waiting-typed : (i : ℕ) → i < x.config.n → Typed (waiting x p i)
  waiting-typed i l =
      held p x.round _ s t.round-fits
      (answered-typed (marked x.operation.answered i) x.operation.restarts
      (map-small x.config (marked x.operation.answered i)
      (marked-map x.config x.operation.answered i l
      (operation-told x.config x.round x.operation (fits_told x e).operation-fits).answered-in))
      t.operation-typed.restarts-fits)

pub hear-typed : (x : Desk) (msg : List ℕ) → Bytes msg → Typed x → fits x ≡ true → Typed (hear_of x msg).desk
hear-typed x msg b t e =
    hear-cases (λ (h : Heard). Typed h.desk) x (λ k. t) msg t
    (λ f a s.
    let c = x.config in
    let y = receive_of c msg in
    let g = receive-told c msg b a in
    let p = join x.replica y.replica in
    let h = join-typed x.replica y.replica t.replica-typed g.replica-typed in
    record {
      restarts = λ r. restarted-typed x p t e h r;
      chooses = λ r n. chose-typed x p t e h r n;
      finishes = finished-typed x p t e h;
      waits = λ q. waiting-typed x p t e h y.envelope.server (ltb-true _ _ (lawful-told c y.envelope g.envelope-lawful).server-good);
    })

-- ---- what is not accepted changes nothing

hear-unchanged : (x : Desk) (msg : List ℕ) → ((hear_of x msg).hearing ≡ Ok Hearing.Taken → ⊥) → (hear_of x msg).desk ≡ x
hear-unchanged x msg =
    hear-cases (λ (h : Heard). (h.hearing ≡ Ok Hearing.Taken → ⊥) → h.desk ≡ x) x (λ k n. refl) msg (λ n. refl)
    (λ f a s. record {
      restarts = λ r n. absurd (n refl);
      chooses = λ r d n. absurd (n refl);
      finishes = λ n. absurd (n refl);
      waits = λ q n. absurd (n refl);
    })

pub hear-refused : (x : Desk) (msg : List ℕ) (k : Refusal) → (hear_of x msg).hearing ≡ Err k → (hear_of x msg).desk ≡ x
hear-refused x msg k e = hear-unchanged x msg (λ d. let z : ◌≡◌ {A = ℕ} 0 1 = cc in omega arith)

pub hear-late : (x : Desk) (msg : List ℕ) → (hear_of x msg).hearing ≡ Ok Hearing.Late → (hear_of x msg).desk ≡ x
hear-late x msg e = hear-unchanged x msg (λ d. let z : ◌≡◌ {A = ℕ} 0 1 = cc in omega arith)

-- ---- and nothing changes the cluster or the number: the record with the pair, the round and the operation that hear leaves is the record that it leaves

pub hear-whole : (x : Desk) (msg : List ℕ) → let y = (hear_of x msg).desk in moved x y.replica y.round y.operation ≡ y
hear-whole x msg =
    hear-cases (λ (h : Heard). moved x h.desk.replica h.desk.round h.desk.operation ≡ h.desk) x (λ k. refl) msg refl
    (λ f a s. record { restarts = λ l. refl; chooses = λ l n. refl; finishes = refl; waits = λ q. refl })

-- ---- what is accepted loses nothing

-- where p has all that a has, so has the pair in which phase 1 ends
chose-grows : (x : Desk) (p a : Replica) → Grows a p → Grows a (chose x p).replica
chose-grows x p a g =
    record { counts = g.counts; cells = g.cells; all_known = g.all_known; tag = chosen-above x p.register a.register g.tag }

-- the desk then has all that it and the reply had, transfers and tags
pub hear-grows : (x : Desk) (msg : List ℕ) → (hear_of x msg).hearing ≡ Ok Hearing.Taken
    → Grows x.replica (hear_of x msg).desk.replica × Grows (receive_of x.config msg).replica (hear_of x msg).desk.replica
hear-grows x msg =
    let r = (receive_of x.config msg).replica in
    let p = join x.replica r in
    hear-cases (λ (h : Heard). h.hearing ≡ Ok Hearing.Taken → Grows x.replica h.desk.replica × Grows r h.desk.replica) x
    (λ k d. let z : ◌≡◌ {A = ℕ} 0 1 = cc in absurd (omega arith)) msg (λ d. let z : ◌≡◌ {A = ℕ} 0 1 = cc in absurd (omega arith))
    (λ f a s.
    let left = grows-left x.config x.replica r s.joining in
    let right = grows-right x.config x.replica r s.joining in
    record {
      restarts = λ l d. (left, right);
      chooses = λ l n d. (chose-grows x p x.replica left, chose-grows x p r right);
      finishes = λ d. (left, right);
      waits = λ q d. (left, right);
    })
