-- Reading undoes writing: what the writer takes, which is every lawful envelope with a replica that fits, is found again in its bytes.
use Rattle.std.specs.Prelude.{Err}
use Prim.Native.Nat.{ℕ, suc, ◌<◌}
use native.Mathlib.Omega.{arith}
use mathlib.Core.Path.{◌≡◌, refl, sym, ◌∙◌}
use mathlib.Core.Logic.{◌↔◌}
use mathlib.Core.Bool.{Bool, true, false, cond}
use mathlib.Core.List.{List}
use borrow.Author.Tests.{ltb-true, eq-eqb}
use lib.Dec.{ltb}
use Rattle.quorums.proofs.Tests.{both, test-false}
use Rattle.config.specs.Cluster.{lawful_of, cluster_fault}
use Rattle.config.proofs.Clusters.{fault-some}
use Rattle.config.specs.declared.cluster.Config.{Config}
use Rattle.config.specs.Refusals.{granted}
use Rattle.config.specs.Refusals.{refusal}
use Rattle.ledger.specs.Checks.{bounded, above_floor}
use Rattle.replica.specs.declared.replica.Replica.{Replica}
use Rattle.replica.specs.Values.{most_value}
use Rattle.replica.specs.Registers.{register_fits}
use Rattle.replica.specs.Replicas.{fits, Typed as TypedReplica}
use Rattle.replica.proofs.Values.{fits-short}
use Rattle.replica.proofs.Registers.{fits-value}
use Rattle.replica.proofs.Replicas.{fits_told, told-fits}
use Rattle.message.specs.declared.envelope.Envelope.{Envelope}
use Rattle.message.specs.Envelopes.{message_of, trimmed_replica, Typed}
use Rattle.message.specs.Cursors.{within}
use Rattle.message.specs.Answers.{check, receive_of, place, write_of}
use Rattle.message.specs.Faults.{kind_number_fits, lawful, test, fault_of, send_of}
use Rattle.message.proofs.Faults.{HeadGood, message-found, fault-is-check}
use Rattle.message.proofs.Lawful.{lawful-told, told-lawful}

-- a lawful cluster, and no fault after it
housed : (c : Config) (r : ℕ) → test (lawful_of c) (cluster_fault c) r ≡ 0 → (lawful_of c ≡ true) × (r ≡ 0)
housed c r e = by_lawful (lawful_of c) refl
  where
    by_lawful : (b : Bool) → lawful_of c ≡ b → (lawful_of c ≡ true) × (r ≡ 0)
    by_lawful true v = (v, rw v at e)
    by_lawful false v = absurd (omega (arith, rw v at e, (fault-some c v).0))

passed : (b : Bool) (k r : ℕ) → test b (suc k) r ≡ 0 → (b ≡ true) × (r ≡ 0)
passed true k r e = (refl, e)
passed false k r e = absurd (omega arith)

module _ (c : Config) (e : Envelope) (r : Replica) where
  -- no test finds a fault exactly where the envelope is lawful and the replica fits
  faultless : fault_of c e r ≡ 0 → (lawful c e ≡ true) × (fits c r ≡ true)
  unfolding fault_of
  faultless none =
      let house = housed c _ none in
      let kind = passed (within 1 3 e.kind) 3 _ house.1 in
      let fields = passed (kind_number_fits e.kind e.desk e.round e.note) 2 _ kind.1 in
      let server = passed (ltb e.server c.n) 3 _ fields.1 in
      let register = passed (register_fits c r.register) 3 _ server.1 in
      let bounds = passed (bounded c r.ledger) 3 _ register.1 in
      let floor = passed (above_floor c r.ledger) 4 0 bounds.1 in (
        told-lawful c e (record { kind-good = kind.0; fields-good = fields.0; server-good = server.0 }),
        told-fits c r (record { lawful = house.0; ledger-bounded = bounds.0; ledger-above = floor.0; register-fits = register.0 }),
      )

  pub no-fault : lawful c e ≡ true → fits c r ≡ true → fault_of c e r ≡ 0
  unfolding fault_of
  no-fault l f =
      let k = lawful-told c e l in
      let g = fits_told c r f in
      simp (g.lawful, k.kind-good, k.fields-good, k.server-good, g.register-fits, g.ledger-bounded, g.ledger-above)

  -- what a party sends: the message where there is no fault, else 1

  pub fault-sends : fault_of c e r ≡ 0 → (out : List ℕ) (at : ℕ) → place (message_of c e r) out at ≡ send_of c e r out at
  unfolding send_of
  fault-sends none out at = let t = faultless none in simp (t.0, t.1)

  pub fault-sends-none : (fault_of c e r ≡ 0 → ⊥) → (out : List ℕ) (at : ℕ) → record { answer = Err (refusal 1); out = out } ≡ send_of c e r out at
  unfolding send_of
  fault-sends-none some out at =
      let unsent = test-false (cond (lawful c e) (fits c r) false) (λ t. let told = both (lawful c e) _ t in some (no-fault told.0 told.1)) in
      simp unsent

  -- with a lawful envelope that is the test of the replica, and then the message
  pub sends-held : lawful c e ≡ true → (out : List ℕ) (at : ℕ)
      → send_of c e r out at ≡ cond (fits c r) (place (message_of c e r) out at) (record { answer = Err (refusal 1); out = out })
  unfolding send_of
  sends-held l out at = simp l

  long-fault : lawful_of c ≡ true → lawful c e ≡ true → most_value < r.register.value.length → fault_of c e r ≡ 4
  unfolding fault_of
  long-fault valid l long =
      let k = lawful-told c e l in
      let unfit = test-false (register_fits c r.register) (λ f. omega (arith, long, fits-short _ (fits-value c r.register f))) in
      simp (valid, k.kind-good, k.fields-good, k.server-good, unfit)

module _ (c : Config) (e : Envelope) (r : Replica) (te : Typed e) (tr : TypedReplica r) where
  -- so the reader takes these messages, and no others
  pub taken-told : (check c (message_of c e r) ≡ 0) ↔ ((lawful c e ≡ true) × (fits c r ≡ true))
  taken-told =
      let same = fault-is-check c e r te tr in
      (λ clean. faultless c e r (sym same ∙ clean), λ t. same ∙ no-fault c e r t.0 t.1)

  -- reading undoes writing, but for what lies past the value's bytes
  pub received-found : check c (message_of c e r) ≡ 0
      → receive_of c (message_of c e r) ≡ record { verdict = granted; envelope = e; replica = trimmed_replica r }
  unfolding receive_of
  received-found clean =
      let t = taken-told.0 clean in
      let k = lawful-told c e t.0 in
      let g = fits_told c r t.1 in
      let head : HeadGood c e r te tr g.lawful =
      record { kind-good = k.kind-good; fields-good = k.fields-good; server-good = ltb-true _ _ k.server-good } in
      simp (eq-eqb (check c (message_of c e r)) 0 clean) (message-found c e r te tr g.lawful head g.register-fits g.ledger-bounded)

  -- a register of more than 64 bytes is not written, nor cut to be: it is 4, and the buffer is as it was
  pub long-refused : (out : List ℕ) (at : ℕ) → lawful_of c ≡ true → lawful c e ≡ true → most_value < r.register.value.length
      → write_of c e r out at ≡ record { answer = Err (refusal 4); out = out }
  unfolding write_of
  long-refused out at valid l long = simp (fault-is-check c e r te tr ∙ long-fault c e r valid l long)
