-- The reader's number for the bytes of an envelope and a replica, found without the bytes, and what a party sends of what it holds. `Faults` in proofs/ shows that
-- the number is `check`.
use Rattle.std.specs.Prelude.{ℕ, ◌≡◌, Bool, true, false, cond, not, List, eqb, ltb, Err}
use Rattle.config.specs.Cluster.{lawful_of, cluster_fault}
use Rattle.config.specs.declared.cluster.Config.{Config}
use Rattle.config.specs.Refusals.{refusal}
use Rattle.ledger.specs.Checks.{bounded, above_floor}
use Rattle.replica.specs.declared.replica.Replica.{Replica}
use Rattle.replica.specs.Registers.{register_fits}
use Rattle.replica.specs.Replicas.{fits, Typed as TypedReplica}
use Rattle.message.specs.declared.envelope.Envelope.{Envelope}
use Rattle.message.specs.Envelopes.{Typed, message_of}
use Rattle.message.specs.Answers.{Written, place}
use Rattle.message.specs.Cursors.{within}

-- whether the fields that stand are those that the kind has: a share has neither desk, round nor note, others have a desk and a round
unfoldable pub kind_number_fits : ℕ → ℕ → ℕ → ℕ → Bool
kind_number_fits kind desk round note =
    cond (eqb kind 3) (cond (eqb desk 0) (cond (eqb round 0) (eqb note 0) false) false) (cond (eqb desk 0) false (not (eqb round 0)))

-- whether a replica that fits may travel with an envelope: the kind is one, and has the fields that stand, and the server is one of the cluster
unfoldable pub lawful : Config → Envelope → Bool
lawful c e = cond (within 1 3 e.kind) (cond (kind_number_fits e.kind e.desk e.round e.note) (ltb e.server c.n) false) false

-- the number k where a test fails, else what the tests after it give
abbrev pub test : Bool → ℕ → ℕ → ℕ
test ok k rest = cond ok rest k

unfoldable pub fault_of : Config → Envelope → Replica → ℕ
fault_of c e r =
    test (lawful_of c) (cluster_fault c)
    (test (within 1 3 e.kind) 4
    (test (kind_number_fits e.kind e.desk e.round e.note) 3
    (test (ltb e.server c.n) 4
    (test (register_fits c r.register) 4 (test (bounded c r.ledger) 4 (test (above_floor c r.ledger) 5 0))))))

-- What a party sends of what it holds, by its own record test: 1 where the envelope is not lawful or the replica does not fit, then 13; else the place after the message.
unfoldable pub send_of : Config → Envelope → Replica → List ℕ → ℕ → Written
send_of c e r out at =
    cond (cond (lawful c e) (fits c r) false) (place (message_of c e r) out at) (record { answer = Err (refusal 1); out = out })

-- What is known of the envelope and the replica of a message that has passed its checks.
pub record Passed (c : Config) (e : Envelope) (r : Replica) : Type 0 where
  pub envelope-lawful : lawful c e ≡ true
  pub envelope-typed : Typed e
  pub replica-typed : TypedReplica r
  pub replica-fits : fits c r ≡ true
