-- What the calls answer (paper 01, "Message bytes" and "Numbers handed out").
use Rattle.std.specs.Prelude.{ℕ, ◌+◌, ◌-◌, Bool, cond, List, [], ◌++◌, length, take, drop, eqb, leb, Result, Ok, Err}
use Rattle.config.specs.Cluster.{lawful_of, cluster_fault}
use Rattle.config.specs.declared.cluster.Config.{Config}
use Rattle.config.specs.Refusals.{Verdict, Number, refusal, granted, by-verdict}
use Rattle.config.specs.declared.answer.Refusal.{Refusal}
use Rattle.ledger.specs.declared.ledger.Ledger.{Ledger}
use Rattle.ledger.specs.Ledgers.{fresh_ledger}
use Rattle.replica.specs.Registers.{tag_of}
use Rattle.replica.specs.declared.register.Register.{Register}
use Rattle.replica.specs.declared.replica.Replica.{Replica}
use Rattle.replica.specs.Registers.{tag_of}
use Rattle.replica.specs.Values.{value_of}
use Rattle.replica.specs.Replicas.{fresh_replica}
use Rattle.message.specs.declared.envelope.Envelope.{Envelope}
use Rattle.message.specs.Scans.{RegisterRead}
use Rattle.message.specs.declared.answer.Message.{Message}
use Rattle.message.specs.declared.answer.Taken.{Taken}
use Rattle.message.specs.declared.answer.Fields.{Fields}
use Rattle.message.specs.Envelopes.{blank_envelope, message_of}
use Rattle.message.specs.Scans.{Scan, scan_of}

-- ---- reading

-- the first fault of a message: 1 or 15 for the cluster, then the message checks; 0 for none
unfoldable pub check : Config → List ℕ → ℕ
check c msg = cond (lawful_of c) (scan_of c msg).number (cluster_fault c)

-- 0 is no fault
unfoldable pub verdict_of : ℕ → Verdict
verdict_of k = cond (eqb k 0) granted (Err (refusal k))

unfoldable pub check_answer : Config → List ℕ → Verdict
check_answer c msg = verdict_of (check c msg)

-- the part of a message that is the value of the register that was read
abbrev pub value_part : List ℕ → RegisterRead → List ℕ
value_part msg r = take r.length (drop r.from msg)

-- that register, the value copied
abbrev pub kept_of : List ℕ → RegisterRead → Register
kept_of msg r = record { stamp = r.stamp; desk = r.desk; value = value_of (value_part msg r) }

-- the replica that a scan found
abbrev pub replica_of : Scan → List ℕ → Replica
replica_of s msg = record { ledger = s.ledger; register = kept_of msg s.register }

-- What bytes say beside the verdict of the check.
pub record Received : Type 0 where
  pub verdict : Verdict
  pub envelope : Envelope
  pub replica : Replica

abbrev pub accepted_of : Scan → List ℕ → Received
accepted_of s msg = record { verdict = granted; envelope = s.envelope; replica = replica_of s msg }

-- a message that is refused says nothing
abbrev pub refused_of : Refusal → Received
refused_of k = record { verdict = Err k; envelope = blank_envelope; replica = fresh_replica }

-- What bytes say: an envelope and a replica, or the number of the first fault.
unfoldable pub receive_of : Config → List ℕ → Received
receive_of c msg = cond (eqb (check c msg) 0) (accepted_of (scan_of c msg) msg) (refused_of (refusal (check c msg)))

-- what the call answers by it: where the message passed the envelope and the replica
unfoldable pub message_answer : Config → List ℕ → Result Message Refusal
message_answer c msg = let x = receive_of c msg in by-verdict x.verdict (Ok (record { envelope = x.envelope; replica = x.replica })) Err

-- the same but for the ledger, and the ledger, which beside a refusal has the rows that were read before the fault
unfoldable pub taken_answer : Config → List ℕ → Result Taken Refusal
taken_answer c msg = let x = receive_of c msg in by-verdict x.verdict (Ok (record { envelope = x.envelope; register = x.replica.register })) Err

unfoldable pub taken_ledger : Config → List ℕ → Ledger
taken_ledger c msg = cond (lawful_of c) (scan_of c msg).ledger fresh_ledger

-- "another call gives the other fields or the number": all but the value
abbrev pub fields_in : Envelope → Replica → Fields
fields_in e r = record { envelope = e; tag = tag_of r.register; ledger = r.ledger }

unfoldable pub fields_answer : Config → List ℕ → Result Fields Refusal
fields_answer c msg = let x = receive_of c msg in by-verdict x.verdict (Ok (fields_in x.envelope x.replica)) Err

-- the value as that part of the message, "an empty part without a register or on any refusal"
unfoldable pub value_answer : Config → List ℕ → List ℕ
value_answer c msg = cond (eqb (check c msg) 0) (value_part msg (scan_of c msg).register) []

-- ---- writing

-- whether n bytes fit from a place on
unfoldable pub fits : ℕ → ℕ → ℕ → Bool
fits room at n = leb (at + n) room

-- the bytes e in the place of as many at the front of a buffer
unfoldable pub over : List ℕ → List ℕ → List ℕ
over e out = e ++ drop (length e) out

-- what a call that writes a message gives, and the buffer after it
pub record Written : Type 0 where
  pub answer : Number
  pub out : List ℕ

-- the message m is written from a place on, where it fits into the buffer; otherwise 13, and the buffer is as it was
unfoldable pub place : List ℕ → List ℕ → ℕ → Written
place m out at =
    cond (fits (length out) at (length m)) (record { answer = Ok (at + length m); out = take at out ++ over m (drop at out) })
    (record { answer = Err (refusal 13); out = out })

-- Writing: the reader's number for the message, then 13; else the place after it.
unfoldable pub write_of : Config → Envelope → Replica → List ℕ → ℕ → Written
write_of c e r out at =
    cond (eqb (check c (message_of c e r)) 0) (place (message_of c e r) out at)
    (record { answer = Err (refusal (check c (message_of c e r))); out = out })

-- the bytes of a buffer from a place up to another
abbrev pub between : List ℕ → ℕ → ℕ → List ℕ
between out at next = take (next - at) (drop at out)
