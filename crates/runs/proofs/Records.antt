-- The record for what each party of the plain machine holds, and the call's outcome for the machine's: a ledger for a set of transfers, and canonical
-- records for registers, servers and desks. Pointwise: the ledger's count of i is the number of i's transfers in the set, its cell (i, j) the sum of the
-- amounts from i to j (`count-for`, `cell-for`).
use Prim.Native.Nat.{ℕ, ◌/◌, ◌%◌, ◌<◌}
use mathlib.Core.Path.{◌≡◌}
use mathlib.Core.Bool.{cond}
use mathlib.Core.List.{List, [], ◌∷◌, map}
use Rattle.config.specs.declared.cluster.Config.{Config}
use Rattle.quorums.specs.Tables.{table}
use Rattle.ledger.specs.declared.ledger.Ledger.{Ledger}
use Rattle.replica.specs.declared.register.Register.{Register}
use Rattle.replica.specs.declared.replica.Replica.{Replica}
use Rattle.message.specs.declared.envelope.Envelope.{Envelope}
use Rattle.replica.specs.Values.{value_of, empty_value}
use Rattle.replica.specs.Registers.{start_register}
use Rattle.server.specs.declared.record.Server.{Server}
use Rattle.desk.specs.declared.operation.Operation.{Operation}
use Rattle.desk.specs.declared.record.Desk.{Desk}
use Rattle.desk.specs.declared.record.Heard.{Heard}
use Rattle.desk.specs.Operations.{reading, writing, running as running_mode, ended as ended_mode, no_operation}
use Rattle.desk.specs.Desks.{blank_desk}
use Rattle.desk.specs.Hears.{marked}
use Rattle.machine.specs.Sets.{Transfers, count, cell}
use Rattle.machine.specs.Parties.{Register as PlainRegister, Replica as PlainReplica, Message, kind_number, bytes_of, Task, by-task, value_of as task_value, Phase, by-phase, Activity, idle, running, ended, Desk as PlainDesk, fresh_desk}
use Rattle.machine.specs.Runs.{Outcome, State}
use Rattle.machine.specs.Sheets.{Sound}
use Rattle.machine.proofs.Moves.{PlainState, Seated}
use Rattle.machine.proofs.Ranges.{ReplicaRange}
use Rattle.runs.specs.Calls.{hearing_answer, Called}

-- ---- what is held

-- the ledger for a set
unfoldable pub ledger_for : Transfers → Ledger
ledger_for a = record { counts = table 16 (count a); cells = table 256 (λ k. cell a (k / 16) (k % 16)) }

-- a register's value is filled up with zeros
abbrev pub register_for : PlainRegister → Register
register_for g = record { stamp = g.stamp; desk = g.desk; value = value_of g.value }

abbrev pub replica_for : PlainReplica → Replica
replica_for x = record { ledger = ledger_for x.set; register = register_for x.register }

-- server i, which holds x
abbrev pub server_for : Config → ℕ → PlainReplica → Server
server_for c i x = record { config = c; number = i; replica = replica_for x }

-- ---- what a desk does

-- the map of the servers whose replies were heard
unfoldable pub map_for : List Message → ℕ
map_for [] = 0
map_for (m ∷ l) = marked (map_for l) m.server

abbrev pub kind_for : Task → ℕ
kind_for t = by-task t reading (λ v. writing)

abbrev pub phase_for : Phase → ℕ
phase_for h = by-phase h 1 (λ g. 2)

-- in phase 1 the chosen register is the start
abbrev pub chosen_for : Phase → Register
chosen_for h = by-phase h start_register register_for

-- with no operation all fields are 0; of one that has ended, those that its result does not give
abbrev pub operation_for : Activity → Operation
operation_for idle = no_operation
operation_for (running o) =
    record {
      mode = running_mode;
      note = o.note;
      restarts = o.restarts;
      kind = kind_for o.task;
      phase = phase_for o.phase;
      answered = map_for o.heard;
      value = value_of (task_value o.task);
      chosen = chosen_for o.phase;
    }
operation_for (ended y) =
    record {
      mode = ended_mode;
      note = 0;
      restarts = y.restarts;
      kind = cond y.is-write writing reading;
      phase = 0;
      answered = 0;
      value = empty_value;
      chosen = register_for y.register;
    }

-- desk d, which is x
abbrev pub desk_for : Config → ℕ → PlainDesk → Desk
desk_for c d x =
    record { config = c; number = d; replica = replica_for x.replica; round = x.round; operation = operation_for x.activity }

-- ---- messages and outcomes

abbrev pub envelope_for : Message → Envelope
envelope_for m = record { kind = kind_number m.kind; server = m.server; desk = m.desk; round = m.round; note = m.note }

-- what a call comes to, where f gives the record for what a party holds
abbrev pub called_for : {A B : Type 0} → Config → (A → B) → Outcome Message A → Called B
called_for c f o = record { answer = o.answer; party = f o.party; sent = map (bytes_of c) o.sent }

-- what hearing a message comes to, by value or on a lent record
abbrev pub heard_called : Heard → Called Desk
heard_called h = record { answer = hearing_answer h.hearing; party = h.desk; sent = [] }

-- ---- what the machine's invariant supplies

-- a replica that is held or sent: its fields are within the ranges of the byte table, and its set is not light
pub record Held (c : Config) (x : PlainReplica) : Type 0 where
  pub range : ReplicaRange c x
  pub sound : Sound c x.set

abbrev pub ProgramState : Type 0
ProgramState = State Server Desk (List ℕ)

-- The program's state t stands for the machine's state s.
pub record Stands (c : Config) (s : PlainState) (t : ProgramState) : Type 0 where
  pub servers : (i : ℕ) → i < c.n → t.servers i ≡ server_for c i (s.servers i)
  pub crashed : t.crashed ≡ s.crashed
  pub desks : (d : ℕ) → Seated d → t.desks d ≡ desk_for c d (s.desks d)
  -- there is no other desk, and no call was made of one
  pub others : (d : ℕ) → (Seated d → ⊥) → (t.desks d ≡ blank_desk) × (s.desks d ≡ fresh_desk)
  pub sent : t.sent ≡ map (bytes_of c) s.sent
