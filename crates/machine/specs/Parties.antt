-- What servers, desks and the network hold (paper 01, "Sheets", "Server", "Desk" and "The runs of demand 3").
use Rattle.std.specs.Prelude.{ℕ, Bool, true, false, cond, List, [], ◌∷◌, eqb, ltb}
use Rattle.config.specs.declared.cluster.Config.{Config}
use Rattle.format.specs.Table.{Fields, encode_fields}
use Rattle.machine.specs.Sets.{Transfers, union, count, cell}

-- ---- registers, and a set with a register (paper 01: pair)

-- a tag (stamp, desk) and a value
pub record Register : Type 0 where
  pub stamp : ℕ
  pub desk : ℕ
  pub value : List ℕ

-- the start: tag (0, 0), an empty value
abbrev pub start : Register
start = record { stamp = 0; desk = 0; value = [] }

-- whether the tag of a is below that of b, compared stamp first
unfoldable pub below : Register → Register → Bool
below a b = cond (ltb a.stamp b.stamp) true (cond (eqb a.stamp b.stamp) (ltb a.desk b.desk) false)

-- the one with the higher tag
unfoldable pub higher : Register → Register → Register
higher a b = cond (below a b) b a

-- paper 01: pair
pub record Replica : Type 0 where
  pub set : Transfers
  pub register : Register

-- an empty set and the start
abbrev pub fresh : Replica
fresh = record { set = []; register = start }

-- sets are united, the higher tag's register stays
unfoldable pub join : Replica → Replica → Replica
join a b = record { set = union a.set b.set; register = higher a.register b.register }

-- ---- messages

-- the kinds of message, and what is done for a request, a reply and a share
pub data Kind : Type 0 where
  request : Kind
  reply : Kind
  share : Kind

abbrev pub by_kind : {A : Type 0} → Kind → A → A → A → A
by_kind request x y z = x
by_kind reply x y z = y
by_kind share x y z = z

-- the byte of each kind
abbrev pub kind_number : Kind → ℕ
kind_number k = by_kind k 1 2 3

-- the fields of a message, with a set as its sheet; desk, round and note are 0 where absent
pub record Message : Type 0 where
  pub kind : Kind
  pub server : ℕ
  pub desk : ℕ
  pub round : ℕ
  pub note : ℕ
  pub replica : Replica

-- A message's bytes are its fields by the byte table, counts and cells worked out from the set.
abbrev pub fields_of : Message → Fields
fields_of m =
    record {
      kind = kind_number m.kind;
      server = m.server;
      desk = m.desk;
      round = m.round;
      stamp = m.replica.register.stamp;
      tag-desk = m.replica.register.desk;
      value = m.replica.register.value;
      count = count m.replica.set;
      cell = cell m.replica.set;
      note = m.note;
    }

unfoldable pub bytes_of : Config → Message → List ℕ
bytes_of c m = encode_fields c (fields_of m)

-- ---- desks; what a server holds is a replica

-- what an operation is to do: read, or write a value
pub data Task : Type 0 where
  read : Task
  write : List ℕ → Task

-- what is done for a read, and for a write of a value
abbrev pub by-task : {A : Type 0} → Task → A → (List ℕ → A) → A
by-task read x f = x
by-task (write v) x f = f v

abbrev pub writes : Task → Bool
writes t = by-task t false (λ v. true)

abbrev pub value_of : Task → List ℕ
value_of t = by-task t [] (λ v. v)

-- phase 1, or phase 2 with the register that phase 1 chose
pub data Phase : Type 0 where
  first : Phase
  second : Register → Phase

-- what is done in phase 1, and in phase 2
abbrev pub by-phase : {A : Type 0} → Phase → A → (Register → A) → A
by-phase first x f = x
by-phase (second r) x f = f r

-- An operation that runs. `heard` are the replies on the desk's own set heard in the current round: their servers are those that answered.
pub record Operation : Type 0 where
  pub task : Task
  pub note : ℕ
  pub phase : Phase
  pub heard : List Message
  pub restarts : ℕ

-- what a result call gives: kind, tag, value, restarts
pub record Result : Type 0 where
  pub is-write : Bool
  pub register : Register
  pub restarts : ℕ

-- no operation, one that runs, or the last one's result
pub data Activity : Type 0 where
  idle : Activity
  running : Operation → Activity
  ended : Result → Activity

-- what is done while an operation runs, and otherwise
abbrev pub if-running : {A : Type 0} → Activity → (Operation → A) → A → A
if-running idle f x = x
if-running (running o) f x = f o
if-running (ended r) f x = x

-- what is done once an operation has ended, and otherwise
abbrev pub if-ended : {A : Type 0} → Activity → (Result → A) → A → A
if-ended idle f x = x
if-ended (running o) f x = x
if-ended (ended r) f x = f r

-- what a desk (the client) holds, its round, and what it does
pub record Desk : Type 0 where
  pub replica : Replica
  pub round : ℕ
  pub activity : Activity

-- a desk before its first call
abbrev pub fresh_desk : Desk
fresh_desk = record { replica = fresh; round = 0; activity = idle }

-- whether server i is among those that answered
unfoldable pub answered : List Message → ℕ → Bool
answered [] i = false
answered (m ∷ l) i = cond (eqb m.server i) true (answered l i)
