-- A ledger and a register (paper 01: pair), and their join: sheets join, and the higher tag is taken.
use Rattle.std.specs.Prelude.{ℕ, Bool, false, cond, Result, Err}
use Rattle.config.specs.Cluster.{lawful_of}
use Rattle.config.specs.Refusals.{refusal}
use Rattle.config.specs.declared.answer.Refusal.{Refusal}
use Rattle.config.specs.declared.cluster.Config.{Config}
use Rattle.ledger.specs.declared.join.Compared.{Compared}
use Rattle.ledger.specs.Ledgers.{fresh_ledger, Typed as TypedLedger}
use Rattle.ledger.specs.Checks.{bounded, above_floor}
use Rattle.ledger.specs.Joins.{joins, joined, compared_of as ledgers_compared}
use Rattle.replica.specs.declared.replica.Replica.{Replica}
use Rattle.replica.specs.Registers.{start_register, register_fits, higher, agree, Typed as TypedRegister}

-- no transfer, and the start
abbrev pub fresh_replica : Replica
fresh_replica = record { ledger = fresh_ledger; register = start_register }

-- The part of the record test (paper 01, "Numbers handed out", 1; paper 02, N2) that is about the cluster and what a party holds: lawful start weights, the
-- field ranges, and no light sheet.
unfoldable pub fits : Config → Replica → Bool
fits c r = cond (lawful_of c) (cond (bounded c r.ledger) (cond (above_floor c r.ledger) (register_fits c r.register) false) false) false

-- whether two replicas join: equal tags have equal values, the sheets join, and the joined sheet is not light
unfoldable pub joinable : Config → Replica → Replica → Bool
joinable c a b =
    cond (agree a.register b.register) (cond (joins a.ledger b.ledger) (above_floor c (joined a.ledger b.ledger)) false) false

-- what they join to
unfoldable pub join : Replica → Replica → Replica
join a b = record { ledger = joined a.ledger b.ledger; register = higher a.register b.register }

-- How two replicas of a cluster of n servers compare: by their ledgers, and they do not join where equal tags have other values.
unfoldable pub compared_of : ℕ → Replica → Replica → Result Compared Refusal
compared_of n a b = cond (agree a.register b.register) (ledgers_compared n a.ledger b.ledger) (Err (refusal 6))

-- A replica that a call can have.
pub record Typed (r : Replica) : Type 0 where
  pub ledger-typed : TypedLedger r.ledger
  pub register-typed : TypedRegister r.register
