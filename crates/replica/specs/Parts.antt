-- A replica by its parts, of which the arrays of its ledger are lent.
use Rattle.std.specs.Prelude.{ℕ, List}
use Rattle.ledger.specs.Ledgers.{ledger_of}
use Rattle.replica.specs.declared.register.Register.{Register}
use Rattle.replica.specs.declared.replica.Replica.{Replica}

abbrev pub replica_of : List ℕ → List ℕ → Register → Replica
replica_of counts cells g = record { ledger = ledger_of counts cells; register = g }
