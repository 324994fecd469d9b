-- What desk staff see of an operation that runs (paper 02, N1: "How much weight is still missing"): twice the weight of the servers that answered in this
-- round, on the desk's own sheet, less W; 9 if none runs.
use Rattle.std.specs.Prelude.{ℕ, cond, eqb, Ok, Err}
use Rattle.config.specs.Refusals.{refusal}
use Rattle.config.specs.Refusals.{Signed}
use Rattle.ledger.specs.Weights.{margin_of as margin_on}
use Rattle.desk.specs.declared.record.Desk.{Desk}
use Rattle.desk.specs.Operations.{running}
use Rattle.desk.specs.Desks.{fits}

unfoldable pub margin_of : Desk → Signed
margin_of x =
    cond (fits x)
    (cond (eqb x.operation.mode running) (Ok (margin_on x.config x.replica.ledger x.operation.answered)) (Err (refusal 9)))
    (Err (refusal 1))

-- the margin of any map of servers on the desk's own sheet; 1 for the record
unfoldable pub weighed_of : Desk → ℕ → Signed
weighed_of x m = cond (fits x) (Ok (margin_on x.config x.replica.ledger m)) (Err (refusal 1))
