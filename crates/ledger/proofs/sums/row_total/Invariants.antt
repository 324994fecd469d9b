-- `row_total` meets its contract: the total is that of the cells that have been looked at.
use Rattle.std.proofs.Common.{◌≡◌, ◌*◌, ◌≤◌, get_or}
use Rattle.quorums.specs.Sum.{sum}
use Rattle.ledger.proofs.sums.row_total.Given as goal

abbrev pub invariant-loop-amount : goal.invariant-loop-amount
invariant-loop-amount l = (l.total ≡ sum l.amount-index (λ j. get_or l.row j 0)) × (l.total ≤ l.amount-index * 4294967295)
