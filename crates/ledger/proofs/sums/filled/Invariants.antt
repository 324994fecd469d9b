-- `filled` meets its contract: `clear` tells of the cells that have been looked at.
use Rattle.std.proofs.Common.{◌≡◌, eqb, get_or}
use Rattle.quorums.specs.Sum.{all}
use Rattle.ledger.proofs.sums.filled.Given as goal

abbrev pub invariant-loop-cell : goal.invariant-loop-cell
invariant-loop-cell l = l.clear ≡ all l.cell-index (λ j. eqb (get_or l.row j 0) 0)
