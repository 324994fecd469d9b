-- `same_cells` meets its contract: `so_far` tells of the cells that have been looked at.
use Rattle.std.proofs.Common.{◌≡◌, eqb, get_or, length}
use Rattle.quorums.specs.Sum.{all}
use Rattle.ledger.proofs.join.same_cells.Given as goal

abbrev pub invariant-loop-cell : goal.invariant-loop-cell
invariant-loop-cell l = l.so_far ≡ all (length l.yielded) (λ k. eqb (get_or l.row k 0) (get_or l.other_row k 0))
