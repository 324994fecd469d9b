-- `none_smaller` meets its contract: `so_far` tells of the cells that have been looked at.
use Rattle.std.proofs.Common.{◌≡◌, leb, get_or, length}
use Rattle.quorums.specs.Sum.{all}
use Rattle.ledger.proofs.join.none_smaller.Given as goal

abbrev pub invariant-loop-cell : goal.invariant-loop-cell
invariant-loop-cell l = l.so_far ≡ all (length l.yielded) (λ k. leb (get_or l.earlier k 0) (get_or l.row k 0))
