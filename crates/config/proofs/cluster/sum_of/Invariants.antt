-- `sum_of` meets its contract: the total is the sum of the start weights that were passed, each below 2 ^ 16.
use Rattle.std.proofs.Common.{◌≡◌, ◌*◌, ◌≤◌, get_or}
use Rattle.quorums.specs.Sum.{sum}
use Rattle.config.proofs.cluster.sum_of.Given as goal

abbrev pub invariant-loop-start : goal.invariant-loop-start
invariant-loop-start l = (l.total ≡ sum l.start-index (λ k. get_or l.starts k 0)) × (l.total ≤ l.start-index * 65535)
