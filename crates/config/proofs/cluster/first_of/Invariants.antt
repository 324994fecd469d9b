-- `first_of` meets its contract: the total is the sum of the start weights that were passed, and a bound is reached by the least of them exactly where all of
-- them reach it.
use Rattle.std.proofs.Common.{ℕ, ◌≡◌, ◌*◌, ◌≤◌, get_or, leb}
use Rattle.quorums.specs.Sum.{sum, all}
use Rattle.config.proofs.cluster.first_of.Given as goal

abbrev pub invariant-loop-start : goal.invariant-loop-start
invariant-loop-start l = record {
  total_is : l.total ≡ sum l.start-index (λ k. get_or l.starts k 0);
  small : l.total ≤ l.start-index * 65535;
  lowest_is : (b : ℕ) → b ≤ 65535 → leb b l.lowest ≡ all l.start-index (λ k. leb b (get_or l.starts k 0));
}
