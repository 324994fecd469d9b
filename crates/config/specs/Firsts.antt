-- What a private function finds of the first n of 16 start weights: their sum, and the least of them, by the bounds that all of them reach.
use Rattle.std.specs.Prelude.{ℕ, ◌≤◌, ◌≡◌, List, leb, get_or}
use Rattle.quorums.specs.Sum.{sum, all}
use Rattle.config.specs.declared.cluster.First.{First}

pub record Firsts (starts : List ℕ) (n : ℕ) (r : First) : Type 0 where
  pub total-is : r.total ≡ sum n (λ i. get_or starts i 0)
  pub total-small : r.total ≤ 1048560
  pub lowest-is : (b : ℕ) → b ≤ 65535 → leb b r.lowest ≡ all n (λ i. leb b (get_or starts i 0))
