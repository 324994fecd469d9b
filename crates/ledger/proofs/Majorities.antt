-- Where every weight is above the floor, the servers that f crashes leave are a quorum.
use Prim.Native.Nat.{ℕ, ◌-◌, ◌≤◌, ◌<◌}
use native.Mathlib.Omega.{arith}
use mathlib.Core.Path.{◌≡◌, ap, ◌∙◌}
use mathlib.Core.Bool.{true}
use Rattle.quorums.specs.Sum.{size}
use Rattle.quorums.specs.Accounts.{above, weight}
use Rattle.quorums.proofs.Sums.{all-each}
use Rattle.quorums.proofs.Weights.{left-quorum}
use Rattle.config.specs.Cluster.{valid_of, above_of}
use Rattle.config.specs.declared.cluster.Config.{Config}
use Rattle.config.proofs.Clusters.{valid-bounds}
use Rattle.ledger.specs.declared.ledger.Ledger.{Ledger}
use Rattle.ledger.specs.Ledgers.{accounts_of}
use Rattle.ledger.specs.Maps.{named}
use Rattle.ledger.specs.Weights.{weight_of, quorum_of}
use Rattle.ledger.specs.Checks.{server_above, above_floor}
use Rattle.ledger.proofs.Answers.{total-accounts}

-- each server of a ledger that is not light
pub each-above : (c : Config) (l : Ledger) → above_floor c l ≡ true → (i : ℕ) → i < c.n → above_of c (weight_of c l i) ≡ true
unfolding above_floor
each-above c l h i k = all-each c.n (server_above c l) h i k

-- Every map that names at least n − f servers is a quorum.
pub majority : (c : Config) (l : Ledger) (m : ℕ) → valid_of c ≡ true → above_floor c l ≡ true → c.n - c.f ≤ size c.n (named m) → quorum_of c l m ≡ true
unfolding quorum_of above_of weight_of
majority c l m v h s =
    left-quorum c.n c.f (accounts_of c l) (named m) (omega (arith, (valid-bounds c v).crash))
    (λ i k. ap (λ w. above c.n c.f w (weight (accounts_of c l) i)) (total-accounts c l) ∙ each-above c l h i k) s
