-- What a private function finds of some servers together: both sides of their weight, as plain numbers with a bound, beside W.
use Rattle.std.specs.Prelude.{ℕ, ◌≤◌, ◌≡◌, Bool}
use Rattle.quorums.specs.Sum.{sum_in}
use Rattle.quorums.specs.Accounts.{Accounts, held, total}
use Rattle.ledger.specs.declared.tally.Balance.{Balance}

pub record Sides (n : ℕ) (a : Accounts) (q : ℕ → Bool) (b : Balance) : Type 0 where
  pub held-is : b.held ≡ sum_in n q (held a)
  pub given_is : b.given ≡ sum_in n q a.given
  pub total-is : b.total ≡ total n a
  pub held_small : b.held ≤ 1099512676080
  pub given-small : b.given ≤ 1099512676080
  pub total-small : b.total ≤ 1048560
