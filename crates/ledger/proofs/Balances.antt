-- The balance of the servers that a map names gives their weight, and their margin.
use Prim.Native.Nat.{ℕ, ◌+◌, ◌*◌, ◌≤◌}
use native.Mathlib.Omega.{arith}
use mathlib.Core.Path.{◌≡◌, sym, subst}
use mathlib.Core.Bool.{Bool}
use mathlib.Core.List.{List}
use Rattle.quorums.specs.Difference.{difference}
use Rattle.quorums.specs.Accounts.{Accounts, total, weight_in, margin}
use Rattle.quorums.proofs.Weights.{weight_in-is, margin-is}
use Rattle.config.specs.declared.cluster.Config.{Config}
use Rattle.ledger.specs.declared.tally.Balance.{Balance}
use Rattle.ledger.specs.Balances.{Sides}
use Rattle.ledger.specs.Maps.{named}
use Rattle.ledger.specs.Sums.{accounts_in}
use Rattle.ledger.proofs.Weights.{Counted}

-- n servers have been counted
pub counted-sides : (c : Config) (r g : List ℕ) (m n i W h k : ℕ) → Counted c r g m i W h k → i ≡ n → n ≤ 16
    → Sides n (accounts_in c r g) (named m) (record { held = h; given = k; total = W })
unfolding total
counted-sides c r g m n i W h k counted e most =
    let s = subst (λ j. Counted c r g m j W h k) e counted in
    record {
      held-is = s.held-is;
      given_is = s.gave-is;
      total-is = s.total-is;
      held_small = omega (arith, s.held_small);
      given-small = omega (arith, s.gave-small);
      total-small = omega (arith, s.total-small);
    }

module _ {n : ℕ} {a : Accounts} {q : ℕ → Bool} {b : Balance} (s : Sides n a q b) where
  pub sides-weight : difference b.held b.given ≡ weight_in n a q
  sides-weight = rw (s.held-is, s.given_is) (sym (weight_in-is n a q))

  pub sides-margin : difference (2 * b.held) (2 * b.given + b.total) ≡ margin n a q
  sides-margin = rw (s.held-is, s.given_is, s.total-is) (sym (margin-is n a q))
