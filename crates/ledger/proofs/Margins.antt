-- The margin of a map on a ledger that is within bounds and not light lies from −W to W (paper 02, N1).
use Prim.Native.Nat.{ℕ}
use mathlib.Core.Path.{◌≡◌, sym}
use mathlib.Core.Bool.{true}
use lib.IntN.{ℤ, pos}
use lib.Signed.{◌≤ℤ◌}
use Rattle.quorums.specs.Difference.{difference}
use Rattle.quorums.proofs.Margins.{margin-least, margin-most}
use Rattle.config.specs.Cluster.{valid_of, total_of}
use Rattle.config.specs.declared.cluster.Config.{Config}
use Rattle.ledger.specs.declared.ledger.Ledger.{Ledger}
use Rattle.ledger.specs.Ledgers.{accounts_of}
use Rattle.ledger.specs.Maps.{named}
use Rattle.ledger.specs.Weights.{margin_of}
use Rattle.ledger.specs.Checks.{bounded, above_floor}
use Rattle.ledger.proofs.Answers.{total-accounts}
use Rattle.ledger.proofs.Totals.{received-given}
use Rattle.ledger.proofs.Meeting.{given-held}

-- from −W to W
pub record Within (c : Config) (y : ℤ) : Type 0 where
  pub least : difference 0 (total_of c) ≤ℤ y
  pub most : y ≤ℤ pos (total_of c)

pub margin-within : (c : Config) (l : Ledger) (m : ℕ) → valid_of c ≡ true → bounded c l ≡ true → above_floor c l ≡ true → Within c (margin_of c l m)
unfolding margin_of
margin-within c l m valid b a =
    let held = given-held c l a in
    record {
      least = rw (sym (total-accounts c l)) (margin-least c.n (accounts_of c l) (named m) held);
      most = rw (sym (total-accounts c l)) (margin-most c.n (accounts_of c l) (named m) held (received-given c l valid b));
    }
