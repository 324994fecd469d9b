-- Servers of a house that starts level, before any transfer: whichever k of n they are, and whatever f, their margin is 2 × 1,000 × k − 1,000 × n
-- (paper 02, N1).
use Rattle.std.specs.Prelude.{Ok}
use Prim.Native.Nat.{ℕ, ◌+◌, ◌*◌, ◌^◌, ◌<◌}
use native.Mathlib.Omega.{arith}
use mathlib.Core.Path.{◌≡◌, ap, ap₂, ◌∙◌}
use mathlib.Core.Bool.{true}
use borrow.Author.Tests.{lt-ltb}
use lib.IntN.{pos, negsuc}
use Rattle.quorums.specs.Sum.{size, sum_in}
use Rattle.quorums.specs.Difference.{difference}
use Rattle.quorums.specs.Accounts.{held, total}
use Rattle.quorums.proofs.Sums.{sum_in-same, sum_in-const}
use Rattle.quorums.proofs.Weights.{margin-is}
use Rattle.config.specs.Cluster.{level, config_of, in_bounds}
use Rattle.config.specs.declared.cluster.Config.{Config}
use Rattle.config.proofs.Clusters.{lawful-valid}
use Rattle.config.proofs.Houses.{level-lawful, level-start, level-total}
use Rattle.ledger.specs.Ledgers.{fresh_ledger, given_of, accounts_of}
use Rattle.ledger.specs.Maps.{named, map_of}
use Rattle.ledger.specs.Weights.{margin_of, quorum_answer}
use Rattle.ledger.proofs.Answers.{total-accounts, told-quorum}
use Rattle.ledger.proofs.Fresh.{fresh-given, fresh-received}

module _ (n f m : ℕ) (v : in_bounds n f ≡ true) where
  abbrev c : Config
  c = config_of (level n f)

  -- each has 1,000 and gave nothing
  fresh-held : sum_in n (named m) (held (accounts_of c fresh_ledger)) ≡ size n (named m) * 1000
  fresh-held = sum_in-same n (named m) _ (λ i. 1000) (λ i l t. omega (arith, fresh-received i, level-start n f v i l)) ∙ sum_in-const n 1000 (named m)

  nothing-given : sum_in n (named m) (given_of fresh_ledger) ≡ size n (named m) * 0
  nothing-given = sum_in-same n (named m) _ (λ i. 0) (λ i l t. fresh-given i) ∙ sum_in-const n 0 (named m)

  fresh-margin : margin_of c fresh_ledger m ≡ difference (2 * (size n (named m) * 1000)) (n * 1000)
  unfolding margin_of
  fresh-margin =
      let W : total n (accounts_of c fresh_ledger) ≡ n * 1000 = total-accounts c fresh_ledger ∙ level-total n f v in
      let less : 2 * (size n (named m) * 0) + n * 1000 ≡ n * 1000 = omega arith in
      margin-is n (accounts_of c fresh_ledger) (named m)
      ∙ ap₂ difference (ap (λ x. 2 * x) fresh-held) (ap₂ (λ x y. 2 * x + y) nothing-given W ∙ less)

  pub fresh-quorum : (k : ℕ) → m < 2 ^ n → size n (named m) ≡ k
      → quorum_answer c fresh_ledger m ≡ Ok (difference (2 * (k * 1000)) (n * 1000))
  unfolding map_of
  fresh-quorum k h s =
      let house = level-lawful n f v in
      told-quorum c fresh_ledger m (rw (lawful-valid c house) (lt-ltb m (2 ^ n) h)) house
      ∙ ap Ok (fresh-margin ∙ ap (λ x. difference (2 * (x * 1000)) (n * 1000)) s)

-- "At n=4 two fresh servers give 0, at n=5 they give −1,000" (paper 02, N1): each two, for each lawful f.
pub record TwoFresh : Type 0 where
  pub of_four : (f m : ℕ) → in_bounds 4 f ≡ true → m < 2 ^ 4 → size 4 (named m) ≡ 2 → quorum_answer (config_of (level 4 f)) fresh_ledger m ≡ Ok (pos 0)
  pub of-five : (f m : ℕ) → in_bounds 5 f ≡ true → m < 2 ^ 5 → size 5 (named m) ≡ 2
      → quorum_answer (config_of (level 5 f)) fresh_ledger m ≡ Ok (negsuc 999)

pub two-fresh : TwoFresh
unfolding difference
two-fresh = record { of_four = λ f m v h s. fresh-quorum 4 f m v 2 h s; of-five = λ f m v h s. fresh-quorum 5 f m v 2 h s }
