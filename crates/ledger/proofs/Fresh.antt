-- The ledger with no transfer is one that a party may hold: its numbers fit, it is within bounds, and every start weight is above the floor.
use Prim.Native.Nat.{ℕ, ◌+◌, ◌*◌, ◌≤◌, ◌<◌}
use native.Mathlib.Omega.{arith}
use mathlib.Core.Path.{◌≡◌, refl, ap, ◌∙◌}
use mathlib.Core.Logic.{⊎_elim}
use mathlib.Core.Bool.{true}
use lib.ListN.{get_or, replicate, length-replicate, get_or-replicate, get_or-eq_default}
use Rattle.quorums.specs.Difference.{difference}
use Rattle.quorums.specs.Accounts.{weight}
use Rattle.quorums.proofs.Tests.{le-or-lt}
use Rattle.quorums.proofs.Sums.{each_all, sum-zero}
use Rattle.quorums.proofs.Differences.{difference-same}
use Rattle.config.specs.Cluster.{lawful_of, start_of, above_of}
use Rattle.config.specs.declared.cluster.Config.{Config}
use Rattle.config.proofs.Clusters.{start-above}
use Rattle.ledger.specs.Ledgers.{fresh_ledger, count_of, cell_of, given_of, received_of, Typed}
use Rattle.ledger.specs.Weights.{weight_of}
use Rattle.ledger.specs.Checks.{may_hold, total_fits, cell_fits, row_fits, bounded, server_above, above_floor}
use Rattle.ledger.proofs.Totals.{told-bounded}

-- a list of zeros has 0 at every index, also past its end
pub zeros : (n i : ℕ) → get_or {A = ℕ} (replicate n 0) i 0 ≡ 0
zeros n i =
    ⊎_elim (λ (h : n ≤ i). get_or-eq_default {A = ℕ} (replicate n 0) 0 (omega (arith, length-replicate {A = ℕ} n 0))) (λ (h : i < n). get_or-replicate n i 0 0 h) (le-or-lt n i)

pub fresh-count : (i : ℕ) → count_of fresh_ledger i ≡ 0
fresh-count i = zeros 16 i

pub fresh-cell : (i j : ℕ) → cell_of fresh_ledger i j ≡ 0
fresh-cell i j = zeros 256 (i * 16 + j)

pub fresh-typed : Typed fresh_ledger
fresh-typed = record {
  counts-length = refl;
  cells-length = refl;
  count_fits = λ i. omega (arith, zeros 16 i);
  cell-fits = λ k. omega (arith, zeros 256 k);
}

pub fresh-given : (i : ℕ) → given_of fresh_ledger i ≡ 0
unfolding given_of
fresh-given i = sum-zero 16 _ (λ j h. fresh-cell i j)

pub fresh-received : (i : ℕ) → received_of fresh_ledger i ≡ 0
unfolding received_of
fresh-received i = sum-zero 16 _ (λ j h. fresh-cell j i)

pub fresh-bounded : (c : Config) → bounded c fresh_ledger ≡ true
unfolding may_hold total_fits
fresh-bounded c =
    told-bounded c fresh_ledger
    (each_all 256 (cell_fits c.n fresh_ledger) (λ k h. rw (zeros 256 k)))
    (each_all 16 (row_fits fresh_ledger) (λ i h. rw (zeros 16 i, fresh-given i)))

-- a fresh weight is the start weight
pub fresh-weight : (c : Config) (i : ℕ) → weight_of c fresh_ledger i ≡ difference (start_of c i) 0
unfolding weight_of weight
fresh-weight c i = difference-same _ _ _ _ (omega (arith, fresh-given i, fresh-received i))

pub fresh-above : (c : Config) → lawful_of c ≡ true → above_floor c fresh_ledger ≡ true
unfolding above_floor
fresh-above c v = each_all c.n (server_above c fresh_ledger) (λ i h. ap (above_of c) (fresh-weight c i) ∙ start-above c i v h)
