-- On every ledger within bounds the weights of all servers total W: a gift leaves one server of the cluster and reaches another.
use Prim.Native.Nat.{ℕ, ◌+◌, ◌-◌, ◌*◌, ◌/◌, ◌%◌, ◌≤◌, ◌<◌}
use native.Mathlib.Omega.{arith}
use mathlib.Core.Path.{◌≡◌, refl, sym, ap, ◌∙◌}
use mathlib.Core.Logic.{◌⊎◌, inl, inr, ⊎_elim, ◌↔◌}
use mathlib.Core.Bool.{Bool, true, false, cond, not}
use borrow.Author.Tests.{eqb-true, eqb-false, ltb-true, leb-true, not-true}
use lib.Dec.{eqb, ltb, leb}
use lib.IntN.{pos}
use Rattle.quorums.specs.Sum.{sum, all}
use Rattle.quorums.proofs.Tests.{both}
use Rattle.quorums.proofs.Sums.{all-each, sum_same, sum-extend, sum-swap}
use Rattle.quorums.proofs.Weights as W
use Rattle.config.specs.Cluster.{valid_of, total_of, most_weight}
use Rattle.config.specs.declared.cluster.Config.{Config}
use Rattle.config.proofs.Clusters.{valid-bounds}
use Rattle.ledger.specs.declared.ledger.Ledger.{Ledger}
use Rattle.ledger.specs.Ledgers.{count_of, cell_of, given_of, received_of, accounts_of}
use Rattle.ledger.specs.Weights.{all_of}
use Rattle.ledger.specs.Checks.{may_hold, total_fits, cell_fits, row_fits, bounded}
use Rattle.ledger.proofs.Answers.{total-accounts}

-- the places of cells that may hold something: giver and taker are two servers
pub record Placed (n i j : ℕ) : Type 0 where
  pub giver : i < n
  pub taker : j < n
  pub apart : i ≡ j → ⊥

pub may-hold-told : (n k x : ℕ) → may_hold n k x ≡ true → (x ≡ 0) ⊎ Placed n (k / 16) (k % 16)
unfolding may_hold
may-hold-told n k x e = by-test (eqb x 0) refl e
  where
    by-test : (t : Bool) → eqb x 0 ≡ t → cond t true (cond (ltb (k / 16) n) (cond (ltb (k % 16) n) (not (eqb (k / 16) (k % 16))) false) false) ≡ true
        → (x ≡ 0) ⊎ Placed n (k / 16) (k % 16)
    by-test true s r = inl (eqb-true x 0 s)
    by-test false s r =
        let a = both (ltb (k / 16) n) _ r in
        let b = both (ltb (k % 16) n) _ a.1 in
        inr (record { giver = ltb-true _ _ a.0; taker = ltb-true _ _ b.0; apart = eqb-false _ _ (not-true _ b.1) })

pub bounded-told : (c : Config) (l : Ledger) → bounded c l ≡ true → (all 256 (cell_fits c.n l) ≡ true) × (all 16 (row_fits l) ≡ true)
unfolding bounded
bounded-told c l e = both (all 256 (cell_fits c.n l)) _ e

pub told-bounded : (c : Config) (l : Ledger) → all 256 (cell_fits c.n l) ≡ true → all 16 (row_fits l) ≡ true → bounded c l ≡ true
unfolding bounded
told-bounded c l p q = rw p q

-- a cell of a ledger within bounds is 0, or its giver and its taker are two servers
pub cell-placed : (c : Config) (l : Ledger) (i j : ℕ) → bounded c l ≡ true → i < 16 → j < 16 → (cell_of l i j ≡ 0) ⊎ Placed c.n i j
cell-placed c l i j b hi hj =
    let row : (i * 16 + j) / 16 ≡ i = omega arith in
    let column : (i * 16 + j) % 16 ≡ j = omega arith in
    ⊎_elim (λ e. inl e) (λ p. inr (record { giver = omega (arith, p.giver); taker = omega (arith, p.taker); apart = λ e. p.apart (omega arith) }))
    (may-hold-told c.n (i * 16 + j) (cell_of l i j) (all-each 256 (cell_fits c.n l) (bounded-told c l b).0 (i * 16 + j) (omega arith)))

-- so rows and columns from n on are empty
pub cell-outside : (c : Config) (l : Ledger) (i j : ℕ) → bounded c l ≡ true → i < 16 → j < 16 → (c.n ≤ i) ⊎ (c.n ≤ j) → cell_of l i j ≡ 0
cell-outside c l i j b hi hj o =
    ⊎_elim (λ e. e)
    (λ (p : Placed c.n i j). ⊎_elim (λ (h : c.n ≤ i). absurd (omega (arith, p.giver))) (λ (h : c.n ≤ j). absurd (omega (arith, p.taker))) o)
    (cell-placed c l i j b hi hj)

-- what the test of a row tells
pub total-fits-told : (count total : ℕ) → total_fits count total ≡ true → (count ≤ total) × (total ≤ most_weight * count)
unfolding total_fits
total-fits-told count total e = let x = both (leb count total) _ e in (leb-true _ _ x.0, leb-true _ _ x.1)

-- a count is 0 exactly when its row is empty
pub count-empty : (c : Config) (l : Ledger) (i : ℕ) → bounded c l ≡ true → i < 16 → (count_of l i ≡ 0) ↔ (given_of l i ≡ 0)
count-empty c l i b h =
    let t = total-fits-told (count_of l i) (given_of l i) (all-each 16 (row_fits l) (bounded-told c l b).1 i h) in
    (λ (e : count_of l i ≡ 0). omega arith, λ (e : given_of l i ≡ 0). omega arith)

-- what all servers received is what all gave
pub received-given : (c : Config) (l : Ledger) → valid_of c ≡ true → bounded c l ≡ true → sum c.n (received_of l) ≡ sum c.n (given_of l)
unfolding received_of given_of
received-given c l v b =
    sum_same n _ _ (λ i h. short (λ j. cell_of l j i) (λ j k h'. cell-outside c l j i b h' (omega arith) (inl k)))
    ∙ sum-swap n n (λ i j. cell_of l j i)
    ∙ sum_same n _ _ (λ i h. sym (short (λ j. cell_of l i j) (λ j k h'. cell-outside c l i j b (omega arith) h' (inr k))))
  where
    n : ℕ
    n = c.n

    most : n ≤ 16
    most = (valid-bounds c v).most

    short : (f : ℕ → ℕ) → ((j : ℕ) → n ≤ j → j < 16 → f j ≡ 0) → sum 16 f ≡ sum n f
    short f z =
        let e : n + (16 - n) ≡ 16 = omega (arith, most) in
        ap (λ k. sum k f) (sym e) ∙ sum-extend n (16 - n) f (λ j k h. z j k (omega arith))

-- The weights of all servers total W.
pub weights-total : (c : Config) (l : Ledger) → valid_of c ≡ true → bounded c l ≡ true → all_of c l ≡ pos (total_of c)
unfolding all_of
weights-total c l v b = W.weights-total c.n (accounts_of c l) (received-given c l v b) ∙ ap pos (total-accounts c l)
