-- Rows of closed sets of one history: a server's transfers in a set, as a count and a cell for each taker. Of two rows of one server the one with the
-- larger count has every transfer of the other, so rows never clash and the union's row is that one; and what a set has is told by its counts.
use Prim.Native.Nat.{ℕ, ◌≤◌, ◌<◌, max}
use native.Mathlib.Omega.{arith}
use mathlib.Core.Path.{◌≡◌, refl, ◌∙◌}
use mathlib.Core.Logic.{⊎_elim, ◌↔◌}
use mathlib.Core.Bool.{Bool, true, false, cond}
use borrow.Author.Tests.{eqb-true}
use lib.Dec.{eqb}
use Rattle.quorums.specs.Sum.{sum}
use Rattle.quorums.proofs.Tests.{le-or-lt}
use Rattle.quorums.proofs.Sums.{sum-zero, sum_one}
use Rattle.machine.specs.Sets.{Transfer, Transfers, has, includes, union, count, cell, given, received}
use Rattle.machine.proofs.Histories.{History, Once, Closed, Lawfully}
use Rattle.machine.proofs.Sets.{union-either, union_left, union_right, includes-part, part-includes, tally-those, tally-same, tally-sum}
use Rattle.machine.proofs.Closed.{AllOf, NoneOf, closed-union, closed-each, part_count, count-part, count_none}

-- how the rows of server i in a and in b stand to one another, and to that of the union
pub record Agree (a b : Transfers) (i : ℕ) : Type 0 where
  -- the row with the larger count has every transfer of the other: no cell is smaller in it, and at equal counts all are equal
  pub whole : count a i ≤ count b i → AllOf i a b
  pub grows : (j : ℕ) → count a i ≤ count b i → cell a i j ≤ cell b i j
  pub shrinks : (j : ℕ) → count b i ≤ count a i → cell b i j ≤ cell a i j
  pub equal : (j : ℕ) → count a i ≡ count b i → cell a i j ≡ cell b i j
  -- the union has that row
  pub counts : count (union a b) i ≡ max (count a i) (count b i)
  pub first : (j : ℕ) → count b i ≤ count a i → cell (union a b) i j ≡ cell a i j
  pub second : (j : ℕ) → count a i ≤ count b i → cell (union a b) i j ≡ cell b i j

cell-part : (a b : Transfers) → Once a → (i j : ℕ) → AllOf i a b → cell a i j ≤ cell b i j
unfolding cell
cell-part a b o i j p =
    tally-those (λ t. eqb t.giver i) (λ t. cond (eqb t.taker j) t.amount 0) a b o (λ t e k. p t e (eqb-true _ _ k))

-- sets that have the same transfers of server i have the same row
row_same : (a b : Transfers) → Once a → Once b → (i : ℕ) → AllOf i a b → AllOf i b a → (count a i ≡ count b i) × ((j : ℕ) → cell a i j ≡ cell b i j)
row_same a b o u i p q = (
  omega (arith, part_count a b o i p, part_count b a u i q),
  λ j. omega (arith, cell-part a b o i j p, cell-part b a u i j q),
)

module _ {n f : ℕ} {w : ℕ → ℕ} {h : History} (law : Lawfully n f w h) {a : Transfers} (c : Closed h a) where
  -- no transfer is of a server from n on
  pub givers-inside : (i : ℕ) → n ≤ i → NoneOf i a
  givers-inside i l = closed-each c (λ t. t.giver ≡ i → ⊥) (λ g m e s. omega (arith, (law.each g m).giver))

  -- ---- what a server gave and received, as cells

  pub given-cells : (m i : ℕ) → n ≤ m → sum m (cell a i) ≡ given a i
  unfolding cell given
  given-cells m i l =
      tally-sum m (λ j t. cond (eqb t.giver i) (cond (eqb t.taker j) t.amount 0) 0) a
      ∙ tally-same _ _ a (closed-each c _ (λ g e k. one (eqb g.transfer.giver i) g.transfer (omega (arith, (law.each g e).taker))))
    where
      one : (x : Bool) (t : Transfer) → t.taker < m → sum m (λ j. cond x (cond (eqb t.taker j) t.amount 0) 0) ≡ cond x t.amount 0
      one true t e = sum_one m t.taker t.amount e
      one false t e = sum-zero m (λ j. 0) (λ j k. refl)

  pub received-cells : (m j : ℕ) → n ≤ m → sum m (λ i. cell a i j) ≡ received a j
  unfolding cell received
  received-cells m j l =
      tally-sum m (λ i t. cond (eqb t.giver i) (cond (eqb t.taker j) t.amount 0) 0) a
      ∙ tally-same _ _ a
      (closed-each c _
      (λ g e k.
      sum_one m g.transfer.giver (cond (eqb g.transfer.taker j) g.transfer.amount 0) (omega (arith, (law.each g e).giver))))

module _ {n f : ℕ} {w : ℕ → ℕ} {h : History} (law : Lawfully n f w h) {a b : Transfers} (c : Closed h a) (d : Closed h b) where
  -- ---- two rows of one server

  pub closed-agree : (i : ℕ) → Agree a b i
  closed-agree i =
      record {
        whole = count-part law c d i;
        grows = λ j l. cell-part a b c.once i j (count-part law c d i l);
        shrinks = λ j l. cell-part b a d.once i j (count-part law d c i l);
        equal = λ j e. (row_same a b c.once d.once i (count-part law c d i (omega arith)) (count-part law d c i (omega arith))).1 j;
        counts =
            ⊎_elim (λ (l : count a i ≤ count b i). omega (arith, (right l).0))
            (λ (l : count b i < count a i). omega (arith, (left (omega arith)).0))
            (le-or-lt (count a i) (count b i));
        first = λ j l. (left l).1 j;
        second = λ j l. (right l).1 j;
      }
    where
      once : Once (union a b)
      once = (closed-union h a b c d).once

      left : count b i ≤ count a i → (count (union a b) i ≡ count a i) × ((j : ℕ) → cell (union a b) i j ≡ cell a i j)
      left l =
          row_same (union a b) a once c.once i
          (λ t e s. ⊎_elim (λ (k : has a t ≡ true). k) (λ (k : has b t ≡ true). count-part law d c i l t k s) (union-either a b t e))
          (λ t e s. union_left a b t e)

      right : count a i ≤ count b i → (count (union a b) i ≡ count b i) × ((j : ℕ) → cell (union a b) i j ≡ cell b i j)
      right l =
          row_same (union a b) b once d.once i
          (λ t e s. ⊎_elim (λ (k : has a t ≡ true). count-part law c d i l t k s) (λ (k : has b t ≡ true). k) (union-either a b t e))
          (λ t e s. union_right a b t e)

  -- ---- one set has all of another where no count is lower

  pub closed-includes : (includes a b ≡ true) ↔ ((i : ℕ) → i < n → count b i ≤ count a i)
  closed-includes = (
    λ e i l. part_count b a d.once i (λ t k s. includes-part a b e t k),
    λ e. part-includes a b (λ t k. count-part law d c t.giver (at_most e t.giver) t k refl),
  )
    where
      at_most : ((i : ℕ) → i < n → count b i ≤ count a i) → (i : ℕ) → count b i ≤ count a i
      at_most e i = ⊎_elim (λ (l : n ≤ i). omega (arith, count_none b i (givers-inside law d i l))) (λ (l : i < n). e i l) (le-or-lt n i)
