-- What every call keeps: a ledger that a call can have stays one, and a union of ledgers within bounds is within bounds.
use Prim.Native.Nat.{ℕ, ◌+◌, ◌*◌, ◌/◌, ◌≤◌, ◌<◌}
use native.Mathlib.Omega.{arith}
use mathlib.Core.Path.{◌≡◌, sym, ◌∙◌, subst, subst₂}
use mathlib.Core.Logic.{⊎_elim}
use mathlib.Core.Bool.{true}
use mathlib.Core.List.{List}
use lib.ListN.{get_or, length, length-set, get_or-eq_default}
use Rattle.quorums.specs.Sum.{all}
use Rattle.quorums.proofs.Tests.{le-or-lt}
use Rattle.quorums.proofs.Sums.{all-each, each_all, sum_same}
use Rattle.config.specs.declared.cluster.Config.{Config}
use Rattle.ledger.specs.declared.ledger.Ledger.{Ledger}
use Rattle.ledger.specs.Ledgers.{count_of, cell_of, given_of, Typed}
use Rattle.ledger.specs.Checks.{may_hold, total_fits, cell_fits, row_fits, bounded}
use Rattle.ledger.specs.Joins.{joined}
use Rattle.ledger.specs.Changes.{most_count, added}
use Rattle.ledger.proofs.Tallies.{set-within}
use Rattle.ledger.proofs.Totals.{bounded-told, told-bounded}
use Rattle.ledger.proofs.Unions.{joined-count, joined-cell, joined-lengths, later_first, later_second, later-either}

-- a list of n numbers has 0 past its end
beyond : (l : List ℕ) (n k : ℕ) → length l ≡ n → n ≤ k → get_or l k 0 ≡ 0
beyond l n k e h = get_or-eq_default l 0 (omega arith)

pub joined_typed : (a b : Ledger) → Typed a → Typed b → Typed (joined a b)
joined_typed a b s t = record {
  counts-length = lengths.0;
  cells-length = lengths.1;
  count_fits = λ i. ⊎_elim (λ (h : 16 ≤ i). omega (arith, beyond (joined a b).counts 16 i lengths.0 h))
      (λ (h : i < 16). omega (arith, joined-count a b i h, s.count_fits i, t.count_fits i)) (le-or-lt 16 i);
  cell-fits = λ k. ⊎_elim (λ (h : 256 ≤ k). omega (arith, beyond (joined a b).cells 256 k lengths.1 h))
      (λ (h : k < 256). rw (joined-cell a b k h) (later-either (λ x. x ≤ 4294967295) _ _ _ _ (s.cell-fits k) (t.cell-fits k))) (le-or-lt 256 k);
}
  where
    lengths : (length (joined a b).counts ≡ 16) × (length (joined a b).cells ≡ 256)
    lengths = joined-lengths a b

-- a row of the union is that of the later one, whole
row_at : (i j : ℕ) → j < 16 → (i * 16 + j) / 16 ≡ i
row_at i j h = omega arith

pub joined-row-first : (a b : Ledger) (i j : ℕ) → i < 16 → j < 16 → count_of b i ≤ count_of a i → cell_of (joined a b) i j ≡ cell_of a i j
joined-row-first a b i j hi hj l =
    joined-cell a b (i * 16 + j) (omega arith)
    ∙ later_first _ _ _ _ (subst (λ r. count_of b r ≤ count_of a r) (sym (row_at i j hj)) l)

pub joined-row-second : (a b : Ledger) (i j : ℕ) → i < 16 → j < 16 → count_of a i < count_of b i → cell_of (joined a b) i j ≡ cell_of b i j
joined-row-second a b i j hi hj l =
    joined-cell a b (i * 16 + j) (omega arith)
    ∙ later_second _ _ _ _ (subst (λ r. count_of a r < count_of b r) (sym (row_at i j hj)) l)

pub joined-given-first : (a b : Ledger) (i : ℕ) → i < 16 → count_of b i ≤ count_of a i → given_of (joined a b) i ≡ given_of a i
unfolding given_of
joined-given-first a b i h l = sum_same 16 _ _ (λ j k. joined-row-first a b i j h k l)

pub joined-given-second : (a b : Ledger) (i : ℕ) → i < 16 → count_of a i < count_of b i → given_of (joined a b) i ≡ given_of b i
unfolding given_of
joined-given-second a b i h l = sum_same 16 _ _ (λ j k. joined-row-second a b i j h k l)

-- so what holds of every row of both holds of every row of the union
pub joined-rows : (P : ℕ → ℕ → Type 0) (a b : Ledger) (i : ℕ) → i < 16
    → P (count_of a i) (given_of a i)
    → P (count_of b i) (given_of b i)
    → P (count_of (joined a b) i) (given_of (joined a b) i)
joined-rows P a b i h p q =
    ⊎_elim
    (λ (l : count_of b i ≤ count_of a i).
    subst₂ P (sym (joined-count a b i h ∙ omega arith)) (sym (joined-given-first a b i h l)) p)
    (λ (l : count_of a i < count_of b i).
    subst₂ P (sym (joined-count a b i h ∙ omega arith)) (sym (joined-given-second a b i h l)) q)
    (le-or-lt (count_of b i) (count_of a i))

-- a union of ledgers within bounds is within bounds
pub joined-bounded : (c : Config) (a b : Ledger) → bounded c a ≡ true → bounded c b ≡ true → bounded c (joined a b) ≡ true
joined-bounded c a b p q =
    told-bounded c (joined a b)
    (each_all 256 (cell_fits c.n (joined a b))
    (λ k h. rw (joined-cell a b k h)
    (later-either (λ x. may_hold c.n k x ≡ true) _ _ _ _ (all-each 256 (cell_fits c.n a) s.0 k h) (all-each 256 (cell_fits c.n b) t.0 k h))))
    (each_all 16 (row_fits (joined a b))
    (λ i h. joined-rows (λ x y. total_fits x y ≡ true) a b i h (all-each 16 (row_fits a) s.1 i h) (all-each 16 (row_fits b) t.1 i h)))
  where
    s : (all 256 (cell_fits c.n a) ≡ true) × (all 16 (row_fits a) ≡ true)
    s = bounded-told c a p

    t : (all 256 (cell_fits c.n b) ≡ true) × (all 16 (row_fits b) ≡ true)
    t = bounded-told c b q

pub added-typed : (l : Ledger) (i j d : ℕ) → Typed l → i < 16 → j < 16 → count_of l i < most_count → cell_of l i j + d ≤ 4294967295 → Typed (added l i j d)
unfolding added
added-typed l i j d t hi hj h room = record {
  counts-length = length-set l.counts i (count_of l i + 1) ∙ t.counts-length;
  cells-length = length-set l.cells (i * 16 + j) (cell_of l i j + d) ∙ t.cells-length;
  count_fits = λ m. set-within l.counts i (count_of l i + 1) m 65535 (omega (arith, t.counts-length)) t.count_fits (omega (arith, h));
  cell-fits = λ m. set-within l.cells (i * 16 + j) (cell_of l i j + d) m 4294967295 (omega (arith, t.cells-length)) t.cell-fits room;
}
