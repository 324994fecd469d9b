-- The record test in one pass: nothing is wrong with the rows below n, and nothing is beyond them, exactly where every count and cell is in range; and what
-- each server received and gave by the rows below n is then what it received and gave by all.
use Prim.Native.Nat.{ℕ, ◌+◌, ◌-◌, ◌*◌, ◌/◌, ◌%◌, ◌≤◌, ◌<◌}
use native.Mathlib.Decide.{ℕ_discrete}
use native.Mathlib.Omega.{arith}
use mathlib.Core.Path.{◌≡◌, refl, sym, ap, ◌∙◌}
use mathlib.Core.Logic.{◌⊎◌, inl, inr, ⊎_elim}
use mathlib.Core.Bool.{Bool, true, false, cond, not}
use borrow.Author.Tests.{lt-ltb, le-ltb, le-leb, eq-eqb, ne_eqb, eqb-true}
use lib.Dec.{ltb, eqb}
use lib.ListN.{get_or}
use Rattle.quorums.specs.Sum.{sum}
use Rattle.quorums.proofs.Sums.{sum-next, sum-zero, sum-rest, sum-extend, all-each, each_all, all_same}
use Rattle.quorums.proofs.Tests.{le-or-lt, one-test}
use Rattle.config.specs.Cluster.{most_weight}
use Rattle.config.specs.declared.cluster.Config.{Config}
use Rattle.ledger.specs.declared.ledger.Ledger.{Ledger}
use Rattle.ledger.specs.Ledgers.{count_of, cell_of, row_of, given_of, received_of}
use Rattle.ledger.specs.Checks.{may_hold, total_fits, cell_fits, row_fits, bounded}
use Rattle.ledger.specs.Sums.{under, received_from, row_faults, filled_row, beyond, beyond_from, faults_of}
use Rattle.ledger.proofs.Rows.{row-cell}
use Rattle.ledger.proofs.Totals.{bounded-told, told-bounded, cell-placed, cell-outside, total-fits-told, Placed}

-- a sum of 0 has nothing in it
pub nothing-in : (n : ℕ) (f : ℕ → ℕ) → sum n f ≡ 0 → (k : ℕ) → k < n → f k ≡ 0
nothing-in n f e k h = omega (arith, sum-rest n (λ i. 0) f (λ i l. omega arith) k h, sum-zero n (λ i. 0) (λ i l. refl))

-- ---- the numbers that are compared

pub under_none : (a b : ℕ) → under a b ≡ 0 → b ≤ a
unfolding under
under_none a b e = ⊎_elim (λ (h : b ≤ a). h) (λ (h : a < b). absurd (omega (arith, rw (lt-ltb a b h) at e))) (le-or-lt b a)

pub none-under : (a b : ℕ) → b ≤ a → under a b ≡ 0
unfolding under
none-under a b h = rw (le-ltb a b h) refl

-- ---- a row is empty exactly where each of its cells is 0

row-clear : (cell : ℕ → ℕ) → ((j : ℕ) → j < 16 → cell j ≡ 0) → filled_row cell ≡ 0
unfolding filled_row
row-clear cell h = rw (each_all 16 (λ j. eqb (cell j) 0) (λ j l. eq-eqb (cell j) 0 (h j l))) refl

clear-row : (cell : ℕ → ℕ) → filled_row cell ≡ 0 → (j : ℕ) → j < 16 → cell j ≡ 0
unfolding filled_row
clear-row cell e j l = eqb-true (cell j) 0 (all-each 16 (λ k. eqb (cell k) 0) (clear _ e) j l)
  where
    clear : (b : Bool) → ◌≡◌ {A = ℕ} (cond b 0 1) 0 → b ≡ true
    clear true z = refl
    clear false z = absurd (omega arith)

-- ---- nothing is wrong, where all is in range

module _ (c : Config) (l : Ledger) (most : c.n ≤ 16) where
  module _ (b : bounded c l ≡ true) where
    fit : (i : ℕ) → i < 16 → (count_of l i ≤ given_of l i) × (given_of l i ≤ most_weight * count_of l i)
    fit i h = total-fits-told (count_of l i) (given_of l i) (all-each 16 (row_fits l) (bounded-told c l b).1 i h)

    own-none : (i : ℕ) → i < 16 → get_or l.cells (i * 17) 0 ≡ 0
    own-none i h =
        let e : i * 16 + i ≡ i * 17 = omega arith in
        ⊎_elim (λ (z : cell_of l i i ≡ 0). ap (λ k. get_or l.cells k 0) (sym e) ∙ z) (λ (p : Placed c.n i i). absurd (p.apart refl)) (cell-placed c l i i b h h)

    pub row-right : (i : ℕ) → i < c.n → row_faults l i ≡ 0
    unfolding row_faults
    row-right i h =
        let f = fit i (omega arith) in
        omega (arith, own-none i (omega arith), none-under (given_of l i) (count_of l i) f.0, none-under (most_weight * count_of l i) (given_of l i) f.1)

    row-empty : (i : ℕ) → c.n ≤ i → i < 16 → (given_of l i ≡ 0) × (filled_row (cell_of l i) ≡ 0)
    unfolding given_of
    row-empty i g h =
        let none : (j : ℕ) → j < 16 → cell_of l i j ≡ 0 = λ j k. cell-outside c l i j b h k (inl g) in
        (sum-zero 16 (cell_of l i) none, row-clear (cell_of l i) none)

    pub beyond-none : (i : ℕ) → c.n ≤ i → i < 16 → beyond c.n l i ≡ 0
    unfolding beyond received_from
    beyond-none i g h =
        let column = sum-zero c.n (λ k. cell_of l k i) (λ k m. cell-outside c l k i b (omega arith) h (inr g)) in
        omega (arith, row-empty i g h, column, (fit i h).0)

    right : faults_of c.n l ≡ 0
    unfolding faults_of
    right = omega (arith, sum-zero c.n (row_faults l) row-right, sum-zero 16 (beyond_from c.n l) from)
      where
        from : (i : ℕ) → i < 16 → beyond_from c.n l i ≡ 0
        from i h =
            ⊎_elim (λ (g : c.n ≤ i). rw (le-ltb i c.n g) (beyond-none i g h)) (λ (g : i < c.n). rw (lt-ltb i c.n g) refl) (le-or-lt c.n i)

    -- what the rows below n give is what all rows do
    pub from_all : (j : ℕ) → j < 16 → received_from c.n l j ≡ received_of l j
    unfolding received_from received_of
    from_all j h =
        let e : c.n + (16 - c.n) ≡ 16 = omega arith in
        sym (sum-extend c.n (16 - c.n) (λ i. cell_of l i j) (λ i g k. cell-outside c l i j b (omega arith) h (inl g))) ∙ ap (λ m. sum m (λ i. cell_of l i j)) e

  -- ---- and all is in range, where nothing is wrong

  module _ (e : faults_of c.n l ≡ 0) where
    rows_right : (i : ℕ) → i < c.n → row_faults l i ≡ 0
    unfolding faults_of
    rows_right = nothing-in c.n (row_faults l) (omega (arith, e))

    none-beyond : (i : ℕ) → c.n ≤ i → i < 16 → beyond c.n l i ≡ 0
    unfolding faults_of
    none-beyond i g h = rw (le-ltb i c.n g) at (nothing-in 16 (beyond_from c.n l) (omega (arith, e)) i h)

    empty-row : (i j : ℕ) → c.n ≤ i → i < 16 → j < 16 → cell_of l i j ≡ 0
    unfolding beyond
    empty-row i j g h k = clear-row (cell_of l i) (omega (arith, none-beyond i g h)) j k

    row_fits_lem : (i : ℕ) → i < 16 → (count_of l i ≤ given_of l i) × (given_of l i ≤ most_weight * count_of l i)
    unfolding row_faults beyond given_of
    row_fits_lem i h =
        ⊎_elim
        (λ (g : c.n ≤ i).
        let z = none-beyond i g h in
        let none = sum-zero 16 (cell_of l i) (λ j. empty-row i j g h) in
        (omega (arith, z, none), omega (arith, z, none)))
        (λ (g : i < c.n).
        let z = rows_right i g in
        (under_none (given_of l i) (count_of l i) (omega (arith, z)), under_none (most_weight * count_of l i) (given_of l i) (omega (arith, z))))
        (le-or-lt c.n i)

    cell-zero : (i j : ℕ) → i < 16 → j < 16 → (c.n ≤ i) ⊎ ((c.n ≤ j) ⊎ (i ≡ j)) → cell_of l i j ≡ 0
    unfolding row_faults beyond received_from
    cell-zero i j h k place =
        ⊎_elim (λ (g : c.n ≤ i). empty-row i j g h k)
        (λ (p : (c.n ≤ j) ⊎ (i ≡ j)).
        ⊎_elim (λ (g : c.n ≤ i). empty-row i j g h k) (λ (g : i < c.n). inside g p) (le-or-lt c.n i))
        place
      where
        inside : i < c.n → (c.n ≤ j) ⊎ (i ≡ j) → cell_of l i j ≡ 0
        inside g p =
            ⊎_elim (λ (q : c.n ≤ j). nothing-in c.n (λ m. cell_of l m j) (omega (arith, none-beyond j q k)) i g)
            (λ (q : i ≡ j).
            let at : i * 16 + j ≡ i * 17 = omega arith in
            ap (λ m. get_or l.cells m 0) at ∙ omega (arith, rows_right i g))
            p

    may-hold : (i j k : ℕ) → k ≡ i * 16 + j → i < 16 → j < 16
        → cond (eqb (get_or l.cells k 0) 0) true (cond (ltb i c.n) (cond (ltb j c.n) (not (eqb i j)) false) false) ≡ true
    may-hold i j k here hi hj =
        ⊎_elim (λ (g : c.n ≤ i). empty (inl g))
        (λ (g : i < c.n).
        ⊎_elim (λ (q : c.n ≤ j). empty (inr (inl q))) (λ (q : j < c.n). apart g q (ℕ_discrete i j)) (le-or-lt c.n j))
        (le-or-lt c.n i)
      where
        empty : (c.n ≤ i) ⊎ ((c.n ≤ j) ⊎ (i ≡ j))
            → cond (eqb (get_or l.cells k 0) 0) true (cond (ltb i c.n) (cond (ltb j c.n) (not (eqb i j)) false) false) ≡ true
        empty p =
            let z : get_or l.cells k 0 ≡ 0 = ap (λ m. get_or l.cells m 0) here ∙ cell-zero i j hi hj p in
            rw (eq-eqb (get_or l.cells k 0) 0 z) refl

        either : (t : Bool) → cond t true true ≡ true
        either true = refl
        either false = refl

        apart : i < c.n → j < c.n → Dec (i ≡ j)
            → cond (eqb (get_or l.cells k 0) 0) true (cond (ltb i c.n) (cond (ltb j c.n) (not (eqb i j)) false) false) ≡ true
        apart g q (yes e) = empty (inr (inr e))
        apart g q (no e) = rw (lt-ltb i c.n g, lt-ltb j c.n q, ne_eqb i j e) (either (eqb (get_or l.cells k 0) 0))

    cell-fits : (k : ℕ) → k < 256 → cell_fits c.n l k ≡ true
    unfolding may_hold
    cell-fits k h = may-hold (k / 16) (k % 16) k (omega arith) (omega arith) (omega arith)

    row-passes : (i : ℕ) → i < 16 → row_fits l i ≡ true
    unfolding total_fits
    row-passes i h = let f = row_fits_lem i h in rw (le-leb (count_of l i) (given_of l i) f.0) (le-leb (given_of l i) (most_weight * count_of l i) f.1)

    in-range : bounded c l ≡ true
    in-range = told-bounded c l (each_all 256 (cell_fits c.n l) cell-fits) (each_all 16 (row_fits l) row-passes)

  -- So the test is one number.
  pub faults-bounded : eqb (faults_of c.n l) 0 ≡ bounded c l
  faults-bounded =
      one-test (eqb (faults_of c.n l) 0) (bounded c l) (λ e. in-range (eqb-true (faults_of c.n l) 0 e)) (λ b. eq-eqb (faults_of c.n l) 0 (right b))

-- ---- turn by turn

-- nothing is counted below n
pub beyond-start : (n : ℕ) (l : Ledger) → 0 ≡ sum n (beyond_from n l)
beyond-start n l = sym (sum-zero n (beyond_from n l) (λ i h. rw (lt-ltb i n h) refl))

pub beyond-next : (n : ℕ) (l : Ledger) (i rest full got count : ℕ) → n ≤ i → rest ≡ sum i (beyond_from n l) → full ≡ filled_row (λ j. get_or (row_of l i) j 0)
    → got ≡ received_from n l i → count ≡ count_of l i → rest + (full + got + count) ≡ sum (i + 1) (beyond_from n l)
unfolding beyond filled_row
beyond-next n l i rest full got count h e a b d =
    let here : beyond_from n l i ≡ filled_row (cell_of l i) + received_from n l i + count_of l i = rw (le-ltb i n h) refl in
    let row : filled_row (λ j. get_or (row_of l i) j 0) ≡ filled_row (cell_of l i) =
    ap (λ t. cond t 0 1) (all_same 16 _ _ (λ j k. ap (λ x. eqb x 0) (row-cell l i j k))) in
    omega (arith, sum-next i (beyond_from n l), here, row)
