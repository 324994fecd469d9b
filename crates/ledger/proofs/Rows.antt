-- Tests of all 256 cells, row by row.
use Prim.Native.Nat.{ℕ, ◌+◌, ◌-◌, ◌*◌, ◌/◌, ◌%◌, ◌<◌}
use native.Mathlib.Omega.{arith}
use mathlib.Core.Path.{◌≡◌, refl, sym, ap, subst, ◌∙◌}
use mathlib.Core.Bool.{Bool, true, false, cond, ◌&&◌}
use lib.Dec.{eqb}
use mathlib.Core.List.{List, [], ◌∷◌, ◌++◌}
use lib.ListN.{length, get_or, take, drop, length-append, length-drop}
use lib.Pointwise.{pointwise}
use borrow.Author.Tests.{eq-eqb, eqb-true}
use Rattle.std.proofs.lemmas.Slice.Eq.{bytes_eq-Decides}
use lib.Seq.{ext_get_or, length-take-le, get_or-take, get_or-drop}
use Rattle.quorums.specs.Sum.{all}
use Rattle.ledger.specs.declared.ledger.Ledger.{Ledger}
use Rattle.ledger.specs.Ledgers.{count_of, cell_of, row_of}
use Rattle.ledger.specs.Joins.{agree, agree_at, row_agrees, row_agrees_at}
use Rattle.quorums.proofs.Sums.{all-each, each_all, all_same, all-turn}
use Rattle.quorums.proofs.Tests.{one-test}

-- one test more, after those that were made
pub all-more : (n : ℕ) (p : ℕ → Bool) (passed : Bool) → passed ≡ all n p → passed && p n ≡ all (n + 1) p
all-more n p passed e = all-turn n p passed (passed && p n) e (swapped passed (p n))
  where
    swapped : (a b : Bool) → a && b ≡ cond b a false
    swapped true true = refl
    swapped true false = refl
    swapped false true = refl
    swapped false false = refl

-- the same, by what has been gone through and what comes next
pub all-yielded : {A : Type 0} (xs : List A) (y : A) (p : ℕ → Bool) (passed t : Bool) → passed ≡ all (length xs) p → t ≡ p (length xs)
    → passed && t ≡ all (length (xs ++ y ∷ [])) p
all-yielded {A} xs y p passed t e f = rw (f, length-append {A = A}) (all-more (length xs) p passed e)

-- two lists of n numbers are equal where they are at each index
pub lists-same : (n : ℕ) (xs ys : List ℕ) → length xs ≡ n → length ys ≡ n → pointwise eqb xs ys ≡ all n (λ j. eqb (get_or xs j 0) (get_or ys j 0))
lists-same n xs ys p q =
    let d = bytes_eq-Decides xs ys in
    one-test _ _ (λ e. each_all n _ (λ j h. eq-eqb _ _ (ap (λ l. get_or l j 0) (d.0 e))))
    (λ e. d.1 (ext_get_or 0 xs ys (p ∙ sym q) (λ j h. eqb-true _ _ (all-each n (λ j. eqb (get_or xs j 0) (get_or ys j 0)) e j (omega (arith, p))))))

-- 256 cells are 16 rows of 16
pub by_rows : (p : ℕ → Bool) → all 256 p ≡ all 16 (λ i. all 16 (λ j. p (i * 16 + j)))
by_rows p =
    one-test (all 256 p) (all 16 (λ i. all 16 (λ j. p (i * 16 + j))))
    (λ h. each_all 16 _ (λ i l. each_all 16 _ (λ j m. all-each 256 p h (i * 16 + j) (omega arith))))
    (λ h. each_all 256 p
    (λ k l.
    let e : k / 16 * 16 + k % 16 ≡ k = omega arith in
    subst (λ m. p m ≡ true) e (all-each 16 (λ j. p (k / 16 * 16 + j)) (all-each 16 (λ i. all 16 (λ j. p (i * 16 + j))) h (k / 16) (omega arith)) (k % 16) (omega arith))))

-- row i of all cells, as it is lent
abbrev pub part : List ℕ → ℕ → List ℕ
part cells i = take (i * 16 + 16 - i * 16) (drop (i * 16) cells)

pub part_length : (cells : List ℕ) (i : ℕ) → length cells ≡ 256 → i < 16 → length (part cells i) ≡ 16
part_length cells i e h = length-take-le (i * 16 + 16 - i * 16) (drop (i * 16) cells) (rw length-drop (omega arith)) ∙ omega arith

pub in_row : (cells : List ℕ) (i j : ℕ) → j < 16 → get_or (part cells i) j 0 ≡ get_or cells (i * 16 + j) 0
in_row cells i j l = get_or-take (i * 16 + 16 - i * 16) (drop (i * 16) cells) j 0 (omega arith) ∙ get_or-drop (i * 16) cells j 0

-- the same of a ledger's row
pub row-cell : (l : Ledger) (i j : ℕ) → j < 16 → get_or (row_of l i) j 0 ≡ cell_of l i j
row-cell l i j h = get_or-take 16 (drop (i * 16) l.cells) j 0 h ∙ get_or-drop (i * 16) l.cells j 0

-- whether two rows agree, by themselves and by the ledgers
pub row-agrees : (a b : Ledger) (i : ℕ)
    → all 16 (λ j. agree (count_of a i) (count_of b i) (get_or (row_of a i) j 0) (get_or (row_of b i) j 0))
    ≡ all 16 (λ j. agree_at a b (i * 16 + j))
row-agrees a b i =
    all_same 16 _ _
    (λ j l.
    let e : (i * 16 + j) / 16 ≡ i = omega arith in
    rw (row-cell a i j l, row-cell b i j l, e) refl)

pub row-compared : (a b : Ledger) (i : ℕ)
    → row_agrees (count_of a i) (count_of b i) (λ j. get_or (row_of a i) j 0) (λ j. get_or (row_of b i) j 0) ≡ row_agrees_at a b i
unfolding row_agrees
row-compared a b i =
    ap (λ t. cond (eqb (count_of a i) 0) (cond (eqb (count_of b i) 0) true t) t)
    (all_same 16 _ _ (λ j l. rw (row-cell a i j l, row-cell b i j l) refl))
