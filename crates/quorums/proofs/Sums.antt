-- Laws of the sums and tests over the numbers below n.
use Prim.Native.Nat.{ℕ, zero, suc, ◌+◌, ◌*◌, ◌≤◌, ◌<◌}
use native.Mathlib.Nat.{le_refl, le_of_suc-le-suc, eq-or-lt_of_le, zero-mul, suc-mul, one-mul, add-mul, add-zero, add-suc}
use native.Mathlib.Numerals.{add-one}
use native.Mathlib.Omega.{arith}
use mathlib.Core.Path.{◌≡◌, refl, sym, ap, ◌∙◌}
use mathlib.Core.Logic.{◌⊎◌, ⊎_elim}
use mathlib.Core.Bool.{Bool, true, false, cond, false≢true}
use borrow.Author.Tests.{eq-eqb, ne_eqb, eqb-true, eqb-false}
use lib.Dec.{eqb}
use Rattle.quorums.specs.Sum.{sum, sum_in, size, all}

-- a number below n + 1 is n, or is below n
pub below_suc : {i n : ℕ} → i < suc n → (i ≡ n) ⊎ (i < n)
below_suc l = eq-or-lt_of_le (le_of_suc-le-suc l)

-- nothing to add
pub sum-none : (f : ℕ → ℕ) → sum 0 f ≡ 0
unfolding sum
sum-none f = refl

-- one more term, as a definition and as a loop count it
pub sum-suc : (n : ℕ) (f : ℕ → ℕ) → sum (suc n) f ≡ sum n f + f n
unfolding sum
sum-suc n f = refl

pub sum-next : (n : ℕ) (f : ℕ → ℕ) → sum (n + 1) f ≡ sum n f + f n
sum-next n f = rw add-one (sum-suc n f)

-- terms that agree have one sum, and smaller ones a smaller one
pub sum_same : (n : ℕ) (f g : ℕ → ℕ) → ((i : ℕ) → i < n → f i ≡ g i) → sum n f ≡ sum n g
unfolding sum
sum_same zero f g e = refl
sum_same (suc n) f g e = omega (arith, sum_same n f g (λ i l. e i (omega arith)), e n (le_refl (suc n)))

pub sum-le : (n : ℕ) (f g : ℕ → ℕ) → ((i : ℕ) → i < n → f i ≤ g i) → sum n f ≤ sum n g
unfolding sum
sum-le zero f g h = le_refl 0
sum-le (suc n) f g h = omega (arith, sum-le n f g (λ i l. h i (omega arith)), h n (le_refl (suc n)))

pub sum-add : (n : ℕ) (f g : ℕ → ℕ) → sum n (λ i. f i + g i) ≡ sum n f + sum n g
unfolding sum
sum-add zero f g = refl
sum-add (suc n) f g = omega (arith, sum-add n f g)

pub sum-zero : (n : ℕ) (f : ℕ → ℕ) → ((i : ℕ) → i < n → f i ≡ 0) → sum n f ≡ 0
unfolding sum
sum-zero zero f e = refl
sum-zero (suc n) f e = omega (arith, sum-zero n f (λ i l. e i (omega arith)), e n (le_refl (suc n)))

pub sum-const : (n k : ℕ) → sum n (λ i. k) ≡ n * k
unfolding sum
sum-const zero k = sym (zero-mul k)
sum-const (suc n) k = omega (arith, sum-const n k, suc-mul n k)

-- one term larger by d
pub sum_more : (n : ℕ) (f g : ℕ → ℕ) (j d : ℕ) → j < n → g j ≡ f j + d → ((i : ℕ) → i < n → (i ≡ j → ⊥) → g i ≡ f i) → sum n g ≡ sum n f + d
unfolding sum
sum_more zero f g j d l e same = absurd (omega arith)
sum_more (suc n) f g j d l e same =
    ⊎_elim
    (λ (h : j ≡ n). omega (arith, sum_same n g f (λ i k. same i (omega arith) (λ c. omega arith)), (rw h at e)))
    (λ (h : j < n). omega (arith, sum_more n f g j d h e (λ i k ne. same i (omega arith) ne), same n (omega arith) (λ c. omega arith)))
    (below_suc l)

-- only one term counts
pub sum_one : (n k x : ℕ) → k < n → sum n (λ i. cond (eqb k i) x 0) ≡ x
sum_one n k x l =
    omega (
      arith,
      sum_more n (λ i. 0) (λ i. cond (eqb k i) x 0) k x l (rw (eq-eqb k k refl) (omega arith)) (λ i m ne. rw (ne_eqb k i (λ e. ne (sym e)))),
      sum-zero n (λ i. 0) (λ i m. refl),
    )

-- the first term apart
pub sum-front : (n : ℕ) (f : ℕ → ℕ) → sum (suc n) f ≡ f 0 + sum n (λ i. f (suc i))
unfolding sum
sum-front zero f = omega arith
sum-front (suc n) f = omega (arith, sum-front n f)

-- terms of 0 from m on do not count
pub sum-extend : (m k : ℕ) (f : ℕ → ℕ) → ((i : ℕ) → m ≤ i → i < m + k → f i ≡ 0) → sum (m + k) f ≡ sum m f
unfolding sum
sum-extend m zero f e = rw add-zero
sum-extend m (suc k) f e =
    rw add-suc (omega (arith, sum-extend m k f (λ i l h. e i l (omega (arith, add-suc m k))), e (m + k) (omega arith) (omega (arith, add-suc m k))))

-- the order of two sums
pub sum-swap : (n m : ℕ) (f : ℕ → ℕ → ℕ) → sum n (λ i. sum m (λ j. f i j)) ≡ sum m (λ j. sum n (λ i. f i j))
unfolding sum
sum-swap zero m f = sym (sum-zero m (λ j. 0) (λ i l. refl))
sum-swap (suc n) m f = omega (arith, sum-swap n m f, sum-add m (λ j. sum n (λ i. f i j)) (λ j. f n j))

-- ---- sums over a set

pub sum_in-suc : (n : ℕ) (q : ℕ → Bool) (f : ℕ → ℕ) → sum_in (suc n) q f ≡ sum_in n q f + cond (q n) (f n) 0
unfolding sum_in sum
sum_in-suc n q f = refl

pub sum_in-none : (q : ℕ → Bool) (f : ℕ → ℕ) → sum_in 0 q f ≡ 0
unfolding sum_in sum
sum_in-none q f = refl

pub sum_in-next : (n : ℕ) (q : ℕ → Bool) (f : ℕ → ℕ) → sum_in (n + 1) q f ≡ sum_in n q f + cond (q n) (f n) 0
sum_in-next n q f = rw add-one (sum_in-suc n q f)

pub sum_in-same : (n : ℕ) (q : ℕ → Bool) (f g : ℕ → ℕ) → ((i : ℕ) → i < n → q i ≡ true → f i ≡ g i) → sum_in n q f ≡ sum_in n q g
unfolding sum_in
sum_in-same n q f g e = sum_same n _ _ (λ i l. chosen (q i) (e i l))
  where
    chosen : (b : Bool) {x y : ℕ} → (b ≡ true → x ≡ y) → cond b x 0 ≡ cond b y 0
    chosen true h = h refl
    chosen false h = refl

pub sum_in-le : (n : ℕ) (q : ℕ → Bool) (f g : ℕ → ℕ) → ((i : ℕ) → i < n → q i ≡ true → f i ≤ g i) → sum_in n q f ≤ sum_in n q g
unfolding sum_in
sum_in-le n q f g e = sum-le n _ _ (λ i l. chosen (q i) (e i l))
  where
    chosen : (b : Bool) {x y : ℕ} → (b ≡ true → x ≤ y) → cond b x 0 ≤ cond b y 0
    chosen true h = h refl
    chosen false h = le_refl 0

pub sum_in-add : (n : ℕ) (q : ℕ → Bool) (f g : ℕ → ℕ) → sum_in n q (λ i. f i + g i) ≡ sum_in n q f + sum_in n q g
unfolding sum_in
sum_in-add n q f g = sum_same n _ _ (λ i l. chosen (q i) (f i) (g i)) ∙ sum-add n _ _
  where
    chosen : (b : Bool) (x y : ℕ) → cond b (x + y) 0 ≡ cond b x 0 + cond b y 0
    chosen true x y = refl
    chosen false x y = refl

-- the set of all
pub sum_in-all : (n : ℕ) (f : ℕ → ℕ) → sum_in n (λ i. true) f ≡ sum n f
unfolding sum_in
sum_in-all n f = refl

-- two sets with the same members below n
pub sum_in-set : (n : ℕ) (p q : ℕ → Bool) (f : ℕ → ℕ) → ((i : ℕ) → i < n → p i ≡ q i) → sum_in n p f ≡ sum_in n q f
unfolding sum_in
sum_in-set n p q f e = sum_same n _ _ (λ i l. ap (λ b. cond b (f i) 0) (e i l))

-- a set without members
pub sum_in-nobody : (n : ℕ) (q : ℕ → Bool) (f : ℕ → ℕ) → ((i : ℕ) → i < n → q i ≡ false) → sum_in n q f ≡ 0
unfolding sum_in
sum_in-nobody n q f e = sum-zero n _ (λ i l. rw (e i l) refl)

-- a set of one
pub sum_in-one : (n i : ℕ) (f : ℕ → ℕ) → i < n → sum_in n (λ k. eqb k i) f ≡ f i
unfolding sum_in
sum_in-one n i f l = sum_same n _ _ (λ k h. by-test k (eqb k i) refl) ∙ sum_one n i (f i) l
  where
    by-test : (k : ℕ) (b : Bool) → eqb k i ≡ b → cond b (f k) 0 ≡ cond (eqb i k) (f i) 0
    by-test k true e = let same : k ≡ i = eqb-true k i e in rw (eq-eqb i k (sym same)) (ap f same)
    by-test k false e = rw (ne_eqb i k (λ d. eqb-false k i e (sym d))) refl

-- the members of two sets
abbrev pub either : (ℕ → Bool) → (ℕ → Bool) → ℕ → Bool
either q r i = cond (q i) true (r i)

-- of sets that share none
pub sum_in-either : (n : ℕ) (q r : ℕ → Bool) (f : ℕ → ℕ) → ((i : ℕ) → i < n → q i ≡ true → r i ≡ false) → sum_in n (either q r) f ≡ sum_in n q f + sum_in n r f
unfolding sum_in sum
sum_in-either zero q r f apart = refl
sum_in-either (suc n) q r f apart = by_last (q n) (r n) refl refl (sum_in-either n q r f (λ i l. apart i (omega arith)))
  where
    by_last : (b c : Bool) → q n ≡ b → r n ≡ c → sum_in n (either q r) f ≡ sum_in n q f + sum_in n r f
        → sum_in n (either q r) f + cond (cond b true c) (f n) 0 ≡ sum_in n q f + cond b (f n) 0 + (sum_in n r f + cond c (f n) 0)
    by_last true true d e rest = absurd (false≢true (sym (apart n (le_refl (suc n)) d) ∙ e))
    by_last true false d e rest = omega arith
    by_last false true d e rest = omega arith
    by_last false false d e rest = omega arith

-- what the differences of a set come to is at most what all do, where none is negative
pub sum_in-rest : (n : ℕ) (q : ℕ → Bool) (f g : ℕ → ℕ) → ((i : ℕ) → i < n → f i ≤ g i) → sum_in n q g + sum n f ≤ sum_in n q f + sum n g
unfolding sum_in sum
sum_in-rest zero q f g h = le_refl 0
sum_in-rest (suc n) q f g h = by_last (q n) (sum_in-rest n q f g (λ i l. h i (omega arith))) (h n (le_refl (suc n)))
  where
    by_last : (b : Bool) → sum_in n q g + sum n f ≤ sum_in n q f + sum n g → f n ≤ g n
        → sum_in n q g + cond b (g n) 0 + (sum n f + f n) ≤ sum_in n q f + cond b (f n) 0 + (sum n g + g n)
    by_last true rest last = omega arith
    by_last false rest last = omega arith

-- and so is one of them
pub sum-rest : (n : ℕ) (f g : ℕ → ℕ) → ((i : ℕ) → i < n → f i ≤ g i) → (i : ℕ) → i < n → g i + sum n f ≤ f i + sum n g
sum-rest n f g h i l = omega (arith, sum_in-rest n (λ k. eqb k i) f g h, sum_in-one n i f l, sum_in-one n i g l)

-- k for each member
pub sum_in-const : (n k : ℕ) (q : ℕ → Bool) → sum_in n q (λ i. k) ≡ size n q * k
unfolding size sum_in sum
sum_in-const zero k q = sym (zero-mul k)
sum_in-const (suc n) k q = rw (add-mul, sum_in-const n k q) (ap (λ x. size n q * k + x) (chosen (q n)))
  where
    chosen : (b : Bool) → cond b k 0 ≡ cond b 1 0 * k
    chosen true = sym (one-mul k)
    chosen false = sym (zero-mul k)

-- every term k times
pub sum_in-times : (n k : ℕ) (q : ℕ → Bool) (f : ℕ → ℕ) → sum_in n q (λ i. f i * k) ≡ sum_in n q f * k
unfolding sum_in sum
sum_in-times zero k q f = sym (zero-mul k)
sum_in-times (suc n) k q f = rw (add-mul, sum_in-times n k q f) (ap (λ x. sum_in n q f * k + x) (chosen (q n) (f n)))
  where
    chosen : (b : Bool) (x : ℕ) → cond b (x * k) 0 ≡ cond b x 0 * k
    chosen true x = refl
    chosen false x = sym (zero-mul k)

-- ---- tests

pub all-suc : (n : ℕ) (p : ℕ → Bool) → all (suc n) p ≡ cond (p n) (all n p) false
unfolding all
all-suc n p = refl

pub all_none : (p : ℕ → Bool) → all 0 p ≡ true
unfolding all
all_none p = refl

-- one more test that passes, as a loop counts it
pub all-next : (n : ℕ) (p : ℕ → Bool) → all n p ≡ true → p n ≡ true → all (n + 1) p ≡ true
all-next n p a e = rw (add-one, all-suc, e) a

-- a test that fails somewhere
pub all-fails : (n : ℕ) (p : ℕ → Bool) (i : ℕ) → i < n → p i ≡ false → all n p ≡ false
unfolding all
all-fails zero p i l e = absurd (omega arith)
all-fails (suc n) p i l e =
    ⊎_elim (λ (h : i ≡ n). rw (← h, e)) (λ (h : i < n). rw (all-fails n p i h e) (chosen (p n))) (below_suc l)
  where
    chosen : (b : Bool) → cond b false false ≡ false
    chosen true = refl
    chosen false = refl

-- a test that passes for all passes for each, and the other way round
pub all-each : (n : ℕ) (p : ℕ → Bool) → all n p ≡ true → (i : ℕ) → i < n → p i ≡ true
all-each n p a i l = passed (p i) refl
  where
    passed : (b : Bool) → p i ≡ b → p i ≡ true
    passed true e = e
    passed false e = let z : false ≡ true = cc (all-fails n p i l e) in cc

pub each_all : (n : ℕ) (p : ℕ → Bool) → ((i : ℕ) → i < n → p i ≡ true) → all n p ≡ true
unfolding all
each_all zero p h = refl
each_all (suc n) p h = rw (h n (le_refl (suc n))) (each_all n p (λ i l. h i (omega arith)))

pub all_same : (n : ℕ) (p r : ℕ → Bool) → ((i : ℕ) → i < n → p i ≡ r i) → all n p ≡ all n r
unfolding all
all_same zero p r e = refl
all_same (suc n) p r e = rw (e n (le_refl (suc n)), all_same n p r (λ i l. e i (omega arith)))

-- a test is passed by all, turn by turn
pub all-turn : (n : ℕ) (p : ℕ → Bool) (passed t : Bool) → passed ≡ all n p → t ≡ cond (p n) passed false → t ≡ all (n + 1) p
all-turn n p passed t e h = h ∙ ap (λ x. cond (p n) x false) e ∙ sym (rw add-one (all-suc n p))
