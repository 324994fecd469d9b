-- Maps and their bits: a map of n bits is below 2 ^ n, has the bits that it was made of, and is made of the bits that it has.
use Prim.Native.Nat.{ℕ, zero, suc, ◌+◌, ◌-◌, ◌*◌, ◌/◌, ◌%◌, ◌^◌, ◌<◌, ◌≤◌}
use native.Mathlib.Nat.{one-mul, div-one, div-div-eq-div-mul, mul_assoc, add-mul-div_right, mod-eq_of_lt, pow-succ', div-eq_of_lt, lt_of_lt_of_le, pow-le-pow_right}
use native.Mathlib.Omega.{arith}
use mathlib.Core.Path.{◌≡◌, refl, sym, ap, ap₂, ◌∙◌}
use mathlib.Core.Logic.{◌⊎◌, inl, inr, ⊎_elim}
use lib.Count.{ones, ones_in, ones_step}
use lib.Pow.{pow_pos, pow-add, high, mod-pow-add}
use Rattle.quorums.specs.Sum.{sum}
use Rattle.quorums.proofs.Sums.{below_suc, sum_same, sum-front}
use Rattle.format.specs.Bytes.{stands, marks, bit}

pub stands-le : (x : ℕ) → stands x ≤ 1
unfolding stands
stands-le zero = omega arith
stands-le (suc x) = omega arith

pub stands-none : stands 0 ≡ 0
unfolding stands
stands-none = refl

pub stands-zero : (x : ℕ) → stands x ≡ 0 → x ≡ 0
unfolding stands
stands-zero zero e = refl
stands-zero (suc x) e = absurd (omega arith)

pub stands-pos : (x : ℕ) → 0 < x → stands x ≡ 1
unfolding stands
stands-pos zero h = absurd (omega arith)
stands-pos (suc x) h = refl

pub stands-most : (x : ℕ) → stands x ≤ x
unfolding stands
stands-most zero = omega arith
stands-most (suc x) = omega arith

-- a number of 0 or 1 is its own mark
pub stands-bit : (x : ℕ) → x ≤ 1 → stands x ≡ x
unfolding stands
stands-bit zero h = refl
stands-bit (suc zero) h = refl
stands-bit (suc (suc x)) h = absurd (omega arith)

pub bit_le : (m k : ℕ) → bit m k ≤ 1
unfolding bit
bit_le m k = omega arith

-- ---- maps

pub marks-next : (n : ℕ) (f : ℕ → ℕ) → marks (suc n) f ≡ marks n f + stands (f n) * 2 ^ n
unfolding marks sum
marks-next n f = refl

pub marks-none : (f : ℕ → ℕ) → marks 0 f ≡ 0
unfolding marks sum
marks-none f = refl

pub marks-same : (n : ℕ) (f g : ℕ → ℕ) → ((k : ℕ) → k < n → f k ≡ g k) → marks n f ≡ marks n g
unfolding marks
marks-same n f g h = sum_same n _ _ (λ k l. ap (λ x. stands x * 2 ^ k) (h k l))

-- a map rests on what stands alone
pub marks-stand : (n : ℕ) (f g : ℕ → ℕ) → ((k : ℕ) → k < n → stands (f k) ≡ stands (g k)) → marks n f ≡ marks n g
unfolding marks
marks-stand n f g h = sum_same n _ _ (λ k l. ap (λ x. x * 2 ^ k) (h k l))

-- what the highest mark adds: nothing or 2 ^ n
top : (x n : ℕ) → (stands x * 2 ^ n ≡ 0) ⊎ (stands x * 2 ^ n ≡ 2 ^ n)
unfolding stands
top zero n = inl (omega arith)
top (suc x) n = inr (one-mul (2 ^ n))

pub marks-lt : (n : ℕ) (f : ℕ → ℕ) → marks n f < 2 ^ n
marks-lt zero f = rw (marks-none f) (omega arith)
marks-lt (suc n) f =
    ⊎_elim (λ t. omega (arith, marks-next n f, marks-lt n f, pow-succ' 2 n, t)) (λ t. omega (arith, marks-next n f, marks-lt n f, pow-succ' 2 n, t))
    (top (f n) n)

-- ---- the bits of a map

-- the highest bit
bit-top : (n m s : ℕ) → m < 2 ^ n → s ≤ 1 → bit (m + s * 2 ^ n) n ≡ s
unfolding bit
bit-top n m s h l = let e : (m + s * 2 ^ n) / 2 ^ n ≡ s = ap (λ x. x / 2 ^ n) (omega arith) ∙ high s n h in rw e (omega arith)

-- a lower bit does not see the highest
bit_below : (n m s k : ℕ) → k < n → bit (m + s * 2 ^ n) k ≡ bit m k
unfolding bit
bit_below n m s k h =
    let d : ℕ = n - suc k in
    let split : s * 2 ^ n ≡ s * 2 ^ d * 2 * 2 ^ k =
    ap (λ x. s * x) (ap (λ x. 2 ^ x) (omega arith) ∙ pow-add 2 d (suc k) ∙ ap (λ x. 2 ^ d * x) (pow-succ' 2 k))
    ∙ sym (mul_assoc s (2 ^ d) (2 * 2 ^ k)) ∙ sym (mul_assoc (s * 2 ^ d) 2 (2 ^ k)) in
    let over : (m + s * 2 ^ n) / 2 ^ k ≡ m / 2 ^ k + s * 2 ^ d * 2 = ap (λ x. (m + x) / 2 ^ k) split ∙ add-mul-div_right m (s * 2 ^ d * 2) (pow_pos k) in
    rw over (omega arith)

pub bit-marks : (n : ℕ) (f : ℕ → ℕ) (k : ℕ) → k < n → bit (marks n f) k ≡ stands (f k)
bit-marks zero f k h = absurd (omega arith)
bit-marks (suc n) f k h =
    ap (λ x. bit x k) (marks-next n f)
    ∙ ⊎_elim (λ (d : k ≡ n). rw d (bit-top n (marks n f) (stands (f n)) (marks-lt n f) (stands-le (f n))))
    (λ (d : k < n). bit_below n (marks n f) (stands (f n)) k d ∙ bit-marks n f k d)
    (below_suc h)

joined : (n m : ℕ) → m % 2 ^ n + bit m n * 2 ^ n ≡ m % 2 ^ suc n
unfolding bit
joined n m = sym (ap (λ x. m % 2 ^ x) (omega arith) ∙ mod-pow-add m 1 n ∙ omega arith)

marks-rest : (n m : ℕ) → marks n (bit m) ≡ m % 2 ^ n
marks-rest zero m = marks-none (bit m) ∙ omega arith
marks-rest (suc n) m =
    marks-next n (bit m)
    ∙ ap₂ ◌+◌ (marks-rest n m) (ap (λ x. x * 2 ^ n) (stands-bit (bit m n) (bit_le m n)))
    ∙ joined n m

-- a map is made of its bits
pub marks-bit : (n m : ℕ) → m < 2 ^ n → marks n (bit m) ≡ m
marks-bit n m h = marks-rest n m ∙ mod-eq_of_lt h

-- ---- a map is 0 where everything is

-- two numbers that are 0 together have one mark
pub stands_same : (x y : ℕ) → (x ≡ 0 → y ≡ 0) → (y ≡ 0 → x ≡ 0) → stands x ≡ stands y
unfolding stands
stands_same zero zero f g = refl
stands_same zero (suc y) f g = absurd (omega (arith, f refl))
stands_same (suc x) zero f g = absurd (omega (arith, g refl))
stands_same (suc x) (suc y) f g = refl

-- and are 0 together where they have one
pub same-stands : (x y : ℕ) → stands x ≡ stands y → x ≡ 0 → y ≡ 0
unfolding stands
same-stands x zero e d = refl
same-stands zero (suc y) e d = absurd (omega arith)
same-stands (suc x) (suc y) e d = absurd (omega arith)

stands-add : (a b x y : ℕ) → stands a ≡ stands x → stands b ≡ stands y → stands (a + b) ≡ stands (x + y)
stands-add a b x y e d =
    stands_same (a + b) (x + y) (λ z. omega (arith, same-stands a x e (omega arith), same-stands b y d (omega arith)))
    (λ z. omega (arith, same-stands x a (sym e) (omega arith), same-stands y b (sym d) (omega arith)))

stands-shifted : (x n : ℕ) → stands (stands x * 2 ^ n) ≡ stands x
unfolding stands
stands-shifted zero n = let e : 0 * 2 ^ n ≡ 0 = omega arith in rw e refl
stands-shifted (suc x) n = stands-pos (1 * 2 ^ n) (omega (arith, pow_pos n))

pub marks-stands : (n : ℕ) (f : ℕ → ℕ) → stands (marks n f) ≡ stands (sum n f)
unfolding sum
marks-stands zero f = ap stands (marks-none f)
marks-stands (suc n) f =
    ap stands (marks-next n f) ∙ stands-add (marks n f) (stands (f n) * 2 ^ n) (sum n f) (f n) (marks-stands n f) (stands-shifted (f n) n)

-- ---- maps of n bits that have bits below a limit only

pub marks-cut : (n k : ℕ) (f : ℕ → ℕ) → k ≤ n → ((i : ℕ) → k ≤ i → i < n → f i ≡ 0) → marks n f ≡ marks k f
marks-cut zero k f l h = let e : k ≡ 0 = omega arith in rw e refl
marks-cut (suc n) k f l h =
    ⊎_elim (λ (d : k ≡ suc n). rw d refl)
    (λ (d : k < suc n).
    marks-next n f
    ∙ ap (λ x. marks n f + stands x * 2 ^ n) (h n (omega arith) (omega arith))
    ∙ nothing (marks n f) (2 ^ n)
    ∙ marks-cut n k f (omega arith) (λ i a b. h i a (omega arith)))
    (below_suc (omega arith))
  where
    nothing : (a p : ℕ) → a + stands 0 * p ≡ a
    nothing a p = rw stands-none (omega arith)

-- a map below 2 ^ n has no bit from n on
pub bit-above : (m n k : ℕ) → m < 2 ^ n → n ≤ k → bit m k ≡ 0
unfolding bit
bit-above m n k h l = rw (div-eq_of_lt (lt_of_lt_of_le h (pow-le-pow_right (omega arith) l))) (omega arith)

-- and 0 has none
pub bit-none : (k : ℕ) → bit 0 k ≡ 0
bit-none k = bit-above 0 0 k (omega arith) (omega arith)

-- ---- the ones of a number are its bits

pub bit-first : (m : ℕ) → bit m 0 ≡ m % 2
unfolding bit
bit-first m = ap (λ x. x % 2) (div-one m)

pub bit-next : (m i : ℕ) → bit m (suc i) ≡ bit (m / 2) i
unfolding bit
bit-next m i = ap (λ x. x % 2) (ap (λ x. m / x) (pow-succ' 2 i) ∙ sym (div-div-eq-div-mul m 2 (2 ^ i)))

pub half-below : (k m : ℕ) → m < 2 ^ suc k → m / 2 < 2 ^ k
half-below k m h = omega (arith, pow-succ' 2 k)

pub ones-bits : (k m : ℕ) → m < 2 ^ k → ones m ≡ sum k (bit m)
unfolding sum ones ones_in
ones-bits zero m h = let e : m ≡ 0 = omega arith in rw e
ones-bits (suc k) m h =
    ones_step m
    ∙ ap₂ ◌+◌ (sym (bit-first m)) (ones-bits k (m / 2) (half-below k m h) ∙ sum_same k _ _ (λ i l. sym (bit-next m i)))
    ∙ sym (sum-front k (bit m))
