-- Signed weights, margins and quorums as sums of plain numbers, and what follows for any accounts: the weights total W, the servers that crashes
-- leave are a quorum, and a set stays a quorum while its servers give nothing more.
use Prim.Native.Nat.{ℕ, zero, suc, ◌+◌, ◌-◌, ◌*◌, ◌≤◌, ◌<◌}
use native.Mathlib.Nat.{add-zero, mul_assoc, mul_comm, mul-le-mul_right, le_of_mul-le-mul_right, add-mul}
use native.Mathlib.Omega.{arith}
use mathlib.Core.Path.{◌≡◌, refl, sym, ap, ◌∙◌}
use mathlib.Core.Bool.{Bool, true, false, cond}
use borrow.Author.Tests.{lt-ltb, ltb-true}
use lib.Dec.{ltb}
use lib.IntN.{pos, ◌+ℤ◌}
use Rattle.quorums.specs.Sum.{sum, sum_ℤ, sum_in, size}
use Rattle.quorums.specs.Difference.{difference}
use Rattle.quorums.specs.Accounts.{Accounts, held, weight, total, weight_in, margin, quorum, above}
use Rattle.quorums.proofs.Sums.{sum-add, sum_in-le, sum_in-add, sum_in-all, sum_in-const, sum_in-times, sum_same}
use Rattle.quorums.proofs.Differences.{difference-add, difference-less, difference-same, difference-times, pos-difference, lt-difference}

-- ---- plain sums

pub weight_in-is : (n : ℕ) (a : Accounts) (q : ℕ → Bool) → weight_in n a q ≡ difference (sum_in n q (held a)) (sum_in n q a.given)
unfolding weight_in sum_ℤ sum_in sum weight
weight_in-is zero a q = pos-difference 0
weight_in-is (suc n) a q =
    rw (weight_in-is n a q) (ap (λ x. difference (sum_in n q (held a)) (sum_in n q a.given) +ℤ x) (chosen (q n)) ∙ difference-add _ _ _ _)
  where
    chosen : (b : Bool) → cond b (difference (held a n) (a.given n)) (pos 0) ≡ difference (cond b (held a n) 0) (cond b (a.given n) 0)
    chosen true = refl
    chosen false = pos-difference 0

pub margin-is : (n : ℕ) (a : Accounts) (q : ℕ → Bool)
    → margin n a q ≡ difference (2 * sum_in n q (held a)) (2 * sum_in n q a.given + total n a)
unfolding margin
margin-is n a q =
    rw (weight_in-is n a q, difference-add, difference-less) (difference-same _ _ _ _ (omega arith))

pub quorum-is : (n : ℕ) (a : Accounts) (q : ℕ → Bool) → quorum n a q ≡ ltb (2 * sum_in n q a.given + total n a) (2 * sum_in n q (held a))
unfolding quorum
quorum-is n a q = rw (margin-is n a q, lt-difference, add-zero)

pub above-is : (n f W x y : ℕ) → above n f W (difference x y) ≡ ltb (y * (2 * (n - f)) + W) (x * (2 * (n - f)))
unfolding above
above-is n f W x y = rw (difference-times, lt-difference)

-- the same as inequalities
pub quorum-lt : (n : ℕ) (a : Accounts) (q : ℕ → Bool) → quorum n a q ≡ true → 2 * sum_in n q a.given + total n a < 2 * sum_in n q (held a)
quorum-lt n a q e = ltb-true _ _ (sym (quorum-is n a q) ∙ e)

pub lt-quorum : (n : ℕ) (a : Accounts) (q : ℕ → Bool) → 2 * sum_in n q a.given + total n a < 2 * sum_in n q (held a) → quorum n a q ≡ true
lt-quorum n a q h = quorum-is n a q ∙ lt-ltb _ _ h

pub above-lt : (n f : ℕ) (a : Accounts) (i W : ℕ) → above n f W (weight a i) ≡ true → a.given i * (2 * (n - f)) + W < held a i * (2 * (n - f))
unfolding weight
above-lt n f a i W e = ltb-true _ _ (sym (above-is n f W (held a i) (a.given i)) ∙ e)

-- ---- the total

-- What is given is received by someone. Then all weights together are W.
pub weights-total : (n : ℕ) (a : Accounts) → sum n a.received ≡ sum n a.given → weight_in n a (λ i. true) ≡ pos (total n a)
unfolding total
weights-total n a e =
    rw (weight_in-is n a (λ i. true), sum_in-all n (held a), sum_in-all n a.given, pos-difference)
    (difference-same _ _ _ _ (omega (arith, sum-add n a.start a.received)))

-- ---- the servers that are left

-- Where every weight is above the floor, any n − f servers are a quorum: each has more than W / (2(n − f)).
pub left-quorum : (n f : ℕ) (a : Accounts) (q : ℕ → Bool) → f < n
    → ((i : ℕ) → i < n → above n f (total n a) (weight a i) ≡ true)
    → n - f ≤ size n q
    → quorum n a q ≡ true
left-quorum n f a q l h s =
    let m = n - f in
    let W = total n a in
    let G = sum_in n q a.given in
    let H = sum_in n q (held a) in
    let each : sum_in n q (λ i. a.given i * (2 * m) + suc W) ≤ sum_in n q (λ i. held a i * (2 * m)) =
    sum_in-le n q _ _ (λ i k t. omega (arith, above-lt n f a i W (h i k))) in
    let summed : G * (2 * m) + size n q * suc W ≤ H * (2 * m) =
    rw (sum_in-add n q (λ i. a.given i * (2 * m)) (λ i. suc W), sum_in-times n (2 * m) q a.given, sum_in-const n (suc W) q, sum_in-times n (2 * m) q (held a)) at each in
    let enough : m * suc W ≤ size n q * suc W = mul-le-mul_right (suc W) s in
    let divided : 2 * G + suc W ≤ 2 * H =
    le_of_mul-le-mul_right {k = m}
    (omega (arith, summed, enough, twice G m, twice H m, add-mul (2 * G) (suc W) m, mul_comm (suc W) m))
    (omega arith) in
    lt-quorum n a q (omega arith)
  where
    twice : (x y : ℕ) → x * (2 * y) ≡ 2 * x * y
    twice x y = sym (mul_assoc x 2 y) ∙ ap (λ z. z * y) (mul_comm x 2)

-- ---- growth

-- A weight stays above the floor while more is received and no more is given.
pub above-grows : (n f W x y u v : ℕ) → x ≤ u → v ≤ y → above n f W (difference x y) ≡ true → above n f W (difference u v) ≡ true
above-grows n f W x y u v l m e =
    let k = 2 * (n - f) in
    let before : y * k + W < x * k = ltb-true _ _ (sym (above-is n f W x y) ∙ e) in
    let after : v * k + W < u * k = omega (arith, mul-le-mul_right k l, mul-le-mul_right k m) in
    above-is n f W u v ∙ lt-ltb _ _ after

-- A quorum stays one while its servers give nothing more, whatever any server receives.
pub quorum-grows : (n : ℕ) (a u : Accounts) (q : ℕ → Bool) → ((i : ℕ) → i < n → a.start i ≡ u.start i)
    → ((i : ℕ) → i < n → q i ≡ true → u.given i ≤ a.given i)
    → ((i : ℕ) → i < n → q i ≡ true → a.received i ≤ u.received i)
    → quorum n a q ≡ true
    → quorum n u q ≡ true
unfolding total
quorum-grows n a u q s g r e =
    lt-quorum n u q
    (omega (
      arith,
      quorum-lt n a q e,
      sum_same n a.start u.start s,
      sum_in-le n q u.given a.given g,
      sum_in-le n q (held a) (held u) (λ i l t. omega (arith, s i l, r i l t)),
    ))
