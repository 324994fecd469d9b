-- Maps of servers: a map within n has no bit from n on, and the ones of a number are the servers that it names.
use Prim.Native.Nat.{ℕ, zero, suc, ◌+◌, ◌/◌, ◌%◌, ◌^◌, ◌≤◌, ◌<◌}
use native.Mathlib.Nat.{one-mul, div-eq_of_lt, div-div-eq-div-mul, le-div_iff_mul-le, pow-le-pow_right, lt_of_lt_of_le, div-le_self}
use native.Mathlib.Omega.{arith}
use mathlib.Core.Path.{◌≡◌, sym, ap, ◌∙◌}
use mathlib.Core.Logic.{⊎_elim}
use mathlib.Core.Bool.{true, false, cond}
use borrow.Author.Tests.{eq-eqb, ne_eqb, lt-ltb, le-ltb, ltb-true}
use lib.Dec.{eqb, ltb}
use lib.Pow.{pow_pos, pow-add}
use lib.Count.{ones}
use Rattle.quorums.specs.Sum.{sum_in, size}
use Rattle.quorums.proofs.Sums.{sum_same}
use Rattle.quorums.proofs.Tests.{le-or-lt, both}
use Rattle.format.specs.Bytes.{bit}
use Rattle.format.proofs.Marks.{bit-first, bit-next, half-below, ones-bits}
use Rattle.config.specs.Cluster.{valid_of}
use Rattle.config.specs.declared.cluster.Config.{Config}
use Rattle.ledger.specs.Maps.{named, map_of}

-- ---- a bit, as a number

bit-named : (m i : ℕ) → cond (named m i) 1 0 ≡ bit m i
unfolding named bit
bit-named m i =
    ⊎_elim (λ (h : m / 2 ^ i % 2 ≤ 0). rw (ne_eqb (m / 2 ^ i % 2) 1 (λ e. omega arith)) (omega arith))
    (λ (h : 0 < m / 2 ^ i % 2). rw (eq-eqb (m / 2 ^ i % 2) 1 (omega arith)) (omega arith))
    (le-or-lt (m / 2 ^ i % 2) 0)

-- ---- the ones of a map

-- the operation for ones counts the servers that a map names
pub ones-size : (k m : ℕ) → m < 2 ^ k → ones m ≡ size k (named m)
unfolding size sum_in
ones-size k m h = ones-bits k m h ∙ sum_same k _ _ (λ i l. sym (bit-named m i))

-- ---- bits below n only

-- what is left of a map below 2 ^ n after n bits
pub shifted-zero : (m n : ℕ) → eqb (m / 2 ^ n) 0 ≡ ltb m (2 ^ n)
shifted-zero m n =
    ⊎_elim (λ (h : 2 ^ n ≤ m).
    ne_eqb (m / 2 ^ n) 0 (λ e. let k : 1 ≤ m / 2 ^ n = (le-div_iff_mul-le (pow_pos n)).1 (rw one-mul h) in omega arith)
    ∙ sym (le-ltb m (2 ^ n) h))
    (λ (h : m < 2 ^ n). eq-eqb (m / 2 ^ n) 0 (div-eq_of_lt h) ∙ sym (lt-ltb m (2 ^ n) h))
    (le-or-lt (2 ^ n) m)

-- a map below 2 ^ n names no server from n on
pub below-named : (m n i : ℕ) → m < 2 ^ n → n ≤ i → named m i ≡ false
unfolding named
below-named m n i h l = rw (div-eq_of_lt (lt_of_lt_of_le h (pow-le-pow_right (omega arith) l)))

-- bit i + 1 is bit i of the half
pub named-next : (m i : ℕ) → named m (suc i) ≡ named (m / 2) i
unfolding named bit
named-next m i = ap (λ x. eqb x 1) (bit-next m i)

named-shifted : (m n i : ℕ) → named (m / 2 ^ n) i ≡ named m (n + i)
unfolding named
named-shifted m n i = ap (λ x. eqb (x % 2) 1) (div-div-eq-div-mul m (2 ^ n) (2 ^ i) ∙ ap (λ x. m / x) (sym (pow-add 2 n i)))

no_bits : (k m : ℕ) → m < 2 ^ k → ((i : ℕ) → i < k → named m i ≡ false) → m ≡ 0
no_bits zero m h f = omega arith
no_bits (suc k) m h f =
    let rest : m / 2 ≡ 0 = no_bits k (m / 2) (half-below k m h) (λ i l. sym (named-next m i) ∙ f (suc i) (omega arith)) in
    let last : 0 ≡ m % 2 = ap (λ b. cond b 1 0) (sym (f 0 (omega arith))) ∙ bit-named m 0 ∙ bit-first m in
    omega arith

-- and a 16-bit map that names none from n on is below 2 ^ n
pub named-below : (m n : ℕ) → m < 2 ^ 16 → ((i : ℕ) → n ≤ i → named m i ≡ false) → m < 2 ^ n
named-below m n h f =
    let none : m / 2 ^ n ≡ 0 = no_bits 16 (m / 2 ^ n) (omega (arith, div-le_self m (2 ^ n))) (λ i l. named-shifted m n i ∙ f (n + i) (omega arith)) in
    ltb-true m (2 ^ n) (sym (shifted-zero m n) ∙ eq-eqb (m / 2 ^ n) 0 none)

-- a map of a cluster
pub map-valid : (c : Config) (m : ℕ) → map_of c m ≡ true → (valid_of c ≡ true) × (m < 2 ^ c.n)
unfolding map_of
map-valid c m e = let x = both (valid_of c) _ e in (x.0, ltb-true _ _ x.1)
