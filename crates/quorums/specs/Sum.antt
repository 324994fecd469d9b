-- Sums and tests over the numbers below n.
use Rattle.std.specs.Prelude.{ℕ, zero, suc, ◌+◌, Bool, true, false, cond, ℤ, pos, ◌+ℤ◌}

-- f 0 + … + f (n − 1)
unfoldable pub sum : ℕ → (ℕ → ℕ) → ℕ
sum zero f = 0
sum (suc n) f = sum n f + f n

-- the same of signed numbers
unfoldable pub sum_ℤ : ℕ → (ℕ → ℤ) → ℤ
sum_ℤ zero f = pos 0
sum_ℤ (suc n) f = sum_ℤ n f +ℤ f n

-- the sum of f over those numbers below n that are in the set q
unfoldable pub sum_in : ℕ → (ℕ → Bool) → (ℕ → ℕ) → ℕ
sum_in n q f = sum n (λ i. cond (q i) (f i) 0)

-- how many numbers below n are in the set q
unfoldable pub size : ℕ → (ℕ → Bool) → ℕ
size n q = sum_in n q (λ i. 1)

-- whether p holds of every number below n
unfoldable pub all : ℕ → (ℕ → Bool) → Bool
all zero p = true
all (suc n) p = cond (p n) (all n p) false
