-- Numbers and maps as bytes (paper 01, "Message bytes": high byte first; bit 0 of a map is worth 1).
use Rattle.std.specs.Prelude.{ℕ, zero, suc, ◌*◌, ◌/◌, ◌%◌, ◌^◌, List, [], ◌∷◌, ◌++◌}
use Rattle.quorums.specs.Sum.{sum}

-- x in w bytes, high byte first
unfoldable pub bytes : ℕ → ℕ → List ℕ
bytes zero x = []
bytes (suc w) x = bytes w (x / 256) ++ (x % 256 ∷ [])

-- a number of w bytes, which stands where s isn't 0
unfoldable pub number : ℕ → ℕ → ℕ → List ℕ
number zero w x = []
number (suc s) w x = bytes w x

-- f 0, … , f (n − 1), one after the other
unfoldable pub series : ℕ → (ℕ → List ℕ) → List ℕ
series zero f = []
series (suc n) f = series n f ++ f n

-- 1 for a number that isn't 0
unfoldable pub stands : ℕ → ℕ
stands zero = 0
stands (suc x) = 1

-- the map of n bits in which bit k stands where f k isn't 0
unfoldable pub marks : ℕ → (ℕ → ℕ) → ℕ
marks n f = sum n (λ k. stands (f k) * 2 ^ k)

-- bit k of the map m, as 0 or 1
unfoldable pub bit : ℕ → ℕ → ℕ
bit m k = m / 2 ^ k % 2
