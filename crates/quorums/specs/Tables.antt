-- A list given by its value at every index.
use Rattle.std.specs.Prelude.{ℕ, zero, suc, List, [], ◌∷◌}

-- f k, f (k + 1), … , n values
unfoldable pub run : (ℕ → ℕ) → ℕ → ℕ → List ℕ
run f k zero = []
run f k (suc n) = f k ∷ run f (suc k) n

-- f 0, … , f (n − 1)
unfoldable pub table : ℕ → (ℕ → ℕ) → List ℕ
table n f = run f 0 n
