-- The signed difference of two natural numbers.
use Rattle.std.specs.Prelude.{ℕ, ℤ}
use Rattle.std.proofs.Math.IntN.{sub_ℕ}

-- a − b
unfoldable pub difference : ℕ → ℕ → ℤ
difference a b = sub_ℕ a b
