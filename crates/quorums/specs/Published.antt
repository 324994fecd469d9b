-- The published restricted pairwise rule (source document 000), in whole numbers: its fraction W / (2(n − f)) is multiplied out.
use Rattle.std.specs.Prelude.{ℕ, ◌+◌, ◌-◌, ◌*◌, ◌<◌, Bool, true, ℤ, pos, ◌*ℤ◌, ◌<ℤ◌}
use Rattle.quorums.specs.Accounts.{Accounts, weight, weight_in, total}

-- Definition 1: a set whose total weight is greater than half of the total weight of all servers
abbrev pub WeightedMajority : ℕ → Accounts → (ℕ → Bool) → Type 0
WeightedMajority n a q = weight_in n a (λ i. true) <ℤ (weight_in n a q *ℤ pos 2)

-- Definition 5, RP-Integrity: every server's weight is greater than W / (2(n − f)), W being the total at the start
abbrev pub RpIntegrity : ℕ → ℕ → Accounts → Type 0
RpIntegrity n f a = (i : ℕ) → i < n → pos (total n a) <ℤ (weight a i *ℤ pos (2 * (n - f)))

-- Algorithm 4, line 12: a server of weight w may give d when w > d + W / (2(n − f))
abbrev pub Line12 : ℕ → ℕ → ℕ → ℤ → ℕ → Type 0
Line12 n f W w d = pos (d * (2 * (n - f)) + W) <ℤ (w *ℤ pos (2 * (n - f)))
