-- Weights, the floor and quorums (paper 01, "Sheets"), of any form in which the transfers are kept: all that a weight depends on is what each
-- server started with, received and gave.
use Rattle.std.specs.Prelude.{ℕ, ◌+◌, ◌-◌, ◌*◌, Bool, cond, ℤ, pos, ◌+ℤ◌, ◌-ℤ◌, ◌*ℤ◌}
use Rattle.std.specs.Int.Signed.{lt_z}
use Rattle.quorums.specs.Sum.{sum, sum_ℤ}
use Rattle.quorums.specs.Difference.{difference}

pub record Accounts : Type 0 where
  pub start : ℕ → ℕ
  pub received : ℕ → ℕ
  pub given : ℕ → ℕ

-- what server i has before its gifts are taken off
abbrev pub held : Accounts → ℕ → ℕ
held a i = a.start i + a.received i

-- the weight of server i: start + received − given
unfoldable pub weight : Accounts → ℕ → ℤ
weight a i = difference (held a i) (a.given i)

-- W: the start weights of the n servers together
unfoldable pub total : ℕ → Accounts → ℕ
total n a = sum n a.start

-- the weight of those of the n servers that are in the set q
unfoldable pub weight_in : ℕ → Accounts → (ℕ → Bool) → ℤ
weight_in n a q = sum_ℤ n (λ i. cond (q i) (weight a i) (pos 0))

-- twice the weight of the set q, less W
unfoldable pub margin : ℕ → Accounts → (ℕ → Bool) → ℤ
margin n a q = weight_in n a q +ℤ weight_in n a q -ℤ pos (total n a)

-- a set is a quorum exactly when twice its weight is above W
unfoldable pub quorum : ℕ → Accounts → (ℕ → Bool) → Bool
quorum n a q = lt_z (pos 0) (margin n a q)

-- a weight w is above the floor, of n servers of which f may crash and that weigh W, when w × 2 × (n − f) > W
unfoldable pub above : ℕ → ℕ → ℕ → ℤ → Bool
above n f W w = lt_z (pos W) (w *ℤ pos (2 * (n - f)))
