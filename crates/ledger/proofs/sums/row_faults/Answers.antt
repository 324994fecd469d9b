-- `row_faults` meets its contract: a number made of a test is 1 where it passes, else 0.
use native.Mathlib.Omega.{arith}
use mathlib.Core.Path.{◌≡◌, refl, ◌∙◌}
use mathlib.Core.Bool.{Bool, true, false, cond}
use Prim.Native.Nat.{ℕ, ◌≤◌}
use Rattle.std.specs.Int.{from_bool}
use lib.Dec.{ltb}
use Rattle.ledger.specs.Sums.{under}
use Rattle.ledger.proofs.sums.row_faults.Goals as goal

mark : (t : Bool) → (from_bool t ≡ cond t 1 0) × (from_bool t ≤ 1)
mark true = (refl, omega arith)
mark false = (refl, omega arith)

below : (n a b : ℕ) → n ≡ from_bool (ltb a b) → (n ≡ under a b) × (n ≤ 1)
unfolding under
below n a b e = let m = mark (ltb a b) in (e ∙ m.0, omega (arith, e, m.1))

pub returns : goal.returns
returns c =
    let few = below _ _ _ c.from-2.ensures in
    let much = below _ _ _ c.from-3.ensures in
    (cc (few.0, much.0), omega (arith, few.1, much.1))
