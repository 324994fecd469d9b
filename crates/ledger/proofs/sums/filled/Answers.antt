-- `filled` meets its contract: `clear` tells of the cells that have been looked at.
use native.Mathlib.Omega.{arith}
use mathlib.Core.Path.{◌≡◌, sym, ap, ◌∙◌}
use mathlib.Core.Bool.{Bool, true, false, cond, not}
use Prim.Native.Nat.{ℕ, ◌≤◌}
use Rattle.std.specs.Int.{from_bool}
use Rattle.quorums.proofs.Sums.{all_none}
use Rattle.ledger.specs.Sums.{filled_row}
use Rattle.ledger.proofs.Rows.{all-more}
use Rattle.ledger.proofs.sums.filled.Goals as goal

-- 1 where a test fails, else 0
mark : (n : ℕ) (t : Bool) → n ≡ from_bool (not t) → (n ≡ cond t 0 1) × (n ≤ 1)
mark n true e = (e, omega (arith, e))
mark n false e = (e, omega (arith, e))

pub loop-cell-init : goal.loop-cell-init
loop-cell-init c = sym (all_none _)

pub loop-cell-preserved : goal.loop-cell-preserved
loop-cell-preserved c = all-more c.loop-cell.cell-index _ _ c.loop-cell.invariant

pub returns : goal.returns
unfolding filled_row
returns c =
    let m = mark c.from.result c.loop-cell.clear c.from.ensures in
    let e : c.loop-cell.cell-index ≡ 16 = omega arith in
    (m.0 ∙ ap (λ t. cond t 0 1) (rw e at c.loop-cell.invariant), m.1)
