-- `joins` meets its contract: every row before i agrees.
use Prim.Native.Nat.{ℕ, ◌+◌, ◌*◌}
use native.Mathlib.Omega.{arith}
use mathlib.Core.Path.{◌≡◌, sym, ◌∙◌}
use mathlib.Core.Bool.{Bool}
use Rattle.quorums.specs.Sum.{all}
use Rattle.quorums.proofs.Sums.{all_none, all-next, all-fails}
use Rattle.ledger.specs.Joins.{agree_at, joins}
use Rattle.ledger.proofs.Rows.{by_rows, row-agrees}
use Rattle.ledger.proofs.ledger.Ledger.joins.Goals.{After-row_joins}
use Rattle.ledger.proofs.ledger.Ledger.joins.Goals as goal

abbrev rows : After-row_joins → ℕ → Bool
rows c r = all 16 (λ j. agree_at c.args.self.now c.args.other.now (r * 16 + j))

-- what is found of a row
row : (c : After-row_joins) → rows c c.loop-i.i ≡ c.row_joins.result
row c = sym (simp (c.row.ensures.0, c.row-in-loop-i.ensures.0) at c.row_joins.ensures ∙ row-agrees c.args.self.now c.args.other.now c.loop-i.i)

pub loop-i-init : goal.loop-i-init
loop-i-init c = all_none _

pub returns-then-not-row_joins : goal.returns-then-not-row_joins
unfolding joins
returns-then-not-row_joins c =
    let at = (goal.at.returns-then-not-row_joins c).After-row_joins in
    sym (by_rows (agree_at c.args.self.now c.args.other.now) ∙ all-fails 16 (rows at) _ c.loop-i-test.true (row at ∙ c.if-not-row_joins.true))

pub loop-i-preserved : goal.loop-i-preserved
loop-i-preserved c =
    let at = (goal.at.loop-i-preserved c).After-row_joins in
    all-next _ (rows at) c.loop-i.invariant (row at ∙ c.if-not-row_joins.false)

pub returns : goal.returns
unfolding joins
returns c =
    let e : c.loop-i.i ≡ 16 = omega arith in
    sym (by_rows (agree_at c.args.self.now c.args.other.now) ∙ rw e at c.loop-i.invariant)
