-- `compare` meets its contract: the first i rows agree, and `has` and `told` tell whether either ledger has the other's transfers in them.
use Prim.Native.Nat.{◌<◌, min}
use native.Mathlib.Omega.{arith}
use borrow.Author.Rules.{rules}
use mathlib.Core.Path.{◌≡◌, refl, sym, ◌∙◌}
use Rattle.quorums.proofs.Sums.{all_none, all-next, all-fails}
use Rattle.ledger.specs.Joins.{row_agrees_at, has_at, rows_compared, compared_of}
use Rattle.ledger.proofs.Rows.{all-more, row-compared}
use Rattle.ledger.proofs.ledger.Ledger.compare.Goals.{After-row_agrees}
use Rattle.ledger.proofs.ledger.Ledger.compare.Goals as goal

-- what is found of a row
row : (c : After-row_agrees) → row_agrees_at c.args.self.now c.args.other.now c.loop-i.i ≡ c.row_agrees.result
row c = sym (simp (c.row.ensures.0, c.row-in-loop-i.ensures.0) at c.row_agrees.ensures ∙ row-compared c.args.self.now c.args.other.now c.loop-i.i)

pub loop-i-init : goal.loop-i-init
loop-i-init c = (all_none _, sym (all_none _), sym (all_none _))

pub returns-then-not-row_agrees : goal.returns-then-not-row_agrees
unfolding compared_of rows_compared
returns-then-not-row_agrees c =
    let l : c.loop-i.i < min c.args.n 16 = omega arith in (
      rw (all-fails _ (row_agrees_at c.args.self.now c.args.other.now) c.loop-i.i l (row (goal.at.returns-then-not-row_agrees c).After-row_agrees ∙ c.if-not-row_agrees.true)) refl,
      record { sixteen-counts = search rules; all-cells = search rules },
    )

pub loop-i-preserved : goal.loop-i-preserved
loop-i-preserved c =
    let v = c.loop-i.invariant in (
      all-next c.loop-i.i (row_agrees_at c.args.self.now c.args.other.now) v.0 (row (goal.at.loop-i-preserved c).After-row_agrees ∙ c.if-not-row_agrees.false),
      all-more c.loop-i.i (has_at c.args.self.now c.args.other.now) _ v.1,
      all-more c.loop-i.i (has_at c.args.other.now c.args.self.now) _ v.2,
    )

pub returns : goal.returns
unfolding compared_of rows_compared
returns c =
    let v = c.loop-i.invariant in
    let e : c.loop-i.i ≡ min c.args.n 16 = omega arith in
    (rw (← e, v.0, ← v.1, ← v.2) refl, record { sixteen-counts = search rules; all-cells = search rules })
