-- `row_bytes` meets its contract: count and cell map take 4 bytes, and each cell that stands 4 more.
use native.Mathlib.Omega.{arith}
use mathlib.Core.Path.{◌≡◌, refl, sym, ap, ◌∙◌}
use lib.ListN.{length, get_or}
use Rattle.quorums.specs.Sum.{sum}
use Rattle.quorums.proofs.Sums.{sum-next}
use Rattle.format.proofs.Marks.{stands-le}
use Rattle.writer.proofs.Outlines.{mark-test}
use Rattle.writer.proofs.Rows.{row-absent, present-size}
use Rattle.writer.proofs.outline.row_bytes.Goals as goal

pub returns-then-count-eq0 : goal.returns-then-count-eq0
returns-then-count-eq0 c =
    (sym (ap length (row-absent _ _ c.if-count-eq0.true (c.requires.1 c.if-count-eq0.true))), omega arith)

pub loop-cell-init : goal.loop-cell-init
unfolding sum
loop-cell-init c = (refl, omega arith)

pub loop-cell-preserved : goal.loop-cell-preserved
loop-cell-preserved c =
    let mark = c.from.ensures ∙ mark-test _ in
    (rw sum-next (omega (arith, c.loop-cell.invariant.0, mark)), omega (arith, mark, stands-le (get_or c.args.row.now c.loop-cell.cell-index 0)))

pub returns : goal.returns
returns c =
    let l = c.loop-cell in
    let e : l.cell-index ≡ 16 = omega arith in
    (c.from-2.ensures ∙ l.invariant.0 ∙ rw e (sym (present-size _ _ c.if-count-eq0.false)), omega arith)
