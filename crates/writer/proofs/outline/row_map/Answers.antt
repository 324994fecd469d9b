-- `row_map` meets its contract: after i turns it has the marks of the first i counts.
use native.Mathlib.Omega.{arith}
use mathlib.Core.Path.{◌∙◌}
use Rattle.format.proofs.Marks.{stands-le}
use Rattle.writer.proofs.Outlines.{marked_start, marked_next, marked-small, mark-test}
use Rattle.writer.proofs.outline.row_map.Goals as goal

pub loop-i-init : goal.loop-i-init
loop-i-init c = marked_start _

pub overflow_add-map : goal.overflow_add-map
overflow_add-map c =
    let e = c.from.ensures ∙ mark-test _ in
    let s = marked-small c.loop-i.invariant (omega arith) c.from.result 65536 (rw e (stands-le _)) (omega arith) in
    rw s.0 (omega (arith, s.1))

pub loop-i-preserved : goal.loop-i-preserved
loop-i-preserved c = marked_next c.loop-i.invariant (omega arith) _ _ (c.from.ensures ∙ mark-test _) (omega arith)
