-- `row_map` meets its contract: after i turns it has the marks of the first i counts.
use lib.ListN.{get_or}
use Rattle.writer.proofs.Outlines.{Marked}
use Rattle.writer.proofs.outline.row_map.Given as goal

abbrev pub invariant-loop-i : goal.invariant-loop-i
invariant-loop-i l = Marked l.i (λ k. get_or l.counts k 0) l.map
