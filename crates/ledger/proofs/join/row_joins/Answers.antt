-- `row_joins` meets its contract: which row is the later one is the same for every cell.
use borrow.Author.Tests.{lt-ltb, le-ltb}
use Rattle.ledger.specs.Joins.{agree}
use Rattle.ledger.proofs.join.row_joins.Goals as goal

pub returns-then-count-other_count : goal.returns-then-count-other_count
unfolding agree
returns-then-count-other_count c = simp (lt-ltb _ _ c.if-count-other_count.true) c.none_smaller.ensures

pub returns-then-other_count-count : goal.returns-then-other_count-count
unfolding agree
returns-then-other_count-count c = simp (le-ltb _ _ c.if-count-other_count.false, lt-ltb _ _ c.if-other_count-count.true) c.none_smaller-then-other_count-count.ensures

pub returns : goal.returns
unfolding agree
returns c =
    simp (le-ltb _ _ c.if-count-other_count.false, le-ltb _ _ c.if-other_count-count.false) c.same_cells.ensures
