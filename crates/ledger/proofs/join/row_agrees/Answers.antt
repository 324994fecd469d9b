-- `row_agrees` meets its contract, test by test.
use borrow.Author.Tests.{eq-eqb, ne_eqb}
use Rattle.ledger.specs.Joins.{row_agrees}
use Rattle.ledger.proofs.join.row_agrees.Goals.{else-count-eq0-via-then-count-eq0+else-other_count-eq0, else-count-eq0-via-else-count-eq0}
use Rattle.ledger.proofs.join.row_agrees.Goals as goal

pub returns-then-other_count-eq0 : goal.returns-then-other_count-eq0
unfolding row_agrees
returns-then-other_count-eq0 c = simp (eq-eqb _ _ c.if-count-eq0.true, eq-eqb _ _ c.if-other_count-eq0.true)

pub returns : goal.returns
unfolding row_agrees
returns c =
    elim c.else-count-eq0.branch [
      | else-count-eq0-via-then-count-eq0+else-other_count-eq0 w ↦
          simp (eq-eqb _ _ w.if-count-eq0.true, ne_eqb _ _ w.if-other_count-eq0.false) c.row_joins.ensures
      | else-count-eq0-via-else-count-eq0 w ↦ simp (ne_eqb _ _ w.if-count-eq0.false) c.row_joins.ensures
    ]
