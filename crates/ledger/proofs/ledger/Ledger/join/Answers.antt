-- `join` meets its contract.
use mathlib.Core.Path.{sym, ap, ◌∙◌}
use Rattle.ledger.specs.Joins.{join_answer}
use Rattle.ledger.specs.Ledgers.{accepted}
use Rattle.ledger.proofs.ledger.Ledger.join.Goals as goal

pub returns-then-not-joins : goal.returns-then-not-joins
unfolding join_answer
returns-then-not-joins c = simp (sym c.joins.ensures ∙ c.if-not-joins.true) c.refused.ensures

pub returns : goal.returns
unfolding join_answer
returns c = simp (sym c.joins.ensures ∙ c.if-not-joins.false) (ap accepted c.take.ensures)
