-- `lawful` meets its contract, test by test.
use mathlib.Core.Path.{sym, ap, ◌∙◌}
use mathlib.Core.Bool.{not}
use borrow.Author.Tests.{eq-eqb, ne_eqb}
use Rattle.ledger.specs.Changes.{lawful}
use Rattle.ledger.proofs.change.lawful.Goals as goal
use Rattle.ledger.proofs.change.lawful.Goals.{then-giver-taker, else-giver-taker}

pub returns-then-taker-config : goal.returns-then-taker-config
unfolding lawful
returns-then-taker-config c =
    elim c.if-giver-taker.branch [
      | then-giver-taker w ↦ simp (ne_eqb _ _ w.if-giver-taker.true, sym w.value-is ∙ c.if-taker-config.true)
      | else-giver-taker w ↦ let z = sym c.if-taker-config.true ∙ w.value-is ∙ ap not (eq-eqb _ _ w.if-giver-taker.false) in cc
    ]

pub returns-else-taker-config : goal.returns-else-taker-config
unfolding lawful
returns-else-taker-config c =
    elim c.if-giver-taker.branch [
      | then-giver-taker w ↦ simp (ne_eqb _ _ w.if-giver-taker.true, c.if-taker-config.false, sym w.value-is ∙ c.if-taker-config.false)
      | else-giver-taker w ↦ simp (eq-eqb _ _ w.if-giver-taker.false, c.if-taker-config.false)
    ]
