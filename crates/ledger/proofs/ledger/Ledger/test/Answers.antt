-- `test` meets its contract, test by test.
use mathlib.Core.Path.{◌≡◌, sym, ap, ◌∙◌}
use mathlib.Core.Bool.{true}
use borrow.Author.Tests.{eq-eqb, ne_eqb}
use lib.Dec.{eqb}
use Rattle.config.proofs.Clusters.{lawful-valid, lawful-bounds}
use Rattle.ledger.specs.Checks.{bounded, fit_answer}
use Rattle.ledger.specs.Sums.{Weighs}
use Rattle.ledger.proofs.Checks.{accepted-not-refused}
use Rattle.ledger.proofs.Faults.{faults-bounded}
use Rattle.ledger.proofs.Weights.{weighs, weighs-above}
use Rattle.ledger.proofs.ledger.Ledger.test.Goals.{After-faults, Else-faults-ne0}
use Rattle.ledger.proofs.ledger.Ledger.test.Goals as goal

-- what each test tells
range : (c : After-faults) → bounded c.args.config.now c.args.self.now ≡ eqb c.faults.result 0
range c =
    sym (faults-bounded c.args.config.now c.args.self.now (lawful-bounds _ c.requires.0).most) ∙ ap (λ k. eqb k 0) (sym c.faults.ensures.0)

sums : (c : Else-faults-ne0) → bounded c.args.config.now c.args.self.now ≡ true
    → Weighs c.args.config.now c.args.self.now c.faults.new.tally.received c.faults.new.tally.given
sums c b =
    let e = c.faults.ensures in
    weighs _ _ _ _ (lawful-valid _ c.requires.0) b e.1 e.2

pub faults-requires : goal.faults-requires
faults-requires c = ((lawful-bounds _ c.requires.0).most, c.requires.2)

pub above_floor-requires : goal.above_floor-requires
above_floor-requires c = (c.requires.0, c.requires.1)

pub returns-then-faults-ne0 : goal.returns-then-faults-ne0
unfolding fit_answer
returns-then-faults-ne0 c =
    (simp (range (goal.at.returns-then-faults-ne0 c).After-faults ∙ ne_eqb _ 0 c.if-faults-ne0.true), λ e. accepted-not-refused _ (sym e))

pub returns-then-not-above_floor : goal.returns-then-not-above_floor
unfolding fit_answer
returns-then-not-above_floor c =
    let at = goal.at.returns-then-not-above_floor c in
    let b = range at.After-faults ∙ eq-eqb _ 0 c.if-faults-ne0.false in
    (simp (b, sym (weighs-above _ _ _ _ (sums at.Else-faults-ne0 b)) ∙ sym c.above_floor.ensures ∙ c.if-not-above_floor.true), λ e. accepted-not-refused _ (sym e))

pub returns : goal.returns
unfolding fit_answer
returns c =
    let at = goal.at.returns c in
    let b = range at.After-faults ∙ eq-eqb _ 0 c.if-faults-ne0.false in
    let s = sums at.Else-faults-ne0 b in
    (simp (b, sym (weighs-above _ _ _ _ s) ∙ sym c.above_floor.ensures ∙ c.if-not-above_floor.false), λ e. s)
