-- `check_bounds` meets its contract: nothing is wrong exactly where every count and cell is in range.
use Rattle.std.specs.Prelude.{Err}
use mathlib.Core.Path.{◌≡◌, sym, ap, ◌∙◌}
use borrow.Author.Tests.{eq-eqb, ne_eqb}
use lib.Dec.{eqb}
use Rattle.std.proofs.lemmas.Result.{err_from_is_err_and}
use Rattle.config.proofs.Clusters.{least-told, lawful-valid, lawful-bounds}
use Rattle.ledger.specs.Checks.{bounded, bounds_answer}
use Rattle.ledger.proofs.Faults.{faults-bounded}
use Rattle.ledger.proofs.Judged.{least-judged}
use Rattle.ledger.proofs.ledger.Ledger.check_bounds.Goals.{After-faults}
use Rattle.ledger.proofs.ledger.Ledger.check_bounds.Goals as goal

range : (c : After-faults) → bounded c.args.config.now c.args.self.now ≡ eqb c.faults.result 0
range c =
    let e = least-told _ _ (sym c.in_ok-least.ensures) in
    sym (faults-bounded c.args.config.now c.args.self.now (lawful-bounds _ e.0).most) ∙ ap (λ k. eqb k 0) (sym c.faults.ensures.0)

pub returns-in_err-least : goal.returns-in_err-least
unfolding bounds_answer
returns-in_err-least c =
    let p = err_from_is_err_and c.from_residual.result c.from_residual.ensures.1 in
    rw (p.1, p.2) (sym (least-judged _ _ _ Err (sym c.in_err-least.ensures)))

pub faults-requires : goal.faults-requires
faults-requires c = ((lawful-bounds _ (least-told _ _ (sym c.in_ok-least.ensures)).0).most, c.none.ensures.1)

pub returns-then-faults-ne0 : goal.returns-then-faults-ne0
unfolding bounds_answer
returns-then-faults-ne0 c =
    let e = (least-told _ _ (sym c.in_ok-least.ensures)).0 in
    simp (lawful-valid _ e, e, range (goal.at.returns-then-faults-ne0 c).After-faults ∙ ne_eqb _ 0 c.if-faults-ne0.true)

pub returns : goal.returns
unfolding bounds_answer
returns c =
    let e = (least-told _ _ (sym c.in_ok-least.ensures)).0 in
    simp (lawful-valid _ e, e, range (goal.at.returns c).After-faults ∙ eq-eqb _ 0 c.if-faults-ne0.false)
