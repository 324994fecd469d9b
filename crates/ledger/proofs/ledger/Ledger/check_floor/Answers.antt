-- `check_floor` meets its contract.
use Rattle.std.specs.Prelude.{Err}
use mathlib.Core.Path.{◌≡◌, sym, ◌∙◌}
use Rattle.std.proofs.lemmas.Result.{err_from_is_err_and}
use Rattle.config.proofs.Clusters.{least-told, lawful-valid, lawful-bounds}
use Rattle.ledger.specs.Checks.{above_floor, floor_answer}
use Rattle.ledger.proofs.Judged.{least-judged}
use Rattle.ledger.proofs.Weights.{covers-weighs, weighs-above}
use Rattle.ledger.proofs.ledger.Ledger.check_floor.Goals.{After-above_floor}
use Rattle.ledger.proofs.ledger.Ledger.check_floor.Goals as goal

-- what the test tells
floor : (c : After-above_floor) → above_floor c.args.config.now c.args.self.now ≡ c.above_floor.result
floor c =
    let e = (least-told _ _ (sym c.in_ok-least.ensures)).0 in
    sym (c.above_floor.ensures ∙ weighs-above _ c.args.self.now _ _ (covers-weighs _ _ _ _ (lawful-valid _ e) c.sum_named.ensures.0 c.sum_named.ensures.1))

pub returns-in_err-least : goal.returns-in_err-least
unfolding floor_answer
returns-in_err-least c =
    let p = err_from_is_err_and c.from_residual.result c.from_residual.ensures.1 in
    rw (p.1, p.2) (sym (least-judged _ _ _ Err (sym c.in_err-least.ensures)))

pub sum_named-requires : goal.sum_named-requires
sum_named-requires c = ((lawful-bounds _ (least-told _ _ (sym c.in_ok-least.ensures)).0).most, c.none-tally.ensures.1)

pub above_floor-requires : goal.above_floor-requires
above_floor-requires c = least-told _ _ (sym c.in_ok-least.ensures)

pub returns-then-not-above_floor : goal.returns-then-not-above_floor
unfolding floor_answer
returns-then-not-above_floor c =
    let e = (least-told _ _ (sym c.in_ok-least.ensures)).0 in
    simp (lawful-valid _ e, e, floor (goal.at.returns-then-not-above_floor c).After-above_floor ∙ c.if-not-above_floor.true)

pub returns : goal.returns
unfolding floor_answer
returns c =
    let e = (least-told _ _ (sym c.in_ok-least.ensures)).0 in
    simp (lawful-valid _ e, e, floor (goal.at.returns c).After-above_floor ∙ c.if-not-above_floor.false)
