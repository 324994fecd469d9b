-- `weigh` meets its contract: where the test accepts the ledger, its sums are those of the ledger, and so is a margin by them.
use Rattle.std.specs.Prelude.{Ok}
use mathlib.Core.Path.{sym, ap, ◌∙◌}
use Rattle.std.proofs.lemmas.Result.{err_from_is_err_and}
use Rattle.config.proofs.Clusters.{least-told, lawful-valid}
use Rattle.ledger.specs.Sums.{margin_answer}
use Rattle.ledger.proofs.Answers.{read_back}
use Rattle.ledger.proofs.Checks.{check-first, check-lawful}
use Rattle.ledger.proofs.Weights.{weighs-margin}
use Rattle.ledger.proofs.ledger.Ledger.weigh.Goals as goal

pub returns-in_err-least : goal.returns-in_err-least
unfolding margin_answer
returns-in_err-least c =
    let p = err_from_is_err_and c.from_residual.result c.from_residual.ensures.1 in
    rw (p.1, p.2, check-first c.args.config.now c.args.self.now _ (sym c.in_err-least.ensures))

pub test-requires : goal.test-requires
test-requires c = let e = least-told _ _ (sym c.in_ok-least.ensures) in (e.0, e.1, c.none-tally.ensures.1)

pub returns-in_err-test : goal.returns-in_err-test
unfolding margin_answer
returns-in_err-test c =
    let p = err_from_is_err_and c.from_residual-in_err-test.result c.from_residual-in_err-test.ensures.1 in
    let e = (least-told _ _ (sym c.in_ok-least.ensures)).0 in
    rw (p.1, p.2, check-lawful c.args.config.now c.args.self.now e ∙ sym c.test.ensures.0 ∙ c.in_err-test.was)

pub margin-requires : goal.margin-requires
margin-requires c = lawful-valid _ (least-told _ _ (sym c.in_ok-least.ensures)).0

pub returns : goal.returns
unfolding margin_answer
returns c =
    let e = (least-told _ _ (sym c.in_ok-least.ensures)).0 in
    rw (check-lawful c.args.config.now c.args.self.now e ∙ sym c.test.ensures.0 ∙ c.in_ok-test.was)
    (ap Ok (read_back c.margin.result c.margin.type_inv ∙ c.margin.ensures ∙ weighs-margin _ _ _ _ _ (c.test.ensures.1 c.in_ok-test.was)))
