-- `check` meets its contract: the cluster's tests, and then the ledger's.
use mathlib.Core.Path.{sym, ◌∙◌}
use Rattle.std.proofs.lemmas.Result.{err_from_is_err_and}
use Rattle.config.proofs.Clusters.{least-told}
use Rattle.ledger.proofs.Checks.{check-first, check-lawful}
use Rattle.ledger.proofs.ledger.Ledger.check.Goals as goal

pub returns-in_err-least : goal.returns-in_err-least
returns-in_err-least c =
    let p = err_from_is_err_and c.from_residual.result c.from_residual.ensures.1 in
    rw (p.1, p.2) (sym (check-first _ _ _ (sym c.in_err-least.ensures)))

pub test-requires : goal.test-requires
test-requires c = let e = least-told _ _ (sym c.in_ok-least.ensures) in (e.0, e.1, c.none.ensures.1)

pub returns : goal.returns
returns c = c.test.ensures.0 ∙ sym (check-lawful _ _ (least-told _ _ (sym c.in_ok-least.ensures)).0)
