-- `received` meets its contract.
use Rattle.std.specs.Prelude.{Ok, Err}
use mathlib.Core.Path.{sym, ap}
use Rattle.std.proofs.lemmas.Result.{err_from_is_err_and}
use Rattle.config.proofs.Clusters.{server-small}
use Rattle.ledger.specs.Weights.{received_answer}
use Rattle.ledger.proofs.Judged.{start-judged, start-told}
use Rattle.ledger.proofs.ledger.Ledger.received.Goals as goal

pub returns-in_err-start : goal.returns-in_err-start
unfolding received_answer
returns-in_err-start c =
    let p = err_from_is_err_and c.from_residual.result c.from_residual.ensures.1 in
    rw (p.1, p.2) (sym (start-judged _ _ _ Err c.args.server (sym c.in_err-start.ensures)))

pub column_total-requires : goal.column_total-requires
column_total-requires c = server-small _ _ (start-told _ _ _ (sym c.in_ok-start.ensures)).0

pub returns : goal.returns
unfolding received_answer
returns c =
    let e = start-told _ _ _ (sym c.in_ok-start.ensures) in
    simp (e.0, e.1) (ap Ok c.column_total.ensures.0)
