-- `given` meets its contract: what a server gave is the total of its row.
use Rattle.std.specs.Prelude.{Ok, Err}
use mathlib.Core.Path.{sym, ap, ◌∙◌}
use Rattle.std.proofs.lemmas.Result.{err_from_is_err_and}
use Rattle.config.proofs.Clusters.{server-small}
use Rattle.ledger.specs.Weights.{given_answer}
use Rattle.ledger.proofs.Judged.{start-judged, start-told}
use Rattle.ledger.proofs.Summed.{row-total}
use Rattle.ledger.proofs.ledger.Ledger.given.Goals as goal

pub returns-in_err-start : goal.returns-in_err-start
unfolding given_answer
returns-in_err-start c =
    let p = err_from_is_err_and c.from_residual.result c.from_residual.ensures.1 in
    rw (p.1, p.2) (sym (start-judged _ _ _ Err c.args.server (sym c.in_err-start.ensures)))

pub row-requires : goal.row-requires
row-requires c = server-small _ _ (start-told _ _ _ (sym c.in_ok-start.ensures)).0

pub returns : goal.returns
unfolding given_answer
returns c =
    let e = start-told _ _ _ (sym c.in_ok-start.ensures) in
    simp (e.0, e.1) (ap Ok (simp c.row.ensures.0 at c.row_total.ensures.0 ∙ row-total c.args.self c.args.server))
