-- `weight` meets its contract: start and column less row are the weight on the ledger.
use Rattle.std.specs.Prelude.{Ok, Err}
use Prim.Native.Nat.{◌+◌, ◌≤◌, ◌<◌}
use native.Mathlib.Omega.{arith}
use mathlib.Core.Path.{sym, ap, ap₂, ◌∙◌}
use Rattle.quorums.specs.Difference.{difference}
use Rattle.quorums.specs.Accounts.{weight}
use Rattle.std.proofs.lemmas.Result.{err_from_is_err_and}
use Rattle.config.proofs.Clusters.{server-small, server-valid, start_small}
use Rattle.ledger.specs.Weights.{weight_of, weight_answer}
use Rattle.ledger.proofs.Answers.{read_back}
use Rattle.ledger.proofs.Judged.{start-judged, start-told, start-is}
use Rattle.ledger.proofs.Summed.{row-total}
use Rattle.ledger.proofs.ledger.Ledger.weight.Goals.{In_ok-start}
use Rattle.ledger.proofs.ledger.Ledger.weight.Goals as goal

small : (c : In_ok-start) → c.args.server < 16
small c = server-small _ _ (start-told _ _ _ (sym c.in_ok-start.ensures)).0

start : (c : In_ok-start) → c.in_ok-start.start ≤ 16000
start c =
    let t = start-told _ _ _ (sym c.in_ok-start.ensures) in
    omega (arith, start-is _ _ _ (sym c.in_ok-start.ensures), start_small c.args.config.now c.args.server t.1 (server-valid _ _ t.0).1)

pub returns-in_err-start : goal.returns-in_err-start
unfolding weight_answer
returns-in_err-start c =
    let p = err_from_is_err_and c.from_residual.result c.from_residual.ensures.1 in
    rw (p.1, p.2) (sym (start-judged _ _ _ Err c.args.server (sym c.in_err-start.ensures)))

pub column_total-requires : goal.column_total-requires
column_total-requires c = small (goal.at.column_total-requires c).In_ok-start

pub overflow_add-start : goal.overflow_add-start
overflow_add-start c = omega (arith, start (goal.at.overflow_add-start c).In_ok-start, c.column_total.ensures.1)

pub row-requires : goal.row-requires
row-requires c = small (goal.at.row-requires c).In_ok-start

pub difference-requires : goal.difference-requires
difference-requires c =
    (omega (arith, start (goal.at.difference-requires c).In_ok-start, c.column_total.ensures.1), omega (arith, c.row_total.ensures.1))

pub returns : goal.returns
unfolding weight_answer weight_of weight
returns c =
    let e = start-told _ _ _ (sym c.in_ok-start.ensures) in
    let held = ap₂ ◌+◌ (start-is _ _ _ (sym c.in_ok-start.ensures)) c.column_total.ensures.0 in
    let gave = simp c.row.ensures.0 at c.row_total.ensures.0 ∙ row-total c.args.self c.args.server in
    simp (e.0, e.1) (ap Ok (read_back c.difference.result c.difference.type_inv ∙ c.difference.ensures ∙ ap₂ difference held gave))
