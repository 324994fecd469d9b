-- `weight_of_all` meets its contract.
use Rattle.std.specs.Prelude.{Ok, Err}
use mathlib.Core.Path.{sym, ap, ◌∙◌}
use Rattle.std.proofs.lemmas.Result.{err_from_is_err_and}
use Rattle.config.proofs.Clusters.{least-told, lawful-valid, lawful-bounds}
use Rattle.ledger.specs.Weights.{all_answer}
use Rattle.ledger.proofs.Answers.{read_back}
use Rattle.ledger.proofs.Judged.{least-judged}
use Rattle.ledger.proofs.Weights.{covers-weighs, weighs-all}
use Rattle.ledger.proofs.ledger.Ledger.weight_of_all.Goals as goal

pub returns-in_err-least : goal.returns-in_err-least
unfolding all_answer
returns-in_err-least c =
    let p = err_from_is_err_and c.from_residual.result c.from_residual.ensures.1 in
    rw (p.1, p.2) (sym (least-judged _ _ _ Err (sym c.in_err-least.ensures)))

pub sum_named-requires : goal.sum_named-requires
sum_named-requires c = ((lawful-bounds _ (least-told _ _ (sym c.in_ok-least.ensures)).0).most, c.none-tally.ensures.1)

pub weight_of_all-requires : goal.weight_of_all-requires
weight_of_all-requires c = lawful-valid _ (least-told _ _ (sym c.in_ok-least.ensures)).0

pub returns : goal.returns
unfolding all_answer
returns c =
    let e = (least-told _ _ (sym c.in_ok-least.ensures)).0 in
    let sums = covers-weighs _ c.args.self _ _ (lawful-valid _ e) c.sum_named.ensures.0 c.sum_named.ensures.1 in
    simp (lawful-valid _ e, e)
    (ap Ok (read_back c.weight_of_all.result c.weight_of_all.type_inv ∙ c.weight_of_all.ensures ∙ weighs-all _ c.args.self _ _ sums))
