-- `quorum` meets its contract: a margin by the sums of the servers that are named is that on the ledger.
use Rattle.std.specs.Prelude.{Ok, Err}
use mathlib.Core.Path.{sym, ap, ◌∙◌}
use Rattle.std.proofs.lemmas.Result.{err_from_is_err_and}
use Rattle.config.proofs.Clusters.{least-told, lawful-valid, lawful-bounds}
use Rattle.ledger.specs.Weights.{quorum_answer}
use Rattle.ledger.proofs.Answers.{read_back}
use Rattle.ledger.proofs.Judged.{map-judged}
use Rattle.ledger.proofs.Weights.{named-margin}
use Rattle.ledger.proofs.ledger.Ledger.quorum.Goals as goal

pub returns-then-not-within : goal.returns-then-not-within
unfolding quorum_answer
returns-then-not-within c = simp (sym c.within.ensures ∙ c.if-not-within.true)

pub returns-in_err-least : goal.returns-in_err-least
unfolding quorum_answer
returns-in_err-least c =
    let p = err_from_is_err_and c.from_residual.result c.from_residual.ensures.1 in
    rw (p.1, p.2) (sym (map-judged _ _ _ Err _ (sym c.within.ensures ∙ c.if-not-within.false) (sym c.in_err-least.ensures)))

pub sum_named-requires : goal.sum_named-requires
sum_named-requires c = ((lawful-bounds _ (least-told _ _ (sym c.in_ok-least.ensures)).0).most, c.none-tally.ensures.1)

pub margin-requires : goal.margin-requires
margin-requires c = lawful-valid _ (least-told _ _ (sym c.in_ok-least.ensures)).0

pub returns : goal.returns
unfolding quorum_answer
returns c =
    let e = (least-told _ _ (sym c.in_ok-least.ensures)).0 in
    simp (sym c.within.ensures ∙ c.if-not-within.false, e)
    (ap Ok (read_back c.margin.result c.margin.type_inv ∙ c.margin.ensures ∙ named-margin _ c.args.self c.args.map _ _ c.sum_named.ensures.0 c.sum_named.ensures.1))
