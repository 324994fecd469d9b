-- `count_named` meets its contract: a map within n has its ones below n.
use Rattle.std.specs.Prelude.{Err}
use mathlib.Core.Path.{sym, ◌∙◌}
use Rattle.config.proofs.Clusters.{least-told}
use Rattle.std.proofs.lemmas.Result.{err_from_is_err_and}
use Rattle.ledger.specs.Maps.{named_answer}
use Rattle.ledger.proofs.Maps.{ones-size, map-valid}
use Rattle.ledger.proofs.Judged.{map-judged}
use Rattle.ledger.proofs.map.count_named.Goals as goal

pub returns-then-not-within : goal.returns-then-not-within
unfolding named_answer
returns-then-not-within c = simp (sym c.within.ensures ∙ c.if-not-within.true)

pub returns-in_err-least : goal.returns-in_err-least
unfolding named_answer
returns-in_err-least c =
    let p = err_from_is_err_and c.from_residual.result c.from_residual.ensures.1 in
    rw (p.1, p.2) (sym (map-judged _ _ _ Err _ (sym c.within.ensures ∙ c.if-not-within.false) (sym c.in_err-least.ensures)))

pub returns : goal.returns
unfolding named_answer
returns c =
    let e = sym c.within.ensures ∙ c.if-not-within.false in
    simp (e, (least-told _ _ (sym c.in_ok-least.ensures)).0, c.from.ensures, sym (ones-size _ _ (map-valid _ _ e).1))
