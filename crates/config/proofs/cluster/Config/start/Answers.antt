-- `start` meets its contract: a server is one of a cluster within bounds, of which the start weights are tested next.
use Rattle.std.specs.Prelude.{Ok, Err}
use mathlib.Core.Path.{◌≡◌, sym, ap, ◌∙◌}
use borrow.Author.Rules.{rules}
use Rattle.config.specs.Answers.{start_answer}
use Rattle.config.proofs.Clusters.{server-valid, checked-told, checked-refused}
use Rattle.config.proofs.cluster.Config.start.Goals as goal

pub returns-in_err-check : goal.returns-in_err-check
unfolding start_answer
returns-in_err-check c =
    let has = sym c.has.ensures ∙ c.if-not-has.false in
    let e : c.from_residual.result ≡ Err c.in_err-check.field-0.0 = search rules in
    let t = checked-refused _ _ (server-valid _ _ has).0 (sym c.check.ensures ∙ c.in_err-check.was) in
    simp (has, t.0) (e ∙ ap Err t.1)

pub returns : goal.returns
unfolding start_answer
returns c =
    let has = sym c.has.ensures ∙ c.if-not-has.false in
    simp (has, checked-told _ (sym c.check.ensures ∙ c.in_ok-check.was)) (ap Ok c.start_at.ensures.0)
