-- `check` meets its contract: the least weight is there exactly for a lawful cluster, and what is told in its place is what is wrong.
use Rattle.std.specs.Prelude.{Err}
use mathlib.Core.Path.{◌≡◌, sym, ◌∙◌}
use borrow.Author.Rules.{rules}
use Rattle.config.specs.Answers.{checked_answer}
use Rattle.config.proofs.Clusters.{judged-ok, judged-err}
use Rattle.config.proofs.cluster.Config.check.Goals as goal

pub returns-in_err-least : goal.returns-in_err-least
unfolding checked_answer
returns-in_err-least c =
    let e : c.from_residual.result ≡ Err c.in_err-least.field-0.0 = search rules in
    e ∙ judged-err _ _ _ (sym c.least.ensures ∙ c.in_err-least.was)

pub returns : goal.returns
unfolding checked_answer
returns c = judged-ok _ _ _ (sym c.least.ensures ∙ c.in_ok-least.was)
