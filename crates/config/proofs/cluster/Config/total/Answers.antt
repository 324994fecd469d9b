-- `total` meets its contract: it is there exactly where the least weight is, and is the sum of 16 start weights.
use Rattle.std.specs.Prelude.{Ok, Err}
use mathlib.Core.Path.{◌≡◌, sym, ap, ◌∙◌}
use borrow.Author.Rules.{rules}
use Rattle.config.specs.Cluster.{start_of}
use Rattle.config.specs.Answers.{total_answer}
use Rattle.config.proofs.Clusters.{judged-ok, judged-err, least-told, total-sum}
use Rattle.config.proofs.cluster.Config.total.Goals as goal

pub returns-in_err-least : goal.returns-in_err-least
unfolding total_answer
returns-in_err-least c =
    let e : c.from_residual.result ≡ Err c.in_err-least.field-0.0 = search rules in
    e ∙ judged-err _ _ _ (sym c.least.ensures ∙ c.in_err-least.was)

pub returns : goal.returns
unfolding total_answer start_of
returns c =
    let is = sym c.least.ensures ∙ c.in_ok-least.was in
    ap Ok (c.from.ensures ∙ c.sum_of.ensures.0 ∙ total-sum _ (least-told _ _ is).0) ∙ judged-ok _ _ _ is
