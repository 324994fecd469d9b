-- `above_floor` meets its contract: a weight is above the floor exactly when it is no less than the least weight.
use Rattle.std.specs.Prelude.{Err}
use native.Mathlib.Omega.{arith}
use mathlib.Core.Path.{◌≡◌, sym, ap, ◌∙◌}
use borrow.Author.Rules.{rules}
use Rattle.std.proofs.Common.{to_z-of_z}
use Rattle.config.specs.Answers.{decide, above_answer}
use Rattle.config.proofs.Clusters.{judged-ok, judged-err, least-told, least-small, lawful-valid, above-not-less}
use Rattle.config.proofs.cluster.Config.above_floor.Goals as goal

pub returns-in_err-least : goal.returns-in_err-least
unfolding above_answer
returns-in_err-least c =
    let e : c.from_residual.result ≡ Err c.in_err-least.field-0.0 = search rules in
    e ∙ judged-err _ _ _ (sym c.least.ensures ∙ c.in_err-least.was)

pub at_least-requires : goal.at_least-requires
at_least-requires c =
    let t = least-told _ _ (sym c.least.ensures ∙ c.in_ok-least.was) in
    omega (arith, t.1, least-small _ t.0)

pub returns : goal.returns
unfolding above_answer
returns c =
    let is = sym c.least.ensures ∙ c.in_ok-least.was in
    let t = least-told _ _ is in
    let above = sym (ap decide (above-not-less c.args.self.now c.args.weight (lawful-valid _ t.0))) in
    (simp (to_z-of_z c.ranges.weight, t.1) at (ap decide c.at_least.ensures)) ∙ above ∙ judged-ok _ _ _ is
