-- `least` meets its contract: the start weights are lawful exactly where the sum of all 16 is that of the first n, and these pass by their sum and the least
-- of them.
use mathlib.Core.Path.{◌≡◌, sym, ap, ◌∙◌}
use mathlib.Core.Bool.{true}
use Rattle.std.specs.Prelude.{ok_or}
use Rattle.config.specs.Refusals.{refusal}
use Rattle.config.specs.Cluster.{valid_of, start_of}
use Rattle.config.specs.Answers.{least_answer}
use Rattle.config.proofs.Clusters.{valid-bounds, least-beyond, least-found, least-of-valid}
use Rattle.config.proofs.cluster.Config.least.Goals.{Else-not-valid}
use Rattle.config.proofs.cluster.Config.least.Goals as goal

-- n and f are within bounds
within : (c : Else-not-valid) → valid_of c.args.self.now ≡ true
within c = sym c.valid.ensures ∙ c.if-not-valid.false

pub returns-then-not-valid : goal.returns-then-not-valid
unfolding least_answer
returns-then-not-valid c = simp (sym c.valid.ensures ∙ c.if-not-valid.true)

pub first_of-first-requires : goal.first_of-first-requires
first_of-first-requires c = (valid-bounds _ (within (goal.at.first_of-first-requires c).Else-not-valid)).most

pub returns-then-sum_of-first : goal.returns-then-sum_of-first
unfolding least_answer start_of
returns-then-sum_of-first c =
    let v = within (goal.at.returns-then-sum_of-first c).Else-not-valid in
    simp (v, least-beyond c.args.self.now v _ c.first_of-first.ensures (λ same. c.if-sum_of-first.true (c.sum_of.ensures.0 ∙ same)))

pub least_by-requires : goal.least_by-requires
unfolding valid_of
least_by-requires c = within (goal.at.least_by-requires c).Else-not-valid

pub returns : goal.returns
unfolding start_of
returns c =
    let v = within (goal.at.returns c).Else-not-valid in
    c.ok_or.ensures.value
    ∙ ap (λ o. ok_or o (refusal 15)) (c.least_by.ensures ∙ least-found c.args.self.now v _ c.first_of-first.ensures (sym c.sum_of.ensures.0 ∙ c.if-sum_of-first.false))
    ∙ least-of-valid _ v
