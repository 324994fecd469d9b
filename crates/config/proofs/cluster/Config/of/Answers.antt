-- `of` meets its contract: what the whole list comes to gives the least weight of what is kept, and what is wrong with what is kept is what is wrong with the
-- list.
use Rattle.std.specs.Prelude.{Ok, Err, ok_or}
use native.Mathlib.Omega.{arith}
use mathlib.Core.Path.{◌≡◌, sym, ap, ap₂, ◌∙◌}
use mathlib.Core.Bool.{true}
use borrow.Author.Rules.{rules}
use Rattle.config.specs.Refusals.{refusal}
use Rattle.config.specs.Cluster.{House, house_of, cluster_of, in_bounds, config_of}
use Rattle.config.specs.Answers.{least_answer}
use Rattle.config.proofs.Clusters.{in_bounds_lem, judged-ok, judged-err, least-told}
use Rattle.config.proofs.Filled.{Gathered, gathered_none, gathered-turn, filled-all}
use Rattle.config.proofs.Houses.{bounds-refused, length-refused, entry-refused, gathered-least, given-answer}
use Rattle.config.proofs.cluster.Config.of.Goals.{After-ok_or, Else-not-in_bounds, Start}
use Rattle.config.proofs.cluster.Config.of.Goals as goal

-- what is given
abbrev house : Start → House
house s = house_of s.args.n s.args.f s.args.starts.now

-- n and f are within bounds
within : (c : Else-not-in_bounds) → in_bounds c.args.n c.args.f ≡ true
within c = sym c.in_bounds.ensures ∙ c.if-not-in_bounds.false

-- the whole list is passed
gathered : (c : After-ok_or) →
    let a = c.args in
    let l = c.loop-i in
    Gathered a.n a.starts.now l.kept l.total l.lowest a.n
gathered c =
    let x = c.loop-i.invariant in
    let e : c.loop-i.i ≡ c.args.n = omega (arith, x.filled.long, x.filled.most, c.loop-i-test.false) in
    rw e at x

-- the least weight, or what is wrong, is that of what is kept
least : (c : After-ok_or) → c.ok_or.result ≡ least_answer (config_of (house_of c.args.n c.args.f c.args.starts.now))
least c =
    let l = c.loop-i in
    let v : in_bounds c.args.n c.args.f ≡ true = sym c.in_bounds.ensures ∙ c.if-not-in_bounds.false in
    c.ok_or.ensures.value ∙ ap (λ o. ok_or o (refusal 15)) c.least_by.ensures
    ∙ gathered-least (house_of c.args.n c.args.f c.args.starts.now) l.kept l.total l.lowest v (gathered c)

pub returns-then-not-in_bounds : goal.returns-then-not-in_bounds
returns-then-not-in_bounds c = bounds-refused (house (goal.at.returns-then-not-in_bounds c).Start) (sym c.in_bounds.ensures ∙ c.if-not-in_bounds.true)

pub returns-then-starts-n : goal.returns-then-starts-n
returns-then-starts-n c = length-refused (house (goal.at.returns-then-starts-n c).Start) (within (goal.at.returns-then-starts-n c).Else-not-in_bounds) c.if-starts-n.true

pub loop-i-init : goal.loop-i-init
loop-i-init c = gathered_none _ _ c.if-starts-n.false (in_bounds_lem _ _ (within (goal.at.loop-i-init c).Else-not-in_bounds)).most

pub returns-then-start-gt-MOST_WEIGHT : goal.returns-then-start-gt-MOST_WEIGHT
returns-then-start-gt-MOST_WEIGHT c =
    entry-refused (house (goal.at.returns-then-start-gt-MOST_WEIGHT c).Start) (within (goal.at.returns-then-start-gt-MOST_WEIGHT c).Else-not-in_bounds) c.loop-i.i
    (omega (arith, c.loop-i.invariant.filled.long, c.loop-i-test.true)) c.if-start-gt-MOST_WEIGHT.true

pub loop-i-preserved : goal.loop-i-preserved
loop-i-preserved c =
    let x = c.loop-i.invariant in
    gathered-turn x (omega (arith, x.filled.long, c.loop-i-test.true)) c.if-start-gt-MOST_WEIGHT.false c.from-total.ensures c.min-lowest.ensures

pub returns-in_err-least : goal.returns-in_err-least
returns-in_err-least c =
    let h = house (goal.at.returns-in_err-least c).Start in
    let e : c.from_residual.result ≡ Err c.in_err-least.field-0.0 = search rules in
    e ∙ judged-err (config_of h) _ _ (sym (least (goal.at.returns-in_err-least c).After-ok_or) ∙ c.in_err-least.was) ∙ given-answer h

pub returns : goal.returns
returns c =
    let s = (goal.at.returns c).After-ok_or in
    let h = house (goal.at.returns c).Start in
    let is : least_answer (config_of h) ≡ Ok c.in_ok-least.least = sym (least s) ∙ c.in_ok-least.was in
    ap₂ (λ x k. Ok (record { config = cluster_of h.n h.f x; least = k })) (filled-all _ _ _ (gathered s).filled) (least-told (config_of h) _ is).1
    ∙ judged-ok (config_of h) _ _ is ∙ given-answer h
