-- `kept` meets its contract: the entries that were passed are in their places, none of them above 16,000, and there are zeros after them.
use native.Mathlib.Omega.{arith}
use mathlib.Core.Logic.{⊎_elim}
use mathlib.Core.Path.{◌≡◌}
use Rattle.config.proofs.Filled.{short, many, large, filled_none, filled-turn, filled-all}
use Rattle.config.proofs.list.kept.Goals as goal

pub returns-then-starts-n : goal.returns-then-starts-n
returns-then-starts-n c = ⊎_elim (short _ _) (λ h. many _ _ h.0 h.1) c.then-starts-n.either

pub returns-then-start-gt-MOST_WEIGHT : goal.returns-then-start-gt-MOST_WEIGHT
returns-then-start-gt-MOST_WEIGHT c =
    let x = c.loop-i.invariant in
    large _ _ x.long x.few c.loop-i.i (omega (arith, x.long, c.loop-i-test.true)) c.if-start-gt-MOST_WEIGHT.true

pub loop-i-init : goal.loop-i-init
loop-i-init c = filled_none _ _ c.if-starts-n.false c.if-n-gt-MOST_SERVERS.false

pub loop-i-preserved : goal.loop-i-preserved
loop-i-preserved c =
    let x = c.loop-i.invariant in
    filled-turn x (omega (arith, x.long, c.loop-i-test.true)) c.if-start-gt-MOST_WEIGHT.false

pub returns : goal.returns
returns c =
    let x = c.loop-i.invariant in
    let e : c.loop-i.i ≡ c.args.n = omega (arith, x.long, x.most, c.loop-i-test.false) in
    filled-all _ _ _ (rw e at x)
