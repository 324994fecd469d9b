-- `sum_of` meets its contract: the total is the sum of the start weights that were passed, each below 2 ^ 16.
use native.Mathlib.Omega.{arith}
use borrow.Author.Rules.{rules}
use mathlib.Core.Path.{◌≡◌, sym, ap₂, ◌∙◌}
use Prim.Native.Nat.{◌+◌, ◌≤◌}
use lib.ListN.{get_or}
use Rattle.quorums.proofs.Sums.{sum-none, sum-next}
use Rattle.config.proofs.cluster.sum_of.Goals as goal

pub loop-start-init : goal.loop-start-init
loop-start-init c = (sym (sum-none _), omega arith)

pub loop-start-preserved : goal.loop-start-preserved
loop-start-preserved c =
    let small : get_or c.args.starts.now c.loop-start.start-index 0 ≤ 65535 = search rules in
    (sym (sum-next c.loop-start.start-index _ ∙ ap₂ ◌+◌ (sym c.loop-start.invariant.0) (sym c.from-total.ensures)), omega (arith, c.from-total.ensures, small))

pub returns : goal.returns
returns c =
    let e : c.loop-start.start-index ≡ 16 = omega arith in
    (rw e at c.loop-start.invariant.0, omega arith)
