-- `first_of` meets its contract: the total is the sum of the start weights that were passed, and a bound is reached by the least of them exactly where all of
-- them reach it.
use native.Mathlib.Omega.{arith}
use borrow.Author.Rules.{rules}
use mathlib.Core.Path.{◌≡◌, sym, ap, ap₂, ◌∙◌}
use Prim.Native.Nat.{◌+◌, ◌<◌, ◌≤◌, min}
use lib.Dec.{leb}
use lib.ListN.{get_or, length-take}
use Rattle.std.proofs.lemmas.List.{get_or-take}
use Rattle.quorums.proofs.Sums.{sum-none, sum-next, all_none, all-turn}
use Rattle.config.proofs.Lowest.{leb-most, leb-min-last}
use Rattle.config.proofs.cluster.first_of.Goals as goal

pub loop-start-init : goal.loop-start-init
loop-start-init c = record { total_is = sym (sum-none _); small = omega arith; lowest_is = λ b l. leb-most b l ∙ sym (all_none _) }

pub loop-start-preserved : goal.loop-start-preserved
loop-start-preserved c =
    let l = c.loop-start in
    let xs = c.args.starts.now in
    let within : l.start-index < c.args.n = omega (arith, c.loop-start-test.true, length-take c.args.n xs) in
    let entry : c.from-total.result ≡ get_or xs l.start-index 0 = c.from-total.ensures ∙ get_or-take c.args.n xs l.start-index 0 within in
    let bounded : get_or xs l.start-index 0 ≤ 65535 = search rules in
    let low = c.min-lowest.ensures in
    record {
      total_is = sym (sum-next l.start-index _ ∙ ap₂ ◌+◌ (sym l.invariant.total_is) (sym entry));
      small = omega (arith, entry, bounded);
      lowest_is =
          λ b k.
          ap (leb b) (low ∙ ap (min l.lowest) (get_or-take c.args.n xs l.start-index 0 within))
          ∙ all-turn l.start-index _ (leb b l.lowest) _ (l.invariant.lowest_is b k) (leb-min-last b l.lowest (get_or xs l.start-index 0));
    }

pub returns : goal.returns
returns c =
    let inv = c.loop-start.invariant in
    let e : c.loop-start.start-index ≡ c.args.n = omega (arith, c.loop-start-test.false, c.loop-start.auto.start-index-end, length-take c.args.n c.args.starts.now) in
    record { total-is = rw e at inv.total_is; total-small = omega arith; lowest-is = rw e at inv.lowest_is }
