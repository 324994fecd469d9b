-- `lacks` meets its contract: the ledger has the transfers of every giver before i.
use native.Mathlib.Omega.{arith}
use mathlib.Core.Path.{◌≡◌, sym, ap}
use mathlib.Core.Bool.{not}
use borrow.Author.Tests.{le-leb, lt-leb}
use Rattle.quorums.proofs.Sums.{all_none, all-next, all-fails}
use Rattle.ledger.specs.Joins.{has_at, lacks}
use Rattle.ledger.proofs.ledger.Ledger.lacks.Goals as goal

pub loop-i-init : goal.loop-i-init
loop-i-init c = all_none _

pub returns-then-self-i : goal.returns-then-self-i
unfolding lacks
returns-then-self-i c = sym (ap not (all-fails 16 (has_at c.args.self c.args.other) _ c.loop-i-test.true (lt-leb _ _ c.if-self-i.true)))

pub loop-i-preserved : goal.loop-i-preserved
loop-i-preserved c = all-next _ (has_at c.args.self c.args.other) c.loop-i.invariant (le-leb _ _ c.if-self-i.false)

pub returns : goal.returns
unfolding lacks
returns c =
    let e : c.loop-i.i ≡ 16 = omega arith in
    sym (ap not (rw e at c.loop-i.invariant))
