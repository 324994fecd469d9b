-- `above_floor` meets its contract: every server before i is above the floor.
use Prim.Native.Nat.{ℕ, ◌+◌}
use native.Mathlib.Omega.{arith}
use mathlib.Core.Path.{◌≡◌, sym, ◌∙◌}
use mathlib.Core.Bool.{Bool}
use borrow.Author.Tests.{lt-leb, le-leb}
use lib.Dec.{leb}
use lib.ListN.{get_or}
use Rattle.quorums.proofs.Sums.{all_none, all-next, all-fails}
use Rattle.config.specs.Cluster.{start_of}
use Rattle.config.proofs.Clusters.{lawful-valid, lawful-bounds, least-small}
use Rattle.ledger.proofs.Weights.{above_at, above_at_lem}
use Rattle.ledger.proofs.tally.Tally.above_floor.Goals.{After-from}
use Rattle.ledger.proofs.tally.Tally.above_floor.Goals as goal

abbrev tests : After-from → ℕ → Bool
tests c = above_at c.args.config.now c.args.self.now.received c.args.self.now.given

-- the test that the program makes
tested : (c : After-from) →
    let t = c.args.self.now in
    let i = c.loop-i.i in
    tests c i ≡ leb (get_or t.given i 0 + c.args.least) (c.from.result + get_or t.received i 0)
unfolding start_of
tested c =
    above_at_lem c.args.config.now c.args.self.now.received c.args.self.now.given _ _ _ (lawful-valid _ c.requires.0) c.from.ensures c.requires.1

pub loop-i-init : goal.loop-i-init
loop-i-init c = ((lawful-bounds _ c.requires.0).most, all_none _)

pub overflow_add-self : goal.overflow_add-self
overflow_add-self c = omega (arith, c.requires.1, least-small _ c.requires.0, c.args.self.now.gives_small.small c.loop-i.i)

pub returns-then-held-self : goal.returns-then-held-self
returns-then-held-self c =
    let at = (goal.at.returns-then-held-self c).After-from in
    sym (all-fails c.args.config.now.n (tests at) _ c.loop-i-test.true (tested at ∙ lt-leb _ _ c.if-held-self.true))

pub loop-i-preserved : goal.loop-i-preserved
loop-i-preserved c =
    let at = (goal.at.loop-i-preserved c).After-from in
    (c.loop-i.invariant.0, all-next c.loop-i.i (tests at) c.loop-i.invariant.1 (tested at ∙ le-leb _ _ c.if-held-self.false))
