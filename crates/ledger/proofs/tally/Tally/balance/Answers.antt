-- `balance` meets its contract: after i turns both sides are the sums over the servers below i that the map names.
use native.Mathlib.Omega.{arith}
use mathlib.Core.Path.{refl, sym, ◌∙◌}
use Rattle.config.specs.Cluster.{start_of}
use Rattle.config.proofs.Clusters.{valid-bounds}
use Rattle.ledger.proofs.Weights.{counted_none, counted-named, counted-passed}
use Rattle.ledger.proofs.Balances.{counted-sides}
use Rattle.ledger.proofs.tally.Tally.balance.Goals.{then-names, else-names}
use Rattle.ledger.proofs.tally.Tally.balance.Goals as goal

pub loop-i-init : goal.loop-i-init
loop-i-init c = ((valid-bounds _ c.requires).most, counted_none _ _ _ _)

pub loop-i-preserved : goal.loop-i-preserved
unfolding start_of
loop-i-preserved c =
    let sums = c.loop-i.invariant.1 in
    let named = sym c.names.ensures in (
      c.loop-i.invariant.0,
      elim c.if-names.branch [
        | then-names w ↦
            counted-named sums c.args.self.now.takes_small c.args.self.now.gives_small c.from-start.ensures (omega arith) (named ∙ w.if-names.true) refl w.held-is w.given-is
        | else-names w ↦
            counted-passed sums c.args.self.now.takes_small c.args.self.now.gives_small c.from-start.ensures (omega arith) (named ∙ w.if-names.false) refl w.held-is w.given-is
      ],
    )

pub returns : goal.returns
returns c = counted-sides _ _ _ _ _ _ _ _ _ c.loop-i.invariant.1 (omega arith) (omega arith)
