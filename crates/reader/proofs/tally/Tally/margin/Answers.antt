-- `margin` meets its contract: after i turns both sides are the sums over the servers below i that the map names.
use Rattle.std.proofs.Common.{arith}
use mathlib.Core.Path.{refl, sym, ◌∙◌}
use borrow.Author.Tests.{eq-eqb, ne_eqb}
use Rattle.format.specs.Bytes.{bit}
use Rattle.config.specs.Cluster.{start_of}
use Rattle.config.proofs.Clusters.{lawful-valid, valid-bounds}
use Rattle.ledger.specs.Maps.{named}
use Rattle.ledger.proofs.Answers.{read_back}
use Rattle.ledger.proofs.Weights.{counted_none, counted-named, counted-passed}
use Rattle.ledger.proofs.Balances.{counted-sides, sides-margin}
use Rattle.reader.proofs.tally.Tally.margin.Goals.{then-bit-eq1, else-bit-eq1}
use Rattle.reader.proofs.tally.Tally.margin.Goals as goal

pub loop-i-init : goal.loop-i-init
loop-i-init c = ((valid-bounds _ (lawful-valid _ c.requires)).most, counted_none _ _ _ _)

pub loop-i-preserved : goal.loop-i-preserved
unfolding named bit start_of
loop-i-preserved c =
    let sums = c.loop-i.invariant.1 in
    let read = c.bit.ensures.0 in (
      c.loop-i.invariant.0,
      elim c.if-bit-eq1.branch [
        | then-bit-eq1 w ↦
            counted-named sums c.args.self.now.takes_small c.args.self.now.gives_small c.from-start.ensures (omega arith) (eq-eqb _ 1 (sym read ∙ w.if-bit-eq1.true)) refl w.held-is w.given-is
        | else-bit-eq1 w ↦
            counted-passed sums c.args.self.now.takes_small c.args.self.now.gives_small c.from-start.ensures (omega arith) (ne_eqb _ 1 (λ e. w.if-bit-eq1.false (read ∙ e))) refl w.held-is w.given-is
      ],
    )

pub returns : goal.returns
returns c =
    read_back c.difference.result c.difference.type_inv
    ∙ c.difference.ensures
    ∙ sides-margin (counted-sides c.args.config.now _ _ c.args.map _ _ _ _ _ c.loop-i.invariant.1 (omega arith) (omega arith))
