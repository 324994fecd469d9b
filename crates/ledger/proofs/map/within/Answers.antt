-- `within` meets its contract: after n bits nothing of the map is left.
use native.Mathlib.Omega.{arith}
use mathlib.Core.Path.{sym, ◌∙◌}
use Rattle.config.proofs.Clusters.{valid-bounds}
use Rattle.ledger.specs.Maps.{map_of}
use Rattle.ledger.proofs.Maps.{shifted-zero}
use Rattle.ledger.proofs.map.within.Goals as goal

pub overflow_cast-result : goal.overflow_cast-result
overflow_cast-result c = omega (arith, valid-bounds _ (sym c.valid.ensures ∙ c.if-valid.true))

pub overflow_shr-result : goal.overflow_shr-result
overflow_shr-result c = omega (arith, valid-bounds _ (sym c.valid.ensures ∙ c.if-valid.true))

pub returns-then-valid : goal.returns-then-valid
unfolding map_of
returns-then-valid c = simp (sym c.valid.ensures ∙ c.if-valid.true, c.from.ensures, shifted-zero)

pub returns-else-valid : goal.returns-else-valid
unfolding map_of
returns-else-valid c = simp (c.if-valid.false, sym c.valid.ensures ∙ c.if-valid.false)
