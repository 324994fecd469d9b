-- `put` meets its contract.
use mathlib.Core.Path.{refl}
use Rattle.ledger.specs.Changes.{added}
use Rattle.ledger.proofs.ledger.Ledger.put.Goals as goal

pub returns : goal.returns
unfolding added
returns c = refl
