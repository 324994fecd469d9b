-- `fresh` meets its contract: a repeat has its value at every index.
use mathlib.Core.Path.{refl}
use lib.ListN.{get_or-replicate}
use Rattle.ledger.proofs.ledger.Ledger.fresh.Goals as goal

pub returns : goal.returns
returns c = (refl, λ k l. get_or-replicate 16 k 0 0 l, λ k l. get_or-replicate 256 k 0 0 l)
