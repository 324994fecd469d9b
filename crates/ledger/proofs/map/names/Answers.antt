-- `names` meets its contract: a shift is a division.
use mathlib.Core.Path.{ap}
use Prim.Native.Nat.{◌/◌, ◌%◌, ◌^◌}
use lib.Dec.{eqb}
use Rattle.ledger.specs.Maps.{named}
use Rattle.ledger.proofs.map.names.Goals as goal

pub returns : goal.returns
unfolding named
returns c = ap (λ m. eqb (m / 2 ^ c.args.i % 2) 1) c.from.ensures
