-- `faults` meets its contract: the rows below n, and what is beyond.
use Prim.Native.Nat.{◌+◌}
use mathlib.Core.Path.{ap₂}
use Rattle.ledger.specs.Sums.{faults_of}
use Rattle.ledger.proofs.ledger.Ledger.faults.Goals as goal

pub returns : goal.returns
unfolding faults_of
returns c =
    let below = c.add_rows-below.ensures in
    (ap₂ ◌+◌ below.0 c.left_over.ensures.0, below.2, below.3)
