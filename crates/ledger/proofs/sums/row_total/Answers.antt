-- `row_total` meets its contract: the total is that of the cells that have been looked at.
use native.Mathlib.Omega.{arith}
use mathlib.Core.Path.{sym}
use lib.ListN.{get_or}
use Rattle.quorums.proofs.Sums.{sum-none, sum-next}
use Rattle.ledger.proofs.sums.row_total.Goals as goal

pub loop-amount-init : goal.loop-amount-init
loop-amount-init c = (sym (sum-none _), omega arith)

pub loop-amount-preserved : goal.loop-amount-preserved
loop-amount-preserved c =
    let l = c.loop-amount in
    (omega (arith, l.invariant.0, sum-next l.amount-index (λ j. get_or c.args.row.now j 0), c.from-total.ensures), omega (arith, l.invariant.1, c.from-total.ensures, c.type_inv.row l.amount-index))
