-- `add_row` meets its contract: after j turns the first j cells are added.
use native.Mathlib.Omega.{arith}
use lib.ListN.{get_or-eq_default}
use Rattle.ledger.proofs.Tallies.{tally-all}
use Rattle.ledger.proofs.sums.add_row.Goals as goal

pub returns : goal.returns
returns c = tally-all _ _ _ c.loop-j.j c.loop-j.invariant (λ k g. get_or-eq_default c.args.row.now 0 (omega arith))
