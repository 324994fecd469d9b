-- `total_fits` meets its contract.
use mathlib.Core.Path.{sym}
use borrow.Author.Tests.{le-leb, lt-leb}
use Rattle.ledger.specs.Checks.{total_fits}
use Rattle.ledger.proofs.check.total_fits.Goals as goal

pub returns-then-count-total : goal.returns-then-count-total
unfolding total_fits
returns-then-count-total c = simp (sym c.from-count.ensures, le-leb _ _ c.if-count-total.true)

pub returns-else-count-total : goal.returns-else-count-total
unfolding total_fits
returns-else-count-total c = simp (sym c.from-count.ensures, lt-leb _ _ c.if-count-total.false)
