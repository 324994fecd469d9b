-- `fits` meets its contract: the ledger's check first, then the register.
use mathlib.Core.Path.{sym, ◌∙◌}
use Rattle.replica.proofs.Told.{passed-fits, refused-fits}
use Rattle.replica.proofs.replica.Replica.fits.Goals as goal

pub returns-in-Ok : goal.returns-in-Ok
returns-in-Ok c = c.fits.ensures ∙ passed-fits _ _ (sym c.check.ensures ∙ c.in-Ok.is)

pub returns-in-Err : goal.returns-in-Err
returns-in-Err c = refused-fits _ _ _ (sym c.check.ensures ∙ c.in-Err.is)
