-- `fits` meets its contract: what of the record test is not about the replica may be tested first.
use mathlib.Core.Path.{sym, ◌∙◌}
use Rattle.desk.proofs.Desks.{sound-first}
use Rattle.desk.proofs.record.Desk.fits.Goals as goal

pub returns-then-sound : goal.returns-then-sound
returns-then-sound c = rw (sound-first, sym c.sound.ensures ∙ c.if-sound.true) c.fits.ensures

pub returns-else-sound : goal.returns-else-sound
returns-else-sound c = rw (sound-first, sym c.sound.ensures ∙ c.if-sound.false) c.if-sound.false
