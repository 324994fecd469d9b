-- `ask` meets its contract: what is not about the replica is tested first, and the writer tests the rest as it writes.
use native.Mathlib.Omega.{arith}
use mathlib.Core.Path.{◌≡◌, refl, sym, ◌∙◌}
use mathlib.Core.Bool.{true}
use Rattle.config.proofs.Clusters.{valid-bounds}
use Rattle.desk.specs.Desks.{sound}
use Rattle.desk.proofs.Desks.{sound-told, number-told}
use Rattle.desk.proofs.Asks.{ask-unsound, ask-idle, ask-beyond, ask-sends}
use Rattle.desk.proofs.record.Desk.ask.Goals.{Else-not-sound}
use Rattle.desk.proofs.record.Desk.ask.Goals as goal

sounds : (c : Else-not-sound) → let x = c.args.self.now in sound x ≡ true
sounds c = sym c.sound.ensures ∙ c.if-not-sound.false

pub returns-then-not-sound : goal.returns-then-not-sound
returns-then-not-sound c = rw (ask-unsound c.args.self.now c.args.server _ c.args.at (sym c.sound.ensures ∙ c.if-not-sound.true)) (refl, refl)

pub returns-then-fits : goal.returns-then-fits
returns-then-fits c =
    let s = sounds (goal.at.returns-then-fits c).Else-not-sound in
    rw (ask-idle c.args.self.now c.args.server _ c.args.at s c.if-self-ne-RUNNING.true, sym c.fits.ensures ∙ c.if-fits.true) (refl, refl)

pub returns-then-self-ne-RUNNING : goal.returns-then-self-ne-RUNNING
returns-then-self-ne-RUNNING c =
    let s = sounds (goal.at.returns-then-self-ne-RUNNING c).Else-not-sound in
    rw (ask-idle c.args.self.now c.args.server _ c.args.at s c.if-self-ne-RUNNING.true, sym c.fits.ensures ∙ c.if-fits.false) (refl, refl)

pub returns-then-self-server : goal.returns-then-self-server
returns-then-self-server c =
    rw (ask-beyond c.args.self.now c.args.server _ c.args.at c.if-self-ne-RUNNING.false c.if-self-server.true) (refl, refl)

pub overflow_cast-envelope : goal.overflow_cast-envelope
overflow_cast-envelope c =
    let t = sound-told _ (sounds (goal.at.overflow_cast-envelope c).Else-not-sound) in
    omega (arith, (valid-bounds _ t.valid).most)

pub overflow_cast-envelope-2 : goal.overflow_cast-envelope-2
overflow_cast-envelope-2 c =
    let t = sound-told _ (sounds (goal.at.overflow_cast-envelope-2 c).Else-not-sound) in
    omega (arith, (number-told _ t.number_in).1)

pub returns : goal.returns
returns c =
    let s = sounds (goal.at.returns c).Else-not-sound in
    rw (ask-sends c.args.self.now c.args.server _ c.args.at s c.if-self-ne-RUNNING.false c.if-self-server.false) c.send.ensures
