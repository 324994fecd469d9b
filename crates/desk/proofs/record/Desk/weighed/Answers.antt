-- `weighed` meets its contract: a record that fails the first part of its test fails the test.
use mathlib.Core.Path.{sym, ◌∙◌}
use Rattle.desk.proofs.Desks.{unsound-unfit}
use Rattle.desk.proofs.Margins.{unfit-weighed}
use Rattle.desk.proofs.record.Desk.weighed.Goals as goal

pub returns-then-not-sound : goal.returns-then-not-sound
returns-then-not-sound c =
    unfit-weighed c.args.self.now _ (unsound-unfit c.args.self.now (sym c.sound.ensures ∙ c.if-not-sound.true))
