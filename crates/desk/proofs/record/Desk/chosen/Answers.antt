-- `chosen` meets its contract: a write has a stamp left.
use native.Mathlib.Omega.{arith}
use Rattle.desk.proofs.Choices.{stamp-left}
use Rattle.desk.proofs.record.Desk.chosen.Goals as goal

pub overflow_add-result : goal.overflow_add-result
overflow_add-result c =
    omega (arith, stamp-left c.args.self.now c.args.held c.requires.1 c.if-self-ne-WRITE.false)
