-- `number` meets its contract: a number that stands is its bytes, and one that does not is none.
use Rattle.writer.proofs.Places.{puts-nothing}
use Rattle.writer.proofs.Puts.{number-absent, number-present}
use Rattle.writer.proofs.pen.Pen.number.Goals as goal

pub bytes-requires-clause-room : goal.bytes-requires-clause-room
bytes-requires-clause-room c = rw (number-present c.args.stands c.args.width c.args.x c.if-stands-ne0.true) at c.requires.room

pub returns-then-stands-ne0 : goal.returns-then-stands-ne0
returns-then-stands-ne0 c = rw (number-present c.args.stands c.args.width c.args.x c.if-stands-ne0.true) c.bytes.ensures

pub returns-else-stands-ne0 : goal.returns-else-stands-ne0
returns-else-stands-ne0 c = puts-nothing (number-absent _ _ _ c.if-stands-ne0.false)
