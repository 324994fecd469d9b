-- `bytes` meets its contract: of the eight bytes of the number the last ones.
use Rattle.writer.proofs.Puts.{lent_bytes}
use Rattle.writer.proofs.pen.Pen.bytes.Goals as goal

pub put-requires : goal.put-requires
put-requires c = rw (lent_bytes _ _ _ c.requires.width c.to_be_bytes.ensures) c.requires.room

pub returns : goal.returns
returns c = rw (lent_bytes _ _ _ c.requires.width c.to_be_bytes.ensures) at c.put.ensures
