-- `measure` meets its contract: the sizes of what stands add up to the message's.
use Rattle.writer.specs.Outlines.{size_of}
use Rattle.writer.proofs.outline.measure.Goals as goal

pub returns : goal.returns
unfolding size_of
returns c = rw (c.of-marks.ensures.marks, c.stamp_bytes.ensures, c.from.ensures)
