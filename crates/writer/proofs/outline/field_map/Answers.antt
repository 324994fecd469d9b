-- `field_map` meets its contract: the map is the sum of its bits.
use Rattle.writer.proofs.Outlines.{map-sum}
use Rattle.writer.proofs.outline.field_map.Goals as goal

pub returns : goal.returns
returns c = rw (map-sum, c.of-marks.ensures.marks)
