-- `of` meets its contract: each mark is that of its field.
use Rattle.format.specs.Table.{register_mark}
use Rattle.writer.proofs.outline.Marks.of.Goals as goal

pub returns-clause-marks : goal.returns-clause-marks
unfolding register_mark
returns-clause-marks c = cc
