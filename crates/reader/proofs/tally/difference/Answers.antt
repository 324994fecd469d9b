-- `difference` meets its contract: both numbers are small enough that their signed readings, and the difference, are themselves.
use native.Mathlib.Omega.{arith}
use mathlib.Core.Path.{◌∙◌}
use mir.Facts.{to_z-of_z}
use Rattle.ledger.proofs.Answers.{gap_is, gap-fits}
use Rattle.reader.proofs.tally.difference.Goals as goal

pub overflow_sub-result : goal.overflow_sub-result
overflow_sub-result c = gap-fits c.args.a c.args.b (omega arith) (omega arith)

pub returns : goal.returns
returns c = to_z-of_z (overflow_sub-result c) ∙ gap_is c.args.a c.args.b (omega arith) (omega arith)
