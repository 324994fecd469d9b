-- `fields` meets its contract: it hands on all but the value.
use Rattle.std.proofs.Common.{sym}
use Rattle.reader.proofs.Outcomes.{passed-on}
use Rattle.reader.proofs.Answered.{fields-refused, fields-passed}
use Rattle.reader.proofs.read.fields.Goals as goal

pub returns-in_err-envelope : goal.returns-in_err-envelope
returns-in_err-envelope c =
    passed-on c.from_residual.ensures (fields-refused _ _ _ (sym c.in_err-envelope.ensures))

pub returns : goal.returns
returns c = rw c.tag.ensures (fields-passed _ _ _ (sym c.in_ok-envelope.ensures))
