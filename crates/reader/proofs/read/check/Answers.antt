-- `check` meets its contract.
use Rattle.reader.proofs.Outcomes.{passed-on}
use Rattle.reader.proofs.Answered.{check-refused, check-passed}
use Rattle.reader.proofs.read.check.Goals as goal

pub returns-in_err-read_message : goal.returns-in_err-read_message
returns-in_err-read_message c =
    passed-on c.from_residual.ensures (check-refused _ _ _ c.in_err-read_message.ensures.ends)

pub returns : goal.returns
returns c = check-passed _ _ _ c.in_ok-read_message.ensures.ends
