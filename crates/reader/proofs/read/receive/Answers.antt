-- `receive` meets its contract: the refusal, or what was taken beside the ledger.
use Rattle.std.proofs.Common.{sym}
use Rattle.reader.proofs.Outcomes.{passed-on}
use Rattle.reader.proofs.Answered.{message-refused, message-passed}
use Rattle.reader.proofs.read.receive.Goals as goal

pub returns-in_err-taken : goal.returns-in_err-taken
returns-in_err-taken c =
    passed-on c.from_residual.ensures (message-refused _ _ _ (sym c.in_err-taken.ensures.0))

pub returns : goal.returns
returns c = message-passed _ _ _ _ (sym c.in_ok-taken.ensures.0) c.in_ok-taken.ensures.1
