-- `receive_into` meets its contract: what the message was found to say, and the ledger that was kept.
use Rattle.reader.proofs.Outcomes.{passed-on}
use Rattle.reader.proofs.Answered.{taken_refused, taken-passed, ledger-kept}
use Rattle.reader.proofs.read.receive_into.Goals as goal

pub returns-in_err-found : goal.returns-in_err-found
returns-in_err-found c =
    (passed-on c.from_residual.ensures (taken_refused _ _ _ c.in_err-found.ensures.ends), ledger-kept _ _ _ c.in_err-found.ensures.keeps)

pub returns : goal.returns
returns c = (rw c.kept.ensures (taken-passed _ _ _ c.in_ok-found.ensures.ends), ledger-kept _ _ _ c.in_ok-found.ensures.keeps)
