-- `write` meets its contract: the verdict on the envelope and the replica is the reader's on their bytes.
use Rattle.std.proofs.lemmas.Result.{err_from_is_err_and}
use mathlib.Core.Path.{◌≡◌, sym, ap, ◌∙◌}
use Rattle.message.specs.Envelopes.{message_of}
use Rattle.message.specs.Answers.{check, verdict_of}
use Rattle.message.specs.Faults.{fault_of}
use Rattle.message.proofs.Numbers.{accepted-check}
use Rattle.message.proofs.Faults.{fault-is-check}
use Rattle.writer.proofs.Writes.{write-refused, write-taken}
use Rattle.writer.proofs.call.write.Goals.{After-fault}
use Rattle.writer.proofs.call.write.Goals as goal

-- the reader's number
number : (c : After-fault) → let a = c.args in check a.config.now (message_of a.config.now a.envelope.now a.replica.now) ≡ fault_of a.config.now a.envelope.now a.replica.now
number c = let t = c.known.ensures in fault-is-check _ _ _ t.0 t.1

pub returns-in_err-fault : goal.returns-in_err-fault
returns-in_err-fault c =
    let p = err_from_is_err_and c.from_residual.result c.from_residual.ensures.1 in
    rw (p.1, p.2)
    (write-refused _ _ _ _ _ _ (ap verdict_of (number (goal.at.returns-in_err-fault c).After-fault) ∙ sym c.fault.ensures ∙ c.in_err-fault.was))

pub put-requires : goal.put-requires
put-requires c = accepted-check _ (sym c.fault.ensures ∙ c.in_ok-fault.was)

pub returns : goal.returns
returns c =
    let none = accepted-check _ (sym c.fault.ensures ∙ c.in_ok-fault.was) in
    rw (← write-taken _ _ _ _ _ (number (goal.at.returns c).After-fault ∙ none)) c.put.ensures
