-- `send` meets its contract: what is sent is what the reader takes.
use mathlib.Core.Path.{◌≡◌, refl, sym, ◌∙◌}
use Rattle.quorums.proofs.Tests.{both}
use Rattle.message.specs.Faults.{lawful, fault_of, send_of}
use Rattle.message.proofs.Found.{no-fault, fault-sends}
use Rattle.writer.proofs.call.send.Goals.{Else-not-sends}
use Rattle.writer.proofs.call.send.Goals as goal

none : (c : Else-not-sends) → let a = c.args in fault_of a.config.now a.envelope.now a.replica.now ≡ 0
none c =
    let a = c.args in
    let t = both (lawful a.config.now a.envelope.now) _ (sym c.sends.ensures ∙ c.if-not-sends.false) in
    no-fault _ _ _ t.0 t.1

pub returns-then-not-sends : goal.returns-then-not-sends
unfolding send_of
returns-then-not-sends c = rw (sym c.sends.ensures ∙ c.if-not-sends.true) (refl, refl)

pub put-requires : goal.put-requires
put-requires c = none (goal.at.put-requires c).Else-not-sends

pub returns : goal.returns
returns c = rw (← fault-sends _ _ _ (none (goal.at.returns c).Else-not-sends) _ _) c.put.ensures
