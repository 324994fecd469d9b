-- Hear step by step: what becomes of a message that was read, and what a reply does that is taken, by the margin of the servers that have answered.
use Rattle.std.specs.Prelude.{ℕ, cond, eqb, ℤ, pos, Result, Ok, Err}
use Rattle.std.specs.Int.Signed.{lt_z}
use Rattle.config.specs.Refusals.{refusal}
use Rattle.config.specs.declared.answer.Refusal.{Refusal}
use Rattle.message.specs.declared.envelope.Envelope.{Envelope}
use Rattle.ledger.specs.declared.ledger.Ledger.{Ledger}
use Rattle.ledger.specs.declared.join.Compared.{Compared}
use Rattle.replica.specs.declared.register.Register.{Register}
use Rattle.replica.specs.declared.replica.Replica.{Replica}
use Rattle.replica.specs.Replicas.{compared_of}
use Rattle.desk.specs.declared.record.Desk.{Desk}
use Rattle.desk.specs.declared.record.Heard.{Heard}
use Rattle.desk.specs.declared.hear.Listening.{Listening}
use Rattle.desk.specs.Hears.{accepted, stray, timely, moved, answered_by, choose_of, finished}

-- refused where rows or values do not agree or the reply lacks a transfer of the desk's; else whether it has one that the desk lacks
abbrev pub outcome : Result Compared Refusal → Result Listening Refusal
outcome (Ok y) = cond y.ahead (Err (refusal 6)) (cond y.lacks (Ok Listening.Larger) (Ok Listening.Equal))
outcome (Err k) = Err k

-- 7, "late", or 6
unfoldable pub listening_of : Desk → Envelope → Replica → Result Listening Refusal
listening_of x e r =
    cond (stray x e) (Err (refusal 7)) (cond (timely x e) (outcome (compared_of x.config.n x.replica r)) (Ok Listening.Late))

-- a ledger with a register
abbrev pub pair : Ledger → Register → Replica
pair l g = record { ledger = l; register = g }

-- an equal ledger, where g is the register after joining, m are the servers that have answered, and y is their margin: "Hear and the C host take this number
-- and decide by its sign" (paper 02, N1)
unfoldable pub mark_in : Desk → Register → ℕ → ℤ → Heard
mark_in x g m y =
    let p = pair x.replica.ledger g in
    cond (lt_z (pos 0) y) (cond (eqb x.operation.phase 1) (choose_of x p) (accepted (finished x p)))
    (accepted (moved x p x.round (answered_by x.operation m x.operation.restarts)))
