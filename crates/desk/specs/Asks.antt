-- Ask server i (paper 01, "Desk"): 9, 1, 13. It writes a request with round and pair, and the operation's note.
use Rattle.std.specs.Prelude.{ℕ, cond, List, eqb, ltb, Err}
use Rattle.config.specs.declared.answer.Refusal.{Refusal}
use Rattle.config.specs.Refusals.{refusal}
use Rattle.message.specs.declared.envelope.Envelope.{Envelope}
use Rattle.message.specs.Envelopes.{request, message_of}
use Rattle.message.specs.Answers.{Written, place}
use Rattle.desk.specs.declared.record.Desk.{Desk}
use Rattle.desk.specs.Operations.{running}
use Rattle.desk.specs.Desks.{fits}

abbrev pub request_envelope : Desk → ℕ → Envelope
request_envelope x i = record { kind = request; server = i; desk = x.number; round = x.round; note = x.operation.note }

-- its bytes
abbrev pub request_message : Desk → ℕ → List ℕ
request_message x i = message_of x.config (request_envelope x i) x.replica

-- a refusal leaves the buffer as it was
abbrev pub unwritten : Refusal → List ℕ → Written
unwritten k out = record { answer = Err k; out = out }

unfoldable pub ask_of : Desk → ℕ → List ℕ → ℕ → Written
ask_of x i out at =
    cond (fits x)
    (cond (eqb x.operation.mode running)
    (cond (ltb i x.config.n) (place (request_message x i) out at) (unwritten (refusal 1) out))
    (unwritten (refusal 9) out))
    (unwritten (refusal 1) out)
