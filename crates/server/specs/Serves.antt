-- Serve (paper 01, "Server"): message checks, 7, 6, 13 (requests only). A share is joined and nothing is written; a request is joined, and the reply
-- carries the pair after that.
use Rattle.std.specs.Prelude.{ℕ, Bool, true, false, cond, not, List, eqb, ltb, length, Ok, Err}
use Rattle.config.specs.Refusals.{by-verdict, refusal}
use Rattle.config.specs.declared.answer.Refusal.{Refusal}
use Rattle.config.specs.Refusals.{Number}
use Rattle.ledger.specs.Ledgers.{count_of}
use Rattle.message.specs.Answers.{fits as room, place, receive_of}
use Rattle.message.specs.declared.envelope.Envelope.{Envelope}
use Rattle.replica.specs.declared.replica.Replica.{Replica}
use Rattle.replica.specs.Replicas.{joinable, join}
use Rattle.message.specs.Envelopes.{request, reply, share, message_of}
use Rattle.server.specs.declared.record.Server.{Server}
use Rattle.server.specs.Servers.{fits, holding}

-- what serve comes to: its answer, the record, and the buffer
pub record Outcome : Type 0 where
  pub answer : Number
  pub server : Server
  pub out : List ℕ

-- a refusal leaves the record and the buffer as they were
abbrev pub refuse : Refusal → Server → List ℕ → Outcome
refuse k s out = record { answer = Err k; server = s; out = out }

-- 7: a reply, or a request for another server than i
abbrev pub stray_from : ℕ → Envelope → Bool
stray_from i e = cond (eqb e.kind share) false (cond (eqb e.kind request) (not (eqb e.server i)) true)

unfoldable pub stray : Server → Envelope → Bool
stray s e = stray_from s.number e

-- 6: a row of the server's own with a count above its own, or pairs that don't join
abbrev pub knows_more : Server → Replica → Bool
knows_more s r = ltb (count_of s.replica.ledger s.number) (count_of r.ledger s.number)

unfoldable pub clashes : Server → Replica → Bool
clashes s r = cond (knows_more s r) true (not (joinable s.config s.replica r))

-- the server after joining
abbrev pub joined_server : Server → Replica → Server
joined_server s r = holding s (join s.replica r)

-- the reply of server i has the request's desk, round and note
abbrev pub reply_by : ℕ → Envelope → Envelope
reply_by i e = record { kind = reply; server = i; desk = e.desk; round = e.round; note = e.note }

abbrev pub reply_envelope : Server → Envelope → Envelope
reply_envelope s e = reply_by s.number e

-- its bytes, and what it carries: the pair of server t
abbrev pub reply_message : Server → Envelope → List ℕ
reply_message t e = message_of t.config (reply_envelope t e) t.replica

-- server s becomes t and sends the message m, where that fits; otherwise 13
unfoldable pub reply_of : Server → Server → List ℕ → List ℕ → ℕ → Outcome
reply_of s t m out at =
    cond (room (length out) at (length m)) (record { answer = (place m out at).answer; server = t; out = (place m out at).out })
    (refuse (refusal 13) s out)

-- serve of the fields of a message
unfoldable pub serve_fields : Server → Envelope → Replica → List ℕ → ℕ → Outcome
serve_fields s e r out at =
    cond (stray s e) (refuse (refusal 7) s out)
    (cond (clashes s r) (refuse (refusal 6) s out)
    (cond (eqb e.kind share) (record { answer = Ok at; server = joined_server s r; out = out })
    (reply_of s (joined_server s r) (reply_message (joined_server s r) e) out at)))

unfoldable pub serve_of : Server → List ℕ → List ℕ → ℕ → Outcome
serve_of s msg out at =
    cond (fits s)
    (let x = receive_of s.config msg in by-verdict x.verdict (serve_fields s x.envelope x.replica out at) (λ k. refuse k s out))
    (refuse (refusal 1) s out)
