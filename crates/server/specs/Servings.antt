-- Serve step by step: what becomes of a message, what a server answers that holds a replica, and what serve comes to by that.
use Rattle.std.specs.Prelude.{ℕ, cond, List, eqb, Result, Ok, Err}
use Rattle.config.specs.Refusals.{by-verdict, refusal, Verdict}
use Rattle.config.specs.declared.cluster.Config.{Config}
use Rattle.config.specs.declared.answer.Refusal.{Refusal}
use Rattle.replica.specs.declared.register.Register.{Register}
use Rattle.replica.specs.declared.replica.Replica.{Replica}
use Rattle.ledger.specs.Joins.{joined}
use Rattle.replica.specs.Registers.{register_fits}
use Rattle.replica.specs.Replicas.{fits, compared_of}
use Rattle.message.specs.declared.envelope.Envelope.{Envelope}
use Rattle.message.specs.Envelopes.{share}
use Rattle.message.specs.Answers.{Written, receive_of}
use Rattle.message.specs.Faults.{send_of}
use Rattle.server.specs.declared.record.Server.{Server}
use Rattle.server.specs.declared.serve.Considered.{Considered}
use Rattle.server.specs.declared.serve.Serving.{Serving}
use Rattle.server.specs.Servers.{holding}
use Rattle.server.specs.Serves.{Outcome, refuse, stray, knows_more, reply_by}

-- what is done with an answer, and for a refusal
abbrev pub by_answer : {A B : Type 0} → Result A Refusal → (A → B) → (Refusal → B) → B
by_answer (Ok x) g f = g x
by_answer (Err k) g f = f k

-- refused by the message checks, 7, or 6 where the message knows more of the server's own transfers than it made, or rows or values do not agree; else
-- whether it brings a transfer that the server lacks
unfoldable pub serving_of : Server → Verdict → Envelope → Replica → Result Serving Refusal
serving_of s v e r =
    by-verdict v
    (cond (stray s e) (Err (refusal 7))
    (cond (knows_more s r) (Err (refusal 6))
    (by_answer (compared_of s.config.n s.replica r) (λ x. cond x.lacks (Ok Serving.More) (Ok Serving.Known)) Err)))
    Err

-- the same of a message, with its envelope where it is not refused
unfoldable pub considered_of : Server → List ℕ → Result Considered Refusal
considered_of s msg =
    let x = receive_of s.config msg in
    by_answer (serving_of s x.verdict x.envelope x.replica) (λ z. Ok (record { envelope = x.envelope; serving = z })) Err

-- a refusal that leaves the buffer as it was
abbrev pub unwritten : Refusal → List ℕ → Written
unwritten k out = record { answer = Err k; out = out }

-- what server i answers to e that holds p: the place given for a share, and for a request the place after the reply; 1 where p does not fit, then 13
unfoldable pub answer_in : Config → ℕ → Envelope → Replica → List ℕ → ℕ → Written
answer_in c i e p out at =
    cond (eqb e.kind share) (record { answer = cond (fits c p) (Ok at) (Err (refusal 1)); out = out }) (send_of c (reply_by i e) p out at)

-- what serve comes to where w is answered: the server holds p, or is as it was
unfoldable pub settled : Server → Replica → Written → Outcome
settled s p w = by_answer w.answer (λ x. record { answer = Ok x; server = holding s p; out = w.out }) (λ k. refuse k s w.out)

-- a message that brings no transfer, where the register h is held afterwards
unfoldable pub known_in : Server → Envelope → Register → List ℕ → ℕ → Outcome
known_in s e h out at =
    let p : Replica = record { ledger = s.replica.ledger; register = h } in
    settled s p (cond (register_fits s.config s.replica.register) (answer_in s.config s.number e p out at) (unwritten (refusal 1) out))

-- why both pairs together are refused, of which each fits: 13, or else 6
unfoldable pub light_of : Refusal → Refusal
light_of Refusal.Narrow = Refusal.Narrow
light_of k = Refusal.Clash

abbrev pub lightened : Written → Written
lightened w = by_answer w.answer (λ x. w) (λ k. unwritten (light_of k) w.out)

-- a message that brings transfers, with a ledger and the register that is held afterwards
unfoldable pub more_in : Server → Envelope → Replica → List ℕ → ℕ → Outcome
more_in s e r out at =
    let p : Replica = record { ledger = joined r.ledger s.replica.ledger; register = r.register } in
    settled s p (cond (fits s.config s.replica) (lightened (answer_in s.config s.number e p out at)) (unwritten (refusal 1) out))
