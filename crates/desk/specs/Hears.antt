-- Hear (paper 01, "Desk"): message checks; 7; "late", with nothing changed, if no operation runs or the round isn't the current one; 6, also if the
-- reply's sheet lacks a transfer of the desk's; 12 if a round or stamp would pass its end.
use Rattle.std.specs.Prelude.{ℕ, suc, ◌+◌, ◌^◌, Bool, true, false, cond, not, List, eqb, ltb, Ok, Err}
use Rattle.config.specs.Cluster.{most_stamp}
use Rattle.config.specs.Refusals.{by-verdict, refusal}
use Rattle.config.specs.declared.answer.Refusal.{Refusal}
use Rattle.ledger.specs.Maps.{named}
use Rattle.ledger.specs.Weights.{quorum_of}
use Rattle.ledger.specs.Joins.{lacks}
use Rattle.message.specs.declared.envelope.Envelope.{Envelope}
use Rattle.replica.specs.declared.register.Register.{Register}
use Rattle.replica.specs.declared.replica.Replica.{Replica}
use Rattle.replica.specs.Values.{empty_value}
use Rattle.replica.specs.Replicas.{joinable, join}
use Rattle.message.specs.Envelopes.{reply}
use Rattle.message.specs.Answers.{receive_of}
use Rattle.desk.specs.declared.operation.Operation.{Operation}
use Rattle.desk.specs.declared.record.Desk.{Desk}
use Rattle.desk.specs.declared.record.Hearing.{Hearing}
use Rattle.desk.specs.declared.record.Heard.{Heard}
use Rattle.desk.specs.Operations.{running, ended, writing}
use Rattle.desk.specs.Desks.{most_round, fits}

-- What the call hands back: a refusal and "late" leave the record as it was.

abbrev pub accepted : Desk → Heard
accepted x = record { hearing = Ok Hearing.Taken; desk = x }

abbrev pub late : Desk → Heard
late x = record { hearing = Ok Hearing.Late; desk = x }

abbrev pub refused : Refusal → Desk → Heard
refused k x = record { hearing = Err k; desk = x }

-- ---- the tests

-- 7: anything but a reply, or a reply for another desk
unfoldable pub stray : Desk → Envelope → Bool
stray x e = cond (eqb e.kind reply) (not (eqb e.desk x.number)) true

-- an operation runs, and the reply is of its round
unfoldable pub timely : Desk → Envelope → Bool
timely x e = cond (eqb x.operation.mode running) (eqb e.round x.round) false

-- 6: the pairs don't join, or the reply's sheet lacks a transfer of the desk's
unfoldable pub clashes : Desk → Replica → Bool
clashes x r = cond (joinable x.config x.replica r) (lacks r.ledger x.replica.ledger) true

-- ---- a larger sheet

-- the desk in round k, with p as its pair and the operation o
abbrev pub moved : Desk → Replica → ℕ → Operation → Desk
moved x p k o = record { config = x.config; number = x.number; replica = p; round = k; operation = o }

-- an operation with other answered servers and restarts
abbrev pub answered_by : Operation → ℕ → ℕ → Operation
answered_by o map restarts =
    record {
      mode = o.mode;
      note = o.note;
      restarts = restarts;
      kind = o.kind;
      phase = o.phase;
      answered = map;
      value = o.value;
      chosen = o.chosen;
    }

-- pairs joined, answered cleared, round + 1, restarts + 1; or 12
abbrev pub restarted : Desk → Replica → Desk
restarted x p = moved x p (suc x.round) (answered_by x.operation 0 (suc x.operation.restarts))

unfoldable pub restart_of : Desk → Replica → Heard
restart_of x p = cond (ltb x.round most_round) (accepted (restarted x p)) (refused (refusal 12) x)

-- ---- an equal sheet

-- a map of servers with server i in it
unfoldable pub marked : ℕ → ℕ → ℕ
marked m i = cond (named m i) m (m + 2 ^ i)

-- whether a write finds no stamp left above that of r
unfoldable pub no_stamp : Desk → Register → Bool
no_stamp x r = cond (eqb x.operation.kind writing) (not (ltb r.stamp (most_stamp x.config))) false

-- what phase 1 chooses, where r is held: a read that one, a write stamp + 1, its own number and the new value
unfoldable pub chosen_of : Desk → Register → Register
chosen_of x r = cond (eqb x.operation.kind writing) (record { stamp = suc r.stamp; desk = x.number; value = x.operation.value }) r

-- the operation in phase 2, with the chosen register g
abbrev pub in_phase_two : Operation → Register → Operation
in_phase_two o g =
    record {
      mode = running;
      note = o.note;
      restarts = o.restarts;
      kind = o.kind;
      phase = 2;
      answered = 0;
      value = o.value;
      chosen = g;
    }

-- phase 1 ends, where p is held after joining: the chosen register is put in the pair, round + 1, answered cleared, phase 2; or 12
abbrev pub chose : Desk → Replica → Desk
chose x p =
    moved x (record { ledger = p.ledger; register = chosen_of x p.register }) (suc x.round) (in_phase_two x.operation (chosen_of x p.register))

unfoldable pub choose_of : Desk → Replica → Heard
choose_of x p =
    cond (ltb x.round most_round) (cond (no_stamp x p.register) (refused (refusal 12) x) (accepted (chose x p))) (refused (refusal 12) x)

-- phase 2 ends the operation: what its result does not give is 0
abbrev pub finished_operation : Operation → Operation
finished_operation o =
    record {
      mode = ended;
      note = 0;
      restarts = o.restarts;
      kind = o.kind;
      phase = 0;
      answered = 0;
      value = empty_value;
      chosen = o.chosen;
    }

abbrev pub finished : Desk → Replica → Desk
finished x p = moved x p x.round (finished_operation x.operation)

-- registers joined, server i marked; on a quorum the phase ends
unfoldable pub mark_of : Desk → Replica → ℕ → Heard
mark_of x p i =
    let m = marked x.operation.answered i in
    cond (quorum_of x.config p.ledger m) (cond (eqb x.operation.phase 1) (choose_of x p) (accepted (finished x p)))
    (accepted (moved x p x.round (answered_by x.operation m x.operation.restarts)))

-- ---- the call

-- hear of the fields of a message
unfoldable pub hear_fields : Desk → Envelope → Replica → Heard
hear_fields x e r =
    cond (stray x e) (refused (refusal 7) x)
    (cond (timely x e)
    (cond (clashes x r) (refused (refusal 6) x)
    (cond (lacks x.replica.ledger r.ledger) (restart_of x (join x.replica r)) (mark_of x (join x.replica r) e.server)))
    (late x))

unfoldable pub hear_of : Desk → List ℕ → Heard
hear_of x msg =
    cond (fits x) (let y = receive_of x.config msg in by-verdict y.verdict (hear_fields x y.envelope y.replica) (λ k. refused k x))
    (refused (refusal 1) x)
