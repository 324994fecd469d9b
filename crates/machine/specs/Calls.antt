-- The calls of the plain machine (paper 01, "The runs of demand 3"), with the numbers of "Server" and "Desk" in their order and no test for 2 to 6.
-- A call takes what a party holds and gives an answer, what the party holds then, and the message sent, if any.
use Rattle.std.specs.Prelude.{ℕ, suc, ◌+◌, Bool, false, cond, [], ◌∷◌, eqb, leb, ltb, pos, ◌-ℤ◌, length}
use Rattle.config.specs.Cluster.{above_of, most_stamp}
use Rattle.config.specs.declared.cluster.Config.{Config}
use Rattle.machine.specs.Sets.{includes, count, weight_of, quorum_of}
use Rattle.machine.specs.Parties.{Register, Replica, join, request, reply, share, Message, by_kind, bytes_of, Task, by-task, writes, value_of, first, second, by-phase, Operation, idle, running, ended, if-running, if-ended, Desk, answered}
use Rattle.machine.specs.Runs.{Answer, late, refused, done, wrote, told, Outcome}

-- the last count, round and length of a value
abbrev pub most_count : ℕ
most_count = 65535

abbrev pub most_round : ℕ
most_round = 4294967295

abbrev pub most_value : ℕ
most_value = 64

-- accepted, and nothing sent
abbrev pub accept : {A : Type 0} → Answer → A → Outcome Message A
accept a x = record { answer = a; party = x; sent = [] }

-- nothing changes and nothing is sent
abbrev pub refuse : {A : Type 0} → ℕ → A → Outcome Message A
refuse k x = record { answer = refused k; party = x; sent = [] }

-- the message m is written from a place on, where it fits into the buffer, and sent; otherwise 13
unfoldable pub send : {A : Type 0} → Config → A → A → Message → ℕ → ℕ → Outcome Message A
send c old new m place size =
    let next = place + length (bytes_of c m) in
    cond (leb next size) (record { answer = wrote next; party = new; sent = m ∷ [] }) (refuse 13 old)

-- ---- server i, which holds r

-- the set with (i, next k, j, d) in it
abbrev pub given-away : Replica → ℕ → ℕ → ℕ → Replica
given-away r i j d =
    record { set = record { giver = i; number = suc (count r.set i); taker = j; amount = d } ∷ r.set; register = r.register }

-- whether what i keeps of its weight, once it has given d, is above the floor by its own set
abbrev pub spares : Config → Replica → ℕ → ℕ → Bool
spares c r i d = above_of c (weight_of c r.set i -ℤ pos d)

-- Transfer: 11, 12, then 10.
unfoldable pub transfer_by : Config → ℕ → Replica → ℕ → ℕ → Outcome Message Replica
transfer_by c i r j d =
    cond (eqb j i) (refuse 11 r)
    (cond (leb c.n j) (refuse 11 r)
    (cond (eqb d 0) (refuse 11 r)
    (cond (leb most_count (count r.set i)) (refuse 12 r)
    (cond (spares c r i d) (accept done (given-away r i j d)) (refuse 10 r)))))

-- Share: the pair is sent, or 13.
unfoldable pub share_by : Config → ℕ → Replica → ℕ → ℕ → Outcome Message Replica
share_by c i r place size = send c r r (record { kind = share; server = i; desk = 0; round = 0; note = 0; replica = r }) place size

-- the reply to a request: its desk, round and note, and what server i holds
abbrev pub reply_to : Message → ℕ → Replica → Message
reply_to m i r = record { kind = reply; server = i; desk = m.desk; round = m.round; note = m.note; replica = r }

-- what a server that held r holds once it has served m: sets are united, the higher tag's register stays
abbrev pub served : Replica → Message → Replica
served r m = join r m.replica

-- a request is joined, then replied to
unfoldable pub answer_request : Config → ℕ → Replica → Message → ℕ → ℕ → Outcome Message Replica
answer_request c i r m place size = send c r (served r m) (reply_to m i (served r m)) place size

-- Serve: 7, then 13 for a request; a share is joined, and nothing is written.
unfoldable pub serve_by : Config → ℕ → Replica → Message → ℕ → ℕ → Outcome Message Replica
serve_by c i r m place size =
    by_kind m.kind (cond (eqb m.server i) (answer_request c i r m place size) (refuse 7 r)) (refuse 7 r)
    (accept (wrote place) (served r m))

-- ---- desk d, which is x

-- round + 1, phase 1, nobody answered, restarts 0
abbrev pub begun : Desk → Task → ℕ → Desk
begun x t note =
    record {
      replica = x.replica;
      round = suc x.round;
      activity = running (record { task = t; note = note; phase = first; heard = []; restarts = 0 });
    }

-- Begin: 14, 8, then 12.
unfoldable pub begin_by : Config → Desk → Task → ℕ → Outcome Message Desk
begin_by c x t note =
    cond (ltb most_value (length (value_of t))) (refuse 14 x)
    (if-running x.activity (λ o. refuse 8 x)
    (cond (leb most_round x.round) (refuse 12 x) (accept done (begun x t note))))

-- a request with round, note and pair
abbrev pub request_of : ℕ → Desk → Operation → ℕ → Message
request_of d x o i = record { kind = request; server = i; desk = d; round = x.round; note = o.note; replica = x.replica }

-- Ask: 9, 1, then 13.
unfoldable pub ask_by : Config → ℕ → Desk → ℕ → ℕ → ℕ → Outcome Message Desk
ask_by c d x i place size =
    if-running x.activity (λ o. cond (ltb i c.n) (send c x x (request_of d x o i) place size) (refuse 1 x)) (refuse 9 x)

-- whether the desk's set has every transfer of a reply
abbrev pub knows : Desk → Message → Bool
knows x m = includes x.replica.set m.replica.set

-- Hear of a reply with a transfer that the desk's set lacked: the pairs are joined, nobody has answered, round + 1, restarts + 1; or 12. The phase,
-- and what phase 1 chose, stay.
abbrev pub restarted : Desk → Operation → Message → Desk
restarted x o m =
    record {
      replica = join x.replica m.replica;
      round = suc x.round;
      activity = running (record { task = o.task; note = o.note; phase = o.phase; heard = []; restarts = suc o.restarts });
    }

unfoldable pub restart : Desk → Operation → Message → Outcome Message Desk
restart x o m = cond (leb most_round x.round) (refuse 12 x) (accept done (restarted x o m))

-- The register that phase 1 chooses, where r is held: a read that one, a write stamp + 1, its own number and the new value.
abbrev pub chosen : ℕ → Task → Register → Register
chosen d t r = by-task t r (λ v. record { stamp = suc r.stamp; desk = d; value = v })

-- whether a write finds no stamp left
abbrev pub no-stamp : Config → Task → Register → Bool
no-stamp c t r = by-task t false (λ v. leb (most_stamp c) r.stamp)

-- The end of phase 1, where p is held after joining: the chosen register is put into the pair, round + 1, nobody has answered, phase 2; or 12.
abbrev pub moved_on : ℕ → Desk → Operation → Replica → Desk
moved_on d x o p =
    record {
      replica = record { set = p.set; register = chosen d o.task p.register };
      round = suc x.round;
      activity =
          running
          (record {
            task = o.task;
            note = o.note;
            phase = second (chosen d o.task p.register);
            heard = [];
            restarts = o.restarts;
          });
    }

unfoldable pub choose : Config → ℕ → Desk → Operation → Replica → Outcome Message Desk
choose c d x o p =
    cond (leb most_round x.round) (refuse 12 x)
    (cond (no-stamp c o.task p.register) (refuse 12 x) (accept done (moved_on d x o p)))

-- the end of phase 2, in which g was the chosen register
abbrev pub finished : Desk → Operation → Replica → Register → Desk
finished x o p g = record { replica = p; round = x.round; activity = ended (record { is-write = writes o.task; register = g; restarts = o.restarts }) }

-- Any other reply marks its server; on a quorum the phase ends.
abbrev pub marked : Desk → Operation → Replica → Message → Desk
marked x o p m =
    record {
      replica = p;
      round = x.round;
      activity = running (record { task = o.task; note = o.note; phase = o.phase; heard = m ∷ o.heard; restarts = o.restarts });
    }

unfoldable pub mark : Config → ℕ → Desk → Operation → Message → Outcome Message Desk
mark c d x o m =
    let p = join x.replica m.replica in
    cond (quorum_of c p.set (answered (m ∷ o.heard))) (by-phase o.phase (choose c d x o p) (λ g. accept done (finished x o p g)))
    (accept done (marked x o p m))

-- Hear: 7; "late" if no operation runs or the round is not the current one; then as above.
unfoldable pub hear_by : Config → ℕ → Desk → Message → Outcome Message Desk
hear_by c d x m =
    by_kind m.kind (refuse 7 x)
    (cond (eqb m.desk d)
    (if-running x.activity
    (λ o. cond (eqb m.round x.round) (cond (knows x m) (mark c d x o m) (restart x o m)) (accept late x))
    (accept late x))
    (refuse 7 x))
    (refuse 7 x)

-- Result: that of the operation that has ended, or 9.
unfoldable pub result_by : Desk → Outcome Message Desk
result_by x = if-ended x.activity (λ r. accept (told r) x) (refuse 9 x)

-- no operation runs any more
abbrev pub dropped : Desk → Desk
dropped x = record { replica = x.replica; round = x.round; activity = idle }

-- Drop: 9 if no operation runs; otherwise it is gone.
unfoldable pub drop_by : Desk → Outcome Message Desk
drop_by x = if-running x.activity (λ o. accept done (dropped x)) (refuse 9 x)
