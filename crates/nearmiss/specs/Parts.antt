-- The plain machine with one call exchanged, and hear with parts of it left open: each wrong store here shares all but what it changes.
use Rattle.std.specs.Prelude.{ℕ, Bool, cond, List, ◌∷◌, eqb}
use Rattle.config.specs.declared.cluster.Config.{Config}
use Rattle.machine.specs.Sets.{Transfers, quorum_of}
use Rattle.machine.specs.Parties.{Register, Replica, join, Message, by_kind, answered, Task, by-phase, Operation, if-running, Desk}
use Rattle.machine.specs.Runs.{late, done, Outcome}
use Rattle.machine.specs.Calls.{accept, refuse, knows, marked}
use Rattle.machine.specs.Steps.{Store, machine}

-- ---- one call exchanged

abbrev pub with_transfer : (Config → ℕ → Replica → ℕ → ℕ → Outcome Message Replica) → Store
with_transfer f =
    record {
      transfer = f;
      share = machine.share;
      serve = machine.serve;
      begin = machine.begin;
      ask = machine.ask;
      hear = machine.hear;
      result = machine.result;
      drop = machine.drop;
    }

abbrev pub with_serve : (Config → ℕ → Replica → Message → ℕ → ℕ → Outcome Message Replica) → Store
with_serve f =
    record {
      transfer = machine.transfer;
      share = machine.share;
      serve = f;
      begin = machine.begin;
      ask = machine.ask;
      hear = machine.hear;
      result = machine.result;
      drop = machine.drop;
    }

abbrev pub with_begin : (Config → Desk → Task → ℕ → Outcome Message Desk) → Store
with_begin f =
    record {
      transfer = machine.transfer;
      share = machine.share;
      serve = machine.serve;
      begin = f;
      ask = machine.ask;
      hear = machine.hear;
      result = machine.result;
      drop = machine.drop;
    }

abbrev pub with_hear : (Config → ℕ → Desk → Message → Outcome Message Desk) → Store
with_hear f =
    record {
      transfer = machine.transfer;
      share = machine.share;
      serve = machine.serve;
      begin = machine.begin;
      ask = machine.ask;
      hear = f;
      result = machine.result;
      drop = machine.drop;
    }

abbrev pub with_result : (Desk → Outcome Message Desk) → Store
with_result f =
    record {
      transfer = machine.transfer;
      share = machine.share;
      serve = machine.serve;
      begin = machine.begin;
      ask = machine.ask;
      hear = machine.hear;
      result = f;
      drop = machine.drop;
    }

-- ---- the parts of hear (proofs/Parts: with the plain machine's own parts it is the plain machine's hear)

-- what a desk does with a reply of its current round
abbrev pub OnReply : Type 0
OnReply = Config → ℕ → Desk → Operation → Message → Outcome Message Desk

-- hear, where `on-own` is done with a reply on the desk's own set and `on-other` with one that has a transfer which the desk's set lacks
unfoldable pub hear_with : OnReply → OnReply → Config → ℕ → Desk → Message → Outcome Message Desk
hear_with on-own on-other c d x m =
    by_kind m.kind (refuse 7 x)
    (cond (eqb m.desk d)
    (if-running x.activity
    (λ o. cond (eqb m.round x.round) (cond (knows x m) (on-own c d x o m) (on-other c d x o m)) (accept late x))
    (accept late x))
    (refuse 7 x))
    (refuse 7 x)

-- the servers that answered are a quorum by weight
abbrev pub enough_weight : Config → Transfers → List Message → Bool
enough_weight c a l = quorum_of c a (answered l)

-- a reply marks its server, where `enough` says on which replies the phase ends, `choosing` how phase 1 does, and `ending` what is left after phase 2
unfoldable pub mark_with : (Config → Transfers → List Message → Bool) → (Config → ℕ → Desk → Operation → Replica → Outcome Message Desk)
    → (Desk → Operation → Replica → Register → Desk) → OnReply
mark_with enough choosing ending c d x o m =
    let p = join x.replica m.replica in
    cond (enough c p.set (m ∷ o.heard)) (by-phase o.phase (choosing c d x o p) (λ g. accept done (ending x o p g))) (accept done (marked x o p m))
