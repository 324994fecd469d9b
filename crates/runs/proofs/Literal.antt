-- A run with every answer, every byte sent and every number written out, taken from demand 3: two servers (n = 2, f = 0), of which server 0 gives server 1
-- weight twice; then desk 1 reads, restarts once, and reads through server 1 alone.
use Prim.Native.Nat.{ℕ}
use native.Mathlib.Omega.{arith}
use mathlib.Core.Path.{◌≡◌, refl, sym, ap, ◌∙◌}
use mathlib.Core.Bool.{true, false}
use mathlib.Core.List.{List, [], ◌∷◌, ◌++◌, map}
use mathlib.Core.Option.{some}
use lib.IntN.{pos}
use lib.ListN.{replicate}
use Rattle.config.proofs.Houses.{level-fault}
use Rattle.quorums.specs.Sum.{sum, sum_in, size}
use Rattle.config.specs.Cluster.{level, house_fault, above_of, House, config_of}
use Rattle.config.specs.declared.cluster.Config.{Config}
use Rattle.config.specs.Refusals.{granted}
use Rattle.ledger.specs.declared.ledger.Ledger.{Ledger}
use Rattle.ledger.specs.Maps.{named}
use Rattle.ledger.specs.Weights.{weight_of, all_of, quorum_of}
use Rattle.message.specs.Answers.{receive_of}
use Rattle.machine.specs.Parties.{read, start, Result}
use Rattle.machine.specs.Runs.{Answer, done, wrote, told, nth, at, answers_of}
use Rattle.machine.specs.Views.{View, Ends, restarts_made, gain}
use Rattle.machine.proofs.Computing.{computing}
use Rattle.machine.proofs.Concrete.{ends_of_lem, are_bytes, typed_steps, all_typed}
use Rattle.runs.specs.Steps.{Step, begin, ask, serve, hear, hear-lent, result, transfer, plain, Typed}
use Rattle.runs.specs.Runs.{ProgramRun, run_of}
use Rattle.runs.specs.Seen.{ledger_in, view_of}
use Rattle.runs.specs.Clauses.{plain_run, plain_view, Demand3}
use Rattle.runs.proofs.Demand3.{demand3}
use Rattle.runs.proofs.Consequences.{Weighed, own, own-restarts, server-weighed, desk-weighed, message-weighed, listed, level-listed}

abbrev two : House
two = level 2 0

abbrev buffer : List ℕ
buffer = replicate 32 0

-- messages are counted from 0: requests 0, 2, 4 and their replies 1, 3, 5
abbrev steps : List Step
steps =
    transfer 0 1 100
    ∷ transfer 0 1 50
    ∷ begin 1 read 4294967295
    ∷ ask 1 0 0 buffer
    ∷ serve 0 0 0 buffer
    ∷ hear 1 1
    ∷ ask 1 1 0 buffer
    ∷ serve 1 2 0 buffer
    ∷ hear-lent 1 3
    ∷ ask 1 1 0 buffer
    ∷ serve 1 4 0 buffer
    ∷ hear 1 5
    ∷ result 1
    ∷ []

abbrev p : ProgramRun
p = run_of two steps

-- the start, after one restart
abbrev unsold : Result
unsold = record { is-write = false; register = start; restarts = 1 }

abbrev answers : List Answer
answers =
    done
    ∷ done
    ∷ done
    ∷ wrote 14
    ∷ wrote 24
    ∷ done
    ∷ wrote 24
    ∷ wrote 24
    ∷ done
    ∷ wrote 24
    ∷ wrote 24
    ∷ done
    ∷ told unsold
    ∷ []

-- row map, count, cell map, cell: server 0 gave 150 in two transfers
abbrev sheet_bytes : List ℕ
sheet_bytes = 0x00 ∷ 0x01 ∷ 0x00 ∷ 0x02 ∷ 0x00 ∷ 0x02 ∷ 0x00 ∷ 0x00 ∷ 0x00 ∷ 0x96 ∷ []

abbrev note_bytes : List ℕ
note_bytes = 0xFF ∷ 0xFF ∷ 0xFF ∷ 0xFF ∷ []

-- the first request, and the reply that brings the sheet: map, kind, server, desk, round, sheet, note
abbrev first_request : List ℕ
first_request = (0x00 ∷ 0x4F ∷ 0x01 ∷ 0x00 ∷ 0x00 ∷ 0x01 ∷ 0x00 ∷ 0x00 ∷ 0x00 ∷ 0x01 ∷ []) ++ note_bytes

abbrev first_reply : List ℕ
first_reply = (0x00 ∷ 0x6F ∷ 0x02 ∷ 0x00 ∷ 0x00 ∷ 0x01 ∷ 0x00 ∷ 0x00 ∷ 0x00 ∷ 0x01 ∷ []) ++ sheet_bytes ++ note_bytes

abbrev messages : List (List ℕ)
messages =
    first_request
    ∷ first_reply
    ∷ ((0x00 ∷ 0x6F ∷ 0x01 ∷ 0x01 ∷ 0x00 ∷ 0x01 ∷ 0x00 ∷ 0x00 ∷ 0x00 ∷ 0x02 ∷ []) ++ sheet_bytes ++ note_bytes)
    ∷ ((0x00 ∷ 0x6F ∷ 0x02 ∷ 0x01 ∷ 0x00 ∷ 0x01 ∷ 0x00 ∷ 0x00 ∷ 0x00 ∷ 0x02 ∷ []) ++ sheet_bytes ++ note_bytes)
    ∷ ((0x00 ∷ 0x6F ∷ 0x01 ∷ 0x01 ∷ 0x00 ∷ 0x01 ∷ 0x00 ∷ 0x00 ∷ 0x00 ∷ 0x03 ∷ []) ++ sheet_bytes ++ note_bytes)
    ∷ ((0x00 ∷ 0x6F ∷ 0x02 ∷ 0x01 ∷ 0x00 ∷ 0x01 ∷ 0x00 ∷ 0x00 ∷ 0x00 ∷ 0x03 ∷ []) ++ sheet_bytes ++ note_bytes)
    ∷ []

taken : house_fault two ≡ 0
taken = level-fault 2 0 refl

typed : Typed steps
unfolding are_bytes typed_steps
typed = all_typed (map plain steps) refl

d3 : Demand3 p
d3 = demand3 two taken steps typed

-- ---- answers and bytes

pub answers-are : answers_of p ≡ answers
unfolding computing
answers-are = d3.answers ∙ refl

pub bytes-are : (at p 13).sent ≡ messages
unfolding computing
bytes-are = d3.bytes 13 ∙ refl

-- and before the last ones
pub first-bytes : (at p 6).sent ≡ first_request ∷ first_reply ∷ []
unfolding computing
first-bytes = d3.bytes 6 ∙ refl

-- ---- what is seen of the program's own record

pub record Seen (v : View) : Type 0 where
  -- the result is told after the last hear, and not before
  pub gives : v.gives 1 12 ≡ told unsold
  -- in phase 2 the read has chosen the start
  pub chosen : v.chosen 1 9 ≡ some start
  -- the first reply brings two transfers, the others none; and the desk's ledger has them
  pub brings : map (v.brings 1) (5 ∷ 8 ∷ 11 ∷ []) ≡ 2 ∷ 0 ∷ 0 ∷ []
  pub held-before : v.holds 1 2 ≡ 0
  pub held_after : v.holds 1 12 ≡ 2

pub seen : Seen (view_of p)
unfolding computing
seen = own two taken steps typed Seen (record { gives = refl; chosen = refl; brings = refl; held-before = refl; held_after = refl })

-- ---- the read, its restarts and its gain

plain-ends : Ends (plain_view p) 1 2 read 11 unsold
unfolding computing
plain-ends = ends_of_lem (plain_run p) 1 2 read 11 unsold 4294967295 5 refl refl refl refl refl refl refl

pub ends : Ends (view_of p) 1 2 read 11 unsold
ends = own two taken steps typed (λ v. Ends v 1 2 read 11 unsold) plain-ends

-- one restart was made, as it was told
pub made : restarts_made (view_of p) 1 2 11 ≡ 1
made = sym ((own-restarts two taken steps typed).made 1 2 11 read unsold ends)

-- and two transfers were gained, by which the desk's ledger grew
pub gained : gain (view_of p) 1 2 11 ≡ 2
gained = omega (arith, (own-restarts two taken steps typed).growth 1 2 11 read unsold ends, seen.held-before, seen.held_after)

-- ---- sheets

-- their cluster
abbrev cluster : Config
cluster = config_of two

-- a ledger on which the two servers weigh 2,000 together, each is above the floor, and both are a quorum
pub record Sheet (l : Ledger) : Type 0 where
  pub total : all_of cluster l ≡ pos 2000
  pub floor : (above_of cluster (weight_of cluster l 0) ≡ true) × (above_of cluster (weight_of cluster l 1) ≡ true)
  pub quorum : quorum_of cluster l 3 ≡ true

sheet : (l : Ledger) → Weighed (listed two) cluster l → Sheet l
unfolding named size sum_in sum
sheet l w = record { total = w.total ∙ ap pos (level-listed 2 0); floor = (w.floor 0 (omega arith), w.floor 1 (omega arith)); quorum = w.majority 3 (omega arith) }

-- so it is where a reply brings it, where server 1 holds it, and where desk 1 does
pub sent-sheet : ((receive_of cluster first_reply).verdict ≡ granted) × Sheet (ledger_in cluster first_reply)
sent-sheet =
    let w = message-weighed two taken steps typed 13 1 first_reply (ap (λ l. nth l 1) bytes-are) in
    (w.0, sheet _ w.1)

pub server-sheet : Sheet ((at p 13).servers 1).replica.ledger
server-sheet = sheet _ (server-weighed two taken steps typed 13 1 (omega arith))

pub desk-sheet : Sheet ((at p 13).desks 1).replica.ledger
desk-sheet = sheet _ (desk-weighed two taken steps typed 13 1 (omega arith) (omega arith))
