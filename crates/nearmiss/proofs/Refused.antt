-- Each number that the plain machine can give, and "late", at one step of a run, by computation. 12 is out of reach of a short run: it is shown of the
-- calls themselves, with a party at its last count, round or stamp.
use Prim.Native.Nat.{ℕ, zero, suc}
use native.Mathlib.Omega.{arith}
use mathlib.Core.Path.{◌≡◌, refl}
use mathlib.Core.List.{[], ◌∷◌}
use Rattle.config.specs.Cluster.{config_of, level}
use Rattle.config.specs.declared.cluster.Config.{Config}
use Rattle.machine.specs.Sets.{Transfer, Transfers, tally, count}
use Rattle.machine.specs.Parties.{start, fresh, Replica, reply, Message, Task, read, write, Phase, first, second, running, idle, Desk}
use Rattle.machine.specs.Runs.{late, refused, done, wrote, unmade, answer_at}
use Rattle.machine.specs.Calls.{refuse, transfer_by, begin_by, hear_by, most_count, most_round}
use Rattle.machine.specs.Steps.{begin, ask, serve, hear, result, drop, transfer, share, crash, machine, PlainRun}
use Rattle.machine.proofs.Computing.{computing}
use Rattle.machine.proofs.Blocks.{sale, longest, too_long}
use Rattle.nearmiss.specs.Steps.{run_by, room}

-- n = 3, f = 1: a transfer may leave 751. A request without sheet and register has 10 bytes.
abbrev pub tried : PlainRun
tried =
    run_by machine 3 1
    (result 1 ∷ drop 1 ∷ ask 1 0 0 room ∷ begin 1 (write too_long) 0 ∷ begin 1 (write longest) 0 ∷ begin 1 read 0 ∷ ask 1 3 0 room
    ∷ ask 1 0 0 9
    ∷ ask 1 0 (suc room) room
    ∷ ask 1 0 5 15
    ∷ serve 1 0 0 room
    ∷ serve 0 0 0 9
    ∷ serve 0 0 0 10
    ∷ serve 0 1 0 room
    ∷ hear 1 0
    ∷ hear 2 1
    ∷ hear 1 1
    ∷ drop 1
    ∷ hear 1 1
    ∷ begin 1 read 0
    ∷ hear 1 1
    ∷ transfer 0 0 1
    ∷ transfer 0 3 1
    ∷ transfer 0 1 0
    ∷ transfer 0 1 250
    ∷ transfer 0 1 249
    ∷ share 0 0 13
    ∷ share 0 0 14
    ∷ hear 1 2
    ∷ serve 1 2 7 0
    ∷ begin 0 read 0
    ∷ serve 0 3 0 room
    ∷ crash 0
    ∷ transfer 0 1 1
    ∷ [])

pub record Tried : Type 0 where
  -- 9: no result, no operation to drop, none to ask for
  pub no_result : answer_at tried 0 ≡ refused 9
  pub nothing-dropped : answer_at tried 1 ≡ refused 9
  pub nothing-asked : answer_at tried 2 ≡ refused 9
  -- 14: 65 bytes; 64 are accepted
  pub long : answer_at tried 3 ≡ refused 14
  pub not-long : answer_at tried 4 ≡ done
  -- 8: an operation runs
  pub busy : answer_at tried 5 ≡ refused 8
  -- 1: there is no server 3
  pub no-server : answer_at tried 6 ≡ refused 1
  -- 13: 9 bytes for 10, and a place past the end; 10 bytes from place 5 on are accepted
  pub narrow-request : answer_at tried 7 ≡ refused 13
  pub past_end : answer_at tried 8 ≡ refused 13
  pub request-sent : answer_at tried 9 ≡ wrote 15
  -- 7: a request for another server; then 13, and the reply is accepted
  pub other-server : answer_at tried 10 ≡ refused 7
  pub narrow-reply : answer_at tried 11 ≡ refused 13
  pub reply-sent : answer_at tried 12 ≡ wrote 10
  -- 7: a reply served, a request heard, a reply for another desk
  pub reply-served : answer_at tried 13 ≡ refused 7
  pub request-heard : answer_at tried 14 ≡ refused 7
  pub other-desk : answer_at tried 15 ≡ refused 7
  pub reply-heard : answer_at tried 16 ≡ done
  -- late: no operation runs, or a later round
  pub operation-dropped : answer_at tried 17 ≡ done
  pub late-reply : answer_at tried 18 ≡ late
  pub begun-again : answer_at tried 19 ≡ done
  pub old-round : answer_at tried 20 ≡ late
  -- 11: to itself, to no server, nothing
  pub to-itself : answer_at tried 21 ≡ refused 11
  pub to_none : answer_at tried 22 ≡ refused 11
  pub amount-zero : answer_at tried 23 ≡ refused 11
  -- 10: 750 is not above the floor, 751 is
  pub thin : answer_at tried 24 ≡ refused 10
  pub not-thin : answer_at tried 25 ≡ done
  -- 13 of a share; 7 of a desk that hears it; a server takes it into a buffer of no length
  pub narrow-share : answer_at tried 26 ≡ refused 13
  pub share-sent : answer_at tried 27 ≡ wrote 14
  pub share-heard : answer_at tried 28 ≡ refused 7
  pub share-served : answer_at tried 29 ≡ wrote 7
  -- no call is made: desk 0, a message not sent yet, a crashed server
  pub no-desk : answer_at tried 30 ≡ unmade
  pub not-sent : answer_at tried 31 ≡ unmade
  pub crashes : answer_at tried 32 ≡ done
  pub crashed : answer_at tried 33 ≡ unmade

pub numbers : Tried
unfolding computing
numbers =
    record {
      no_result = refl;
      nothing-dropped = refl;
      nothing-asked = refl;
      long = refl;
      not-long = refl;
      busy = refl;
      no-server = refl;
      narrow-request = refl;
      past_end = refl;
      request-sent = refl;
      other-server = refl;
      narrow-reply = refl;
      reply-sent = refl;
      reply-served = refl;
      request-heard = refl;
      other-desk = refl;
      reply-heard = refl;
      operation-dropped = refl;
      late-reply = refl;
      begun-again = refl;
      old-round = refl;
      to-itself = refl;
      to_none = refl;
      amount-zero = refl;
      thin = refl;
      not-thin = refl;
      narrow-share = refl;
      share-sent = refl;
      share-heard = refl;
      share-served = refl;
      no-desk = refl;
      not-sent = refl;
      crashes = refl;
      crashed = refl;
    }

-- ---- 12: a desk at its last round or stamp, of n = 1 and f = 0, so that one reply is a quorum

abbrev pub alone : Config
alone = config_of (level 1 0)

-- a desk that runs an operation in round k, and holds a register with a stamp
abbrev pub running-in : ℕ → ℕ → Task → Phase → Desk
running-in k stamp t p =
    record {
      replica = record { set = []; register = record { stamp = stamp; desk = 1; value = [] } };
      round = k;
      activity = running (record { task = t; note = 0; phase = p; heard = []; restarts = 0 });
    }

-- a reply of server 0 to desk 1 in round k, with a set and the start
abbrev pub replied : ℕ → Transfers → Message
replied k a = record { kind = reply; server = 0; desk = 1; round = k; note = 0; replica = record { set = a; register = start } }

-- a transfer that the desk has not heard of
abbrev pub gift : Transfer
gift = record { giver = 0; number = 1; taker = 1; amount = 1 }

abbrev pub last_desk : Desk
last_desk = record { replica = fresh; round = most_round; activity = idle }

pub record Spent : Type 0 where
  -- begin at the last round, and a round before
  pub begin-spent : begin_by alone last_desk read 0 ≡ refuse 12 last_desk
  pub begin-not-spent : (begin_by alone (record { replica = fresh; round = 4294967294; activity = idle }) read 0).answer ≡ done
  -- a restart, and the end of phase 1
  pub restart-spent : hear_by alone 1 (running-in most_round 1 read first) (replied most_round (gift ∷ []))
      ≡ refuse 12 (running-in most_round 1 read first)
  pub choice-spent : hear_by alone 1 (running-in most_round 1 read first) (replied most_round []) ≡ refuse 12 (running-in most_round 1 read first)
  -- a write at the last stamp, and a read there
  pub stamp-spent : hear_by alone 1 (running-in 1 4294967295 (write sale) first) (replied 1 [])
      ≡ refuse 12 (running-in 1 4294967295 (write sale) first)
  pub read-not-spent : (hear_by alone 1 (running-in 1 4294967295 read first) (replied 1 [])).answer ≡ done
  -- the end of phase 2 needs no round
  pub end-not-spent : (hear_by alone 1 (running-in most_round 1 read (second start)) (replied most_round [])).answer ≡ done

pub rounds-spent : Spent
unfolding computing
rounds-spent =
    record {
      begin-spent = refl;
      begin-not-spent = refl;
      restart-spent = refl;
      choice-spent = refl;
      stamp-spent = refl;
      read-not-spent = refl;
      end-not-spent = refl;
    }

-- ---- 12: a server that made 65,535 transfers

-- servers 0 and 1 gave each other 1, so many times
unfoldable pub swaps : ℕ → Transfers
swaps zero = []
swaps (suc k) =
    record { giver = 0; number = suc k; taker = 1; amount = 1 } ∷ record { giver = 1; number = suc k; taker = 0; amount = 1 } ∷ swaps k

abbrev pub swapped : ℕ → Replica
swapped k = record { set = swaps k; register = start }

swaps-counted : (k : ℕ) → count (swaps k) 0 ≡ k
unfolding swaps count tally
swaps-counted zero = refl
swaps-counted (suc k) = omega (arith, swaps-counted k)

spent-at : (r : Replica) → count r.set 0 ≡ most_count → transfer_by (config_of (level 3 1)) 0 r 1 1 ≡ refuse 12 r
unfolding transfer_by
spent-at r e = rw e

pub transfers-spent : transfer_by (config_of (level 3 1)) 0 (swapped 65535) 1 1 ≡ refuse 12 (swapped 65535)
transfers-spent = spent-at (swapped 65535) (swaps-counted 65535)
