-- The structure of a run and the smallest numbers, by computation: which desks and servers there are, the order of tests, calls made again, notes, the bytes
-- of messages, and crashes. Plain machine and program are defined in one structure, so that their equality does not see it; these runs do.
use Prim.Native.Nat.{ℕ}
use mathlib.Core.Path.{◌≡◌, refl}
use mathlib.Core.Bool.{true}
use mathlib.Core.List.{List, [], ◌∷◌, ◌++◌, map}
use lib.ListN.{length}
use Rattle.config.specs.Cluster.{level}
use Rattle.machine.specs.Parties.{read, write, bytes_of, Result}
use Rattle.machine.specs.Runs.{config, Answer, unmade, late, refused, done, wrote, told, at, answers_of}
use Rattle.machine.specs.Steps.{Step, begin, ask, serve, hear, result, drop, transfer, share, crash, machine, PlainRun, run_of}
use Rattle.machine.proofs.Computing.{computing}
use Rattle.machine.proofs.Blocks.{sale, too_long}

-- a step, and the answer that it gets
pub record Row : Type 0 where
  pub step : Step
  pub answer : Answer

infix 40 ◌⇒◌
abbrev pub ◌⇒◌ : Step → Answer → Row
s ⇒ a = record { step = s; answer = a }

abbrev pub steps_of : List Row → List Step
steps_of l = map (λ x. x.step) l

abbrev pub answers_in : List Row → List Answer
answers_in l = map (λ x. x.answer) l

-- room for the longest message
abbrev room : ℕ
room = 1111

-- ---- one server, and the last desk

-- what desk 65,535 wrote
abbrev pub written : Result
written = record { is-write = true; register = record { stamp = 1; desk = 65535; value = sale }; restarts = 0 }

-- n = 1, f = 0. Messages are counted from 0.
abbrev pub alone : List Row
alone =
    -- desks have the numbers 1 to 65,535
    (begin 0 read 0 ⇒ unmade)
    ∷ (begin 65536 read 0 ⇒ unmade)
    -- ask: 9 before 1, 1 before 13
    ∷ (ask 65535 1 0 room ⇒ refused 9)
    ∷ (begin 65535 (write sale) 4294967295 ⇒ done)
    ∷ (ask 65535 1 0 0 ⇒ refused 1)
    ∷ (ask 65535 0 0 13 ⇒ refused 13)
    -- begin: 14 before 8
    ∷ (begin 65535 (write too_long) 0 ⇒ refused 14)
    ∷ (begin 65535 (write sale) 0 ⇒ refused 8)
    ∷ (result 65535 ⇒ refused 9)
    -- request 0, of 14 bytes, and reply 1; a request is stray at a desk, a reply at a server
    ∷ (ask 65535 0 0 14 ⇒ wrote 14)
    ∷ (hear 65535 0 ⇒ refused 7)
    ∷ (serve 0 0 0 13 ⇒ refused 13)
    ∷ (serve 0 0 0 14 ⇒ wrote 14)
    ∷ (serve 0 1 0 room ⇒ refused 7)
    -- the reply is a quorum: phase 1 ends. The same one again is late.
    ∷ (hear 65535 1 ⇒ done)
    ∷ (hear 65535 1 ⇒ late)
    -- request 2 and reply 3 have the register chosen; the request stands from place 3 on
    ∷ (ask 65535 0 3 room ⇒ wrote 26)
    ∷ (serve 0 2 0 room ⇒ wrote 23)
    ∷ (hear 65535 3 ⇒ done)
    -- the result, as often as it is asked for, also after a drop and a begin that are refused
    ∷ (result 65535 ⇒ told written)
    ∷ (result 65535 ⇒ told written)
    ∷ (drop 65535 ⇒ refused 9)
    ∷ (begin 65535 (write too_long) 0 ⇒ refused 14)
    ∷ (result 65535 ⇒ told written)
    ∷ (hear 65535 3 ⇒ late)
    -- share 4, which its own server serves, at a place past the end of the buffer; a message not sent
    ∷ (share 0 0 room ⇒ wrote 13)
    ∷ (serve 0 4 2000 room ⇒ wrote 2000)
    ∷ (serve 0 5 0 room ⇒ unmade)
    ∷ (hear 65535 4 ⇒ refused 7)
    -- no taker but itself; no server 1
    ∷ (transfer 0 0 1 ⇒ refused 11)
    ∷ (transfer 0 1 1 ⇒ refused 11)
    ∷ (transfer 1 0 1 ⇒ unmade)
    -- a crash, a second one, one of no server, and steps after it
    ∷ (crash 0 ⇒ done)
    ∷ (crash 0 ⇒ done)
    ∷ (crash 1 ⇒ unmade)
    ∷ (share 0 0 room ⇒ unmade)
    ∷ (serve 0 4 0 room ⇒ unmade)
    ∷ (transfer 0 0 1 ⇒ unmade)
    -- desks go on
    ∷ (begin 65535 read 0 ⇒ done)
    ∷ (ask 65535 0 0 room ⇒ wrote 19)
    ∷ (drop 65535 ⇒ done)
    ∷ (drop 65535 ⇒ refused 9)
    ∷ []

-- the register: stamp, desk, length, value
abbrev register_bytes : List ℕ
register_bytes = 0x00 ∷ 0x00 ∷ 0x00 ∷ 0x01 ∷ 0xFF ∷ 0xFF ∷ 0x02 ∷ 0xFF ∷ 0xFC ∷ []

abbrev note_bytes : List ℕ
note_bytes = 0xFF ∷ 0xFF ∷ 0xFF ∷ 0xFF ∷ []

-- the bytes of all messages sent: map, kind, server, and of requests and replies desk and round; then the register and the note, if any
abbrev pub alone_bytes : List (List ℕ)
alone_bytes =
    ((0x00 ∷ 0x4F ∷ 0x01 ∷ 0x00 ∷ 0xFF ∷ 0xFF ∷ 0x00 ∷ 0x00 ∷ 0x00 ∷ 0x01 ∷ []) ++ note_bytes)
    ∷ ((0x00 ∷ 0x4F ∷ 0x02 ∷ 0x00 ∷ 0xFF ∷ 0xFF ∷ 0x00 ∷ 0x00 ∷ 0x00 ∷ 0x01 ∷ []) ++ note_bytes)
    ∷ ((0x00 ∷ 0x5F ∷ 0x01 ∷ 0x00 ∷ 0xFF ∷ 0xFF ∷ 0x00 ∷ 0x00 ∷ 0x00 ∷ 0x02 ∷ []) ++ register_bytes ++ note_bytes)
    ∷ ((0x00 ∷ 0x5F ∷ 0x02 ∷ 0x00 ∷ 0xFF ∷ 0xFF ∷ 0x00 ∷ 0x00 ∷ 0x00 ∷ 0x02 ∷ []) ++ register_bytes ++ note_bytes)
    ∷ ((0x00 ∷ 0x13 ∷ 0x03 ∷ 0x00 ∷ []) ++ register_bytes)
    ∷ ((0x00 ∷ 0x1F ∷ 0x01 ∷ 0x00 ∷ 0xFF ∷ 0xFF ∷ 0x00 ∷ 0x00 ∷ 0x00 ∷ 0x03 ∷ []) ++ register_bytes)
    ∷ []

-- ---- sixteen servers

-- n = 16, f = 7: servers 15 and 16, which is none, and desk 300
abbrev pub sixteen : List Row
sixteen =
    (begin 300 read 0 ⇒ done)
    ∷ (ask 300 16 0 room ⇒ refused 1)
    ∷ (ask 300 15 0 room ⇒ wrote 10)
    ∷ (serve 16 0 0 room ⇒ unmade)
    ∷ (serve 14 0 0 room ⇒ refused 7)
    ∷ (serve 15 0 5 room ⇒ wrote 15)
    -- a reply heard twice, and one that is another desk's
    ∷ (hear 300 1 ⇒ done)
    ∷ (hear 300 1 ⇒ done)
    ∷ (hear 301 1 ⇒ refused 7)
    -- 15 gives 14 all that it can spare, tells it, and replies again: the desk restarts, and earlier replies are late
    ∷ (transfer 15 16 1 ⇒ refused 11)
    ∷ (transfer 15 14 112 ⇒ refused 10)
    ∷ (transfer 15 14 111 ⇒ done)
    ∷ (transfer 16 15 1 ⇒ unmade)
    ∷ (share 15 0 room ⇒ wrote 14)
    ∷ (serve 14 2 0 0 ⇒ wrote 0)
    ∷ (serve 15 0 0 room ⇒ wrote 20)
    ∷ (hear 300 3 ⇒ done)
    ∷ (hear 300 1 ⇒ late)
    ∷ (hear 300 3 ⇒ late)
    -- crashes
    ∷ (crash 16 ⇒ unmade)
    ∷ (crash 15 ⇒ done)
    ∷ (share 15 0 room ⇒ unmade)
    ∷ (share 16 0 room ⇒ unmade)
    ∷ (ask 300 15 0 room ⇒ wrote 20)
    ∷ (serve 15 4 0 room ⇒ unmade)
    ∷ []

-- the sheet: row map, count, cell map, cell
abbrev sheet_bytes : List ℕ
sheet_bytes = 0x80 ∷ 0x00 ∷ 0x00 ∷ 0x01 ∷ 0x40 ∷ 0x00 ∷ 0x00 ∷ 0x00 ∷ 0x00 ∷ 0x6F ∷ []

-- the bytes of all messages sent: map, kind, server, and of requests and replies desk and round; then the sheet, if any
abbrev pub sixteen_bytes : List (List ℕ)
sixteen_bytes =
    (0x00 ∷ 0x0F ∷ 0x01 ∷ 0x0F ∷ 0x01 ∷ 0x2C ∷ 0x00 ∷ 0x00 ∷ 0x00 ∷ 0x01 ∷ [])
    ∷ (0x00 ∷ 0x0F ∷ 0x02 ∷ 0x0F ∷ 0x01 ∷ 0x2C ∷ 0x00 ∷ 0x00 ∷ 0x00 ∷ 0x01 ∷ [])
    ∷ ((0x00 ∷ 0x23 ∷ 0x03 ∷ 0x0F ∷ []) ++ sheet_bytes)
    ∷ ((0x00 ∷ 0x2F ∷ 0x02 ∷ 0x0F ∷ 0x01 ∷ 0x2C ∷ 0x00 ∷ 0x00 ∷ 0x00 ∷ 0x01 ∷ []) ++ sheet_bytes)
    ∷ ((0x00 ∷ 0x2F ∷ 0x01 ∷ 0x0F ∷ 0x01 ∷ 0x2C ∷ 0x00 ∷ 0x00 ∷ 0x00 ∷ 0x02 ∷ []) ++ sheet_bytes)
    ∷ []

-- ---- the plain machine

-- the machine's run of a list of rows
abbrev pub run_in : ℕ → ℕ → List Row → PlainRun
run_in n f l = run_of machine (level n f) (steps_of l)

-- the bytes of all messages that it sent
abbrev pub bytes_in : ℕ → ℕ → List Row → List (List ℕ)
bytes_in n f l = map (bytes_of (config (run_in n f l))) (at (run_in n f l) (length l)).sent

pub record Pins : Type 0 where
  pub alone-answers : answers_of (run_in 1 0 alone) ≡ answers_in alone
  pub alone-bytes : bytes_in 1 0 alone ≡ alone_bytes
  pub sixteen-answers : answers_of (run_in 16 7 sixteen) ≡ answers_in sixteen
  pub sixteen-bytes : bytes_in 16 7 sixteen ≡ sixteen_bytes

pub pins : Pins
unfolding computing
pins = record { alone-answers = refl; alone-bytes = refl; sixteen-answers = refl; sixteen-bytes = refl }
