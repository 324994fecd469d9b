-- Fourteen stalls sold twice: a sale written while two servers pass weight on, where phase 2 counts replies made on another sheet, and a read
-- counted on that later sheet, which meets none of the servers that took the sale. On the plain machine the same list does not end the sale, and
-- once it has ended a read returns it. docs/QUESTION4.md tells it step by step.
use Prim.Native.Nat.{ℕ, ◌+◌}
use mathlib.Core.Path.{◌≡◌, refl}
use mathlib.Core.Bool.{Bool, true, false, cond}
use mathlib.Core.List.{List, [], ◌∷◌, ◌++◌}
use lib.Dec.{eqb}
use Rattle.quorums.specs.Sum.{sum}
use Rattle.config.specs.Cluster.{level}
use Rattle.config.proofs.Houses.{level-lawful}
use Rattle.format.specs.Bytes.{bit}
use Rattle.machine.specs.Sets.{quorum_of}
use Rattle.machine.specs.Parties.{start, reply, Message, read, write, second, running, Result}
use Rattle.machine.specs.Runs.{config, Answer, late, refused, done, wrote, told, answer_at, desk_at}
use Rattle.machine.specs.Steps.{Step, begin, ask, serve, hear, result, machine, PlainRun}
use Rattle.machine.specs.Seen.{view_of}
use Rattle.machine.specs.Views.{Ends, Chose, Order}
use Rattle.machine.proofs.Order.{order}
use Rattle.machine.proofs.Computing.{computing}
use Rattle.machine.proofs.Blocks.{sale, sold}
use Rattle.nearmiss.specs.Steps.{run_by, room, trip, pass_on, read_after, returned, written, answers_from, answers}
use Rattle.nearmiss.specs.Parts.{hear_with}
use Rattle.nearmiss.specs.OtherSheet.{count_other, other_sheet}
use Rattle.machine.proofs.Concrete.{ends_of_lem, chose-of}
use Rattle.nearmiss.proofs.Computing.{never_ends_lem}
use Rattle.nearmiss.proofs.Refuting.{lower-tag}

-- desk 1 asks servers 0, 1 and 3, each replies, and it hears the three replies; m messages were sent before
abbrev pub round : ℕ → List Step
round m =
    ask 1 0 0 room ∷ ask 1 1 0 room ∷ ask 1 3 0 room ∷ serve 0 m 0 room ∷ serve 1 (m + 1) 0 room ∷ serve 3 (m + 2) 0 room ∷ hear 1 (m + 3)
    ∷ hear 1 (m + 4)
    ∷ hear 1 (m + 5)
    ∷ []

-- n = 5, f = 1. Desk 1 begins a sale and chooses through 0, 1 and 3 (places 0 to 9); 0 and 1 pass weight on to 2 (10 to 15); desk 1 asks 0, 1 and 3
-- to take the sale (16 to 24) and asks for its result (25); desk 2 reads through 2 and 4 (26 to 42).
abbrev pub steps : List Step
steps = (begin 1 (write sale) 0 ∷ []) ++ round 0 ++ pass_on 6 ++ round 8 ++ (result 1 ∷ []) ++ read_after 2 14

abbrev pub theirs : PlainRun
theirs = run_by other_sheet 5 1 steps

abbrev pub ours : PlainRun
ours = run_by machine 5 1 steps

-- seats sold in a block
abbrev pub seats_sold : List ℕ → ℕ
seats_sold [] = 0
seats_sold (x ∷ l) = sum 8 (bit x) + seats_sold l

pub fourteen : seats_sold sale ≡ 14
unfolding sum bit
fourteen = refl

-- ---- the wrong store

-- Desk 1's sale ends at place 24: it is told that the sale is written.
pub sale-ends : Ends (view_of theirs) 1 0 (write sale) 24 (written sold 0)
unfolding computing hear_with count_other
sale-ends = ends_of_lem theirs 1 0 (write sale) 24 (written sold 0) 0 13 refl refl refl refl refl refl refl

pub sale-chose : Chose (view_of theirs) 1 0 (write sale) sold
unfolding computing hear_with count_other
sale-chose = chose-of theirs 1 0 (write sale) 10 sold 0 refl refl refl refl refl

-- Desk 2's read, begun at place 26, returns the start: nothing is sold.
pub read-ends : Ends (view_of theirs) 2 26 read 41 (returned start 1)
unfolding computing hear_with count_other
read-ends = ends_of_lem theirs 2 26 read 41 (returned start 1) 0 23 refl refl refl refl refl refl refl

pub read-chose : Chose (view_of theirs) 2 26 read start
unfolding computing hear_with count_other
read-chose = chose-of theirs 2 26 read 36 start 0 refl refl refl refl refl

-- So the order of tags does not hold.
pub other-sheet-unordered : Order (view_of theirs) → ⊥
unfolding computing
other-sheet-unordered = lower-tag sale-ends sale-chose refl read-chose refl

-- ---- the same list on the plain machine

-- the answers of places 0 to 22, and of 26 to 42, which are the same in both runs
abbrev pub until : List Answer
until =
    done ∷ wrote 10 ∷ wrote 10 ∷ wrote 10 ∷ wrote 10 ∷ wrote 10 ∷ wrote 10 ∷ done ∷ done ∷ done ∷ done ∷ done ∷ wrote 14 ∷ wrote 14 ∷ wrote 0 ∷ wrote 0
    ∷ wrote 19
    ∷ wrote 19
    ∷ wrote 19
    ∷ wrote 29
    ∷ wrote 29
    ∷ wrote 19
    ∷ done
    ∷ []

abbrev pub after : List Answer
after =
    done ∷ wrote 10 ∷ wrote 28 ∷ done ∷ wrote 28 ∷ wrote 28 ∷ done ∷ wrote 28 ∷ wrote 28 ∷ done ∷ wrote 28 ∷ wrote 28 ∷ done ∷ wrote 28 ∷ wrote 28 ∷ done
    ∷ told (returned start 1)
    ∷ []

-- server 0's reply in round 2, as if it were made on desk 1's own sheet
abbrev pub counted_reply : Message
counted_reply = record { kind = reply; server = 0; desk = 1; round = 2; note = 0; replica = record { set = []; register = sold } }

-- servers 0, 1 and 3
abbrev pub three : ℕ → Bool
three i = cond (eqb i 0) true (cond (eqb i 1) true (eqb i 3))

pub record Parting : Type 0 where
  -- the answers part at place 23: the next two replies, and what desk 1 is told
  pub their-answers : answers theirs ≡ until ++ (done ∷ done ∷ told (written sold 0) ∷ []) ++ after
  pub our-answers : answers ours ≡ until ++ (late ∷ late ∷ refused 9 ∷ []) ++ after
  -- because at place 22, the first reply made on another sheet, the wrong store counts it and the plain machine starts the round again
  pub counted : (desk_at theirs 1 23).activity ≡ running (record { task = write sale; note = 0; phase = second sold; heard = counted_reply ∷ []; restarts = 0 })
  pub restarted : (desk_at ours 1 23).activity ≡ running (record { task = write sale; note = 0; phase = second sold; heard = []; restarts = 1 })
  -- 0, 1 and 3 are a quorum on the sheet without the gifts, and none on the sheet with them
  pub quorum-then : quorum_of (config ours) [] three ≡ true
  pub no-quorum-now : quorum_of (config ours) (desk_at ours 2 43).replica.set three ≡ false
  -- desk 1's sale does not end
  pub sale-not-ended : (k : ℕ) (x : Result) → Ends (view_of ours) 1 0 (write sale) k x → ⊥

pub parting : Parting
unfolding computing answers_from hear_with count_other
parting =
    record {
      their-answers = refl;
      our-answers = refl;
      counted = refl;
      restarted = refl;
      quorum-then = refl;
      no-quorum-now = refl;
      sale-not-ended = never_ends_lem ours 1 refl 0 (write sale);
    }

-- The order of tags holds of it, as of every list.
pub ours-ordered : Order (view_of ours)
ours-ordered = order (level 5 1) (level-lawful 5 1 refl) steps

-- ---- and on: desk 1 goes on with its sale through 2 and 4 (places 43 to 52), and desk 3 reads through 2 and 4 (53 to 69)

abbrev pub ours_later : PlainRun
ours_later = run_by machine 5 1 (steps ++ trip 1 2 24 ++ trip 1 2 26 ++ trip 1 4 28 ++ (result 1 ∷ []) ++ read_after 3 30)

pub record Later : Type 0 where
  pub sale-ends : Ends (view_of ours_later) 1 0 (write sale) 51 (written sold 2)
  pub sale-told : answer_at ours_later 52 ≡ told (written sold 2)
  pub read-ends : Ends (view_of ours_later) 3 53 read 68 (returned sold 1)
  pub read_told : answer_at ours_later 69 ≡ told (returned sold 1)

pub later : Later
unfolding computing
later =
    record {
      sale-ends = ends_of_lem ours_later 1 0 (write sale) 51 (written sold 2) 0 29 refl refl refl refl refl refl refl;
      sale-told = refl;
      read-ends = ends_of_lem ours_later 3 53 read 68 (returned sold 1) 0 39 refl refl refl refl refl refl refl;
      read_told = refl;
    }
