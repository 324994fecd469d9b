-- Counting a server twice breaks the order of tags: desk 1 hears each of server 0's replies twice and ends a sale that no other server took, and desk 2
-- reads through 1 and 2.
use mathlib.Core.Path.{◌≡◌, refl}
use mathlib.Core.List.{List, [], ◌∷◌, ◌++◌}
use Rattle.machine.specs.Parties.{start, read, write}
use Rattle.machine.specs.Runs.{refused, answer_at}
use Rattle.machine.specs.Steps.{Step, begin, ask, serve, hear, result, machine, PlainRun}
use Rattle.machine.specs.Seen.{view_of}
use Rattle.machine.specs.Views.{Ends, Chose, Order}
use Rattle.machine.proofs.Computing.{computing}
use Rattle.machine.proofs.Blocks.{sale, sold}
use Rattle.nearmiss.specs.Steps.{run_by, room, trip, returned, written}
use Rattle.nearmiss.specs.Parts.{hear_with, mark_with}
use Rattle.nearmiss.specs.CountedTwice.{weight_heard, enough_replies, counted_twice}
use Rattle.machine.proofs.Concrete.{ends_of_lem, chose-of}
use Rattle.nearmiss.proofs.Refuting.{lower-tag}

-- n = 3, f = 1. Desk 1 writes (places 0 to 8), asks for its result (9), and desk 2 reads (10 to 22).
abbrev pub steps : List Step
steps =
    (begin 1 (write sale) 0 ∷ ask 1 0 0 room ∷ serve 0 0 0 room ∷ hear 1 1 ∷ hear 1 1 ∷ ask 1 0 0 room ∷ serve 0 2 0 room ∷ hear 1 3 ∷ hear 1 3 ∷ result 1
    ∷ begin 2 read 0
    ∷ [])
    ++ trip 2 1 4
    ++ trip 2 2 6
    ++ trip 2 1 8
    ++ trip 2 2 10

abbrev pub theirs : PlainRun
theirs = run_by counted_twice 3 1 steps

pub sale-ends : Ends (view_of theirs) 1 0 (write sale) 8 (written sold 0)
unfolding computing hear_with mark_with weight_heard enough_replies
sale-ends = ends_of_lem theirs 1 0 (write sale) 8 (written sold 0) 0 3 refl refl refl refl refl refl refl

pub sale-chose : Chose (view_of theirs) 1 0 (write sale) sold
unfolding computing hear_with mark_with weight_heard enough_replies
sale-chose = chose-of theirs 1 0 (write sale) 5 sold 0 refl refl refl refl refl

pub read-ends : Ends (view_of theirs) 2 10 read 22 (returned start 0)
unfolding computing hear_with mark_with weight_heard enough_replies
read-ends = ends_of_lem theirs 2 10 read 22 (returned start 0) 0 11 refl refl refl refl refl refl refl

pub read-chose : Chose (view_of theirs) 2 10 read start
unfolding computing hear_with mark_with weight_heard enough_replies
read-chose = chose-of theirs 2 10 read 17 start 0 refl refl refl refl refl

pub counted-twice-unordered : Order (view_of theirs) → ⊥
unfolding computing
counted-twice-unordered = lower-tag sale-ends sale-chose refl read-chose refl

-- On the plain machine the sale has not ended when desk 2 begins.
pub ours : answer_at (run_by machine 3 1 steps) 9 ≡ refused 9
unfolding computing
ours = refl
