-- Taking 0 for a quorum breaks the order of tags, with no weight moved at all: two fresh servers of four weigh half, and so do the other two. A sale is
-- written through the first two, and a read through the others knows of none.
use mathlib.Core.Path.{◌≡◌, refl}
use mathlib.Core.List.{List, [], ◌∷◌, ◌++◌}
use Rattle.machine.specs.Parties.{start, read, write}
use Rattle.machine.specs.Runs.{refused, answer_at}
use Rattle.machine.specs.Steps.{Step, begin, result, machine, PlainRun}
use Rattle.machine.specs.Seen.{view_of}
use Rattle.machine.specs.Views.{Ends, Chose, Order}
use Rattle.machine.proofs.Computing.{computing}
use Rattle.machine.proofs.Blocks.{sale, sold}
use Rattle.machine.proofs.Concrete.{ends_of_lem, chose-of}
use Rattle.nearmiss.specs.Steps.{run_by, trip, returned, written}
use Rattle.nearmiss.specs.Parts.{hear_with, mark_with}
use Rattle.nearmiss.specs.HalfWeight.{half, half_weight}
use Rattle.nearmiss.proofs.Refuting.{lower-tag}

-- n = 4, f = 1. Desk 1 writes through 0 and 1 (places 0 to 12); desk 2 reads through 2 and 3 (13 to 25) and is asked for its result (26).
abbrev pub steps : List Step
steps =
    (begin 1 (write sale) 0 ∷ []) ++ trip 1 0 0 ++ trip 1 1 2 ++ trip 1 0 4 ++ trip 1 1 6
    ++ (begin 2 read 0 ∷ [])
    ++ trip 2 2 8
    ++ trip 2 3 10
    ++ trip 2 2 12
    ++ trip 2 3 14
    ++ (result 2 ∷ [])

abbrev pub theirs : PlainRun
theirs = run_by half_weight 4 1 steps

pub sale-ends : Ends (view_of theirs) 1 0 (write sale) 12 (written sold 0)
unfolding computing hear_with mark_with half
sale-ends = ends_of_lem theirs 1 0 (write sale) 12 (written sold 0) 0 7 refl refl refl refl refl refl refl

pub sale-chose : Chose (view_of theirs) 1 0 (write sale) sold
unfolding computing hear_with mark_with half
sale-chose = chose-of theirs 1 0 (write sale) 7 sold 0 refl refl refl refl refl

pub read-ends : Ends (view_of theirs) 2 13 read 25 (returned start 0)
unfolding computing hear_with mark_with half
read-ends = ends_of_lem theirs 2 13 read 25 (returned start 0) 0 15 refl refl refl refl refl refl refl

pub read-chose : Chose (view_of theirs) 2 13 read start
unfolding computing hear_with mark_with half
read-chose = chose-of theirs 2 13 read 20 start 0 refl refl refl refl refl

pub half-weight-unordered : Order (view_of theirs) → ⊥
unfolding computing
half-weight-unordered = lower-tag sale-ends sale-chose refl read-chose refl

-- On the plain machine neither ends.
pub ours : answer_at (run_by machine 4 1 steps) 26 ≡ refused 9
unfolding computing
ours = refl
