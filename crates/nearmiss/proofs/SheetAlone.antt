-- Joining a sheet but not its register breaks the order of tags: a sale is written through 0, 1 and 3, then 0 and 1 give weight to 2 and tell it. Their
-- share brings 2 the weight and not the sale, and 2 and 4 are a quorum that knows of none.
use mathlib.Core.Path.{◌≡◌, refl}
use mathlib.Core.List.{List, [], ◌∷◌, ◌++◌}
use Rattle.machine.specs.Parties.{start, read, write}
use Rattle.machine.specs.Runs.{told, answer_at}
use Rattle.machine.specs.Steps.{Step, begin, machine, PlainRun}
use Rattle.machine.specs.Seen.{view_of}
use Rattle.machine.specs.Views.{Ends, Chose, Order}
use Rattle.machine.proofs.Computing.{computing}
use Rattle.machine.proofs.Blocks.{sale, sold}
use Rattle.nearmiss.specs.Steps.{run_by, trip, pass_on, read_after, returned, written}
use Rattle.nearmiss.specs.SheetAlone.{serve_sheet, sheet_alone}
use Rattle.machine.proofs.Concrete.{ends_of_lem, chose-of}
use Rattle.nearmiss.proofs.Refuting.{lower-tag}

-- n = 5, f = 1. Desk 1 writes (places 0 to 18), weight moves (19 to 24), desk 2 reads (25 to 41).
abbrev pub steps : List Step
steps =
    (begin 1 (write sale) 0 ∷ []) ++ trip 1 0 0 ++ trip 1 1 2 ++ trip 1 3 4 ++ trip 1 0 6 ++ trip 1 1 8 ++ trip 1 3 10 ++ pass_on 12 ++ read_after 2 14

abbrev pub theirs : PlainRun
theirs = run_by sheet_alone 5 1 steps

pub sale-ends : Ends (view_of theirs) 1 0 (write sale) 18 (written sold 0)
unfolding computing serve_sheet
sale-ends = ends_of_lem theirs 1 0 (write sale) 18 (written sold 0) 0 11 refl refl refl refl refl refl refl

pub sale-chose : Chose (view_of theirs) 1 0 (write sale) sold
unfolding computing serve_sheet
sale-chose = chose-of theirs 1 0 (write sale) 10 sold 0 refl refl refl refl refl

pub read-ends : Ends (view_of theirs) 2 25 read 40 (returned start 1)
unfolding computing serve_sheet
read-ends = ends_of_lem theirs 2 25 read 40 (returned start 1) 0 23 refl refl refl refl refl refl refl

pub read-chose : Chose (view_of theirs) 2 25 read start
unfolding computing serve_sheet
read-chose = chose-of theirs 2 25 read 35 start 0 refl refl refl refl refl

pub sheet-alone-unordered : Order (view_of theirs) → ⊥
unfolding computing
sheet-alone-unordered = lower-tag sale-ends sale-chose refl read-chose refl

-- On the plain machine the share brings the sale along, and the read returns it.
pub ours : answer_at (run_by machine 5 1 steps) 41 ≡ told (returned sold 1)
unfolding computing
ours = refl
