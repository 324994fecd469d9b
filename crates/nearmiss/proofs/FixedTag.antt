-- A fixed tag breaks the order of tags and the clause on values: two writes, one after the other, have the tag (1, 1); a later read has that tag, and
-- returns the first write's value although the second had ended.
use Prim.Native.Nat.{ℕ}
use native.Mathlib.Omega.{arith}
use mathlib.Core.Path.{◌≡◌, refl}
use mathlib.Core.Logic.{⊎_elim}
use mathlib.Core.List.{List, [], ◌∷◌, ◌++◌}
use Rattle.machine.specs.Parties.{Register, read, write}
use Rattle.machine.specs.Runs.{told, answer_at}
use Rattle.machine.specs.Steps.{Step, begin, result, machine, PlainRun}
use Rattle.machine.specs.Seen.{view_of}
use Rattle.machine.specs.Views.{Ends, Chose, Order, OneWrite, Values}
use Rattle.machine.proofs.Computing.{computing}
use Rattle.machine.proofs.Blocks.{sale, sold, full}
use Rattle.nearmiss.specs.Steps.{run_by, trip, returned, written}
use Rattle.nearmiss.specs.Parts.{hear_with, mark_with}
use Rattle.nearmiss.specs.FixedTag.{choose_fixed, fixed_tag}
use Rattle.machine.proofs.Concrete.{ends_of_lem, chose-of}
use Rattle.nearmiss.proofs.Refuting.{not-higher}

-- n = 3, f = 1, all through 0 and 1. Desk 1 writes (places 0 to 12), desk 2 writes (13 to 25), desk 3 reads (26 to 39).
abbrev pub steps : List Step
steps =
    (begin 1 (write sale) 0 ∷ []) ++ trip 1 0 0 ++ trip 1 1 2 ++ trip 1 0 4 ++ trip 1 1 6 ++ (begin 2 (write full) 0 ∷ []) ++ trip 2 0 8 ++ trip 2 1 10
    ++ trip 2 0 12
    ++ trip 2 1 14
    ++ (begin 3 read 0 ∷ [])
    ++ trip 3 0 16
    ++ trip 3 1 18
    ++ trip 3 0 20
    ++ trip 3 1 22
    ++ (result 3 ∷ [])

abbrev pub theirs : PlainRun
theirs = run_by fixed_tag 3 1 steps

-- what desk 2 writes, with the tag of desk 1's sale
abbrev pub again : Register
again = record { stamp = 1; desk = 1; value = full }

pub sale-ends : Ends (view_of theirs) 1 0 (write sale) 12 (written sold 0)
unfolding computing hear_with mark_with choose_fixed
sale-ends = ends_of_lem theirs 1 0 (write sale) 12 (written sold 0) 0 7 refl refl refl refl refl refl refl

pub sale-chose : Chose (view_of theirs) 1 0 (write sale) sold
unfolding computing hear_with mark_with choose_fixed
sale-chose = chose-of theirs 1 0 (write sale) 7 sold 0 refl refl refl refl refl

pub second-ends : Ends (view_of theirs) 2 13 (write full) 25 (written again 0)
unfolding computing hear_with mark_with choose_fixed
second-ends = ends_of_lem theirs 2 13 (write full) 25 (written again 0) 0 15 refl refl refl refl refl refl refl

pub second-chose : Chose (view_of theirs) 2 13 (write full) again
unfolding computing hear_with mark_with choose_fixed
second-chose = chose-of theirs 2 13 (write full) 20 again 0 refl refl refl refl refl

pub read-ends : Ends (view_of theirs) 3 26 read 38 (returned sold 0)
unfolding computing hear_with mark_with choose_fixed
read-ends = ends_of_lem theirs 3 26 read 38 (returned sold 0) 0 23 refl refl refl refl refl refl refl

pub read-chose : Chose (view_of theirs) 3 26 read sold
unfolding computing hear_with mark_with choose_fixed
read-chose = chose-of theirs 3 26 read 33 sold 0 refl refl refl refl refl

pub fixed-tag-unordered : Order (view_of theirs) → ⊥
unfolding computing
fixed-tag-unordered = not-higher sale-ends sale-chose refl second-chose refl

-- two writes have the read's tag
not-one : OneWrite (view_of theirs) sold sale → ⊥
not-one w =
    let first = (w.only 1 0 sale sold sale-chose (refl, refl)).0 in
    let second = (w.only 2 13 full again second-chose (refl, refl)).0 in
    omega arith

pub fixed-tag-values : Values (view_of theirs) → ⊥
fixed-tag-values values =
    ⊎_elim (λ (z : (sold.stamp ≡ 0) × (sold.desk ≡ 0) × (sold.value ≡ [])). let one : ◌≡◌ {A = ℕ} 1 0 = z.0 in omega arith)
    (λ (w : OneWrite (view_of theirs) sold sale). not-one w)
    (values.source 3 26 sold read-chose)

-- On the plain machine the read returns what was written last.
pub ours : answer_at (run_by machine 3 1 steps) 39 ≡ told (returned (record { stamp = 2; desk = 2; value = full }) 0)
unfolding computing
ours = refl
