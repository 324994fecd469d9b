-- Restarts reported as 0 break the clause on restarts, on the list of `Shown` in which two are made.
use native.Mathlib.Omega.{arith}
use mathlib.Core.Path.{◌≡◌, refl}
use Rattle.machine.specs.Parties.{write}
use Rattle.machine.specs.Steps.{PlainRun}
use Rattle.machine.specs.Seen.{view_of}
use Rattle.machine.specs.Views.{Ends, restarts_made, Restarts}
use Rattle.machine.proofs.Computing.{computing}
use Rattle.machine.proofs.Blocks.{sale, sold}
use Rattle.nearmiss.specs.Steps.{run_by, written}
use Rattle.nearmiss.specs.NoRestarts.{result_without, no_restarts}
use Rattle.machine.proofs.Concrete.{ends_of_lem}
use Rattle.nearmiss.proofs.Shown.{two_restarts}

abbrev pub theirs : PlainRun
theirs = run_by no_restarts 3 1 two_restarts.steps

pub write-ends : Ends (view_of theirs) 1 2 (write sale) 21 (written sold 0)
unfolding computing result_without
write-ends = ends_of_lem theirs 1 2 (write sale) 21 (written sold 0) 0 11 refl refl refl refl refl refl refl

pub made : restarts_made (view_of theirs) 1 2 21 ≡ 2
unfolding computing
made = refl

pub no-restarts-misreported : Restarts (view_of theirs) → ⊥
no-restarts-misreported restarts =
    let none : 0 ≡ restarts_made (view_of theirs) 1 2 21 = restarts.made 1 2 21 (write sale) (written sold 0) write-ends in
    omega (arith, made)
