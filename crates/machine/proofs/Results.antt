-- What an operation that ended tells: its kind and its own tag. Where it ends it is in phase 2 with the register of its result, and an operation
-- chooses once; a write's tag is its own.
use Prim.Native.Nat.{ℕ}
use mathlib.Core.List.{List}
use Rattle.config.specs.Cluster.{House}
use Rattle.machine.specs.Parties.{Task, Result}
use Rattle.machine.specs.Steps.{Step, run_of, machine}
use Rattle.machine.specs.Seen.{view_of}
use Rattle.machine.specs.Views.{Ends, Chose, Results, Tags}
use Rattle.machine.proofs.Phases.{chose-unique, ends-finish}
use Rattle.machine.proofs.Performed.{runs-chosen}
use Rattle.machine.proofs.Registers.{write-own}

module _ (house : House) (steps : List Step) where
  pub ends-chose : {d i k : ℕ} {t : Task} {x : Result} → Ends (view_of (run_of machine house steps)) d i t k x → Chose (view_of (run_of machine house steps)) d i t x.register
  ends-chose {k = k} h =
      let f = ends-finish house steps h in
      record {
        place = k;
        current = h.current;
        phase-two = runs-chosen _ _ (record { operation = f.operation; runs = f.hearing.runs; phase-two = f.phase-two });
      }

  pub results : Results (view_of (run_of machine house steps))
  results =
      record {
        kind = λ d i k t x h. (ends-finish house steps h).kind;
        chose = λ d i k t x h. ends-chose h;
        tag = λ d i k t x g h a. chose-unique house steps a (ends-chose h);
      }

  pub tags : Tags (view_of (run_of machine house steps))
  tags = record { own = write-own house steps; once = λ d i t g h a b. chose-unique house steps a b }
