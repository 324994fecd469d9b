-- The program's run of the steps that pin the structure of a run (`machine/proofs/Pins.antt`): every answer and every byte sent, by demand 3. Each buffer is of
-- zeros, and every hear is on a lent record or by value, for every choice.
use Prim.Native.Nat.{ℕ}
use mathlib.Core.Path.{◌≡◌, refl, ◌∙◌}
use mathlib.Core.Bool.{Bool}
use mathlib.Core.List.{List}
use lib.ListN.{length}
use Rattle.config.specs.Cluster.{level}
use Rattle.config.proofs.Houses.{level-fault}
use Rattle.machine.specs.Runs.{at, answers_of}
use Rattle.machine.proofs.Concrete.{are_bytes, typed_steps}
use Rattle.machine.proofs.Pins.{Row, steps_of, answers_in, alone, alone_bytes, sixteen, sixteen_bytes, run_in, pins}
use Rattle.runs.specs.Runs.{ProgramRun}
use Rattle.worked.proofs.Carried.{run_for, answers-shown, bytes-shown}

module _ (lent : ℕ → Bool) where
  -- the program's run of a list of rows
  abbrev pub program_in : ℕ → ℕ → List Row → ProgramRun
  program_in n f l = run_for lent (run_in n f l)

  pub record Pinned : Type 0 where
    pub alone-answers : answers_of (program_in 1 0 alone) ≡ answers_in alone
    pub alone-bytes : (at (program_in 1 0 alone) (length alone)).sent ≡ alone_bytes
    pub sixteen-answers : answers_of (program_in 16 7 sixteen) ≡ answers_in sixteen
    pub sixteen-bytes : (at (program_in 16 7 sixteen) (length sixteen)).sent ≡ sixteen_bytes

  pub program-pins : Pinned
  unfolding are_bytes typed_steps
  program-pins =
      record {
        alone-answers = answers-shown lent (level 1 0) (level-fault 1 0 refl) (steps_of alone) refl ∙ pins.alone-answers;
        alone-bytes = bytes-shown lent (level 1 0) (level-fault 1 0 refl) (steps_of alone) refl (length alone) ∙ pins.alone-bytes;
        sixteen-answers = answers-shown lent (level 16 7) (level-fault 16 7 refl) (steps_of sixteen) refl ∙ pins.sixteen-answers;
        sixteen-bytes = bytes-shown lent (level 16 7) (level-fault 16 7 refl) (steps_of sixteen) refl (length sixteen) ∙ pins.sixteen-bytes;
      }
