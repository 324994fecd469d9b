-- Demand 3 is not empty: what the plain machine is shown to do by computation (`nearmiss/proofs/Shown.antt`), the program does. Places count from 0.
use Rattle.std.specs.Prelude.{Ok, Err}
use Prim.Native.Nat.{ℕ, ◌%◌}
use native.Mathlib.Omega.{arith}
use mathlib.Core.Path.{◌≡◌, refl, sym, ap, ◌∙◌, subst}
use mathlib.Core.Bool.{Bool, false}
use mathlib.Core.List.{[], ◌∷◌, map}
use mathlib.Core.Option.{none, some}
use lib.Dec.{eqb}
use lib.IntN.{pos, negsuc}
use Rattle.config.proofs.Houses.{level-fault}
use Rattle.config.specs.Refusals.{refusal}
use Rattle.desk.specs.Margins.{margin_of}
use Rattle.machine.specs.Parties.{read, write, start}
use Rattle.machine.specs.Runs.{nth, done, told, desk_at}
use Rattle.machine.specs.Views.{Ends, Chose, restarts_made, gain}
use Rattle.machine.proofs.Computing.{computing}
use Rattle.machine.proofs.Blocks.{sale, sold}
use Rattle.machine.proofs.Concrete.{are_bytes, typed_steps}
use Rattle.nearmiss.specs.Steps.{returned, written}
use Rattle.nearmiss.proofs.Shown.{across, read-across, watch-across, dropped_write, read_dropped, two_restarts, write-restarted, unwritten, read-unwritten}
use Rattle.runs.specs.Steps.{hear, hear-lent}
use Rattle.runs.proofs.Margins.{shown_as}
use Rattle.worked.proofs.Carried.{run_for, seen, view-shown, margin-shown}

-- `lent` says of each message, by its place among those sent, whether it is heard on a lent record.
module _ (lent : ℕ → Bool) where
  -- n = 4, f = 1: desk 1 writes, server 0 gives 333 to 3, and desk 2 reads what was written through 3 and 1, which were no quorum before
  pub record Across : Type 0 where
    pub write-ends : Ends (seen lent across) 1 0 (write sale) 18 (written sold 0)
    pub weight-moves : (seen lent across).answers 19 ≡ done
    pub read-ends : Ends (seen lent across) 2 22 read 37 (returned sold 1)
    pub read_told : (seen lent across).answers 38 ≡ told (returned sold 1)

  pub program-across : Across
  unfolding typed_steps are_bytes
  program-across =
      let same = view-shown lent across.house (level-fault 4 1 refl) across.steps refl in
      record {
        write-ends = subst (λ v. Ends v 1 0 (write sale) 18 (written sold 0)) same read-across.write-ends;
        weight-moves = subst (λ v. v.answers 19 ≡ done) same read-across.weight-moves;
        read-ends = subst (λ v. Ends v 2 22 read 37 (returned sold 1)) same read-across.read-ends;
        read_told = subst (λ v. v.answers 38 ≡ told (returned sold 1)) same read-across.read_told;
      }

  -- what its desk staff see (paper 02, N1)
  pub record Watched : Type 0 where
    pub before : margin_of (desk_at (run_for lent across) 1 0) ≡ Err (refusal 9)
    pub nobody : margin_of (desk_at (run_for lent across) 1 1) ≡ Ok (negsuc 3999)
    pub one : margin_of (desk_at (run_for lent across) 1 4) ≡ Ok (negsuc 1999)
    pub half : margin_of (desk_at (run_for lent across) 1 7) ≡ Ok (pos 0)
    pub next-phase : margin_of (desk_at (run_for lent across) 1 10) ≡ Ok (negsuc 3999)
    pub heavier-alone : margin_of (desk_at (run_for lent across) 2 29) ≡ Ok (negsuc 1333)

  pub program-watched : Watched
  unfolding typed_steps are_bytes
  program-watched =
      let same = margin-shown lent across.house (level-fault 4 1 refl) across.steps refl in
      record {
        before = same 0 1 (omega arith) (omega arith) ∙ ap shown_as watch-across.before;
        nobody = same 1 1 (omega arith) (omega arith) ∙ ap shown_as watch-across.nobody;
        one = same 4 1 (omega arith) (omega arith) ∙ ap shown_as watch-across.one;
        half = same 7 1 (omega arith) (omega arith) ∙ ap shown_as watch-across.half;
        next-phase = same 10 1 (omega arith) (omega arith) ∙ ap shown_as watch-across.next-phase;
        heavier-alone = same 29 2 (omega arith) (omega arith) ∙ ap shown_as watch-across.heavier-alone;
      }

  -- n = 3, f = 1: desk 1's write reaches one server and is dropped, and desk 2 reads its value
  pub record Dropped : Type 0 where
    pub write-chose : Chose (seen lent dropped_write) 1 0 (write sale) sold
    pub write-dropped : (seen lent dropped_write).answers 9 ≡ done
    pub read-ends : Ends (seen lent dropped_write) 2 10 read 22 (returned sold 0)
    pub read_told : (seen lent dropped_write).answers 23 ≡ told (returned sold 0)

  pub program-dropped : Dropped
  unfolding typed_steps are_bytes
  program-dropped =
      let same = view-shown lent dropped_write.house (level-fault 3 1 refl) dropped_write.steps refl in
      record {
        write-chose = subst (λ v. Chose v 1 0 (write sale) sold) same read_dropped.write-chose;
        write-dropped = subst (λ v. v.answers 9 ≡ done) same read_dropped.write-dropped;
        read-ends = subst (λ v. Ends v 2 10 read 22 (returned sold 0)) same read_dropped.read-ends;
        read_told = subst (λ v. v.answers 23 ≡ told (returned sold 0)) same read_dropped.read_told;
      }

  -- n = 3, f = 1: a write that restarts in each phase, and tells 2 restarts, with a gain of three transfers
  pub record Restarted : Type 0 where
    pub write-ends : Ends (seen lent two_restarts) 1 2 (write sale) 21 (written sold 2)
    pub write-told : (seen lent two_restarts).answers 22 ≡ told (written sold 2)
    -- the first brings two transfers before a register is chosen, the second one after that
    pub before-choosing : ((seen lent two_restarts).brings 1 5 ≡ 2) × ((seen lent two_restarts).chosen 1 6 ≡ none)
    pub after-choosing : ((seen lent two_restarts).brings 1 15 ≡ 1) × ((seen lent two_restarts).chosen 1 15 ≡ some sold)
    pub made : restarts_made (seen lent two_restarts) 1 2 21 ≡ 2
    pub gained : gain (seen lent two_restarts) 1 2 21 ≡ 3

  pub program-restarted : Restarted
  unfolding typed_steps are_bytes computing
  program-restarted =
      let same = view-shown lent two_restarts.house (level-fault 3 1 refl) two_restarts.steps refl in
      record {
        write-ends = subst (λ v. Ends v 1 2 (write sale) 21 (written sold 2)) same write-restarted.write-ends;
        write-told = subst (λ v. v.answers 22 ≡ told (written sold 2)) same write-restarted.write-told;
        before-choosing = subst (λ v. (v.brings 1 5 ≡ 2) × (v.chosen 1 6 ≡ none)) same (refl, refl);
        after-choosing = subst (λ v. (v.brings 1 15 ≡ 1) × (v.chosen 1 15 ≡ some sold)) same (refl, refl);
        made = subst (λ v. restarts_made v 1 2 21 ≡ 2) same write-restarted.made;
        gained = subst (λ v. gain v 1 2 21 ≡ 3) same write-restarted.gained;
      }

  -- n = 3, f = 1: the start read back
  pub record Unwritten : Type 0 where
    pub read-ends : Ends (seen lent unwritten) 1 0 read 12 (returned start 0)
    pub read_told : (seen lent unwritten).answers 13 ≡ told (returned start 0)

  pub program-unwritten : Unwritten
  unfolding typed_steps are_bytes
  program-unwritten =
      let same = view-shown lent unwritten.house (level-fault 3 1 refl) unwritten.steps refl in
      record {
        read-ends = subst (λ v. Ends v 1 0 read 12 (returned start 0)) same read-unwritten.read-ends;
        read_told = subst (λ v. v.answers 13 ≡ told (returned start 0)) same read-unwritten.read_told;
      }

-- ---- some replies on a lent record, others by value

-- of messages 1, 3, 5, …, which are the replies, every other one: 1, 5, 9, …
abbrev pub every_other : ℕ → Bool
every_other k = eqb (k % 4) 1

-- all by value
abbrev pub none_lent : ℕ → Bool
none_lent k = false

-- The write that restarts in each phase, its replies heard by turns on a lent record and by value: on a lent record the first restart, the choice of a
-- register and the first reply that counts in phase 2, by value the others, and the last. What it tells, and all that demand 3 looks at, is as where all
-- replies are heard by value.
pub record Lent : Type 0 where
  pub hears : map (nth (run_for every_other two_restarts).steps) (5 ∷ 8 ∷ 11 ∷ 15 ∷ 18 ∷ 21 ∷ [])
      ≡ some (hear-lent 1 1) ∷ some (hear 1 3) ∷ some (hear-lent 1 5) ∷ some (hear 1 7) ∷ some (hear-lent 1 9) ∷ some (hear 1 11) ∷ []
  pub write-told : (seen every_other two_restarts).answers 22 ≡ told (written sold 2)
  pub told-by-value : (seen none_lent two_restarts).answers 22 ≡ told (written sold 2)
  pub same : seen every_other two_restarts ≡ seen none_lent two_restarts

pub program-lent : Lent
unfolding typed_steps are_bytes
program-lent =
    record {
      hears = refl;
      write-told = (program-restarted every_other).write-told;
      told-by-value = (program-restarted none_lent).write-told;
      same =
          sym (view-shown every_other two_restarts.house (level-fault 3 1 refl) two_restarts.steps refl)
          ∙ view-shown none_lent two_restarts.house (level-fault 3 1 refl) two_restarts.steps refl;
    }
