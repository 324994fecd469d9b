-- The clauses of demand 3 are not empty: runs of the plain machine in which what they speak of happens, by computation. Places count from 0.
use Prim.Native.Nat.{ℕ}
use mathlib.Core.Path.{◌≡◌, refl}
use mathlib.Core.Bool.{Bool, true, false, cond}
use mathlib.Core.List.{[], ◌∷◌, ◌++◌}
use mathlib.Core.Option.{Option, none, some}
use lib.Dec.{eqb}
use lib.IntN.{ℤ, pos, negsuc}
use Rattle.machine.specs.Sets.{weight_of, quorum_of}
use Rattle.machine.specs.Parties.{start, read, write, first, second, running, Result}
use Rattle.machine.specs.Runs.{config, done, told, answer_at, desk_at}
use Rattle.machine.specs.Margins.{margin_by}
use Rattle.machine.specs.Steps.{begin, ask, serve, result, drop, transfer, share, machine, PlainRun}
use Rattle.machine.specs.Seen.{view_of}
use Rattle.machine.specs.Views.{Ends, Chose, restarts_made, gain}
use Rattle.machine.proofs.Computing.{computing}
use Rattle.machine.proofs.Blocks.{sale, sold}
use Rattle.nearmiss.specs.Steps.{run_by, room, trip, returned, written}
use Rattle.machine.proofs.Concrete.{ends_of_lem, chose-of}
use Rattle.nearmiss.proofs.Computing.{never_ends_lem}

-- ---- a read returns what was written before it, across a transfer of weight

-- n = 4, f = 1. Desk 1 writes through 0, 1 and 2 (places 0 to 18). Server 0 gives 333 to 3 and tells it (19 to 21). Desk 2 reads through 3 and 1
-- (22 to 37).
abbrev pub across : PlainRun
across =
    run_by machine 4 1
    ((begin 1 (write sale) 0 ∷ []) ++ trip 1 0 0 ++ trip 1 1 2 ++ trip 1 2 4 ++ trip 1 0 6 ++ trip 1 1 8 ++ trip 1 2 10
    ++ (transfer 0 3 333 ∷ share 0 0 room ∷ serve 3 12 0 room ∷ begin 2 read 0 ∷ [])
    ++ trip 2 3 13
    ++ trip 2 3 15
    ++ trip 2 1 17
    ++ trip 2 3 19
    ++ trip 2 1 21
    ++ (result 2 ∷ []))

-- servers 1 and 3
abbrev pub two : ℕ → Bool
two i = cond (eqb i 1) true (eqb i 3)

pub record Across : Type 0 where
  pub write-ends : Ends (view_of across) 1 0 (write sale) 18 (written sold 0)
  pub weight-moves : answer_at across 19 ≡ done
  -- the read restarts once, at its first reply
  pub read-ends : Ends (view_of across) 2 22 read 37 (returned sold 1)
  pub read_told : answer_at across 38 ≡ told (returned sold 1)
  -- its two servers are a quorum on its own sheet, and were none before
  pub heavier : weight_of (config across) (desk_at across 2 38).replica.set 3 ≡ pos 1333
  pub quorum-now : quorum_of (config across) (desk_at across 2 38).replica.set two ≡ true
  pub no-quorum-before : quorum_of (config across) [] two ≡ false

pub read-across : Across
unfolding computing
read-across =
    record {
      write-ends = ends_of_lem across 1 0 (write sale) 18 (written sold 0) 0 11 refl refl refl refl refl refl refl;
      weight-moves = refl;
      read-ends = ends_of_lem across 2 22 read 37 (returned sold 1) 0 22 refl refl refl refl refl refl refl;
      read_told = refl;
      heavier = refl;
      quorum-now = refl;
      no-quorum-before = refl;
    }

-- ---- what desk staff see of it (paper 02, N1)

-- desk d after the first k steps
abbrev pub watched : ℕ → ℕ → Option ℤ
watched d k = margin_by (config across) (desk_at across d k)

pub record Watched : Type 0 where
  -- desk 1's write: before it begins, with nobody, with one server of four and with two
  pub before : watched 1 0 ≡ none
  pub nobody : watched 1 1 ≡ some (negsuc 3999)
  pub one : watched 1 4 ≡ some (negsuc 1999)
  pub half : watched 1 7 ≡ some (pos 0)
  -- a third ends phase 1, and phase 2 begins with nobody; once the write has ended there is nothing to see
  pub next-phase : watched 1 10 ≡ some (negsuc 3999)
  pub after : watched 1 19 ≡ none
  -- desk 2's read: it has restarted, on the sheet on which server 3 weighs 1,333, which then answers
  pub restarted : watched 2 26 ≡ some (negsuc 3999)
  pub heavier-alone : watched 2 29 ≡ some (negsuc 1333)

pub watch-across : Watched
unfolding computing
watch-across =
    record {
      before = refl;
      nobody = refl;
      one = refl;
      half = refl;
      next-phase = refl;
      after = refl;
      restarted = refl;
      heavier-alone = refl;
    }

-- ---- a read returns the value of a dropped write

-- n = 3, f = 1. Desk 1's write chooses through 0 and 1 (places 0 to 6), reaches server 0 and is dropped (7 to 9). Desk 2 reads through 0 and 2
-- (10 to 22).
abbrev pub dropped_write : PlainRun
dropped_write =
    run_by machine 3 1
    ((begin 1 (write sale) 0 ∷ []) ++ trip 1 0 0 ++ trip 1 1 2 ++ (ask 1 0 0 room ∷ serve 0 4 0 room ∷ drop 1 ∷ begin 2 read 0 ∷ []) ++ trip 2 0 6
    ++ trip 2 2 8
    ++ trip 2 0 10
    ++ trip 2 2 12
    ++ (result 2 ∷ []))

pub record Dropped : Type 0 where
  pub write-chose : Chose (view_of dropped_write) 1 0 (write sale) sold
  pub write-dropped : answer_at dropped_write 9 ≡ done
  pub write-never-ends : (k : ℕ) (x : Result) → Ends (view_of dropped_write) 1 0 (write sale) k x → ⊥
  pub read-ends : Ends (view_of dropped_write) 2 10 read 22 (returned sold 0)
  pub read_told : answer_at dropped_write 23 ≡ told (returned sold 0)

pub read_dropped : Dropped
unfolding computing
read_dropped =
    record {
      write-chose = chose-of dropped_write 1 0 (write sale) 7 sold 0 refl refl refl refl refl;
      write-dropped = refl;
      write-never-ends = never_ends_lem dropped_write 1 refl 0 (write sale);
      read-ends = ends_of_lem dropped_write 2 10 read 22 (returned sold 0) 0 13 refl refl refl refl refl refl refl;
      read_told = refl;
    }

-- ---- restarts in both phases; two restarts and a gain of three

-- n = 3, f = 1. Server 0 gives 2 some weight twice. Desk 1's write (from place 2) finds that at its first reply (5), chooses through 0 and 1 (11);
-- then 1 gives 2 some weight, which the next reply brings (15), and it ends through 1 and 0 (21).
abbrev pub two_restarts : PlainRun
two_restarts =
    run_by machine 3 1
    ((transfer 0 2 100 ∷ transfer 0 2 100 ∷ begin 1 (write sale) 0 ∷ []) ++ trip 1 0 0 ++ trip 1 0 2 ++ trip 1 1 4 ++ (transfer 1 2 100 ∷ []) ++ trip 1 1 6
    ++ trip 1 1 8
    ++ trip 1 0 10
    ++ (result 1 ∷ []))

pub record Restarted : Type 0 where
  -- a restart in phase 1 and one in phase 2
  pub before-choosing : (desk_at two_restarts 1 6).activity ≡ running (record { task = write sale; note = 0; phase = first; heard = []; restarts = 1 })
  pub after-choosing : (desk_at two_restarts 1 16).activity ≡ running (record { task = write sale; note = 0; phase = second sold; heard = []; restarts = 2 })
  pub write-ends : Ends (view_of two_restarts) 1 2 (write sale) 21 (written sold 2)
  pub write-told : answer_at two_restarts 22 ≡ told (written sold 2)
  -- two restarts, which brought three transfers
  pub made : restarts_made (view_of two_restarts) 1 2 21 ≡ 2
  pub gained : gain (view_of two_restarts) 1 2 21 ≡ 3

pub write-restarted : Restarted
unfolding computing
write-restarted =
    record {
      before-choosing = refl;
      after-choosing = refl;
      write-ends = ends_of_lem two_restarts 1 2 (write sale) 21 (written sold 2) 0 11 refl refl refl refl refl refl refl;
      write-told = refl;
      made = refl;
      gained = refl;
    }

-- ---- the start read back

-- n = 3, f = 1. Desk 1 reads through 0 and 1, and nothing was written.
abbrev pub unwritten : PlainRun
unwritten = run_by machine 3 1 ((begin 1 read 0 ∷ []) ++ trip 1 0 0 ++ trip 1 1 2 ++ trip 1 0 4 ++ trip 1 1 6 ++ (result 1 ∷ []))

pub record Unwritten : Type 0 where
  pub read-ends : Ends (view_of unwritten) 1 0 read 12 (returned start 0)
  pub read_told : answer_at unwritten 13 ≡ told (record { is-write = false; register = record { stamp = 0; desk = 0; value = [] }; restarts = 0 })

pub read-unwritten : Unwritten
unfolding computing
read-unwritten =
    record {
      read-ends = ends_of_lem unwritten 1 0 read 12 (returned start 0) 0 7 refl refl refl refl refl refl refl;
      read_told = refl;
    }
