-- Taking 1,000 × n for W breaks the order of tags: of two servers that start at 1,001 each, twice the weight of one is above 2,000. A sale is written
-- through the first alone, and a read through the second knows of none. In a level house that store is the plain machine itself.
use Prim.Native.Nat.{ℕ}
use mathlib.Core.Path.{◌≡◌, refl, sym, ap, fun_ext}
use mathlib.Core.Bool.{true}
use mathlib.Core.List.{List, [], ◌∷◌, ◌++◌}
use lib.IntN.{pos, ◌+ℤ◌, ◌-ℤ◌}
use lib.Signed.{lt_z}
use Rattle.quorums.specs.Accounts.{total, weight_in, margin, quorum}
use Rattle.config.specs.Cluster.{House, config_of, house_of, lawful_list, house_fault, level, in_bounds, total_of}
use Rattle.config.specs.declared.cluster.Config.{Config}
use Rattle.config.proofs.Houses.{level-total}
use Rattle.machine.specs.Sets.{accounts, quorum_of}
use Rattle.machine.specs.Parties.{start, fresh, answered, read, write, fresh_desk}
use Rattle.machine.specs.Runs.{refused, of-desk, call-with, answer_at}
use Rattle.machine.specs.Calls.{restart, choose, finished, mark, hear_by}
use Rattle.machine.specs.Steps.{Step, begin, ask, serve, hear, result, drop, transfer, share, crash, machine, asked_of, PlainRun, run_of}
use Rattle.machine.specs.Seen.{view_of}
use Rattle.machine.specs.Views.{Ends, Chose, Order}
use Rattle.machine.proofs.Computing.{computing}
use Rattle.machine.proofs.Blocks.{sale, sold}
use Rattle.machine.proofs.Concrete.{ends_of_lem, chose-of}
use Rattle.nearmiss.specs.Steps.{run_by, trip, written}
use Rattle.nearmiss.specs.Parts.{hear_with, enough_weight, mark_with}
use Rattle.nearmiss.specs.LevelTotal.{enough_of_level, level_total}
use Rattle.nearmiss.proofs.Refuting.{lower-tag}

-- n = 2, f = 0, and W is 2,002: one server is no quorum
abbrev pub higher : House
higher = house_of 2 0 (1001 ∷ 1001 ∷ [])

pub higher-taken : house_fault higher ≡ 0
unfolding computing house_fault lawful_list
higher-taken = refl

-- Desk 1 writes through 0 (places 0 to 6) and is asked for its result (7); desk 2 begins a read and chooses through 1 (8 to 11).
abbrev pub steps : List Step
steps = (begin 1 (write sale) 0 ∷ []) ++ trip 1 0 0 ++ trip 1 0 2 ++ (result 1 ∷ begin 2 read 0 ∷ []) ++ trip 2 1 4

abbrev pub theirs : PlainRun
theirs = run_of level_total higher steps

pub sale-ends : Ends (view_of theirs) 1 0 (write sale) 6 (written sold 0)
unfolding computing hear_with mark_with enough_of_level
sale-ends = ends_of_lem theirs 1 0 (write sale) 6 (written sold 0) 0 3 refl refl refl refl refl refl refl

pub sale-chose : Chose (view_of theirs) 1 0 (write sale) sold
unfolding computing hear_with mark_with enough_of_level
sale-chose = chose-of theirs 1 0 (write sale) 4 sold 0 refl refl refl refl refl

pub read-chose : Chose (view_of theirs) 2 8 read start
unfolding computing hear_with mark_with enough_of_level
read-chose = chose-of theirs 2 8 read 12 start 0 refl refl refl refl refl

pub level-total-unordered : Order (view_of theirs) → ⊥
unfolding computing
level-total-unordered = lower-tag sale-ends sale-chose refl read-chose refl

-- On the plain machine the sale has not ended when desk 2 begins.
pub ours : answer_at (run_of machine higher steps) 7 ≡ refused 9
unfolding computing
ours = refl

-- ---- a level house

module _ (n f : ℕ) (v : in_bounds n f ≡ true) where
  abbrev c : Config
  c = config_of (level n f)

  -- there W is 1,000 × n, so the test is the plain machine's
  same_test : enough_of_level c ≡ enough_weight c
  unfolding enough_of_level quorum_of quorum margin total total_of
  same_test =
      fun_ext
      (λ a.
      fun_ext (λ l. let w = weight_in n (accounts c a) (answered l) in ap (λ W. lt_z (pos 0) (w +ℤ w -ℤ pos W)) (sym (level-total n f v))))

  -- so is what a desk does with what it hears
  same-hear : level_total.hear c ≡ machine.hear c
  unfolding hear_with hear_by mark_with mark
  same-hear = ap (λ enough. hear_with (mark_with (λ z. enough) choose finished) (λ z d. restart) c) same_test

  -- and what any step asks for
  same_asked : (s : Step) → asked_of level_total c s ≡ asked_of machine c s
  same_asked (begin d t note) = refl
  same_asked (ask d i place size) = refl
  same_asked (serve i k place size) = refl
  same_asked (hear d k) = ap (λ h. call-with k (λ m. of-desk d (λ x. h d x m))) same-hear
  same_asked (result d) = refl
  same_asked (drop d) = refl
  same_asked (transfer i j amount) = refl
  same_asked (share i place size) = refl
  same_asked (crash i) = refl

  -- Every run of it in a level house is the plain machine's.
  pub level-same : (l : List Step) → run_by level_total n f l ≡ run_by machine n f l
  level-same l =
      ap (λ asks. record { house = level n f; server = λ i. fresh; desk = λ d. fresh_desk; asks = asks; steps = l }) (fun_ext same_asked)
