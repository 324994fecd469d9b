-- What is seen of the program's run is what is seen of the machine's.
use Prim.Native.Nat.{ℕ}
use native.Mathlib.Omega.{arith}
use mathlib.Core.Path.{◌≡◌, refl, ap, ◌∙◌}
use mathlib.Core.Bool.{Bool, true, false, cond}
use mathlib.Core.List.{List, map}
use mathlib.Core.Option.{none, some}
use borrow.Author.Tests.{leb-true, leb-false}
use lib.Dec.{eqb, leb}
use lib.ListN.{length}
use Rattle.quorums.specs.Sum.{sum}
use Rattle.config.specs.Cluster.{House, config_of, lawful_of}
use Rattle.config.specs.declared.cluster.Config.{Config}
use Rattle.ledger.specs.Ledgers.{count_of}
use Rattle.desk.specs.Desks.{blank_desk}
use Rattle.machine.specs.Parties.{Register, Phase, first, second, by-phase, Operation, Activity, idle, running, ended, fresh_desk as plain_fresh}
use Rattle.machine.specs.Runs.{most_desk, at, desk_at}
use Rattle.machine.specs.Steps.{PlainRun}
use Rattle.machine.specs.Seen.{chosen_in as plain_chosen, view_of as plain_view}
use Rattle.machine.proofs.Moves.{Seated}
use Rattle.machine.proofs.Ranges.{RegisterRange}
use Rattle.runs.specs.Steps.{Step, result, plain, Typed}
use Rattle.runs.specs.Calls.{plain_register}
use Rattle.runs.specs.Runs.{ProgramRun, run_of}
use Rattle.runs.specs.Seen.{chosen_in, view_of}
use Rattle.runs.specs.Clauses.{plain_run}
use Rattle.runs.proofs.Records.{phase_for, chosen_for, operation_for}
use Rattle.runs.proofs.Registers.{register-back}
use Rattle.runs.proofs.Supplied.{desk-range}
use Rattle.runs.proofs.Simulation.{step_same, stands_at, answer_at_lem}
use Rattle.runs.proofs.Brought.{first-for, transfers-for}

-- the register that phase 1 chose, as it stands in the record for what a desk does
chosen-for : (c : Config) (a : Activity) → ((o : Operation) (g : Register) → a ≡ running o → o.phase ≡ second g → RegisterRange c g)
    → chosen_in (operation_for a) ≡ plain_chosen a
chosen-for c idle w = refl
chosen-for c (running o) w = by-phases o.phase (λ g. w o g refl)
  where
    by-phases : (h : Phase) → ((g : Register) → h ≡ second g → RegisterRange c g)
        → cond (eqb (phase_for h) 2) (some (plain_register (chosen_for h))) none ≡ by-phase h none (λ g. some g)
    by-phases first v = refl
    by-phases (second g) v = ap (λ u. some u) (register-back c g (v g refl))
chosen-for c (ended y) w = refl

-- a number is a desk's, or it is not
either : (A : Type 0) (d : ℕ) → (Seated d → A) → ((Seated d → ⊥) → A) → A
either A d f g = by_tests (leb 1 d) (leb d most_desk) refl refl
  where
    by_tests : (a b : Bool) → leb 1 d ≡ a → leb d most_desk ≡ b → A
    by_tests true true e h = f (record { some = leb-true 1 d e; most = leb-true d most_desk h })
    by_tests true false e h = g (λ s. omega (arith, s.most, leb-false d most_desk h))
    by_tests false b e h = g (λ s. omega (arith, s.some, leb-false 1 d e))

module _ (house : House) (lawful : lawful_of (config_of house) ≡ true) (steps : List Step) (typed : Typed steps) where
  abbrev c : Config
  c = config_of house

  abbrev p : ProgramRun
  p = run_of house steps

  abbrev r : PlainRun
  r = plain_run p

  -- ---- desks with a number that desks have

  module _ (d k : ℕ) (seated : Seated d) where
    chosen-seated : chosen_in (desk_at p d k).operation ≡ plain_chosen (desk_at r d k).activity
    chosen-seated =
        ap (λ x. chosen_in x.operation) ((stands_at house lawful steps typed k).desks d seated)
        ∙ chosen-for c (desk_at r d k).activity (desk-range house lawful steps typed k d).chosen

  -- ---- and other numbers: nothing is ever done

  module _ (d k : ℕ) (other : Seated d → ⊥) where
    idle-record : desk_at p d k ≡ blank_desk
    idle-record = ((stands_at house lawful steps typed k).others d other).0

    idle-desk : desk_at r d k ≡ plain_fresh
    idle-desk = ((stands_at house lawful steps typed k).others d other).1

    chosen_none : chosen_in (desk_at p d k).operation ≡ plain_chosen (desk_at r d k).activity
    chosen_none = rw (idle-record, idle-desk) refl

    transfers-none : sum 16 (count_of (desk_at p d k).replica.ledger) ≡ length (desk_at r d k).replica.set
    unfolding sum
    transfers-none = rw (idle-record, idle-desk) refl

  -- ---- the whole

  gives_same : (d k : ℕ) → (view_of p).gives d k ≡ (plain_view r).gives d k
  gives_same d k = (step_same house lawful steps typed k (at p k) (stands_at house lawful steps typed k) (result d)).answer

  chosen-same : (d k : ℕ) → (view_of p).chosen d k ≡ (plain_view r).chosen d k
  chosen-same d k = either _ d (chosen-seated d k) (chosen_none d k)

  holds_same : (d k : ℕ) → (view_of p).holds d k ≡ (plain_view r).holds d k
  holds_same d k = either _ d (transfers-for house lawful steps typed d k) (transfers-none d k)

  pub view-same : view_of p ≡ plain_view r
  view-same =
      λ i.
      record {
        steps = map plain steps;
        answers = λ k. answer_at_lem house lawful steps typed k i;
        gives = λ d k. gives_same d k i;
        chosen = λ d k. chosen-same d k i;
        brings = λ d k. first-for house lawful steps typed d k i;
        holds = λ d k. holds_same d k i;
      }
