-- What is seen of a run of the program: the list of steps, the answers, the desks' records, and the bytes sent.
use Rattle.std.specs.Prelude.{ℕ, ◌-◌, max, cond, List, [], ◌∷◌, map, eqb}
use Rattle.std.proofs.Math.Option.{Option, none, some}
use Rattle.quorums.specs.Sum.{sum}
use Rattle.config.specs.declared.cluster.Config.{Config}
use Rattle.ledger.specs.Ledgers.{count_of}
use Rattle.ledger.specs.declared.ledger.Ledger.{Ledger}
use Rattle.message.specs.Answers.{receive_of}
use Rattle.desk.specs.declared.operation.Operation.{Operation}
use Rattle.desk.specs.Operations.{running}
use Rattle.machine.specs.Parties.{Register}
use Rattle.machine.specs.Runs.{config, when, step, at, answer_at, desk_at}
use Rattle.machine.specs.Views.{View}
use Rattle.machine.specs.Seen.{hears, heard}
use Rattle.runs.specs.Steps.{result, plain}
use Rattle.runs.specs.Calls.{plain_register}
use Rattle.runs.specs.Runs.{ProgramRun}

-- the register that phase 1 chose, of an operation in phase 2
abbrev pub chosen_in : Operation → Option Register
chosen_in o = cond (eqb o.mode running) (cond (eqb o.phase 2) (some (plain_register o.chosen)) none) none

-- ---- what hears bring

-- the ledger that bytes carry
abbrev pub ledger_in : Config → List ℕ → Ledger
ledger_in c msg = (receive_of c msg).replica.ledger

-- The most transfers of giver i that one of the messages brings. A giver's numbers run from 1 without a gap, so that what a sheet has of them is their
-- count.
abbrev pub most_of : Config → List (List ℕ) → ℕ → ℕ
most_of c [] i = 0
most_of c (msg ∷ l) i = max (most_of c l i) (count_of (ledger_in c msg) i)

-- ---- the whole

abbrev pub view_of : ProgramRun → View
view_of r =
    record {
      steps = map plain r.steps;
      answers = answer_at r;
      gives = λ d k. (step r (at r k) (result d)).answer;
      chosen = λ d k. chosen_in (desk_at r d k).operation;
      brings = λ d k. when (hears r d k) 0 (λ msg. sum 16 (λ i. count_of (ledger_in (config r) msg) i - most_of (config r) (heard r d k) i));
      holds = λ d k. sum 16 (count_of (desk_at r d k).replica.ledger);
    }
