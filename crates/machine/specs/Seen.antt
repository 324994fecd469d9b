-- What a desk hears, in any run; and what is seen of a run of the plain machine, or of another store on sets of transfers.
use Rattle.std.specs.Prelude.{ℕ, zero, suc, Bool, true, false, cond, List, [], ◌∷◌, ◌++◌, eqb, length}
use Rattle.std.proofs.Math.Option.{Option, none, some}
use Rattle.machine.specs.Sets.{Transfers, missing}
use Rattle.machine.specs.Parties.{Register, Message, by-phase, Activity, if-running}
use Rattle.machine.specs.Runs.{nth, when, Answer, unmade, late, refused, done, wrote, told, Call, of-server, of-desk, crashing, Asked, call, call-with, Run, step, at, answer_at, desk_at}
use Rattle.machine.specs.Steps.{result, PlainRun}
use Rattle.machine.specs.Views.{View}

-- the register that phase 1 chose, of an operation in phase 2
abbrev pub chosen_in : Activity → Option Register
chosen_in a = if-running a (λ o. by-phase o.phase none (λ g. some g)) none

-- ---- what desks hear

-- whether an answer is that of a hear which was neither refused nor late
abbrev pub accepted : Answer → Bool
accepted unmade = false
accepted late = false
accepted (refused k) = false
accepted done = true
accepted (wrote k) = true
accepted (told x) = true

-- the message m, where a call with it is one of desk d
abbrev pub heard_by : {S D M : Type 0} → ℕ → M → Call S D M → Option M
heard_by d m (of-server i f) = none
heard_by d m (of-desk e f) = cond (eqb e d) (some m) none
heard_by d m (crashing i) = none

-- the message of those sent that desk d is asked to hear: what a desk is called with is heard
abbrev pub heard_in : {S D M : Type 0} → ℕ → List M → Asked S D M → Option M
heard_in d l (call x) = none
heard_in d l (call-with k f) = when (nth l k) none (λ m. heard_by d m (f m))

-- The message that desk d hears at step k, where the hear is neither refused nor late; and all that it heard before, in whatever operation: of any run,
-- the machine's or the program's.
unfoldable pub hears : {S D M T : Type 0} → Run S D M T → ℕ → ℕ → Option M
hears r d k = when (nth r.steps k) none (λ s. cond (accepted (answer_at r k)) (heard_in d (at r k).sent (r.asks s)) none)

unfoldable pub heard : {S D M T : Type 0} → Run S D M T → ℕ → ℕ → List M
heard r d zero = []
heard r d (suc k) = when (hears r d k) (heard r d k) (λ m. m ∷ heard r d k)

-- the transfers that messages bring
abbrev pub transfers_of : List Message → Transfers
transfers_of [] = []
transfers_of (m ∷ l) = transfers_of l ++ m.replica.set

-- ---- the whole

abbrev pub view_of : PlainRun → View
view_of r =
    record {
      steps = r.steps;
      answers = answer_at r;
      gives = λ d k. (step r (at r k) (result d)).answer;
      chosen = λ d k. chosen_in (desk_at r d k).activity;
      brings = λ d k. when (hears r d k) 0 (λ m. length (missing (transfers_of (heard r d k)) m.replica.set));
      holds = λ d k. length (desk_at r d k).replica.set;
    }
