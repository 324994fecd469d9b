-- What the plain machine is shown to do by computation, the program does. Each step of the machine is made one of the program's by a buffer of zeros; and a
-- hear is made one by value or one on a lent record, for every choice.
use Prim.Native.Nat.{ℕ, ◌≤◌}
use mathlib.Core.Path.{◌≡◌, refl, sym, ap, ap₂, ◌∙◌, subst}
use mathlib.Core.Bool.{Bool, true, false, cond}
use mathlib.Core.List.{List, [], ◌∷◌, map}
use lib.ListN.{replicate, length-replicate}
use Rattle.config.specs.Cluster.{House, config_of, house_fault}
use Rattle.config.proofs.Houses.{house-told}
use Rattle.desk.specs.Margins.{margin_of}
use Rattle.machine.specs.Parties.{bytes_of}
use Rattle.machine.specs.Runs.{at, answers_of, most_desk, desk_at}
use Rattle.machine.specs.Steps.{Step as PlainStep, begin as plain-begin, ask as plain-ask, serve as plain-serve, hear as plain-hear, result as plain-result, drop as plain-drop, transfer as plain-transfer, share as plain-share, crash as plain-crash, machine, PlainRun, run_of as plain_run_of}
use Rattle.machine.specs.Margins.{margin_by}
use Rattle.machine.specs.Views.{View}
use Rattle.machine.specs.Seen.{view_of as plain_view}
use Rattle.machine.specs.Typed.{Typed as TypedPlain}
use Rattle.machine.proofs.Concrete.{typed_steps, all_typed}
use Rattle.runs.specs.Steps.{Step, begin, ask, serve, hear, hear-lent, result, drop, transfer, share, crash, plain, Typed}
use Rattle.runs.specs.Runs.{ProgramRun, run_of}
use Rattle.runs.specs.Seen.{view_of}
use Rattle.runs.proofs.Demand3.{demand3}
use Rattle.runs.proofs.Margins.{shown_as, margin-same}

-- `lent` says of each message, by its place among those sent, whether it is heard on a lent record.
module _ (lent : ℕ → Bool) where
  -- ---- steps with buffers of zeros

  -- a step of the machine, with a buffer of zeros; a hear by value or on a lent record
  abbrev pub filled : PlainStep → Step
  filled (plain-begin d t note) = begin d t note
  filled (plain-ask d i place size) = ask d i place (replicate size 0)
  filled (plain-serve i k place size) = serve i k place (replicate size 0)
  filled (plain-hear d k) = cond (lent k) (hear-lent d k) (hear d k)
  filled (plain-result d) = result d
  filled (plain-drop d) = drop d
  filled (plain-transfer i j amount) = transfer i j amount
  filled (plain-share i place size) = share i place (replicate size 0)
  filled (plain-crash i) = crash i

  plain-filled : (st : PlainStep) → plain (filled st) ≡ st
  plain-filled (plain-begin d t note) = refl
  plain-filled (plain-ask d i place size) = ap (λ z. plain-ask d i place z) (length-replicate size 0)
  plain-filled (plain-serve i k place size) = ap (λ z. plain-serve i k place z) (length-replicate size 0)
  plain-filled (plain-hear d k) = by-choice (lent k)
    where
      by-choice : (b : Bool) → plain (cond b (hear-lent d k) (hear d k)) ≡ plain-hear d k
      by-choice true = refl
      by-choice false = refl
  plain-filled (plain-result d) = refl
  plain-filled (plain-drop d) = refl
  plain-filled (plain-transfer i j amount) = refl
  plain-filled (plain-share i place size) = ap (λ z. plain-share i place z) (length-replicate size 0)
  plain-filled (plain-crash i) = refl

  all-filled : (l : List PlainStep) → map plain (map filled l) ≡ l
  all-filled [] = refl
  all-filled (st ∷ l) = ap₂ (λ x y. x ∷ y) (plain-filled st) (all-filled l)

  -- ---- what the machine does, the program does

  -- the program's run of the machine's steps
  abbrev pub run_for : PlainRun → ProgramRun
  run_for r = run_of r.house (map filled r.steps)

  -- what is seen of it
  abbrev pub seen : PlainRun → View
  seen r = view_of (run_for r)

  module _ (house : House) (none : house_fault house ≡ 0) (l : List PlainStep) (e : typed_steps l ≡ true) where
    typed : Typed (map filled l)
    typed = subst TypedPlain (sym (all-filled l)) (all_typed l e)

    -- it is what is seen of the machine's
    pub view-shown : plain_view (plain_run_of machine house l) ≡ seen (plain_run_of machine house l)
    view-shown = ap (λ z. plain_view (plain_run_of machine house z)) (sym (all-filled l)) ∙ sym (demand3 house none (map filled l) typed).seen

    -- and every answer, and every byte sent, is the machine's
    pub answers-shown : answers_of (run_for (plain_run_of machine house l)) ≡ answers_of (plain_run_of machine house l)
    answers-shown = (demand3 house none (map filled l) typed).answers ∙ ap (λ z. answers_of (plain_run_of machine house z)) (all-filled l)

    pub bytes-shown : (k : ℕ) → (at (run_for (plain_run_of machine house l)) k).sent ≡ map (bytes_of (config_of house)) (at (plain_run_of machine house l) k).sent
    bytes-shown k = (demand3 house none (map filled l) typed).bytes k ∙ ap (λ z. map (bytes_of (config_of house)) (at (plain_run_of machine house z) k).sent) (all-filled l)

    -- and so is what desk staff see
    pub margin-shown : (k d : ℕ) → 1 ≤ d → d ≤ most_desk
        → margin_of (desk_at (run_for (plain_run_of machine house l)) d k) ≡ shown_as (margin_by (config_of house) (desk_at (plain_run_of machine house l) d k))
    margin-shown k d first last =
        margin-same house (house-told house none).lawful (map filled l) typed k d first last ∙ ap (λ z. shown_as (margin_by (config_of house) (desk_at (plain_run_of machine house z) d k))) (all-filled l)
