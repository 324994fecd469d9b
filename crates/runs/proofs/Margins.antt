-- What desk staff see in a run (paper 02, N1): `margin` tells what the plain machine shows. While an operation of a desk runs, that is a number that is never
-- above zero and never below −W; otherwise it is 9. To ask for it is no step: it changes nothing.
use Rattle.std.specs.Prelude.{Ok, Err}
use Prim.Native.Nat.{ℕ, ◌≤◌}
use native.Mathlib.Omega.{arith}
use mathlib.Core.Path.{◌≡◌, refl, sym, ap, ◌∙◌, subst}
use mathlib.Core.Bool.{true, cond}
use mathlib.Core.List.{List, map}
use mathlib.Core.Option.{Option, none, some}
use lib.Dec.{eqb}
use lib.IntN.{ℤ}
use Rattle.quorums.specs.Difference.{difference}
use Rattle.quorums.proofs.Margins.{lacks}
use Rattle.config.specs.Cluster.{House, config_of, lawful_of, total_of}
use Rattle.config.specs.Refusals.{refusal}
use Rattle.config.specs.declared.cluster.Config.{Config}
use Rattle.config.specs.Refusals.{Signed}
use Rattle.ledger.specs.Weights.{margin_of as margin_on}
use Rattle.desk.specs.declared.record.Desk.{Desk}
use Rattle.desk.specs.Operations.{running as running_mode}
use Rattle.desk.specs.Margins.{margin_of}
use Rattle.desk.proofs.Margins.{told-within}
use Rattle.machine.specs.Sets.{Transfers}
use Rattle.machine.specs.Parties.{Operation, Activity, idle, running, ended, if-running, Desk as PlainDesk, answered}
use Rattle.machine.specs.Runs.{at, most_desk, desk_at}
use Rattle.machine.specs.Margins.{margin_of as plain_margin, margin_by}
use Rattle.machine.specs.Steps.{PlainRun}
use Rattle.machine.proofs.Moves.{Seated}
use Rattle.machine.proofs.Waiting.{shown-below}
use Rattle.runs.specs.Steps.{Step, plain, Typed}
use Rattle.runs.specs.Runs.{ProgramRun, run_of}
use Rattle.runs.specs.Clauses.{plain_run}
use Rattle.runs.proofs.Records.{ledger_for, map_for, operation_for, desk_for}
use Rattle.runs.proofs.Ledgers.{margin-for}
use Rattle.runs.proofs.Desks.{map-names, desk-fits}
use Rattle.runs.proofs.Supplied.{desk-range, desk-held}
use Rattle.runs.proofs.Simulation.{stands_at}

-- a number, or 9 for none
abbrev pub shown_as : Option ℤ → Signed
shown_as none = Err (refusal 9)
shown_as (some y) = Ok y

-- While an operation runs, a number is told that is below zero by at most W; otherwise 9.
pub record Below (c : Config) (x : Desk) : Type 0 where
  pub by : ℕ
  pub told : margin_of x ≡ Ok (difference 0 by)
  pub most : by ≤ total_of c

pub record Shows (c : Config) (x : Desk) : Type 0 where
  pub runs : x.operation.mode ≡ running_mode → Below c x
  pub rests : (x.operation.mode ≡ running_mode → ⊥) → margin_of x ≡ Err (refusal 9)

module _ (house : House) (lawful : lawful_of (config_of house) ≡ true) (steps : List Step) (typed : Typed steps) where
  abbrev c : Config
  c = config_of house

  abbrev p : ProgramRun
  p = run_of house steps

  abbrev r : PlainRun
  r = plain_run p

  module _ (k d : ℕ) (seated : Seated d) where
    -- the machine's desk; the record for it passes its test
    abbrev x : PlainDesk
    x = desk_at r d k

    abbrev set : Transfers
    set = x.replica.set

    -- what is told then, where a is what it does
    abbrev tested : Activity → Signed
    tested a =
        cond (eqb (operation_for a).mode running_mode) (Ok (margin_on c (ledger_for set) (operation_for a).answered)) (Err (refusal 9))

    told_of : margin_of (desk_for c d x) ≡ tested x.activity
    unfolding margin_of
    told_of = rw (desk-fits c lawful (at r k).sent d seated x (desk-range house lawful steps typed k d) (desk-held house lawful steps typed k d)) refl

    -- it is the machine's: the servers that answered are those heard
    same : margin_of (desk_for c d x) ≡ shown_as (margin_by c x)
    unfolding margin_by
    same = told_of ∙ by-activity x.activity
      where
        by-activity : (a : Activity) → tested a ≡ shown_as (if-running a (λ o. some (plain_margin c set (answered o.heard))) none)
        by-activity idle = refl
        by-activity (running o) =
            ap Ok
            (margin-for c lawful set (desk-held house lawful steps typed k d).range.set (map_for o.heard) (answered o.heard) (λ i l. map-names o.heard i))
        by-activity (ended y) = refl

    below : (o : Operation) → x.activity ≡ running o → Below c (desk_for c d x)
    unfolding margin_by
    below o e =
        let y = plain_margin c set (answered o.heard) in
        let by-machine : margin_by c x ≡ some y = ap (λ a. if-running a (λ o. some (plain_margin c set (answered o.heard))) none) e in
        let told : margin_of (desk_for c d x) ≡ Ok y = same ∙ ap shown_as by-machine in
        let z = lacks (total_of c) y (told-within (desk_for c d x) y told).least (shown-below house (map plain steps) d k y by-machine) in
        record { by = z.by; told = told ∙ ap Ok z.is; most = z.most }

    shows : (a : Activity) → x.activity ≡ a → Shows c (desk_for c d x)
    shows idle e =
        record { runs = λ h. let z : ◌≡◌ {A = ℕ} 0 1 = ap (λ b. (operation_for b).mode) (sym e) ∙ h in absurd (omega arith); rests = λ h. told_of ∙ ap tested e }
    shows (running o) e = record { runs = λ h. below o e; rests = λ h. absurd (h (ap (λ b. (operation_for b).mode) e)) }
    shows (ended y) e =
        record { runs = λ h. let z : ◌≡◌ {A = ℕ} 2 1 = ap (λ b. (operation_for b).mode) (sym e) ∙ h in absurd (omega arith); rests = λ h. told_of ∙ ap tested e }

  module _ (k d : ℕ) (first : 1 ≤ d) (last : d ≤ most_desk) where
    seat : Seated d
    seat = record { some = first; most = last }

    record_is : desk_at p d k ≡ desk_for c d (desk_at r d k)
    record_is = (stands_at house lawful steps typed k).desks d seat

    -- At every place of every run the program shows what the plain machine does,
    pub margin-same : margin_of (desk_at p d k) ≡ shown_as (margin_by c (desk_at r d k))
    margin-same = ap margin_of record_is ∙ same k d seat

    -- which is never above zero while an operation runs, and at least −W.
    pub margin-shown : Shows c (desk_at p d k)
    margin-shown = subst (Shows c) (sym record_is) (shows k d seat (desk_at r d k).activity refl)
