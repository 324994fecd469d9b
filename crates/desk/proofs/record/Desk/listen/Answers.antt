-- `listen` meets its contract: what is weighed decides the rest of the record test, what is read is heard, and each outcome does what hear does by it.
use Rattle.std.proofs.Common.{rules, Err, to_z, of_z, w64}
use native.Mathlib.Omega.{arith}
use mathlib.Core.Path.{◌≡◌, refl, sym, ap, ◌∙◌}
use mathlib.Core.Bool.{true}
use Rattle.message.specs.declared.answer.Taken.{Taken}
use Rattle.message.specs.Envelopes.{Bytes}
use Rattle.desk.specs.Desks.{fits}
use Rattle.desk.specs.Hears.{marked, hear_of}
use Rattle.desk.specs.Hearings.{pair}
use Rattle.desk.proofs.Operations.{operation-told}
use Rattle.desk.proofs.Desks.{fits_told, unsound-unfit, number-told}
use Rattle.desk.proofs.Margins.{weighed-told, weighed-unfit}
use Rattle.desk.proofs.ToldLemmas.{hear-unfit}
use Rattle.desk.proofs.Hearings.{heeded, taken-small, untaken-hears, taken-hears}
use Rattle.desk.proofs.record.Desk.listen.Goals.{After-consider, in-Ok, in-Err}
use Rattle.desk.proofs.record.Desk.listen.Goals as goal

-- the record passes its test
fitting : (c : After-consider) → fits c.args.self.now ≡ true
fitting c = (weighed-told c.args.self.now _ _ (sym c.weighed_sound.ensures ∙ c.in_ok-margin.was)).0

-- and what it hears
heard : (c : After-consider) →
    let x = c.args.self.now in
    let t = c.in_ok-taken.taken in
    hear_of x c.args.msg.now ≡ heeded x t.envelope (pair c.receive_into-taken.new.ledger t.register) c.consider.result
heard c =
    let x = c.args.self.now in
    let r = c.receive_into-taken in
    let known = c.type_inv.msg in
    let bytes : Bytes c.args.msg.now = record { byte = λ k. omega (arith, known k) } in
    rw c.consider.ensures
    (taken-hears x c.args.msg.now (fitting c) c.in_ok-taken.taken _ bytes (sym r.ensures.0 ∙ c.in_ok-taken.was) r.ensures.1 c.if-prove_eq.false
    c.if-prove_eq-2.false)

pub returns-then-not-sound : goal.returns-then-not-sound
returns-then-not-sound c =
    let x = c.args.self.now in
    rw (hear-unfit x c.args.msg.now (unsound-unfit x (sym c.sound.ensures ∙ c.if-not-sound.true))) (refl, refl)

pub marked-map-requires : goal.marked-map-requires
marked-map-requires c =
    let known = c.type_inv.msg in
    let bytes : Bytes c.args.msg.now = record { byte = λ k. omega (arith, known k) } in
    taken-small _ c.args.msg.now c.in-Ok.taken bytes (sym c.receive_into-taken.ensures.0 ∙ c.in-Ok.is)

pub returns-in_err-margin : goal.returns-in_err-margin
returns-in_err-margin c =
    let same : c.from_residual.result ≡ Err c.in_err-margin.field-0.0 = search rules in
    let unfit = weighed-unfit c.args.self.now _ _ (sym c.weighed_sound.ensures ∙ c.in_err-margin.was) in
    rw (hear-unfit c.args.self.now c.args.msg.now unfit.0) (same ∙ ap Err unfit.1, refl)

pub returns-in_err-taken : goal.returns-in_err-taken
returns-in_err-taken c =
    let x = c.args.self.now in
    let same : c.from_residual-in_err-taken.result ≡ Err c.in_err-taken.field-0.0 = search rules in
    let fitting = (weighed-told x _ _ (sym c.weighed_sound.ensures ∙ c.in_ok-margin.was)).0 in
    rw (untaken-hears x c.args.msg.now fitting _ (sym c.receive_into-taken.ensures.0 ∙ c.in_err-taken.was)) (same, refl)

pub returns-in_err-consider : goal.returns-in_err-consider
returns-in_err-consider c =
    let same : c.from_residual-in_err-consider.result ≡ Err c.in_err-consider.field-0.0 = search rules in
    rw (heard (goal.at.returns-in_err-consider c).After-consider, c.in_err-consider.was) (same, refl)

pub restart-requires : goal.restart-requires
restart-requires c = (operation-told _ _ _ (fits_told _ (fitting (goal.at.restart-requires c).After-consider)).operation-fits).restarts-in

pub mark-requires : goal.mark-requires
mark-requires c = (number-told _ (fits_told _ (fitting (goal.at.mark-requires c).After-consider)).number_in).1

pub returns-in-Late : goal.returns-in-Late
returns-in-Late c = rw (heard (goal.at.returns-in-Late c).After-consider, c.in_ok-consider.was, c.in-Late.is) (refl, refl)

pub returns-in-Larger : goal.returns-in-Larger
returns-in-Larger c =
    rw (heard (goal.at.returns-in-Larger c).After-consider, c.in_ok-consider.was, c.in-Larger.is, ← c.higher-joined.ensures) c.restart.ensures

pub returns-in-Equal : goal.returns-in-Equal
returns-in-Equal c =
    let x = c.args.self.now in
    let was = c.in_ok-taken.was in
    let map : c.match-taken.map ≡ marked x.operation.answered c.in_ok-taken.taken.envelope.server =
    elim c.match-taken.branch [
      | in-Ok w ↦
          let same : w.in-Ok.taken ≡ c.in_ok-taken.taken = cc (w.in-Ok.is, was) in
          w.map-is ∙ w.marked-map.ensures ∙ ap (λ (t : Taken). marked x.operation.answered t.envelope.server) same
      | in-Err w ↦ cc (w.in-Err.is, was)
    ] in
    let exact = (weighed-told x _ _ (sym c.weighed_sound.ensures ∙ c.in_ok-margin.was)).1 in
    let back : to_z w64 (of_z w64 c.in_ok-margin.margin) ≡ c.in_ok-margin.margin = search rules in
    rw (heard (goal.at.returns-in-Equal c).After-consider, c.in_ok-consider.was, c.in-Equal.is, ← c.higher-joined.ensures, ← map, ← exact, ← back)
    c.mark.ensures
