-- `fault` meets its contract, test by test.
use Rattle.std.specs.Prelude.{Err}
use Rattle.std.proofs.lemmas.Result.{err_from_is_err_and}
use native.Mathlib.Omega.{arith}
use mathlib.Core.Path.{◌≡◌, refl, sym, ap, ◌∙◌}
use mathlib.Core.Bool.{Bool, true, false, cond}
use borrow.Author.Tests.{lt-ltb, le-ltb, ne_eqb}
use lib.Dec.{eqb}
use Rattle.config.specs.Cluster.{lawful_of, cluster_fault}
use Rattle.config.proofs.Clusters.{least-told, least-refused, fault-some}
use Rattle.config.specs.Refusals.{refusal, granted}
use Rattle.config.specs.declared.cluster.Config.{Config}
use Rattle.ledger.specs.declared.ledger.Ledger.{Ledger}
use Rattle.ledger.specs.Checks.{bounded, above_floor, fit_answer, check_answer}
use Rattle.ledger.proofs.Checks.{check-lawful}
use Rattle.replica.specs.declared.replica.Replica.{Replica}
use Rattle.message.specs.declared.envelope.Envelope.{Envelope}
use Rattle.message.specs.Answers.{verdict_of}
use Rattle.message.specs.Faults.{fault_of}
use Rattle.writer.proofs.outgoing.Outgoing.fault.Goals.{After-kind_fits, In_ok-least, then-self-from-via-then-self-from, then-self-from-via-else-self-from+then-not-fits}
use Rattle.writer.proofs.outgoing.Outgoing.fault.Goals as goal

-- a cluster that is not lawful
unlawful : (c : Config) (e : Envelope) (r : Replica) → lawful_of c ≡ false → Err (refusal (cluster_fault c)) ≡ verdict_of (fault_of c e r)
unfolding verdict_of fault_of
unlawful c e r out = let some = ne_eqb (cluster_fault c) 0 (λ z. omega (arith, z, (fault-some c out).0)) in simp (out, some)

-- the check of a ledger, as a number's verdict
checked : (c : Config) (l : Ledger) → lawful_of c ≡ true → check_answer c l ≡ verdict_of (cond (bounded c l) (cond (above_floor c l) 0 5) 4)
unfolding fit_answer verdict_of
checked c l v = check-lawful c l v ∙ (by_tests (bounded c l) (above_floor c l))
  where
    by_tests : (b a : Bool)
        → cond b (cond a granted (Err (refusal 5))) (Err (refusal 4))
        ≡ cond (eqb (cond b (cond a 0 5) 4) 0) granted (Err (refusal (cond b (cond a 0 5) 4)))
    by_tests true true = refl
    by_tests true false = refl
    by_tests false a = refl

valid : (c : In_ok-least) → lawful_of c.args.self.now.config.now ≡ true
valid c = (least-told _ _ (sym c.least.ensures ∙ c.in_ok-least.was)).0

pub returns-in_err-least : goal.returns-in_err-least
returns-in_err-least c =
    let p = err_from_is_err_and c.from_residual.result c.from_residual.ensures.1 in
    let t = least-refused _ _ (sym c.least.ensures ∙ c.in_err-least.was) in
    rw (p.1, p.2) (ap Err t.1 ∙ unlawful _ _ _ t.0)

pub returns-then-not-is_kind : goal.returns-then-not-is_kind
unfolding verdict_of fault_of
returns-then-not-is_kind c = simp (valid (goal.at.returns-then-not-is_kind c).In_ok-least, sym c.is_kind.ensures ∙ c.if-not-is_kind.true)

pub returns-then-not-kind_fits : goal.returns-then-not-kind_fits
unfolding verdict_of fault_of
returns-then-not-kind_fits c =
    simp (
      valid (goal.at.returns-then-not-kind_fits c).In_ok-least,
      sym c.is_kind.ensures ∙ c.if-not-is_kind.false,
      sym c.kind_fits.ensures ∙ c.if-not-kind_fits.true,
    )

pub returns-then-self-from : goal.returns-then-self-from
unfolding verdict_of fault_of
returns-then-self-from c =
    let v = valid (goal.at.returns-then-self-from c).In_ok-least in
    let k = sym c.is_kind.ensures ∙ c.if-not-is_kind.false in
    let f = sym c.kind_fits.ensures ∙ c.if-not-kind_fits.false in
    elim c.then-self-from.branch [
      | then-self-from-via-then-self-from w ↦ simp (v, k, f, le-ltb _ _ (rw c.from.ensures at w.if-self-from.true))
      | then-self-from-via-else-self-from+then-not-fits w ↦ simp (v, k, f, lt-ltb _ _ (rw c.from.ensures at w.if-self-from.false), sym w.fits.ensures ∙ w.if-not-fits.true)
    ]

-- the verdict on the ledger is what its own check answers
pub returns : goal.returns
unfolding fault_of
returns c =
    let v = valid (goal.at.returns c).In_ok-least in
    c.check.ensures
    ∙ checked c.args.self.now.config.now c.args.self.now.replica.now.ledger v
    ∙ sym (ap verdict_of (simp (
      v,
      sym c.is_kind.ensures ∙ c.if-not-is_kind.false,
      sym c.kind_fits.ensures ∙ c.if-not-kind_fits.false,
      lt-ltb _ _ (rw c.from.ensures at c.if-self-from.false),
      sym c.fits.ensures ∙ c.if-not-fits.false,
    )))
