-- What the checks of a ledger tell.
use Rattle.std.specs.Prelude.{Err}
use Prim.Native.Nat.{ℕ}
use native.Mathlib.Omega.{arith}
use mathlib.Core.Path.{◌≡◌, refl, sym, ◌∙◌}
use mathlib.Core.Bool.{Bool, true, false, cond}
use Rattle.quorums.proofs.Tests.{both, chosen-first}
use Rattle.config.specs.Cluster.{lawful_of, cluster_fault}
use Rattle.config.specs.Answers.{least_answer}
use Rattle.config.proofs.Clusters.{judged-lawful, judged-fault}
use Rattle.config.specs.declared.cluster.Config.{Config}
use Rattle.config.specs.Refusals.{refusal, granted}
use Rattle.config.specs.declared.answer.Refusal.{Refusal}
use Rattle.ledger.proofs.Judged.{least-judged}
use Rattle.ledger.specs.declared.ledger.Ledger.{Ledger}
use Rattle.ledger.specs.Checks.{bounded, above_floor, fits, fit_answer, check_answer}

pub accepted-not-refused : {A : Type 0} (r : Refusal) → granted ≡ Err r → A
accepted-not-refused r e = let z : ◌≡◌ {A = ℕ} 0 1 = cc in absurd (omega arith)

-- a ledger that a party may hold or send
pub ledger-told : (c : Config) (l : Ledger) → fits c l ≡ true → (bounded c l ≡ true) × (above_floor c l ≡ true)
unfolding fits
ledger-told c l e = both (bounded c l) _ e

pub told-ledger : (c : Config) (l : Ledger) → bounded c l ≡ true → above_floor c l ≡ true → fits c l ≡ true
unfolding fits
told-ledger c l b a = rw b a

-- what an answer of `check` tells

pub fit-told : (c : Config) (l : Ledger) → fit_answer c l ≡ granted → fits c l ≡ true
unfolding fit_answer fits
fit-told c l e =
    let b = chosen-first (bounded c l) _ _ _ (λ d. accepted-not-refused _ (sym d)) e in
    rw b.0 (chosen-first (above_floor c l) _ _ _ (λ d. accepted-not-refused _ (sym d)) b.1).0

pub fit_refused : (c : Config) (l : Ledger) (r : Refusal) → fit_answer c l ≡ Err r → fits c l ≡ false
unfolding fit_answer fits
fit_refused c l r e = by_tests (bounded c l) (above_floor c l) e
  where
    by_tests : (b f : Bool) → cond b (cond f granted (Err (refusal 5))) (Err (refusal 4)) ≡ Err r → cond b f false ≡ false
    by_tests true true d = accepted-not-refused r d
    by_tests true false d = refl
    by_tests false f d = refl

-- of a lawful cluster it is that of the ledger, and else a refusal
pub check-lawful : (c : Config) (l : Ledger) → lawful_of c ≡ true → check_answer c l ≡ fit_answer c l
unfolding check_answer
check-lawful c l e = judged-lawful c (fit_answer c l) Err e

-- what is wrong with the cluster comes first
pub check-first : (c : Config) (l : Ledger) (r : Refusal) → least_answer c ≡ Err r → check_answer c l ≡ Err r
unfolding check_answer
check-first c l r e = least-judged c r (fit_answer c l) Err e

pub check-unlawful : (c : Config) (l : Ledger) → lawful_of c ≡ false → check_answer c l ≡ Err (refusal (cluster_fault c))
unfolding check_answer
check-unlawful c l e = judged-fault c (fit_answer c l) Err e

pub check-told : (c : Config) (l : Ledger) → check_answer c l ≡ granted → (lawful_of c ≡ true) × (fits c l ≡ true)
check-told c l e = by_lawful (lawful_of c) refl
  where
    by_lawful : (t : Bool) → lawful_of c ≡ t → (lawful_of c ≡ true) × (fits c l ≡ true)
    by_lawful true v = (v, fit-told c l (sym (check-lawful c l v) ∙ e))
    by_lawful false v = accepted-not-refused _ (sym e ∙ check-unlawful c l v)

pub check-refused : (c : Config) (l : Ledger) (r : Refusal) → lawful_of c ≡ true → check_answer c l ≡ Err r → fits c l ≡ false
check-refused c l r v e = fit_refused c l r (sym (check-lawful c l v) ∙ e)
