-- A refusal and its number: each gives the other back, and the other numbers stand for none.
use Prim.Native.Nat.{ℕ, zero, suc, ◌+◌, ◌-◌, ◌≤◌, ◌<◌}
use native.Mathlib.Omega.{arith}
use mathlib.Core.Path.{◌≡◌, refl, sym, ap, ◌∙◌}
use mathlib.Core.Logic.{◌⊎◌, inl, inr, ⊎_elim, ◌↔◌}
use mathlib.Core.List.{List, [], ◌∷◌, map}
use borrow.Author.Tests.{leb-true, le-leb, lt-leb}
use lib.Dec.{leb}
use lib.ListN.{get_or, get_or-map}
use Rattle.quorums.proofs.Tests.{le-or-lt, chosen-first}
use Rattle.config.specs.Refusals.{number_of, refusals, most_refusal, refusal, meaning}
use Rattle.std.specs.Prelude.{Some, None}
use Rattle.config.specs.declared.answer.Refusal.{Refusal}
use Rattle.config.specs.declared.answer.Refusal.TheVariants.{BadHouse, Torn, BadMap, OddField, Light, Clash, Stray, Busy, Idle, Thin, BadTransfer, Spent, Narrow, Long, BadStart}

-- k, k + 1, … , n numbers in all
from : ℕ → ℕ → List ℕ
from k zero = []
from k (suc n) = k ∷ from (suc k) n

get_or-from : (k n i : ℕ) → i < n → get_or (from k n) i 1 ≡ k + i
unfolding from
get_or-from k zero i h = absurd (omega arith)
get_or-from k (suc n) zero h = omega arith
get_or-from k (suc n) (suc i) h = let e : get_or (from (suc k) n) i 1 ≡ suc k + i = get_or-from (suc k) n i (omega arith) in omega arith

-- the whole list at once
in_order : map number_of refusals ≡ from 1 most_refusal
unfolding from
in_order = refl

-- every number from 1 to the largest is that of its refusal
pub number-back : (k : ℕ) → 1 ≤ k → k ≤ most_refusal → number_of (refusal k) ≡ k
number-back k p l =
    sym (get_or-map number_of refusals (k - 1) BadHouse) ∙ ap (λ x. get_or x (k - 1) 1) in_order ∙ get_or-from 1 most_refusal (k - 1) (omega arith)
    ∙ omega arith

-- ---- what a number stands for

-- a refusal's number stands for it
pub meaning-number : (r : Refusal) → meaning (number_of r) ≡ Some r
unfolding meaning
meaning-number BadHouse = refl
meaning-number Torn = refl
meaning-number BadMap = refl
meaning-number OddField = refl
meaning-number Light = refl
meaning-number Clash = refl
meaning-number Stray = refl
meaning-number Busy = refl
meaning-number Idle = refl
meaning-number Thin = refl
meaning-number BadTransfer = refl
meaning-number Spent = refl
meaning-number Narrow = refl
meaning-number Long = refl
meaning-number BadStart = refl

-- every number from 1 to the largest stands for its refusal
pub meaning-refusal : (k : ℕ) → 1 ≤ k → k ≤ most_refusal → meaning k ≡ Some (refusal k)
unfolding meaning
meaning-refusal k p l = rw (le-leb 1 k p, le-leb k most_refusal l) refl

none-not-refusal : (r : Refusal) → None ≡ Some r → ⊥
none-not-refusal r e = let z : ◌≡◌ {A = ℕ} 0 1 = cc in omega arith

-- and what stands for a refusal is its number
pub meaning-told : (k : ℕ) (r : Refusal) → meaning k ≡ Some r → (r ≡ refusal k) × (number_of r ≡ k) × (1 ≤ k) × (k ≤ most_refusal)
unfolding meaning
meaning-told k r e =
    let some = chosen-first (leb 1 k) _ _ _ (none-not-refusal r) e in
    let few = chosen-first (leb k most_refusal) _ _ _ (none-not-refusal r) some.1 in
    let p = leb-true 1 k some.0 in
    let l = leb-true k most_refusal few.0 in
    let is : r ≡ refusal k = cc few.1 in
    (is, ap number_of is ∙ number-back k p l, p, l)

-- 0, and what is above the largest, stands for none, and nothing else does
pub meaning-none : (k : ℕ) → (meaning k ≡ None) ↔ ((k ≡ 0) ⊎ (most_refusal < k))
unfolding meaning
meaning-none k = (
  λ e.
      ⊎_elim
      (λ (l : k ≤ most_refusal).
      ⊎_elim (λ (p : 1 ≤ k). absurd (none-not-refusal _ (sym e ∙ meaning-refusal k p l))) (λ (z : k < 1). inl (omega arith)) (le-or-lt 1 k))
      (λ (h : most_refusal < k). inr h)
      (le-or-lt k most_refusal),
  λ h. ⊎_elim (λ (z : k ≡ 0). rw (lt-leb 1 k (omega arith)) refl) (λ (z : most_refusal < k). rw (le-leb 1 k (omega arith), lt-leb k most_refusal z) refl) h,
)
