-- What a margin tells (paper 02, N1). Where no weight is negative it lies from −W to W. One that is not above zero tells how much weight is still missing:
-- half of what it is below zero, rounded down, and one more.
use Prim.Native.Nat.{ℕ, zero, suc, ◌+◌, ◌-◌, ◌*◌, ◌/◌, ◌≤◌, ◌<◌}
use native.Mathlib.Omega.{arith}
use mathlib.Core.Path.{◌≡◌, refl, sym, ap, ap₂, ◌∙◌}
use mathlib.Core.Bool.{Bool, true, false, cond, false≢true}
use borrow.Author.Tests.{le-ltb, ne_eqb, ltb-false}
use lib.Dec.{eqb, ltb, leb→le}
use lib.IntN.{ℤ, pos, negsuc}
use lib.Signed.{lt_z, ◌≤ℤ◌}
use Rattle.quorums.specs.Sum.{sum, sum_in}
use Rattle.quorums.specs.Difference.{difference}
use Rattle.quorums.specs.Accounts.{Accounts, held, weight, total, weight_in, margin, quorum}
use Rattle.quorums.proofs.Tests.{ltb-same}
use Rattle.quorums.proofs.Sums.{sum-add, sum_in-le, sum_in-set, sum_in-nobody, sum_in-one, either, sum_in-either, sum_in-rest}
use Rattle.quorums.proofs.Differences.{difference-up, difference-down, difference-le, difference-back, pos-difference, lt-difference}
use Rattle.quorums.proofs.Weights.{weight_in-is, margin-is, quorum-is}

-- ---- from −W to W

module _ (n : ℕ) (a : Accounts) (q : ℕ → Bool) (none-negative : (i : ℕ) → i < n → a.given i ≤ held a i) where
  pub margin-least : difference 0 (total n a) ≤ℤ margin n a q
  margin-least =
      rw (margin-is n a q)
      (difference-le 0 (total n a) _ _ (omega (arith, sum_in-le n q a.given (held a) (λ i l t. none-negative i l))))

  pub margin-most : sum n a.received ≡ sum n a.given → margin n a q ≤ℤ pos (total n a)
  unfolding total
  margin-most e =
      rw (margin-is n a q, pos-difference (total n a))
      (difference-le _ _ (total n a) 0
      (omega (arith, sum_in-rest n q a.given (held a) none-negative, sum-add n a.start a.received)))

-- ---- nobody

-- no servers are no quorum
pub nobody-quorum : (n : ℕ) (a : Accounts) (q : ℕ → Bool) → ((i : ℕ) → i < n → q i ≡ false) → quorum n a q ≡ false
nobody-quorum n a q e =
    let none : 2 * sum_in n q (held a) ≤ 2 * sum_in n q a.given + total n a = omega (arith, sum_in-nobody n q (held a) e) in
    quorum-is n a q ∙ le-ltb _ _ none

-- ---- what is missing

-- The servers of q have the margin −y: with those of r, none of which is in q, they are a quorum exactly when these weigh more than y / 2, rounded down.
pub missing : (n : ℕ) (a : Accounts) (q r : ℕ → Bool) (y : ℕ) → ((i : ℕ) → i < n → q i ≡ true → r i ≡ false) → margin n a q ≡ difference 0 y
    → quorum n a (either q r) ≡ lt_z (pos (y / 2)) (weight_in n a r)
missing n a q r y apart e =
    let here = difference-back _ _ 0 y (sym (margin-is n a q) ∙ e) in
    quorum-is n a (either q r)
    ∙ ap₂ (λ g h. ltb (2 * g + total n a) (2 * h)) (sum_in-either n q r a.given apart) (sum_in-either n q r (held a) apart)
    ∙ ltb-same (2 * (sum_in n q a.given + sum_in n r a.given) + total n a) (2 * (sum_in n q (held a) + sum_in n r (held a)))
    (sum_in n r a.given + y / 2) (sum_in n r (held a)) (λ l. omega arith) (λ l. omega arith)
    ∙ sym (lt-difference (y / 2) (sum_in n r (held a)) (sum_in n r a.given))
    ∙ rw (weight_in-is n a r) refl

-- one server
weight_in-one : (n : ℕ) (a : Accounts) (i : ℕ) → i < n → weight_in n a (λ k. eqb k i) ≡ weight a i
unfolding weight
weight_in-one n a i l = weight_in-is n a (λ k. eqb k i) ∙ ap₂ difference (sum_in-one n i (held a) l) (sum_in-one n i a.given l)

-- two sets with the same servers
quorum-set : (n : ℕ) (a : Accounts) (p q : ℕ → Bool) → ((k : ℕ) → k < n → p k ≡ q k) → quorum n a p ≡ quorum n a q
quorum-set n a p q e =
    quorum-is n a p
    ∙ ap₂ (λ g h. ltb (2 * g + total n a) (2 * h)) (sum_in-set n p q a.given e) (sum_in-set n p q (held a) e)
    ∙ sym (quorum-is n a q)

-- so one server more makes a quorum exactly when it weighs more than that
pub missing-one : (n : ℕ) (a : Accounts) (q : ℕ → Bool) (y i : ℕ) → i < n → q i ≡ false → margin n a q ≡ difference 0 y
    → (p : ℕ → Bool) → ((k : ℕ) → p k ≡ cond (eqb k i) true (q k)) → quorum n a p ≡ lt_z (pos (y / 2)) (weight a i)
missing-one n a q y i l new e p same =
    quorum-set n a p (either q (λ k. eqb k i)) (λ k h. same k ∙ swap (eqb k i) (q k))
    ∙ missing n a q (λ k. eqb k i) y apart e
    ∙ ap (lt_z (pos (y / 2))) (weight_in-one n a i l)
  where
    swap : (a b : Bool) → cond a true b ≡ cond b true a
    swap true true = refl
    swap true false = refl
    swap false true = refl
    swap false false = refl

    apart : (k : ℕ) → k < n → q k ≡ true → eqb k i ≡ false
    apart k h t = ne_eqb k i (λ d. false≢true (sym new ∙ ap q (sym d) ∙ t))

-- ---- not above zero

-- z is −y, with y at most W
pub record Lacks (W : ℕ) (z : ℤ) : Type 0 where
  pub by : ℕ
  pub is : z ≡ difference 0 by
  pub most : by ≤ W

pub lacks : (W : ℕ) (z : ℤ) → difference 0 W ≤ℤ z → lt_z (pos 0) z ≡ false → Lacks W z
lacks W (pos zero) l e = record { by = 0; is = pos-difference 0; most = omega arith }
lacks W (pos (suc k)) l e = absurd (omega (arith, ltb-false 0 (suc k) e))
lacks W (negsuc k) l e = record { by = suc k; is = sym (difference-down 0 (suc k) (omega arith) ∙ ap negsuc (omega arith)); most = least W l }
  where
    least : (w : ℕ) → difference 0 w ≤ℤ negsuc k → suc k ≤ w
    least zero h = absurd (rw (difference-up 0 0 (omega arith)) at h).le
    least (suc w) h = let d = rw (difference-down 0 (suc w) (omega arith)) at h in omega (arith, leb→le k (suc w - suc 0) d.le)
