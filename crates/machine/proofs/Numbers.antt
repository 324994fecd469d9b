-- In a closed set each giver's numbers run from 1 without a gap (paper 01, "Sheets"). A giver's transfers in it are as many as its count, none is
-- numbered above that, and no two have one number: so every number up to the count is there.
use Prim.Native.Nat.{ℕ, suc, ◌≤◌, ◌<◌}
use native.Mathlib.Omega.{arith}
use mathlib.Core.Path.{◌≡◌, refl, sym, ap, ◌∙◌, subst}
use mathlib.Core.Logic.{◌⊎◌, inl, inr, ⊎_elim}
use mathlib.Core.Bool.{Bool, true, false, cond}
use mathlib.Core.List.{[], ◌∷◌}
use borrow.Author.Tests.{eqb-true, eqb-false}
use lib.Dec.{eqb}
use Rattle.quorums.specs.Sum.{sum}
use Rattle.quorums.proofs.Sums.{sum_one, sum-rest, sum-front, sum-const, sum-zero}
use Rattle.format.specs.Bytes.{stands}
use Rattle.format.proofs.Marks.{stands-pos}
use Rattle.machine.specs.Sets.{Transfer, Transfers, has, tally, count}
use Rattle.machine.proofs.Lists.{In}
use Rattle.machine.proofs.Sets.{Fails, all-or-one, has_first, tally-part, tally-zero, tally-same, tally-sum}
use Rattle.machine.proofs.Histories.{Gift, History, Lawfully, Closed}
use Rattle.machine.proofs.Closed.{count-some, closed-each, unique-gift, has-numbered}

-- 0, 1, 1, … , 1
stands-all : (m : ℕ) → sum (suc m) stands ≡ m
unfolding stands
stands-all m = omega (arith, sum-front m stands, sum-const m 1)

-- the set has the transfer of server i that is numbered k
pub record Numbered (a : Transfers) (i k : ℕ) : Type 0 where
  pub transfer : Transfer
  pub itself : has a transfer ≡ true
  pub giver : transfer.giver ≡ i
  pub number : transfer.number ≡ k

-- 1 for that transfer
abbrev hit : ℕ → ℕ → Transfer → ℕ
hit i k t = cond (eqb t.giver i) (cond (eqb t.number k) 1 0) 0

abbrev NoneNumbered : Transfers → ℕ → ℕ → Type 0
NoneNumbered a i k = (t : Transfer) → has a t ≡ true → hit i k t ≡ 0

-- it is there or not
numbered-or-none : (a : Transfers) (i k : ℕ) → NoneNumbered a i k ⊎ Numbered a i k
numbered-or-none a i k =
    ⊎_elim (λ (all : (t : Transfer) → has a t ≡ true → eqb (hit i k t) 0 ≡ true). inl (λ t e. eqb-true (hit i k t) 0 (all t e)))
    (λ (x : Fails (λ t. eqb (hit i k t) 0) a). inr (found x (eqb x.one.giver i) (eqb x.one.number k) refl refl))
    (all-or-one (λ t. eqb (hit i k t) 0) a)
  where
    found : (x : Fails (λ t. eqb (hit i k t) 0) a) (b d : Bool) → eqb x.one.giver i ≡ b → eqb x.one.number k ≡ d → Numbered a i k
    found x true true p q =
        record { transfer = x.one; itself = x.there; giver = eqb-true _ _ p; number = eqb-true _ _ q }
    found x true false p q = absurd (eqb-false (hit i k x.one) 0 x.failed (rw (p, q)))
    found x false d p q = absurd (eqb-false (hit i k x.one) 0 x.failed (rw p))

module _ {n f : ℕ} {w : ℕ → ℕ} {h : History} (law : Lawfully n f w h) {a : Transfers} (c : Closed h a) (i : ℕ) where
  -- numbers are from 1 on
  number-some : (g : Gift) → In g h → 1 ≤ g.transfer.number
  number-some g m =
      let k = law.each g m in
      omega (arith, k.numbered, count-some g.snapshot g.transfer k.itself)

  -- no two transfers of i have one number
  one-numbered : (k : ℕ) (t u : Transfer) → has a t ≡ true → has a u ≡ true → t.giver ≡ i → u.giver ≡ i → t.number ≡ k → u.number ≡ k → t ≡ u
  one-numbered k t u e d p q r s =
      let x = c.known t e in
      let y = c.known u d in
      let same : x.gift ≡ y.gift =
      unique-gift law x.gift y.gift x.made y.made (rw (x.transfer, y.transfer) (p ∙ sym q)) (rw (x.transfer, y.transfer) (r ∙ sym s)) in
      sym x.transfer ∙ ap (λ (g : Gift). g.transfer) same ∙ y.transfer

  -- so at most one is numbered k, and none 0
  hits-most : (k : ℕ) → tally (hit i k) a ≤ stands k
  unfolding stands tally
  hits-most k =
      ⊎_elim (λ (none : NoneNumbered a i k). omega (arith, tally-zero (hit i k) a none))
      (λ (x : Numbered a i k).
      let some : 1 ≤ k = closed-each c (λ t. t.number ≡ k → 1 ≤ k) (λ g m e s. omega (arith, number-some g m)) x.transfer x.itself x.number in
      let all : tally (hit i k) a ≤ tally (hit i k) (x.transfer ∷ []) =
      tally-part (hit i k) a (x.transfer ∷ []) c.once
      (λ t e p.
      let y = hit-is k t (eqb t.giver i) (eqb t.number k) refl refl p in
      subst (λ u. has (x.transfer ∷ []) u ≡ true) (one-numbered k x.transfer t x.itself e x.giver y.0 x.number y.1)
      (has_first x.transfer [])) in
      omega (arith, all, hit-most (eqb x.transfer.giver i) (eqb x.transfer.number k), stands-pos k some))
      (numbered-or-none a i k)
    where
      hit-is : (k : ℕ) (t : Transfer) (b d : Bool) → eqb t.giver i ≡ b → eqb t.number k ≡ d → 0 < cond b (cond d 1 0) 0
          → (t.giver ≡ i) × (t.number ≡ k)
      hit-is k t true true p q l = (eqb-true _ _ p, eqb-true _ _ q)
      hit-is k t true false p q l = absurd (omega arith)
      hit-is k t false d p q l = absurd (omega arith)

      hit-most : (b d : Bool) → cond b (cond d 1 0) 0 ≤ 1
      hit-most true true = omega arith
      hit-most true false = omega arith
      hit-most false d = omega arith

  -- together they are the count
  hits-all : sum (suc (count a i)) (λ k. tally (hit i k) a) ≡ count a i
  unfolding count
  hits-all =
      tally-sum (suc (count a i)) (hit i) a
      ∙ tally-same _ _ a
      (closed-each c (λ t. sum (suc (count a i)) (λ k. hit i k t) ≡ cond (eqb t.giver i) 1 0)
      (λ g m e. each g (eqb g.transfer.giver i) refl (has-numbered law c g m e)))
    where
      each : (g : Gift) (b : Bool) → eqb g.transfer.giver i ≡ b → g.transfer.number ≤ count a g.transfer.giver
          → sum (suc (count a i)) (λ k. cond b (cond (eqb g.transfer.number k) 1 0) 0) ≡ cond b 1 0
      each g true p l =
          let there : g.transfer.number ≤ count a i = subst (λ z. g.transfer.number ≤ count a z) (eqb-true _ _ p) l in
          sum_one (suc (count a i)) g.transfer.number 1 (omega arith)
      each g false p l = sum-zero (suc (count a i)) (λ k. 0) (λ k e. refl)

  pub no_gap : (k : ℕ) → 1 ≤ k → k ≤ count a i → Numbered a i k
  no_gap k l m =
      ⊎_elim
      (λ (none : NoneNumbered a i k).
      absurd
      (omega (
        arith,
        sum-rest (suc (count a i)) (λ k. tally (hit i k) a) stands (λ j e. hits-most j) k (omega arith),
        hits-all,
        tally-zero (hit i k) a none,
        stands-pos k l,
        stands-all (count a i),
      )))
      (λ (x : Numbered a i k). x)
      (numbered-or-none a i k)
