-- Question four: when do two quorums, counted on two sheets of weights, share a server?
-- On one sheet they always do: the weights total W and none is negative, so two sets of more than half cannot be apart. On two sheets they do where
-- neither quorum's servers gave more on the other sheet: both are then quorums on the union of the two.
use Prim.Native.Nat.{ℕ, zero, suc, ◌+◌, ◌-◌, ◌≤◌, ◌<◌}
use native.Mathlib.Nat.{le_refl}
use native.Mathlib.Omega.{arith}
use mathlib.Core.Path.{◌≡◌, refl, ◌∙◌}
use mathlib.Core.Logic.{◌⊎◌, inl, inr, ⊎_elim}
use mathlib.Core.Bool.{Bool, true, false, cond}
use Rattle.quorums.specs.Sum.{sum, sum_in}
use Rattle.quorums.specs.Accounts.{Accounts, held, total, quorum}
use Rattle.quorums.proofs.Sums.{sum-add, sum_in-same, sum_in-add, sum_in-all}
use Rattle.quorums.proofs.Weights.{quorum-lt, quorum-grows}

-- a server below n in both sets
pub record Shared (n : ℕ) (p q : ℕ → Bool) : Type 0 where
  pub at : ℕ
  pub below : at < n
  pub left : p at ≡ true
  pub right : q at ≡ true

shared-suc : {n : ℕ} {p q : ℕ → Bool} → Shared n p q → Shared (suc n) p q
shared-suc s = record { at = s.at; below = omega (arith, s.below); left = s.left; right = s.right }

-- two sets that share no number have no more than the sum of all
shared-or-apart : (n : ℕ) (p q : ℕ → Bool) (f : ℕ → ℕ) → Shared n p q ⊎ (sum_in n p f + sum_in n q f ≤ sum n f)
unfolding sum_in sum
shared-or-apart zero p q f = inr (le_refl 0)
shared-or-apart (suc n) p q f = ⊎_elim (λ s. inl (shared-suc s)) (λ h. by_last (p n) (q n) refl refl h) (shared-or-apart n p q f)
  where
    by_last : (b c : Bool) → p n ≡ b → q n ≡ c → sum_in n p f + sum_in n q f ≤ sum n f
        → Shared (suc n) p q ⊎ (sum_in n p f + cond (p n) (f n) 0 + (sum_in n q f + cond (q n) (f n) 0) ≤ sum n f + f n)
    by_last true true d e h = inl (record { at = n; below = le_refl (suc n); left = d; right = e })
    by_last true false d e h = inr (rw (d, e) (omega arith))
    by_last false true d e h = inr (rw (d, e) (omega arith))
    by_last false false d e h = inr (rw (d, e) (omega arith))

-- Two quorums on one sheet share a server.
pub quorums-meet : (n : ℕ) (a : Accounts) (p q : ℕ → Bool) → sum n a.received ≡ sum n a.given
    → ((i : ℕ) → i < n → a.given i ≤ held a i)
    → quorum n a p ≡ true
    → quorum n a q ≡ true
    → Shared n p q
unfolding total
quorums-meet n a p q e h qp qq =
    ⊎_elim (λ s. s)
    (λ (k : sum_in n p rest + sum_in n q rest ≤ sum n rest). absurd (omega (arith, quorum-lt n a p qp, quorum-lt n a q qq, net p, net q, all-net)))
    (shared-or-apart n p q rest)
  where
    rest : ℕ → ℕ
    rest i = held a i - a.given i

    net : (s : ℕ → Bool) → sum_in n s (held a) ≡ sum_in n s a.given + sum_in n s rest
    net s = sum_in-same n s (held a) (λ i. a.given i + rest i) (λ i l t. omega (arith, h i l)) ∙ sum_in-add n s a.given rest

    all-net : sum n a.start ≡ sum n rest
    all-net =
        let whole : sum n (held a) ≡ sum n a.given + sum n rest = simp sum_in-all at (net (λ i. true)) in
        omega (arith, whole, sum-add n a.start a.received)

-- (Q) Two sheets a and b, and u that has the gifts of both. Where the servers of p gave no more on u than on a, and those of q no more on u than
-- on b, a quorum p on a and a quorum q on b share a server.
pub quorums-meet-across : (n : ℕ) (a b u : Accounts) (p q : ℕ → Bool)
    → ((i : ℕ) → i < n → a.start i ≡ u.start i)
    → ((i : ℕ) → i < n → b.start i ≡ u.start i)
    → ((i : ℕ) → i < n → a.received i ≤ u.received i)
    → ((i : ℕ) → i < n → b.received i ≤ u.received i)
    → ((i : ℕ) → i < n → p i ≡ true → u.given i ≤ a.given i)
    → ((i : ℕ) → i < n → q i ≡ true → u.given i ≤ b.given i)
    → sum n u.received ≡ sum n u.given
    → ((i : ℕ) → i < n → u.given i ≤ held u i)
    → quorum n a p ≡ true
    → quorum n b q ≡ true
    → Shared n p q
quorums-meet-across n a b u p q sa sb ra rb gp gq e h qp qq =
    quorums-meet n u p q e h
    (quorum-grows n a u p sa gp (λ i l t. ra i l) qp)
    (quorum-grows n b u q sb gq (λ i l t. rb i l) qq)
