-- Weights, the floor and quorums are those of the published restricted pairwise rule (source document 000).
use Prim.Native.Nat.{ℕ, ◌-◌, ◌*◌, ◌<◌}
use native.Mathlib.Nat.{add-mul, mul_comm}
use native.Mathlib.Omega.{arith}
use mathlib.Core.Path.{◌≡◌, refl, sym, ap, ◌∙◌, subst}
use mathlib.Core.Logic.{◌↔◌}
use mathlib.Core.Bool.{Bool, true, false}
use lib.Dec.{T, ltb}
use lib.IntN.{ℤ, pos, ◌-ℤ◌}
use lib.Signed.{lt_z, ◌<ℤ◌}
use Rattle.quorums.specs.Sum.{sum, sum_in}
use Rattle.quorums.specs.Accounts.{Accounts, held, weight, total, quorum, above}
use Rattle.quorums.specs.Published.{WeightedMajority, RpIntegrity, Line12}
use Rattle.quorums.proofs.Differences.{difference-less, difference-times, lt-difference}
use Rattle.quorums.proofs.Weights.{weight_in-is, weights-total, quorum-is, above-is}

-- a test that passes, and the order that it decides
test-lt : (a b : ℤ) (t : Bool) → t ≡ lt_z a b → (t ≡ true) ↔ (a <ℤ b)
test-lt a b t e = (λ p. record { lt = subst T (sym p ∙ e) tt }, λ h. e ∙ passed (lt_z a b) h.lt)
  where
    passed : (b : Bool) → T b → b ≡ true
    passed true p = refl
    passed false p = absurd p

-- Definition 1: a quorum is a set of more than half of the weight of all servers.
pub quorum-published : (n : ℕ) (a : Accounts) (q : ℕ → Bool) → sum n a.received ≡ sum n a.given → (quorum n a q ≡ true) ↔ WeightedMajority n a q
quorum-published n a q e =
    test-lt _ _ _
    (rw (quorum-is n a q, weights-total n a e, weight_in-is n a q, difference-times, lt-difference)
    (rw (mul_comm 2 (sum_in n q a.given), mul_comm 2 (sum_in n q (held a)))))

-- Definition 5, RP-Integrity: all weights are above the floor.
pub floor-published : (n f : ℕ) (a : Accounts) → ((i : ℕ) → i < n → above n f (total n a) (weight a i) ≡ true) ↔ RpIntegrity n f a
unfolding above
floor-published n f a = (λ h i l. (test-lt _ _ _ refl).0 (h i l), λ h i l. (test-lt _ _ _ refl).1 (h i l))

-- Algorithm 4, line 12: a gift of d goes through exactly when what is left is above the floor.
pub gift-published : (n f W : ℕ) (a : Accounts) (i d : ℕ) → (above n f W (weight a i -ℤ pos d) ≡ true) ↔ Line12 n f W (weight a i) d
unfolding weight
gift-published n f W a i d =
    test-lt _ _ _
    (rw (difference-less, above-is, difference-times, lt-difference)
    (ap (λ x. ltb x (held a i * (2 * (n - f)))) (omega (arith, add-mul (a.given i) d (2 * (n - f))))))
