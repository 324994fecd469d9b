-- The numbers of refusals and of seats are small, so that they are signed numbers as they are.
use Rattle.std.specs.Prelude.{Ok, Err}
use Prim.Native.Nat.{ℕ, ◌-◌, ◌≤◌, ◌<◌}
use native.Mathlib.Omega.{arith}
use mathlib.Core.Path.{◌≡◌, refl, sym, subst}
use mathlib.Core.List.{List}
use lib.ListN.{length, get_or}
use lib.Dec.{leb}
use borrow.Author.Tests.{leb-true}
use Rattle.quorums.proofs.Tests.{chosen-first}
use Rattle.quorums.proofs.Sums.{sum-le, sum-const}
use Rattle.config.proofs.Clusters.{value-not-refused}
use Rattle.config.specs.Refusals.{number_of, most_refusal}
use Rattle.config.proofs.Refusals.{meaning-number, meaning-told}
use Rattle.config.specs.declared.answer.Refusal.{Refusal}
use Rattle.config.specs.Refusals.{Number}
use Rattle.host.specs.Codes.{Within}
use Rattle.seats.specs.Offers.{free_in, offered, offer_answer}
use Rattle.format.specs.Bytes.{bit}

pub number-most : (r : Refusal) → number_of r ≤ most_refusal
number-most r = (meaning-told (number_of r) r (meaning-number r)).3

-- a byte has at most 8 seats
free-most : (byte : ℕ) → free_in byte ≤ 8
unfolding free_in
free-most byte = omega (arith, sum-le 8 (λ k. 1 - bit byte k) (λ k. 1) (λ k l. omega arith), sum-const 8 1)

-- a block has at most 512 seats
pub seats-most : (block : List ℕ) (x : ℕ) → offer_answer block ≡ Ok x → x ≤ 512
unfolding offer_answer offered
seats-most block x e =
    let t = chosen-first (leb (length block) 64) _ _ _ (λ d. value-not-refused _ _ (sym d)) e in
    let same : offered block ≡ x = cc in
    let few = sum-le (length block) (λ i. free_in (get_or block i 0)) (λ i. 8) (λ i l. free-most (get_or block i 0)) in
    omega (arith, same, few, sum-const (length block) 8, leb-true (length block) 64 t.0)

-- so the seats are a signed number as they are
pub seats-within : (block : List ℕ) → Within 9223372036854775808 (offer_answer block)
seats-within block = each (offer_answer block) refl
  where
    each : (a : Number) → offer_answer block ≡ a → Within 9223372036854775808 a
    each (Ok x) e = omega (arith, seats-most block x e)
    each (Err r) e = tt

-- a bound on what an answer holds
pub within-value : (bound : ℕ) (a : Number) (x : ℕ) → a ≡ Ok x → Within bound a → x < bound
within-value bound a x e w = subst (Within bound) e w
