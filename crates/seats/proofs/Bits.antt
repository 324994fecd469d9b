-- The zero bits of a byte are those that aren't ones.
use Prim.Native.Nat.{ℕ, ◌+◌, ◌-◌, ◌<◌}
use native.Mathlib.Omega.{arith}
use mathlib.Core.Path.{◌≡◌, ◌∙◌}
use lib.Count.{ones}
use Rattle.quorums.specs.Sum.{sum}
use Rattle.quorums.proofs.Sums.{sum_same, sum-add, sum-const}
use Rattle.format.specs.Bytes.{bit}
use Rattle.format.proofs.Marks.{bit_le, ones-bits}
use Rattle.seats.specs.Offers.{free_in}

pub ones-and-free : (byte : ℕ) → byte < 256 → ones byte + free_in byte ≡ 8
unfolding free_in
ones-and-free byte h =
    let all : sum 8 (λ k. bit byte k + (1 - bit byte k)) ≡ 8 = sum_same 8 _ (λ k. 1) (λ k l. omega (arith, bit_le byte k)) ∙ sum-const 8 1 in
    omega (arith, ones-bits 8 byte h, sum-add 8 (bit byte) (λ k. 1 - bit byte k), all)
