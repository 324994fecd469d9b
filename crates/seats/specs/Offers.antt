-- Seats on offer (paper 01, "Seats on offer"): a block has 8 × length seats, a set bit is sold, and the zero bits are on offer.
use Rattle.std.specs.Prelude.{ℕ, ◌-◌, cond, List, length, get_or, leb, Ok, Err}
use Rattle.quorums.specs.Sum.{sum}
use Rattle.config.specs.Refusals.{refusal}
use Rattle.config.specs.Refusals.{Number}
use Rattle.format.specs.Bytes.{bit}

-- the zero bits of a byte
unfoldable pub free_in : ℕ → ℕ
free_in byte = sum 8 (λ k. 1 - bit byte k)

unfoldable pub offered : List ℕ → ℕ
offered block = sum (length block) (λ i. free_in (get_or block i 0))

-- over 64 bytes: 14
unfoldable pub offer_answer : List ℕ → Number
offer_answer block = cond (leb (length block) 64) (Ok (offered block)) (Err (refusal 14))
