-- Start weights by hall (paper 02, N2), by computation: which lists open a server and a desk, which are 15, and what is told first; what the calls
-- that are given a cluster by value answer; and what a fresh server of an uneven house can give.
use Rattle.std.specs.Prelude.{Ok, Err}
use Prim.Native.Nat.{ℕ, ◌^◌, ◌≤◌, ◌<◌}
use native.Mathlib.Omega.{arith}
use mathlib.Core.Path.{◌≡◌, refl, ap, ◌∙◌}
use mathlib.Core.List.{List, [], ◌∷◌}
use lib.ListN.{replicate}
use lib.IntN.{pos}
use Rattle.quorums.specs.Sum.{sum, all}
use Rattle.quorums.specs.Tables.{table, run}
use Rattle.quorums.specs.Accounts.{above, weight}
use Rattle.quorums.specs.Difference.{difference}
use Rattle.config.specs.Cluster.{House, house_of, valid_of, server_of, start_of, total_of, least_of, above_of, ends_of, starts_above, lawful_of, cluster_fault, lawful_list, house_fault, keeps, kept_of, config_of}
use Rattle.config.specs.Answers.{start_answer, total_answer, least_answer, config_answer}
use Rattle.config.specs.Refusals.{refusal, granted}
use Rattle.config.specs.declared.cluster.Config.{Config}
use Rattle.config.specs.Refusals.{Verdict}
use Rattle.config.proofs.Houses.{house-told}
use Rattle.ledger.specs.Ledgers.{fresh_ledger, given_of, received_of}
use Rattle.ledger.specs.Maps.{map_of, named_answer}
use Rattle.ledger.specs.Weights.{weight_of, weight_answer}
use Rattle.message.specs.Answers.{check}
use Rattle.server.specs.Servers.{open_of}
use Rattle.server.specs.Transfers.{transfer_of}
use Rattle.server.proofs.Servers.{open-lawful}
use Rattle.desk.specs.Desks as desk
use Rattle.worked.proofs.Refusals.{most}
use Rattle.worked.proofs.Gifts.{by_floor, fresh_gives}

-- what opening the first server, and the first desk, of a house is told
abbrev opens : House → Verdict
opens h = (open_of h 0).verdict

abbrev seats : House → Verdict
seats h = (desk.open_of h 1).verdict

-- two servers, of which none may crash, and one
abbrev two : List ℕ → House
two starts = house_of 2 0 starts

abbrev one : List ℕ → House
one starts = house_of 1 0 starts

abbrev bad : Verdict
bad = Err (refusal 15)

pub record Lists : Type 0 where
  -- "n = 2, f = 0: (299, 100), since 100 × 4 > 399"; one more at the other server is at the floor
  pub uneven : opens (two (299 ∷ 100 ∷ [])) ≡ granted
  pub at-floor : opens (two (300 ∷ 100 ∷ [])) ≡ bad
  pub at-floor-desk : seats (two (300 ∷ 100 ∷ [])) ≡ bad
  pub uneven-desk : seats (two (299 ∷ 100 ∷ [])) ≡ granted
  -- the least and the most that one may weigh
  pub least-alone : opens (one (1 ∷ [])) ≡ granted
  pub most-alone : opens (one (16000 ∷ [])) ≡ granted
  pub above_most : opens (one (16001 ∷ [])) ≡ bad
  pub nothing-alone : opens (one (0 ∷ [])) ≡ bad
  pub most-together : opens (two (8000 ∷ 8000 ∷ [])) ≡ granted
  pub above-together : opens (two (8000 ∷ 8001 ∷ [])) ≡ bad
  -- one short, one long, empty
  pub short : opens (two (1000 ∷ [])) ≡ bad
  pub long : opens (two (1000 ∷ 1000 ∷ 1000 ∷ [])) ≡ bad
  pub zero_more : opens (two (1000 ∷ 1000 ∷ 0 ∷ [])) ≡ bad
  pub empty : opens (two []) ≡ bad
  pub seventeen : opens (house_of 16 7 (replicate 17 900)) ≡ bad
  -- no entry is cut, and no sum wraps: 2^64 − 1 and 17, and twice 2^63, are 16 and 0 in 64 bits
  pub most-entry : opens (two (most ∷ most ∷ [])) ≡ bad
  pub no_wrap : opens (two (most ∷ 17 ∷ [])) ≡ bad
  pub no-halves : opens (two (2 ^ 63 ∷ 2 ^ 63 ∷ [])) ≡ bad
  pub no_cut : opens (two (66536 ∷ 66536 ∷ [])) ≡ bad
  -- 1 before 15: n, f and the own number
  pub n-first : opens (house_of 0 0 (1 ∷ [])) ≡ Err (refusal 1)
  pub f-first : opens (house_of 2 1 (1 ∷ [])) ≡ Err (refusal 1)
  pub most-first : opens (house_of most 0 []) ≡ Err (refusal 1)
  pub number-first : (open_of (two []) 2).verdict ≡ Err (refusal 1)
  pub desk-first : (desk.open_of (two []) 0).verdict ≡ Err (refusal 1)

pub lists : Lists
unfolding open_of desk.open_of desk.opens desk.number_lawful server_of valid_of lawful_of ends_of starts_above start_of total_of above_of above kept_of keeps table run all sum
lists = record {
  uneven = refl;
  at-floor = refl;
  at-floor-desk = refl;
  uneven-desk = refl;
  least-alone = refl;
  most-alone = refl;
  above_most = refl;
  nothing-alone = refl;
  most-together = refl;
  above-together = refl;
  short = refl;
  long = refl;
  zero_more = refl;
  empty = refl;
  seventeen = refl;
  most-entry = refl;
  no_wrap = refl;
  no-halves = refl;
  no_cut = refl;
  n-first = refl;
  f-first = refl;
  most-first = refl;
  number-first = refl;
  desk-first = refl;
}

-- ---- a cluster by value

-- three servers with the weights 1,998, 501 and 501, and the same with an entry past them, and with one at the floor
abbrev hall_house : House
hall_house = house_of 3 0 (1998 ∷ 501 ∷ 501 ∷ [])

abbrev hall : Config
hall = config_of hall_house

abbrev overfull : Config
overfull = record { n = 2; f = 0; starts = 1000 ∷ 1000 ∷ 1 ∷ replicate 13 0 }

abbrev floored : Config
floored = record { n = 2; f = 0; starts = 300 ∷ 100 ∷ replicate 14 0 }

-- a torn message
abbrev torn : List ℕ
torn = 0 ∷ []

pub record ByValue : Type 0 where
  pub total : total_answer hall ≡ Ok 3000
  pub least : least_answer hall ≡ Ok 501
  pub starts : start_answer hall 0 ≡ Ok 1998
  pub taken : config_answer (two (299 ∷ 100 ∷ [])) ≡ Ok (record { config = config_of (two (299 ∷ 100 ∷ [])); least = 100 })
  pub refused : config_answer (two (300 ∷ 100 ∷ [])) ≡ Err (refusal 15)
  pub overfull-fault : cluster_fault overfull ≡ 15
  pub floored-fault : cluster_fault floored ≡ 15
  -- servers named, and a ledger's own weight: 1 for the map or the server, then 15
  pub named-first : named_answer floored (2 ^ 2) ≡ Err (refusal 1)
  pub named_start : named_answer floored 1 ≡ Err (refusal 15)
  pub weight-first : weight_answer floored fresh_ledger 2 ≡ Err (refusal 1)
  pub weight-start : weight_answer floored fresh_ledger 1 ≡ Err (refusal 15)
  pub weight : weight_answer hall fresh_ledger 0 ≡ Ok (pos 1998)
  -- of a message: 15 before the message checks, and 1 before it
  pub torn-start : check floored torn ≡ 15
  pub torn-invalid : check (config_of (house_of 2 1 [])) torn ≡ 1

pub by_value : ByValue
unfolding total_answer least_answer start_answer config_answer cluster_fault house_fault lawful_list named_answer weight_answer map_of check server_of valid_of lawful_of
    ends_of starts_above start_of total_of least_of above_of above kept_of keeps table run all sum weight_of weight difference given_of received_of
by_value = record {
  total = refl;
  least = refl;
  starts = refl;
  taken = refl;
  refused = refl;
  overfull-fault = refl;
  floored-fault = refl;
  named-first = refl;
  named_start = refl;
  weight-first = refl;
  weight-start = refl;
  weight = refl;
  torn-start = refl;
  torn-invalid = refl;
}

-- ---- the floor of such a house

-- "transfers at the floor of such a house pass and fail by one": of the hall's strong server, 1,497 and 1,498; of a weak one, nothing
pub record Floor : Type 0 where
  pub strong : (j : ℕ) → j < 3 → (0 ≡ j → ⊥) → (transfer_of (open_of hall_house 0).server j 1497).verdict ≡ granted
  pub strong-more : (j : ℕ) → j < 3 → (0 ≡ j → ⊥) → (transfer_of (open_of hall_house 0).server j 1498).verdict ≡ Err (refusal 10)
  pub weak : (j : ℕ) → j < 3 → (1 ≡ j → ⊥) → (transfer_of (open_of hall_house 1).server j 1).verdict ≡ Err (refusal 10)

hall-taken : house_fault hall_house ≡ 0
unfolding house_fault lawful_list all sum above
hall-taken = refl

hall-gives : (i d : ℕ) → i < 3 → 1 ≤ d → (j : ℕ) → j < 3 → (i ≡ j → ⊥) → (transfer_of (open_of hall_house i).server j d).verdict ≡ by_floor hall (start_of hall i) d
hall-gives i d hi p j hj ne =
    ap (λ a. (transfer_of a.server j d).verdict) (open-lawful hall_house i hall-taken hi) ∙ fresh_gives hall i j d (house-told hall_house hall-taken).lawful hi hj ne p

pub floor : Floor
unfolding by_floor start_of total_of above_of above kept_of keeps table run all sum difference
floor = record {
  strong = hall-gives 0 1497 (omega arith) (omega arith);
  strong-more = hall-gives 0 1498 (omega arith) (omega arith);
  weak = hall-gives 1 1 (omega arith) (omega arith);
}
