-- Bad inputs of the cluster and the ledger, each with its number (paper 01, "Numbers handed out"), and numbers at the ends of their types, by
-- computation.
use Rattle.std.specs.Prelude.{Ok, Err, true, false}
use Prim.Native.Nat.{ℕ, ◌-◌, ◌^◌}
use mathlib.Core.Path.{◌≡◌, refl}
use mathlib.Core.List.{◌∷◌, ◌++◌}
use lib.IntN.{pos, negsuc}
use lib.ListN.{replicate, set}
use Rattle.quorums.specs.Sum.{size, sum, sum_ℤ, sum_in, all}
use Rattle.quorums.specs.Difference.{difference}
use Rattle.quorums.specs.Accounts.{weight, total, weight_in, margin, above}
use Rattle.config.specs.Cluster.{level, valid_of, server_of, start_of, total_of, above_of, least_of, config_of, lawful_of, ends_of, starts_above, kept_of, keeps}
use Rattle.config.specs.Answers.{start_answer, total_answer, least_answer, above_answer}
use Rattle.config.specs.declared.cluster.Config.{Config}
use Rattle.config.specs.Refusals.{refusal, granted}
use Rattle.ledger.specs.declared.ledger.Ledger.{Ledger}
use Rattle.ledger.specs.Ledgers.{fresh_ledger, given_of, received_of, refused, accepted}
use Rattle.ledger.specs.Maps.{named, map_of, named_answer}
use Rattle.ledger.specs.Weights.{weight_of, margin_of, given_answer, received_answer, weight_answer, quorum_answer}
use Rattle.ledger.specs.Checks.{may_hold, total_fits, bounded, above_floor, fits, floor_answer, fit_answer, check_answer}
use Rattle.quorums.specs.Tables.{run, table}
use Rattle.ledger.specs.Joins.{agree, later, joins, joined, join_answer}
use Rattle.ledger.specs.Changes.{lawful, spares, added, give_answer, held_answer, add_answer}

-- the largest number of 64 bits
abbrev pub most : ℕ
most = 2 ^ 64 - 1

-- five servers, of which one may crash
abbrev pub five : Config
five = config_of (level 5 1)

-- ---- the cluster: n = 0, n = 17, 2f = n, and both numbers at their ends

pub record BadClusters : Type 0 where
  pub none : total_answer (config_of (level 0 0)) ≡ Err (refusal 1)
  pub seventeen : total_answer (config_of (level 17 0)) ≡ Err (refusal 1)
  pub half : total_answer (config_of (level 4 2)) ≡ Err (refusal 1)
  pub half-of-most : least_answer (config_of (level 16 8)) ≡ Err (refusal 1)
  pub most-servers : start_answer (config_of (level most 0)) 0 ≡ Err (refusal 1)
  pub most-crashes : above_answer (config_of (level 5 most)) (pos 1000) ≡ Err (refusal 1)
  pub smallest : total_answer (config_of (level 1 0)) ≡ Ok 1000
  pub largest : total_answer (config_of (level 16 7)) ≡ Ok 16000

pub bad-clusters : BadClusters
unfolding total_answer least_answer start_answer above_answer valid_of lawful_of ends_of starts_above kept_of keeps table run all above_of above server_of total_of start_of sum
bad-clusters = record {
  none = refl;
  seventeen = refl;
  half = refl;
  half-of-most = refl;
  most-servers = refl;
  most-crashes = refl;
  smallest = refl;
  largest = refl;
}

-- ---- the floor of five servers of which one may crash: 625 is not above it, 626 is

pub record Floor : Type 0 where
  pub at : above_answer five (pos 625) ≡ (Ok false)
  pub over : above_answer five (pos 626) ≡ (Ok true)
  pub least : least_answer five ≡ Ok 626
  pub negative : above_answer five (negsuc 0) ≡ (Ok false)
  pub last : above_answer five (pos (2 ^ 63 - 1)) ≡ (Ok true)
  pub first : above_answer five (negsuc (2 ^ 63 - 1)) ≡ (Ok false)

pub floor : Floor
unfolding above_answer least_answer valid_of lawful_of ends_of starts_above kept_of keeps table run all above_of above least_of total_of start_of sum
floor = record { at = refl; over = refl; least = refl; negative = refl; last = refl; first = refl }

-- ---- servers and maps that there aren't

pub record BadServers : Type 0 where
  pub server : weight_answer five fresh_ledger 5 ≡ Err (refusal 1)
  pub last-server : given_answer five fresh_ledger most ≡ Err (refusal 1)
  pub received : received_answer five fresh_ledger 5 ≡ Err (refusal 1)
  pub bit : quorum_answer five fresh_ledger (2 ^ 5) ≡ Err (refusal 1)
  pub all-bits : quorum_answer five fresh_ledger (2 ^ 16 - 1) ≡ Err (refusal 1)
  pub named-bit : named_answer five (2 ^ 5) ≡ Err (refusal 1)
  pub named-all : named_answer five (2 ^ 5 - 1) ≡ Ok 5
  -- and the ends of the number: nobody, everybody
  pub nobody : quorum_answer five fresh_ledger 0 ≡ Ok (negsuc 4999)
  pub everybody : quorum_answer (config_of (level 16 7)) fresh_ledger (2 ^ 16 - 1) ≡ Ok (pos 16000)

pub bad-servers : BadServers
unfolding weight_answer given_answer received_answer quorum_answer named_answer server_of valid_of lawful_of ends_of starts_above kept_of keeps table run all total_of above_of above map_of margin_of margin weight_in weight total difference named size sum_in sum sum_ℤ start_of given_of received_of
bad-servers = record {
  server = refl;
  last-server = refl;
  received = refl;
  bit = refl;
  all-bits = refl;
  named-bit = refl;
  named-all = refl;
  nobody = refl;
  everybody = refl;
}

-- ---- transfers that are refused

-- giver 0 has count m, and gave x to 1
abbrev gave : ℕ → ℕ → Ledger
gave m x = record { counts = set (replicate 16 0) 0 m; cells = set (replicate 256 0) 1 x }

-- 0 gave 1 to server 1 a times, and 1 gave 1 to server 0 b times
abbrev pub exchange : ℕ → ℕ → Ledger
exchange a b = record { counts = a ∷ b ∷ replicate 14 0; cells = set (set (replicate 256 0) 1 a) 16 b }

pub record BadTransfers : Type 0 where
  -- 1: the cluster, the giver, a row out of range, a server at the floor, also where nothing is given
  pub cluster : add_answer (config_of (level 4 2)) fresh_ledger 0 1 1 ≡ refused (refusal 1) fresh_ledger
  pub giver : add_answer five fresh_ledger 5 0 1 ≡ refused (refusal 1) fresh_ledger
  pub range : add_answer five (gave 1 16001) 2 3 1 ≡ refused (refusal 1) (gave 1 16001)
  pub light : add_answer five (gave 1 375) 2 3 1 ≡ refused (refusal 1) (gave 1 375)
  pub light-first : add_answer five (gave 1 375) 2 2 0 ≡ refused (refusal 1) (gave 1 375)
  -- 11
  pub self-taker : add_answer five fresh_ledger 0 0 1 ≡ refused (refusal 11) fresh_ledger
  pub taker : add_answer five fresh_ledger 0 5 1 ≡ refused (refusal 11) fresh_ledger
  pub most-taker : add_answer five fresh_ledger 0 most 1 ≡ refused (refusal 11) fresh_ledger
  pub nothing : add_answer five fresh_ledger 0 1 0 ≡ refused (refusal 11) fresh_ledger
  -- 12: the count alone
  pub count : add_answer five (exchange 65535 65535) 0 1 1 ≡ refused (refusal 12) (exchange 65535 65535)
  pub last-count : add_answer five (exchange 65534 65534) 0 1 1 ≡ accepted (exchange 65535 65534)
  -- 10: the floor is reached, or passed by far
  pub floor : add_answer five fresh_ledger 0 1 375 ≡ refused (refusal 10) fresh_ledger
  pub above : add_answer five fresh_ledger 0 1 374 ≡ accepted (gave 1 374)
  pub most-amount : add_answer five fresh_ledger 0 1 most ≡ refused (refusal 10) fresh_ledger
  -- 11 before 12, and 12 before 10
  pub taker-first : add_answer five (exchange 65535 65535) 0 0 1 ≡ refused (refusal 11) (exchange 65535 65535)
  pub count-first : add_answer five (exchange 65535 65535) 0 1 most ≡ refused (refusal 12) (exchange 65535 65535)

pub bad-transfers : BadTransfers
unfolding add_answer held_answer give_answer server_of valid_of lawful_of ends_of starts_above kept_of keeps table run fits bounded may_hold total_fits above_floor above_of above total_of start_of weight_of weight difference given_of received_of
    all sum lawful spares added
bad-transfers = record {
  cluster = refl;
  giver = refl;
  range = refl;
  light = refl;
  light-first = refl;
  self-taker = refl;
  taker = refl;
  most-taker = refl;
  nothing = refl;
  count = refl;
  last-count = refl;
  floor = refl;
  above = refl;
  most-amount = refl;
  taker-first = refl;
  count-first = refl;
}

-- ---- rows that clash

pub record Clashes : Type 0 where
  pub same_count : join_answer (gave 1 10) (gave 1 11) ≡ refused (refusal 6) (gave 1 10)
  pub later-smaller : join_answer (gave 1 10) (gave 2 9) ≡ refused (refusal 6) (gave 1 10)
  pub earlier-larger : join_answer (gave 2 9) (gave 1 10) ≡ refused (refusal 6) (gave 2 9)
  pub later : join_answer (gave 1 10) (gave 2 11) ≡ accepted (gave 2 11)
  pub earlier : join_answer (gave 2 11) (gave 1 10) ≡ accepted (gave 2 11)

pub clashes : Clashes
unfolding join_answer joins joined agree later all table run
clashes = record { same_count = refl; later-smaller = refl; earlier-larger = refl; later = refl; earlier = refl }

-- ---- whatever the arrays hold: bounds and floor told apart, and weights exact

-- every number at its end
abbrev full : Ledger
full = record { counts = replicate 16 65535; cells = replicate 256 4294967295 }

-- giver 0 gave all that its row can hold
abbrev generous : Ledger
generous = record { counts = replicate 16 0; cells = replicate 16 4294967295 ++ replicate 240 0 }

pub record Contents : Type 0 where
  pub full-weight : weight_answer five full 0 ≡ Ok (pos 1000)
  pub negative-weight : weight_answer five generous 0 ≡ Ok (negsuc 64424508424)
  pub negative-margin : quorum_answer five generous 1 ≡ Ok (negsuc 128849021849)
  pub full-bounds : check_answer five full ≡ Err (refusal 4)
  pub light : check_answer five (gave 1 375) ≡ Err (refusal 5)
  pub not-light : check_answer five (gave 1 374) ≡ granted
  pub floor-alone : floor_answer five full ≡ granted
  pub count-alone : check_answer five (gave 2 1) ≡ Err (refusal 4)
  pub cell-alone : check_answer five (gave 0 1) ≡ Err (refusal 4)

pub contents : Contents
unfolding weight_answer quorum_answer map_of named margin_of margin weight_in total sum_ℤ check_answer fit_answer floor_answer bounded above_floor may_hold total_fits server_of valid_of lawful_of ends_of starts_above kept_of keeps table run weight_of weight difference above_of above total_of start_of all sum given_of received_of
contents = record {
  full-weight = refl;
  negative-weight = refl;
  negative-margin = refl;
  full-bounds = refl;
  light = refl;
  not-light = refl;
  floor-alone = refl;
  count-alone = refl;
  cell-alone = refl;
}
