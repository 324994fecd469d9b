-- What the calls on a cluster answer: 1 for n and f out of bounds, and for a server that there isn't; then 15 for start weights that are not lawful.
use Rattle.std.specs.Prelude.{ℕ, Bool, cond, eqb, ℤ, Result, Ok, Err}
use Rattle.config.specs.Refusals.{refusal, granted, Verdict, Number, Decision}
use Rattle.config.specs.Cluster.{House, valid_of, lawful_of, start_of, total_of, above_of, least_of, server_of, house_fault, config_of}
use Rattle.config.specs.declared.cluster.Config.{Config}
use Rattle.config.specs.declared.list.Lawful.{Lawful}
use Rattle.config.specs.declared.answer.Refusal.{Refusal}

abbrev pub decide : Bool → Decision
decide b = Ok b

-- "15 …, directly after the first test for 1" (paper 02, N2): x where that test and the start weights pass
abbrev pub judged : {A : Type 0} → Bool → Config → A → (Refusal → A) → A
judged first c x refused = cond first (cond (lawful_of c) x (refused (refusal 15))) (refused (refusal 1))

unfoldable pub checked_answer : Config → Verdict
checked_answer c = judged (valid_of c) c granted Err

unfoldable pub start_answer : Config → ℕ → Number
start_answer c i = judged (server_of c i) c (Ok (start_of c i)) Err

unfoldable pub total_answer : Config → Number
total_answer c = judged (valid_of c) c (Ok (total_of c)) Err

unfoldable pub least_answer : Config → Number
least_answer c = judged (valid_of c) c (Ok (least_of c)) Err

unfoldable pub above_answer : Config → ℤ → Decision
above_answer c w = judged (valid_of c) c (decide (above_of c w)) Err

-- a cluster of what a call is given, with its least weight above the floor, or what is wrong
unfoldable pub config_answer : House → Result Lawful Refusal
config_answer h = cond (eqb (house_fault h) 0) (Ok (record { config = config_of h; least = least_of (config_of h) })) (Err (refusal (house_fault h)))
