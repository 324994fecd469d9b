-- The record of a desk, the record test, and how one is opened.
use Rattle.std.specs.Prelude.{ℕ, ◌≤◌, ◌<◌, ◌^◌, Bool, false, cond, leb, Err}
use Rattle.config.specs.Cluster.{House, config_of, no_config, valid_of, Typed as TypedConfig}
use Rattle.config.specs.Answers.{judged}
use Rattle.config.specs.declared.cluster.Config.{Config}
use Rattle.config.specs.declared.answer.Refusal.{Refusal}
use Rattle.config.specs.Refusals.{Verdict, granted}
use Rattle.replica.specs.Replicas.{fresh_replica, fits as fits_replica, Typed as TypedReplica}
use Rattle.desk.specs.declared.operation.Operation.{Operation}
use Rattle.desk.specs.declared.record.Desk.{Desk}
use Rattle.desk.specs.declared.record.DeskAnswer.{DeskAnswer}
use Rattle.desk.specs.Operations.{no_operation, fits as fits_operation, Typed as TypedOperation}

-- the numbers of desks, and the last round
unfoldable pub number_lawful : ℕ → Bool
number_lawful d = cond (leb 1 d) (leb d 65535) false

abbrev pub most_round : ℕ
most_round = 4294967295

-- The record test (paper 01, "Numbers handed out", 1; paper 02, N2): n and f, the start weights, the number, the field ranges, the operation, and no light
-- sheet.
unfoldable pub fits : Desk → Bool
fits x =
    cond (number_lawful x.number) (cond (fits_replica x.config x.replica) (fits_operation x.config x.round x.operation) false) false

-- What of that test is not about the pair and the start weights: the number, n and f, and the operation.
unfoldable pub sound : Desk → Bool
sound x = cond (number_lawful x.number) (cond (valid_of x.config) (fits_operation x.config x.round x.operation) false) false

-- What a call hands back: a refusal leaves the record as it was.

abbrev pub accepted : Desk → DeskAnswer
accepted x = record { verdict = granted; desk = x }

abbrev pub refused : Refusal → Desk → DeskAnswer
refused k x = record { verdict = Err k; desk = x }

-- the desk in another round and with another operation
abbrev pub turned : Desk → ℕ → Operation → Desk
turned x round o = record { config = x.config; number = x.number; replica = x.replica; round = round; operation = o }

-- a fresh record, and the record with every field 0
abbrev pub fresh_desk : Config → ℕ → Desk
fresh_desk c d = record { config = c; number = d; replica = fresh_replica; round = 0; operation = no_operation }

abbrev pub blank_desk : Desk
blank_desk = fresh_desk no_config 0

-- whether d is a desk's number, and n and f are within bounds
unfoldable pub opens : Config → ℕ → Bool
opens c d = cond (number_lawful d) (valid_of c) false

-- what opening answers: 1 for n, f and the number, then 15 for the start weights
unfoldable pub open_answer : Config → ℕ → Verdict
open_answer c d = judged (opens c d) c granted Err

-- Open: a fresh record; 1 for n, f and the number, then 15 for the start weights.
unfoldable pub open_of : House → ℕ → DeskAnswer
open_of h d = judged (opens (config_of h) d) (config_of h) (accepted (fresh_desk (config_of h) d)) (λ k. refused k blank_desk)

-- A record that a call can have: arrays have their lengths, and each number fits its type.
pub record Typed (x : Desk) : Type 0 where
  pub config-typed : TypedConfig x.config
  pub number_fits : x.number < 2 ^ 64
  pub replica-typed : TypedReplica x.replica
  pub round-fits : x.round ≤ 4294967295
  pub operation-typed : TypedOperation x.operation
