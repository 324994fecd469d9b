-- The record of a server, the record test, and how one is opened.
use Rattle.std.specs.Prelude.{ℕ, ◌<◌, ◌^◌, Bool, false, cond, Err}
use Rattle.config.specs.Cluster.{House, config_of, no_config, server_of, Typed as TypedConfig}
use Rattle.config.specs.Answers.{judged}
use Rattle.config.specs.declared.cluster.Config.{Config}
use Rattle.config.specs.declared.answer.Refusal.{Refusal}
use Rattle.config.specs.Refusals.{granted}
use Rattle.replica.specs.declared.replica.Replica.{Replica}
use Rattle.replica.specs.Replicas.{fresh_replica, fits as fits_replica, Typed as TypedReplica}
use Rattle.server.specs.declared.record.Server.{Server}
use Rattle.server.specs.declared.record.ServerAnswer.{ServerAnswer}

-- The record test (paper 01, "Numbers handed out", 1; paper 02, N2): n and f, the number, the start weights, the field ranges, and no light sheet.
unfoldable pub fits : Server → Bool
fits s = cond (server_of s.config s.number) (fits_replica s.config s.replica) false

-- a server that holds r
abbrev pub holding : Server → Replica → Server
holding s r = record { config = s.config; number = s.number; replica = r }

-- What a call hands back: a refusal leaves the record as it was.

abbrev pub accepted : Server → ServerAnswer
accepted s = record { verdict = granted; server = s }

abbrev pub refused : Refusal → Server → ServerAnswer
refused k s = record { verdict = Err k; server = s }

-- a fresh record, and the record with every field 0
abbrev pub fresh_server : Config → ℕ → Server
fresh_server c i = record { config = c; number = i; replica = fresh_replica }

abbrev pub blank_server : Server
blank_server = fresh_server no_config 0

-- Open: a fresh record; 1 for n, f and the number, then 15 for the start weights.
unfoldable pub open_of : House → ℕ → ServerAnswer
open_of h i = judged (server_of (config_of h) i) (config_of h) (accepted (fresh_server (config_of h) i)) (λ k. refused k blank_server)

-- A record that a call can have: arrays have their lengths, and each number fits its type.
pub record Typed (s : Server) : Type 0 where
  pub config-typed : TypedConfig s.config
  pub number_fits : s.number < 2 ^ 64
  pub replica-typed : TypedReplica s.replica
