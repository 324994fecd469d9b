-- The record of a server: what the record test says, and a server that is opened passes it.
use Prim.Native.Nat.{ℕ, ◌<◌, ◌^◌}
use native.Mathlib.Omega.{arith}
use mathlib.Core.Path.{◌≡◌, refl, sym}
use mathlib.Core.Bool.{Bool, true, false, cond}
use Rattle.quorums.proofs.Tests.{both}
use Rattle.config.specs.Cluster.{House, config_of, house_fault, server_of, lawful_of}
use Rattle.config.specs.Refusals.{refusal, granted}
use Rattle.config.proofs.Clusters.{lawful-valid, valid-server}
use Rattle.config.proofs.Houses.{none-typed, given-typed, house-told}
use Rattle.ledger.proofs.Checks.{accepted-not-refused}
use Rattle.replica.specs.Replicas.{fits as fits_replica}
use Rattle.replica.proofs.Replicas.{fresh-typed, fresh-fits}
use Rattle.server.specs.declared.record.Server.{Server}
use Rattle.server.specs.declared.record.ServerAnswer.{ServerAnswer}
use Rattle.server.specs.Servers.{fits, accepted, refused, fresh_server, blank_server, open_of, Typed}

-- ---- the record test

-- A record that passes it: the number is a server of the cluster, and what it holds is what a party may hold.
pub record Fits (s : Server) : Type 0 where
  pub server-in : server_of s.config s.number ≡ true
  pub replica-fits : fits_replica s.config s.replica ≡ true

pub fits_told : (s : Server) → fits s ≡ true → Fits s
unfolding fits
fits_told s e =
    let x = both (server_of s.config s.number) _ e in
    record { server-in = x.0; replica-fits = x.1 }

pub told-fits : (s : Server) → Fits s → fits s ≡ true
unfolding fits
told-fits s t = simp (t.server-in, t.replica-fits)

-- of a server's number it is that of the replica
pub fits-replica : (s : Server) → server_of s.config s.number ≡ true → fits s ≡ fits_replica s.config s.replica
unfolding fits
fits-replica s o = rw o refl

-- ---- a server that is opened

-- what `open` answers
abbrev opened : House → ℕ → Bool → Bool → ServerAnswer
opened h i b l = cond b (cond l (accepted (fresh_server (config_of h) i)) (refused (refusal 15) blank_server)) (refused (refusal 1) blank_server)

pub open-fits : (h : House) (i : ℕ) → (open_of h i).verdict ≡ granted → fits (open_of h i).server ≡ true
unfolding open_of
open-fits h i e = by_tests (server_of (config_of h) i) (lawful_of (config_of h)) refl refl e
  where
    by_tests : (b l : Bool) → server_of (config_of h) i ≡ b → lawful_of (config_of h) ≡ l → (opened h i b l).verdict ≡ granted → fits (opened h i b l).server ≡ true
    by_tests true true t v d = told-fits _ (record { server-in = t; replica-fits = fresh-fits (config_of h) v })
    by_tests true false t v d = accepted-not-refused _ (sym d)
    by_tests false l t v d = accepted-not-refused _ (sym d)

pub open-typed : (h : House) (i : ℕ) → h.n < 2 ^ 64 → h.f < 2 ^ 64 → i < 2 ^ 64 → Typed (open_of h i).server
unfolding open_of
open-typed h i a b c = by_tests (server_of (config_of h) i) (lawful_of (config_of h))
  where
    blank : Typed blank_server
    blank = record { config-typed = none-typed; number_fits = omega arith; replica-typed = fresh-typed }

    by_tests : (t l : Bool) → Typed (opened h i t l).server
    by_tests true true = record { config-typed = given-typed h a b; number_fits = c; replica-typed = fresh-typed }
    by_tests true false = blank
    by_tests false l = blank

-- a server of a lawful house is opened
pub open-lawful : (h : House) (i : ℕ) → house_fault h ≡ 0 → i < h.n → open_of h i ≡ accepted (fresh_server (config_of h) i)
unfolding open_of
open-lawful h i e l =
    let v = (house-told h e).lawful in
    rw (valid-server (config_of h) i (lawful-valid (config_of h) v) l, v) refl
