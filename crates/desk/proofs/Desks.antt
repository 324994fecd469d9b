-- Desks: what the record test says, and that a desk passes it when it is opened.
use Prim.Native.Nat.{ℕ, ◌≤◌, ◌<◌, ◌^◌}
use native.Mathlib.Omega.{arith}
use mathlib.Core.Path.{◌≡◌, refl, sym, ◌∙◌}
use mathlib.Core.Bool.{Bool, true, false, cond, false≢true}
use borrow.Author.Tests.{leb-true}
use lib.Dec.{leb}
use Rattle.quorums.proofs.Tests.{both}
use Rattle.config.specs.Cluster.{House, config_of, no_config, house_fault, valid_of, lawful_of, Typed as TypedConfig}
use Rattle.config.proofs.Clusters.{lawful-valid}
use Rattle.config.proofs.Houses.{none-typed as no-config-typed, given-typed, house-told}
use Rattle.config.specs.Refusals.{refusal, granted}
use Rattle.ledger.proofs.Checks.{accepted-not-refused}
use Rattle.replica.specs.declared.replica.Replica.{Replica}
use Rattle.replica.specs.Replicas.{fits as fits_replica}
use Rattle.replica.proofs.Replicas.{fits_told as replica-told, fresh-fits, fresh-typed}
use Rattle.config.specs.declared.cluster.Config.{Config}
use Rattle.desk.specs.declared.operation.Operation.{Operation}
use Rattle.desk.specs.declared.record.Desk.{Desk}
use Rattle.desk.specs.declared.record.DeskAnswer.{DeskAnswer}
use Rattle.desk.specs.Operations.{running, fits as fits_operation}
use Rattle.desk.specs.Desks.{number_lawful, opens, fits, sound, accepted, refused, fresh_desk, blank_desk, open_of, Typed}
use Rattle.desk.proofs.Operations.{operation-told, running-later, none-fits, none-typed}

-- ---- a desk that passes the record test

pub record Fits (x : Desk) : Type 0 where
  pub number_in : number_lawful x.number ≡ true
  pub replica-fits : fits_replica x.config x.replica ≡ true
  pub operation-fits : fits_operation x.config x.round x.operation ≡ true

pub fits_told : (x : Desk) → fits x ≡ true → Fits x
unfolding fits
fits_told x e =
    let n = both (number_lawful x.number) _ e in
    let r = both (fits_replica x.config x.replica) _ n.1 in
    record { number_in = n.0; replica-fits = r.0; operation-fits = r.1 }

pub told-fits : (x : Desk) → Fits x → fits x ≡ true
unfolding fits
told-fits x t = simp (t.number_in, t.replica-fits, t.operation-fits)

-- a replica fits no cluster that is none
pub replica-valid : (c : Config) (r : Replica) → fits_replica c r ≡ true → valid_of c ≡ true
replica-valid c r e = lawful-valid c (replica-told c r e).lawful

-- so what is not about the replica may be tested before it
pub sound-first : (x : Desk) → fits x ≡ cond (sound x) (fits_replica x.config x.replica) false
unfolding fits sound
sound-first x =
    by_tests (number_lawful x.number) (valid_of x.config) (fits_replica x.config x.replica)
    (fits_operation x.config x.round x.operation) (replica-valid x.config x.replica)
  where
    by_tests : (n v r o : Bool) → (r ≡ true → v ≡ true) → cond n (cond r o false) false ≡ cond (cond n (cond v o false) false) r false
    by_tests true true true true h = refl
    by_tests true true true false h = refl
    by_tests true true false true h = refl
    by_tests true true false false h = refl
    by_tests true false true o h = absurd (false≢true (h refl))
    by_tests true false false o h = refl
    by_tests false v r o h = refl

pub unsound-unfit : (x : Desk) → sound x ≡ false → fits x ≡ false
unsound-unfit x e = rw (sound-first x, e) refl

pub record Sound (x : Desk) : Type 0 where
  pub number_in : number_lawful x.number ≡ true
  pub valid : valid_of x.config ≡ true
  pub operation-fits : fits_operation x.config x.round x.operation ≡ true

pub sound-told : (x : Desk) → sound x ≡ true → Sound x
unfolding sound
sound-told x e =
    let n = both (number_lawful x.number) _ e in
    let v = both (valid_of x.config) _ n.1 in
    record { number_in = n.0; valid = v.0; operation-fits = v.1 }

pub fits-sound : (x : Desk) → fits x ≡ true → sound x ≡ true
fits-sound x e = (both _ _ (sym (sound-first x) ∙ e)).0

-- its cluster is one, and its number is a desk's

pub fits-lawful : (x : Desk) → fits x ≡ true → lawful_of x.config ≡ true
fits-lawful x e = (replica-told x.config x.replica (fits_told x e).replica-fits).lawful

pub fits-valid : (x : Desk) → fits x ≡ true → valid_of x.config ≡ true
fits-valid x e = lawful-valid x.config (fits-lawful x e)

pub number-told : (d : ℕ) → number_lawful d ≡ true → (1 ≤ d) × (d ≤ 65535)
unfolding number_lawful
number-told d e = let p = both (leb 1 d) (leb d 65535) e in (leb-true 1 d p.0, leb-true d 65535 p.1)

-- an operation runs in no round before the first
pub running-round : (c : Config) (round : ℕ) (o : Operation) → fits_operation c round o ≡ true → o.mode ≡ running → 1 ≤ round
running-round c round o e m = running-later o.mode round (operation-told c round o e).mode-in m

-- ---- a fresh desk

-- what `open` answers
abbrev opened : House → ℕ → Bool → Bool → DeskAnswer
opened h d b l = cond b (cond l (accepted (fresh_desk (config_of h) d)) (refused (refusal 15) blank_desk)) (refused (refusal 1) blank_desk)

opens-told : (c : Config) (d : ℕ) → opens c d ≡ true → (number_lawful d ≡ true) × (valid_of c ≡ true)
unfolding opens
opens-told c d e = both (number_lawful d) (valid_of c) e

pub open-fits : (h : House) (d : ℕ) → (open_of h d).verdict ≡ granted → fits (open_of h d).desk ≡ true
unfolding open_of
open-fits h d e = by_tests (opens (config_of h) d) (lawful_of (config_of h)) refl refl e
  where
    by_tests : (b l : Bool) → opens (config_of h) d ≡ b → lawful_of (config_of h) ≡ l → (opened h d b l).verdict ≡ granted → fits (opened h d b l).desk ≡ true
    by_tests true true o v t =
        let k = opens-told (config_of h) d o in
        told-fits (fresh_desk (config_of h) d)
        (record { number_in = k.0; replica-fits = fresh-fits (config_of h) v; operation-fits = none-fits (config_of h) 0 k.1 })
    by_tests true false o v t = accepted-not-refused _ (sym t)
    by_tests false l o v t = accepted-not-refused _ (sym t)

pub open-typed : (h : House) (d : ℕ) → h.n < 2 ^ 64 → h.f < 2 ^ 64 → d < 2 ^ 64 → Typed (open_of h d).desk
unfolding open_of
open-typed h d p q r = by_tests (opens (config_of h) d) (lawful_of (config_of h))
  where
    fresh : (c : Config) (i : ℕ) → TypedConfig c → i < 2 ^ 64 → Typed (fresh_desk c i)
    fresh c i t k =
        record { config-typed = t; number_fits = k; replica-typed = fresh-typed; round-fits = omega arith; operation-typed = none-typed }

    by_tests : (b l : Bool) → Typed (opened h d b l).desk
    by_tests true true = fresh (config_of h) d (given-typed h p q) r
    by_tests true false = fresh no_config 0 no-config-typed (omega arith)
    by_tests false l = fresh no_config 0 no-config-typed (omega arith)

-- a desk of a lawful house is opened
pub open-lawful : (h : House) (d : ℕ) → house_fault h ≡ 0 → number_lawful d ≡ true → open_of h d ≡ accepted (fresh_desk (config_of h) d)
unfolding open_of opens
open-lawful h d e k =
    let v = (house-told h e).lawful in
    rw (k, lawful-valid (config_of h) v, v) refl
