-- Signed numbers, weights, margins and quorums as the program computes them, and what an answer tells.
use Rattle.std.specs.Prelude.{Ok, Err}
use Prim.Native.Nat.{ℕ, ◌^◌, ◌≤◌, ◌<◌}
use native.Mathlib.Omega.{arith}
use mathlib.Core.Path.{◌≡◌, refl, sym, ap₂, ◌∙◌, subst}
use mathlib.Core.Bool.{true}
use lib.IntN.{ℤ, pos, ◌-ℤ◌}
use lib.Signed.{lt_z, mag}
use mir.Syntax.{w64}
use mir.Val.{SFits, to_z, of_z}
use mir.Facts.{to_z_pos, to_z-of_z}
use Rattle.quorums.specs.Sum.{sum_in, all}
use Rattle.quorums.specs.Difference.{difference}
use Rattle.quorums.specs.Accounts.{Accounts, held, weight_in, total, quorum}
use Rattle.quorums.proofs.Tests.{chosen-first}
use Rattle.quorums.proofs.Sums.{sum_in-set, all-each}
use Rattle.quorums.proofs.Differences.{pos-less, difference-mag}
use Rattle.quorums.proofs.Weights.{weight_in-is}
use Rattle.config.specs.Cluster.{lawful_of, total_of}
use Rattle.config.specs.declared.cluster.Config.{Config}
use Rattle.config.specs.declared.answer.Refusal.{Refusal}
use Rattle.ledger.specs.declared.ledger.Ledger.{Ledger}
use Rattle.ledger.specs.Ledgers.{accounts_of}
use Rattle.ledger.specs.Maps.{named, map_of}
use Rattle.ledger.specs.Weights.{margin_of, quorum_of, quorum_answer}

-- a signed number that fits is read back as itself
pub read_back : (z : ℤ) → mag z < 2 ^ 63 → to_z w64 (of_z w64 z) ≡ z
read_back z h = to_z-of_z {w = w64} (record { sfits = h })

-- two numbers that are not large, subtracted as signed ones
pub gap_is : (a b : ℕ) → a < 2 ^ 62 → b < 2 ^ 62 → to_z w64 a -ℤ to_z w64 b ≡ difference a b
gap_is a b h k = ap₂ ◌-ℤ◌ (to_z_pos w64 {n = a} (omega arith)) (to_z_pos w64 {n = b} (omega arith)) ∙ pos-less a b

pub gap-fits : (a b : ℕ) → a < 2 ^ 62 → b < 2 ^ 62 → SFits w64 (to_z w64 a -ℤ to_z w64 b)
gap-fits a b h k = subst (SFits w64) (sym (gap_is a b h k)) (record { sfits = difference-mag a b (2 ^ 63) (omega arith) (omega arith) })

-- the map of all names every server
pub all_named : (i : ℕ) → i < 16 → named 65535 i ≡ true
unfolding all named
all_named = all-each 16 (named 65535) refl

pub all-weight : (n : ℕ) (a : Accounts) → n ≤ 16 → weight_in n a (named 65535) ≡ weight_in n a (λ i. true)
all-weight n a h =
    rw (weight_in-is n a (named 65535), weight_in-is n a (λ i. true), every (held a), every a.given)
  where
    every : (f : ℕ → ℕ) → sum_in n (named 65535) f ≡ sum_in n (λ i. true) f
    every f = sum_in-set n (named 65535) (λ i. true) f (λ i k. all_named i (omega arith))

pub total-accounts : (c : Config) (l : Ledger) → total c.n (accounts_of c l) ≡ total_of c
unfolding total total_of
total-accounts c l = refl

-- quorum is the margin's sign
pub quorum-margin : (c : Config) (l : Ledger) (m : ℕ) → quorum_of c l m ≡ lt_z (pos 0) (margin_of c l m)
unfolding quorum_of quorum margin_of
quorum-margin c l m = refl

pub signed-not-refused : (x : ℤ) (r : Refusal) → Ok x ≡ Err r → ⊥
signed-not-refused x r e = let z : ◌≡◌ {A = ℕ} 0 1 = cc in omega arith

-- what an answer of `quorum` tells
pub quorum-number : (c : Config) (l : Ledger) (m : ℕ) (y : ℤ) → quorum_answer c l m ≡ Ok y → (map_of c m ≡ true) × (lawful_of c ≡ true) × (y ≡ margin_of c l m)
unfolding quorum_answer
quorum-number c l m y e =
    let t = chosen-first (map_of c m) _ _ _ (λ d. signed-not-refused _ _ (sym d)) e in
    let v = chosen-first (lawful_of c) _ _ _ (λ d. signed-not-refused _ _ (sym d)) t.1 in
    (t.0, v.0, cc v.1)

pub told-quorum : (c : Config) (l : Ledger) (m : ℕ) → map_of c m ≡ true → lawful_of c ≡ true → quorum_answer c l m ≡ Ok (margin_of c l m)
unfolding quorum_answer
told-quorum c l m e v = simp (e, v)
