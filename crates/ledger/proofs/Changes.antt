-- What the tests of a transfer tell.
use Prim.Native.Nat.{ℕ, ◌≤◌, ◌<◌}
use native.Mathlib.Omega.{arith}
use mathlib.Core.Path.{◌≡◌, refl}
use mathlib.Core.Bool.{Bool, true, false, cond}
use borrow.Author.Tests.{leb-true, ltb-true, eqb-false}
use lib.Dec.{leb, ltb, eqb}
use Rattle.quorums.proofs.Tests.{both}
use Rattle.config.specs.declared.cluster.Config.{Config}
use Rattle.config.specs.Refusals.{Verdict}
use Rattle.ledger.specs.declared.ledger.Ledger.{Ledger}
use Rattle.ledger.specs.declared.ledger.Changed.{Changed}
use Rattle.ledger.specs.Changes.{lawful}

pub lawful-told : (c : Config) (i j d : ℕ) → lawful c i j d ≡ true → (i ≡ j → ⊥) × (j < c.n) × (1 ≤ d)
unfolding lawful
lawful-told c i j d e = by-test (eqb i j) refl e
  where
    by-test : (t : Bool) → eqb i j ≡ t → cond t false (cond (ltb j c.n) (leb 1 d) false) ≡ true → (i ≡ j → ⊥) × (j < c.n) × (1 ≤ d)
    by-test true s r = let z : ◌≡◌ {A = ℕ} 0 1 = cc in absurd (omega arith)
    by-test false s r = let x = both (ltb j c.n) _ r in (eqb-false i j s, ltb-true _ _ x.0, leb-true _ _ x.1)

-- what a call hands back is its verdict and the ledger
pub changed-of : (v : Verdict) (l : Ledger) (x : Changed) → v ≡ x.verdict → l ≡ x.ledger → record { verdict = v; ledger = l } ≡ x
changed-of v l x p q = rw (p, q) refl
