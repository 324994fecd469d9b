-- Tests, and the facts that they decide.
use Prim.Native.Nat.{ℕ, ◌≤◌, ◌<◌}
use native.Mathlib.Omega.{arith}
use mathlib.Core.Path.{◌≡◌, refl, sym, ◌∙◌}
use mathlib.Core.Logic.{◌⊎◌, inl, inr, ⊎_elim, ◌↔◌}
use mathlib.Core.Bool.{Bool, true, false, cond, not, false≢true}
use borrow.Author.Tests.{eq-eqb, ne_eqb, eqb-true, eqb-false, lt-ltb, le-ltb, ltb-true, ltb-false, leb-true, leb-false}
use lib.Dec.{eqb, leb, ltb}

-- one of two orders holds
pub le-or-lt : (a b : ℕ) → (a ≤ b) ⊎ (b < a)
le-or-lt a b = by-test (ltb b a) refl
  where
    by-test : (t : Bool) → ltb b a ≡ t → (a ≤ b) ⊎ (b < a)
    by-test true e = inr (ltb-true b a e)
    by-test false e = inl (ltb-false b a e)

-- two tests with one meaning are one test
pub ltb-same : (a b c d : ℕ) → (a < b → c < d) → (c < d → a < b) → ltb a b ≡ ltb c d
ltb-same a b c d to from =
    ⊎_elim (λ (h : b ≤ a). le-ltb a b h ∙ sym (le-ltb c d (⊎_elim (λ (k : d ≤ c). k) (λ (k : c < d). omega (arith, from k)) (le-or-lt d c))))
    (λ (h : a < b). lt-ltb a b h ∙ sym (lt-ltb c d (to h)))
    (le-or-lt b a)

-- equal, either way round
pub eqb_comm : (a b : ℕ) → eqb a b ≡ eqb b a
eqb_comm a b = by-test (eqb b a) refl
  where
    by-test : (t : Bool) → eqb b a ≡ t → eqb a b ≡ t
    by-test true e = eq-eqb a b (sym (eqb-true b a e))
    by-test false e = ne_eqb a b (λ q. eqb-false b a e (sym q))

-- at least, and not below
pub leb-not : (a b : ℕ) → leb a b ≡ not (ltb b a)
leb-not a b = by-test (leb a b) refl
  where
    by-test : (t : Bool) → leb a b ≡ t → t ≡ not (ltb b a)
    by-test true e = rw (le-ltb b a (leb-true a b e)) refl
    by-test false e = rw (lt-ltb b a (leb-false a b e)) refl

-- a test that does not hold is false
pub test-false : (b : Bool) → (b ≡ true → ⊥) → b ≡ false
test-false true h = absurd (h refl)
test-false false h = refl

-- a test that decides a fact is false exactly where the fact does not hold
pub fails : {P : Type 0} (b : Bool) → (b ≡ true) ↔ P → (b ≡ false) ↔ (P → ⊥)
fails b h = (λ e p. false≢true (sym e ∙ h.1 p), λ n. test-false b (λ t. n (h.0 t)))

-- two tests of which each holds where the other does are one
pub one-test : (a b : Bool) → (a ≡ true → b ≡ true) → (b ≡ true → a ≡ true) → a ≡ b
one-test true b to from = sym (to refl)
one-test false true to from = from refl
one-test false false to from = refl

-- a test, or one that never holds
pub or-false : (b : Bool) → b ≡ cond b true false
or-false true = refl
or-false false = refl

-- two tests that hold, one after the other
pub both : (a b : Bool) → cond a b false ≡ true → (a ≡ true) × (b ≡ true)
both true b e = (refl, e)
both false b e = let z : ◌≡◌ {A = ℕ} 0 1 = cc in absurd (omega arith)

-- which of two was chosen, where the other is not what came out
pub chosen-first : {A : Type 0} (b : Bool) (x y z : A) → (y ≡ z → ⊥) → cond b x y ≡ z → (b ≡ true) × (x ≡ z)
chosen-first true x y z ne e = (refl, e)
chosen-first false x y z ne e = absurd (ne e)

pub chosen-second : {A : Type 0} (b : Bool) (x y z : A) → (x ≡ z → ⊥) → cond b x y ≡ z → b ≡ false
chosen-second true x y z ne e = absurd (ne e)
chosen-second false x y z ne e = refl
