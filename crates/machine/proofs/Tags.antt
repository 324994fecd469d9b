-- Tags are compared stamp first. The order is total, a joined register is the higher of the two, and a write's register is above what was held.
use Prim.Native.Nat.{ℕ, ◌≤◌, ◌<◌}
use native.Mathlib.Omega.{arith}
use mathlib.Core.Path.{◌≡◌, refl, sym, ◌∙◌}
use mathlib.Core.Logic.{◌⊎◌, inl, inr, ⊎_elim}
use mathlib.Core.Bool.{Bool, true, false, cond}
use mathlib.Core.List.{List}
use borrow.Author.Tests.{lt-ltb, le-ltb, ltb-true, eq-eqb, eqb-true}
use lib.Dec.{eqb, ltb}
use Rattle.quorums.proofs.Tests.{le-or-lt}
use Rattle.machine.specs.Parties.{Register, below, higher, Task, read, write}
use Rattle.machine.specs.Calls.{chosen}
use Rattle.machine.specs.Views.{◌≼◌, SameTag}
use Rattle.machine.proofs.Branches.{branch}

-- ---- the order, in numbers

abbrev pub Lower : Register → Register → Type 0
Lower a b = (a.stamp < b.stamp) ⊎ ((a.stamp ≡ b.stamp) × (a.desk < b.desk))

pub below-lower : (a b : Register) → below a b ≡ true → Lower a b
unfolding below
below-lower a b e = by-stamp (ltb a.stamp b.stamp) refl e
  where
    by-desk : (t : Bool) → eqb a.stamp b.stamp ≡ t → cond t (ltb a.desk b.desk) false ≡ true → Lower a b
    by-desk true f g = inr (eqb-true a.stamp b.stamp f, ltb-true a.desk b.desk g)
    by-desk false f g = let z : ◌≡◌ {A = ℕ} 0 1 = cc in absurd (omega arith)

    by-stamp : (t : Bool) → ltb a.stamp b.stamp ≡ t → cond t true (cond (eqb a.stamp b.stamp) (ltb a.desk b.desk) false) ≡ true → Lower a b
    by-stamp true f g = inl (ltb-true a.stamp b.stamp f)
    by-stamp false f g = by-desk (eqb a.stamp b.stamp) refl g

pub lower-below : (a b : Register) → Lower a b → below a b ≡ true
unfolding below
lower-below a b l =
    ⊎_elim (λ (s : a.stamp < b.stamp). rw (lt-ltb a.stamp b.stamp s))
    (λ (p : (a.stamp ≡ b.stamp) × (a.desk < b.desk)).
    rw (le-ltb a.stamp b.stamp (omega (arith, p.0)), eq-eqb a.stamp b.stamp p.0, lt-ltb a.desk b.desk p.1))
    l

not-both : (b : Bool) → b ≡ true → b ≡ false → ⊥
not-both b p q = let z : ◌≡◌ {A = ℕ} 0 1 = cc in omega arith

-- a is no higher than b: b is not lower than a
abbrev NoHigher : Register → Register → Type 0
NoHigher a b = (a.stamp < b.stamp) ⊎ ((a.stamp ≡ b.stamp) × (a.desk ≤ b.desk))

no-higher : (a b : Register) → a ≼ b → NoHigher a b
no-higher a b e =
    ⊎_elim
    (λ (s : b.stamp ≤ a.stamp).
    ⊎_elim
    (λ (t : a.stamp ≤ b.stamp).
    ⊎_elim (λ (l : a.desk ≤ b.desk). inr (omega arith, l))
    (λ (l : b.desk < a.desk). absurd (not-both (below b a) (lower-below b a (inr (omega arith, l))) e))
    (le-or-lt a.desk b.desk))
    (λ (t : b.stamp < a.stamp). absurd (not-both (below b a) (lower-below b a (inl t)) e))
    (le-or-lt a.stamp b.stamp))
    (λ (s : a.stamp < b.stamp). inl s)
    (le-or-lt b.stamp a.stamp)

is-no-higher : (a b : Register) → NoHigher a b → a ≼ b
is-no-higher a b p = by-test (below b a) refl
  where
    apart : Lower b a → NoHigher a b → ⊥
    apart l h =
        ⊎_elim
        (λ (s : b.stamp < a.stamp).
        ⊎_elim (λ (t : a.stamp < b.stamp). omega arith) (λ (t : (a.stamp ≡ b.stamp) × (a.desk ≤ b.desk)). omega (arith, t.0)) h)
        (λ (s : (b.stamp ≡ a.stamp) × (b.desk < a.desk)).
        ⊎_elim (λ (t : a.stamp < b.stamp). omega (arith, s.0))
        (λ (t : (a.stamp ≡ b.stamp) × (a.desk ≤ b.desk)). omega (arith, s.1, t.1))
        h)
        l

    by-test : (t : Bool) → below b a ≡ t → below b a ≡ false
    by-test true e = absurd (apart (below-lower b a e) p)
    by-test false e = e

-- ---- its laws

pub tag-refl : (a : Register) → a ≼ a
tag-refl a = is-no-higher a a (inr (refl, omega arith))

pub tag-trans : (a b e : Register) → a ≼ b → b ≼ e → a ≼ e
tag-trans a b e p q =
    is-no-higher a e
    (⊎_elim
    (λ (s : a.stamp < b.stamp).
    ⊎_elim (λ (t : b.stamp < e.stamp). inl (omega arith)) (λ (t : (b.stamp ≡ e.stamp) × (b.desk ≤ e.desk)). inl (omega (arith, t.0)))
    (no-higher b e q))
    (λ (s : (a.stamp ≡ b.stamp) × (a.desk ≤ b.desk)).
    ⊎_elim (λ (t : b.stamp < e.stamp). inl (omega (arith, s.0)))
    (λ (t : (b.stamp ≡ e.stamp) × (b.desk ≤ e.desk)). inr (omega (arith, s.0, t.0), omega (arith, s.1, t.1)))
    (no-higher b e q))
    (no-higher a b p))

pub below-no-higher : (a b : Register) → below a b ≡ true → a ≼ b
below-no-higher a b p =
    is-no-higher a b
    (⊎_elim (λ (s : a.stamp < b.stamp). inl s) (λ (s : (a.stamp ≡ b.stamp) × (a.desk < b.desk)). inr (s.0, omega (arith, s.1)))
    (below-lower a b p))

-- no higher, then lower, is lower
pub tag_below : (a b e : Register) → a ≼ b → below b e ≡ true → below a e ≡ true
tag_below a b e p q =
    lower-below a e
    (⊎_elim
    (λ (s : a.stamp < b.stamp).
    ⊎_elim (λ (t : b.stamp < e.stamp). inl (omega arith)) (λ (t : (b.stamp ≡ e.stamp) × (b.desk < e.desk)). inl (omega (arith, t.0)))
    (below-lower b e q))
    (λ (s : (a.stamp ≡ b.stamp) × (a.desk ≤ b.desk)).
    ⊎_elim (λ (t : b.stamp < e.stamp). inl (omega (arith, s.0)))
    (λ (t : (b.stamp ≡ e.stamp) × (b.desk < e.desk)). inr (omega (arith, s.0, t.0), omega (arith, s.1, t.1)))
    (below-lower b e q))
    (no-higher a b p))

-- ---- registers with one tag

pub same-sym : (a b : Register) → SameTag a b → SameTag b a
same-sym a b s = (sym s.0, sym s.1)

pub same-trans : (a b e : Register) → SameTag a b → SameTag b e → SameTag a e
same-trans a b e s t = (s.0 ∙ t.0, s.1 ∙ t.1)

-- tag and value are all of a register
pub same-register : (g h : Register) → SameTag g h → g.value ≡ h.value → g ≡ h
same-register g h s v = λ i. record { stamp = s.0 i; desk = s.1 i; value = v i }

-- they compare alike
pub same_left : (a b e : Register) → SameTag a b → below a e ≡ below b e
unfolding below
same_left a b e s = rw (s.0, s.1) refl

pub same-right : (a b e : Register) → SameTag b e → below a b ≡ below a e
unfolding below
same-right a b e s = rw (s.0, s.1) refl

-- one of two tags is lower, or they are one
abbrev pub Compared : Register → Register → Type 0
Compared a b = (below a b ≡ true) ⊎ ((below b a ≡ true) ⊎ SameTag a b)

pub compare-tags : (a b : Register) → Compared a b
compare-tags a b = by-stamp (le-or-lt a.stamp b.stamp) (le-or-lt b.stamp a.stamp)
  where
    by-desk : a.stamp ≡ b.stamp → (a.desk ≤ b.desk) ⊎ (b.desk < a.desk) → (b.desk ≤ a.desk) ⊎ (a.desk < b.desk) → Compared a b
    by-desk s (inl u) (inl w) = inr (inr (s, omega arith))
    by-desk s (inl u) (inr w) = inl (lower-below a b (inr (s, w)))
    by-desk s (inr u) w = inr (inl (lower-below b a (inr (sym s, u))))

    by-stamp : (a.stamp ≤ b.stamp) ⊎ (b.stamp < a.stamp) → (b.stamp ≤ a.stamp) ⊎ (a.stamp < b.stamp) → Compared a b
    by-stamp (inl s) (inl t) = by-desk (omega arith) (le-or-lt a.desk b.desk) (le-or-lt b.desk a.desk)
    by-stamp (inl s) (inr t) = inl (lower-below a b (inl t))
    by-stamp (inr s) t = inr (inl (lower-below b a (inl s)))

-- one of two tags that are below each other is none
pub below_apart : (a b : Register) → below a b ≡ true → SameTag a b → ⊥
below_apart a b p e =
    ⊎_elim (λ (s : a.stamp < b.stamp). omega (arith, e.0)) (λ (s : (a.stamp ≡ b.stamp) × (a.desk < b.desk)). omega (arith, s.1, e.1))
    (below-lower a b p)

-- ---- the higher of two, and what phase 1 chooses

pub higher-left : (a b : Register) → a ≼ higher a b
unfolding higher
higher-left a b = branch (λ r. a ≼ r) (below a b) b a (λ e. below-no-higher a b e) (λ e. tag-refl a)

pub higher-right : (a b : Register) → b ≼ higher a b
unfolding higher
higher-right a b = branch (λ r. b ≼ r) (below a b) b a (λ e. tag-refl b) (λ e. e)

pub higher-either : (P : Register → Type 0) (a b : Register) → P a → P b → P (higher a b)
unfolding higher
higher-either P a b p q = branch P (below a b) b a (λ e. q) (λ e. p)

pub write-above : (d : ℕ) (v : List ℕ) (r : Register) → below r (chosen d (write v) r) ≡ true
write-above d v r = lower-below r (chosen d (write v) r) (inl (omega arith))

pub chosen-above : (d : ℕ) (t : Task) (r : Register) → r ≼ chosen d t r
chosen-above d read r = tag-refl r
chosen-above d (write v) r = below-no-higher r (chosen d (write v) r) (write-above d v r)
