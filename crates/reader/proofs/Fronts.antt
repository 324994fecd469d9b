-- A function that is filled from the front, one value a turn, and one that has another value at one place.
use Prim.Native.Nat.{ℕ, ◌+◌, ◌≤◌}
use native.Mathlib.Omega.{arith}
use mathlib.Core.Path.{◌≡◌, refl, sym, ap, fun_ext, ◌∙◌}
use mathlib.Core.Bool.{Bool, true, false, cond}
use borrow.Author.Tests.{eq-eqb, eqb-true, eqb-false, lt-ltb, le-ltb, ltb-true, ltb-false}
use lib.Dec.{eqb, ltb}
use Rattle.reader.specs.Keeping.{put}

-- the first j values of f, and then d
unfoldable pub front : {A : Type 0} → A → ℕ → (ℕ → A) → ℕ → A
front d j f k = cond (ltb k j) (f k) d

module _ {A : Type 0} (d : A) (f : ℕ → A) where
  pub front-none : front d 0 f ≡ (λ k. d)
  unfolding front
  front-none = fun_ext (λ k. simp (le-ltb k 0 (omega arith)))

  pub front-left : (j : ℕ) → front d j f j ≡ d
  unfolding front
  front-left j = simp (le-ltb j j (omega arith))

  pub front_next : (j : ℕ) (x : A) → x ≡ f j → put (front d j f) j x ≡ front d (j + 1) f
  unfolding front put
  front_next j x e = fun_ext (λ k. by_tests k (eqb k j) refl (ltb k j) refl)
    where
      by_tests : (k : ℕ) (p : Bool) → eqb k j ≡ p → (q : Bool) → ltb k j ≡ q → cond p x (cond q (f k) d) ≡ cond (ltb k (j + 1)) (f k) d
      by_tests k true t q s = let is : k ≡ j = eqb-true k j t in simp (lt-ltb k (j + 1) (omega arith)) (e ∙ ap f (sym is))
      by_tests k false t true s = simp (lt-ltb k (j + 1) (omega (arith, ltb-true k j s)))
      by_tests k false t false s = simp (le-ltb k (j + 1) (omega (arith, ltb-false k j s, eqb-false k j t)))

  -- where the others are d, that is all of f
  pub front-all : (j : ℕ) → ((k : ℕ) → j ≤ k → f k ≡ d) → front d j f ≡ f
  unfolding front
  front-all j h = fun_ext (λ k. by-test k (ltb k j) refl)
    where
      by-test : (k : ℕ) (q : Bool) → ltb k j ≡ q → cond q (f k) d ≡ f k
      by-test k true s = refl
      by-test k false s = sym (h k (omega (arith, ltb-false k j s)))

module _ {A : Type 0} (g : ℕ → A) (i : ℕ) (x : A) where
  pub put-here : put g i x i ≡ x
  unfolding put
  put-here = simp (eq-eqb i i refl)

  -- the value that stands there
  pub put_same : x ≡ g i → put g i x ≡ g
  unfolding put
  put_same e = fun_ext (λ k. by-test k (eqb k i) refl)
    where
      by-test : (k : ℕ) (p : Bool) → eqb k i ≡ p → cond p x (g k) ≡ g k
      by-test k true t = e ∙ ap g (sym (eqb-true k i t))
      by-test k false t = refl

  pub put-twice : (y : A) → put (put g i x) i y ≡ put g i y
  unfolding put
  put-twice y = fun_ext (λ k. by-test k (eqb k i))
    where
      by-test : (k : ℕ) (p : Bool) → cond p y (cond p x (g k)) ≡ cond p y (g k)
      by-test k true = refl
      by-test k false = refl

-- a value that is d is there already
pub front-skip : {A : Type 0} (d : A) (f : ℕ → A) (j : ℕ) → f j ≡ d → front d j f ≡ front d (j + 1) f
front-skip d f j e = sym (put_same (front d j f) j d (sym (front-left d f j))) ∙ front_next d f j d (sym e)

-- a row of zeros in the place of one
pub row-blank : (cells : ℕ → ℕ → ℕ) (i : ℕ) → ((j : ℕ) → cells i j ≡ 0) → put cells i (λ j. 0) ≡ cells
row-blank cells i blank = put_same cells i (λ j. 0) (fun_ext (λ j. sym (blank j)))
