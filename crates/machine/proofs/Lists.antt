-- Elements of lists: of one that grew at its end, and of one that was reached by its place.
use Prim.Native.Nat.{ℕ, zero, suc}
use mathlib.Core.Path.{◌≡◌, sym, subst}
use mathlib.Core.Logic.{◌⊎◌, inl, inr, ⊎_elim}
use mathlib.Core.List.{List, [], ◌∷◌, ◌++◌}
use mathlib.Core.Option.{some, none-ne-some, some-injective}
use Rattle.machine.specs.Runs.{nth}

-- x is an element of the list
abbrev pub In : {A : Type 0} → A → List A → Type 0
In x [] = ⊥
In x (y ∷ l) = (x ≡ y) ⊎ In x l

pub in_left : {A : Type 0} (x : A) (a b : List A) → In x a → In x (a ++ b)
in_left x [] b p = absurd p
in_left x (y ∷ a) b p = ⊎_elim (λ (e : x ≡ y). inl e) (λ (q : In x a). inr (in_left x a b q)) p

pub in_either : {A : Type 0} (x : A) (a b : List A) → In x (a ++ b) → In x a ⊎ In x b
in_either x [] b p = inr p
in_either x (y ∷ a) b p =
    ⊎_elim (λ (e : x ≡ y). inl (inl e)) (λ (q : In x (a ++ b)). ⊎_elim (λ (l : In x a). inl (inr l)) (λ (r : In x b). inr r) (in_either x a b q)) p

pub in_one : {A : Type 0} (x y : A) → In x (y ∷ []) → x ≡ y
in_one x y p = ⊎_elim (λ (e : x ≡ y). e) (λ (q : ⊥). absurd q) p

-- what is true of each element of two lists is true of each of both together
pub each_append : {A : Type 0} (P : A → Type 0) (a b : List A) → ((x : A) → In x a → P x) → ((x : A) → In x b → P x) → (x : A) → In x (a ++ b) → P x
each_append P a b p q x i = ⊎_elim (λ (l : In x a). p x l) (λ (r : In x b). q x r) (in_either x a b i)

pub each-one : {A : Type 0} (P : A → Type 0) (y : A) → P y → (x : A) → In x (y ∷ []) → P x
each-one P y p x i = subst P (sym (in_one x y i)) p

pub nth_in : {A : Type 0} (l : List A) (k : ℕ) (x : A) → nth l k ≡ some x → In x l
nth_in [] k x e = absurd (none-ne-some x e)
nth_in (y ∷ l) zero x e = inl (sym (some-injective y x e))
nth_in (y ∷ l) (suc k) x e = inr (nth_in l k x e)
