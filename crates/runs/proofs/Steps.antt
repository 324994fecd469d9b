-- Lists with each element changed: the machine's steps for the program's, and the bytes of messages.
use Prim.Native.Nat.{ℕ, zero, suc}
use mathlib.Core.Path.{◌≡◌, refl, ap}
use mathlib.Core.List.{List, [], ◌∷◌, ◌++◌, map}
use mathlib.Core.Option.{none, some}
use Rattle.machine.specs.Runs.{nth, when}

module _ {A B : Type 0} (f : A → B) where
  -- what is at a place of the list
  pub nth-map : (l : List A) (k : ℕ) → nth (map f l) k ≡ when (nth l k) none (λ x. some (f x))
  nth-map [] k = refl
  nth-map (x ∷ l) zero = refl
  nth-map (x ∷ l) (suc k) = nth-map l k

  -- two lists together
  pub map-append : (a b : List A) → map f (a ++ b) ≡ map f a ++ map f b
  map-append [] b = refl
  map-append (x ∷ a) b = ap (λ l. f x ∷ l) (map-append a b)
