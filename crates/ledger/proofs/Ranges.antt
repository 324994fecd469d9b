-- What a call knows of an argument that is an array: arrays have their lengths, and each number fits its type.
use Prim.Native.Nat.{ℕ, zero, suc, ◌^◌, ◌<◌}
use mathlib.Core.Path.{◌≡◌}
use mathlib.Core.List.{List, [], ◌∷◌}
use lib.ListN.{length, get_or}
use lib.Pow.{pow_pos}
use mir.Syntax.{Width}
use mir.Val.{Val, bits}
use denote.Array.{Array, each}
use denote.Shadow.{shadow}
use denote.Plain.{UInt}
use denote.Laws.{Is}

each_fits : (w : Width) (xs : List ℕ) (us : List Val) → shadow (each ℕ (UInt w).own_val xs us) → (k : ℕ) → get_or xs k 0 < 2 ^ bits w
each_fits w [] us h k = pow_pos (bits w)
each_fits w (x ∷ xs) [] h k = absurd h
each_fits w (x ∷ xs) (u ∷ us) h zero = h.0.1
each_fits w (x ∷ xs) (u ∷ us) h (suc k) = each_fits w xs us h.1 k

pub array-length : (w : Width) (n : ℕ) (xs : List ℕ) (vs : List Val) → Is (Array (UInt w) n) xs vs → length xs ≡ n
array-length w n xs vs h = h.1.0.1

pub array-fits : (w : Width) (n : ℕ) (xs : List ℕ) (vs : List Val) → Is (Array (UInt w) n) xs vs → (k : ℕ) → get_or xs k 0 < 2 ^ bits w
array-fits w n xs vs h k = each_fits w xs h.0 h.1.1 k
