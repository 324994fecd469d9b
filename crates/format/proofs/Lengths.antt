-- How long numbers and series are in bytes.
use Prim.Native.Nat.{ℕ, zero, suc, ◌+◌, ◌*◌, ◌/◌, ◌%◌, ◌<◌, ◌≤◌}
use native.Mathlib.Omega.{arith}
use mathlib.Core.Path.{◌≡◌, refl, sym, ap, ap₂, ◌∙◌}
use mathlib.Core.Logic.{⊎_elim}
use mathlib.Core.List.{List, [], ◌∷◌, ◌++◌, append_assoc, append-nil}
use lib.ListN.{length, length-append}
use Rattle.quorums.specs.Sum.{sum}
use Rattle.quorums.proofs.Sums.{below_suc}
use Rattle.format.specs.Bytes.{bytes, number, series, stands}

pub bytes-length : (w x : ℕ) → length (bytes w x) ≡ w
unfolding bytes
bytes-length zero x = refl
bytes-length (suc w) x = length-append (bytes w (x / 256)) (x % 256 ∷ []) ∙ omega (arith, bytes-length w (x / 256))

pub number-length : (s w x : ℕ) → length (number s w x) ≡ stands s * w
unfolding number stands
number-length zero w x = omega arith
number-length (suc s) w x = bytes-length w x ∙ omega arith

-- whether a number stands is all that its mark says
pub number_same : (s t w x : ℕ) → stands s ≡ stands t → number s w x ≡ number t w x
unfolding number stands
number_same zero zero w x e = refl
number_same zero (suc t) w x e = absurd (omega arith)
number_same (suc s) zero w x e = absurd (omega arith)
number_same (suc s) (suc t) w x e = refl

-- ---- series

pub series-next : (n : ℕ) (f : ℕ → List ℕ) → series (suc n) f ≡ series n f ++ f n
unfolding series
series-next n f = refl

pub series-length : (n : ℕ) (f : ℕ → List ℕ) → length (series n f) ≡ sum n (λ k. length (f k))
unfolding series sum
series-length zero f = refl
series-length (suc n) f = length-append (series n f) (f n) ∙ ap (λ x. x + length (f n)) (series-length n f)

pub series-le : (k n : ℕ) (f : ℕ → List ℕ) → k ≤ n → length (series k f) ≤ length (series n f)
series-le k zero f h = let e : k ≡ 0 = omega arith in rw e (omega arith)
series-le k (suc n) f h =
    ⊎_elim (λ (d : k ≡ suc n). rw d (omega arith))
    (λ (d : k < suc n). omega (arith, series-le k n f (omega arith), ap length (series-next n f), length-append (series n f) (f n)))
    (below_suc (omega arith))

-- part k of a series has room where the series has
pub series-fits : (k n : ℕ) (f : ℕ → List ℕ) → k < n → length (series k f) + length (f k) ≤ length (series n f)
series-fits k n f h = omega (arith, series-le (suc k) n f h, ap length (series-next k f), length-append (series k f) (f k))

-- a series is what comes before part k, part k, and a rest
pub series-split : (k n : ℕ) (f : ℕ → List ℕ) → k < n → (t : List ℕ) × (series n f ≡ series k f ++ (f k ++ t))
series-split k zero f h = absurd (omega arith)
series-split k (suc n) f h =
    ⊎_elim (λ (d : k ≡ n). rw d ([], series-next n f ∙ ap (λ l. series n f ++ l) (sym (append-nil (f n)))))
    (λ (d : k < n).
    let r = series-split k n f d in (
      r.0 ++ f n,
      series-next n f
          ∙ ap (λ l. l ++ f n) r.1
          ∙ append_assoc (series k f) (f k ++ r.0) (f n)
          ∙ ap (λ l. series k f ++ l) (append_assoc (f k) r.0 (f n)),
    ))
    (below_suc h)

pub series-same : (n : ℕ) (f g : ℕ → List ℕ) → ((k : ℕ) → k < n → f k ≡ g k) → series n f ≡ series n g
unfolding series
series-same zero f g h = refl
series-same (suc n) f g h = ap₂ ◌++◌ (series-same n f g (λ k l. h k (omega arith))) (h n (omega arith))
