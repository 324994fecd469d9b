-- Laws of the signed difference: what is true of signed weights follows by them from plain sums. Two differences are equal when they differ by
-- the same shift (`difference-same`), and every other law comes down to that one.
use Prim.Native.Nat.{ℕ, zero, suc, ◌+◌, ◌-◌, ◌*◌, ◌≤◌, ◌<◌}
use native.Mathlib.Nat.{add-mul, add-sub_of_le}
use native.Mathlib.Omega.{arith}
use mathlib.Core.Path.{◌≡◌, refl, sym, ap, ◌∙◌}
use mathlib.Core.Logic.{⊎_elim}
use borrow.Author.Tests.{lt-ltb, le-ltb}
use lib.Dec.{ltb, le→leb}
use lib.IntN.{pos, negsuc, neg_ℤ, sub_ℕ, ◌+ℤ◌, ◌-ℤ◌, ◌*ℤ◌}
use lib.Signed.{lt_z, mag, ◌≤ℤ◌, le_z_yes}
use Rattle.quorums.specs.Difference.{difference}
use Rattle.quorums.proofs.Tests.{le-or-lt, ltb-same}

is-difference : (a b : ℕ) → sub_ℕ a b ≡ difference a b
unfolding difference
is-difference a b = refl

pub difference-up : (a b : ℕ) → b ≤ a → difference a b ≡ pos (a - b)
unfolding difference
difference-up a b h = rw (le-ltb a b h)

pub difference-down : (a b : ℕ) → a < b → difference a b ≡ negsuc (b - suc a)
unfolding difference
difference-down a b h = rw (lt-ltb a b h)

pub difference-same : (a b c d : ℕ) → a + d ≡ c + b → difference a b ≡ difference c d
difference-same a b c d e =
    ⊎_elim
    (λ (h : b ≤ a). difference-up a b h ∙ ap pos (omega arith) ∙ sym (difference-up c d (omega arith)))
    (λ (h : a < b). difference-down a b h ∙ ap negsuc (omega arith) ∙ sym (difference-down c d (omega arith)))
    (le-or-lt b a)

-- and only then
pub difference-back : (a b c d : ℕ) → difference a b ≡ difference c d → a + d ≡ c + b
difference-back a b c d e =
    ⊎_elim
    (λ (h : b ≤ a).
    ⊎_elim (λ (k : d ≤ c). up h k (sym (difference-up a b h) ∙ e ∙ difference-up c d k))
    (λ (k : c < d). apart (sym (difference-up a b h) ∙ e ∙ difference-down c d k))
    (le-or-lt d c))
    (λ (h : a < b).
    ⊎_elim (λ (k : d ≤ c). apart (sym (difference-up c d k) ∙ sym e ∙ difference-down a b h))
    (λ (k : c < d). down h k (sym (difference-down a b h) ∙ e ∙ difference-down c d k))
    (le-or-lt d c))
    (le-or-lt b a)
  where
    up : b ≤ a → d ≤ c → pos (a - b) ≡ pos (c - d) → a + d ≡ c + b
    up h k same = let z : a - b ≡ c - d = cc in omega arith

    down : a < b → c < d → negsuc (b - suc a) ≡ negsuc (d - suc c) → a + d ≡ c + b
    down h k same = let z : b - suc a ≡ d - suc c = cc in omega arith

    apart : {x y : ℕ} → pos x ≡ negsuc y → a + d ≡ c + b
    apart same = let z : ◌≡◌ {A = ℕ} 0 1 = cc in absurd (omega arith)

pub pos-difference : (a : ℕ) → pos a ≡ difference a 0
pos-difference a = ap pos (omega arith) ∙ sym (difference-up a 0 (omega arith))

neg-difference : (a : ℕ) → neg_ℤ (pos a) ≡ difference 0 a
neg-difference zero = pos-difference 0
neg-difference (suc a) = ap negsuc (omega arith) ∙ sym (difference-down 0 (suc a) (omega arith))

pub difference-add : (a b c d : ℕ) → difference a b +ℤ difference c d ≡ difference (a + c) (b + d)
difference-add a b c d =
    ⊎_elim
    (λ (h : b ≤ a).
    ⊎_elim (λ (k : d ≤ c). rw (difference-up a b h, difference-up c d k) (up h k))
    (λ (k : c < d). rw (difference-up a b h, difference-down c d k) (across h k))
    (le-or-lt d c))
    (λ (h : a < b).
    ⊎_elim (λ (k : d ≤ c). rw (difference-down a b h, difference-up c d k) (back h k))
    (λ (k : c < d). rw (difference-down a b h, difference-down c d k) (down h k))
    (le-or-lt d c))
    (le-or-lt b a)
  where
    up : b ≤ a → d ≤ c → pos (a - b + (c - d)) ≡ difference (a + c) (b + d)
    up h k = ap pos (omega arith) ∙ sym (difference-up (a + c) (b + d) (omega arith))

    down : a < b → c < d → negsuc (suc (b - suc a + (d - suc c))) ≡ difference (a + c) (b + d)
    down h k = ap negsuc (omega arith) ∙ sym (difference-down (a + c) (b + d) (omega arith))

    across : b ≤ a → c < d → pos (a - b) +ℤ negsuc (d - suc c) ≡ difference (a + c) (b + d)
    across h k = is-difference (a - b) (suc (d - suc c)) ∙ difference-same (a - b) (suc (d - suc c)) (a + c) (b + d) (omega arith)

    back : a < b → d ≤ c → negsuc (b - suc a) +ℤ pos (c - d) ≡ difference (a + c) (b + d)
    back h k = is-difference (c - d) (suc (b - suc a)) ∙ difference-same (c - d) (suc (b - suc a)) (a + c) (b + d) (omega arith)

pub difference-less : (a b w : ℕ) → difference a b -ℤ pos w ≡ difference a (b + w)
difference-less a b w = rw (neg-difference w, difference-add a b 0 w) (difference-same (a + 0) (b + w) a (b + w) (omega arith))

pub difference-more : (a b w : ℕ) → difference a b +ℤ pos w ≡ difference (a + w) b
difference-more a b w = rw (pos-difference w, difference-add a b w 0) (difference-same (a + w) (b + 0) (a + w) b (omega arith))

pub difference-times : (a b k : ℕ) → difference a b *ℤ pos k ≡ difference (a * k) (b * k)
difference-times a b k =
    ⊎_elim
    (λ (h : b ≤ a).
    rw (difference-up a b h)
    (pos-difference ((a - b) * k) ∙ difference-same ((a - b) * k) 0 (a * k) (b * k) (omega (arith, split b a h))))
    (λ (h : a < b).
    rw (difference-down a b h)
    (neg-difference (suc (b - suc a) * k)
    ∙ difference-same 0 (suc (b - suc a) * k) (a * k) (b * k) (omega (arith, split a b (omega arith), gap a b h))))
    (le-or-lt b a)
  where
    split : (x y : ℕ) → x ≤ y → x * k + (y - x) * k ≡ y * k
    split x y h = sym (add-mul x (y - x) k) ∙ ap (λ z. z * k) (add-sub_of_le h)

    gap : (x y : ℕ) → x < y → suc (y - suc x) * k ≡ (y - x) * k
    gap x y h = ap (λ z. z * k) (omega arith)

-- a comparison of a number with a difference is one of two sums
pub lt-difference : (w a b : ℕ) → lt_z (pos w) (difference a b) ≡ ltb (b + w) a
lt-difference w a b =
    ⊎_elim
    (λ (h : b ≤ a). rw (difference-up a b h) (ltb-same w (a - b) (b + w) a (λ (k : w < a - b). omega arith) (λ (k : b + w < a). omega arith)))
    (λ (h : a < b). rw (difference-down a b h) (sym (le-ltb (b + w) a (omega arith))))
    (le-or-lt b a)

-- and so is one of two differences
pub difference-le : (a b c d : ℕ) → a + d ≤ c + b → difference a b ≤ℤ difference c d
difference-le a b c d l =
    ⊎_elim
    (λ (h : b ≤ a). rw (difference-up a b h, difference-up c d (omega arith)) (le_z_yes (le→leb (a - b) (c - d) (omega arith))))
    (λ (h : a < b).
    ⊎_elim (λ (k : d ≤ c). rw (difference-down a b h, difference-up c d k) (le_z_yes tt))
    (λ (k : c < d). rw (difference-down a b h, difference-down c d k) (le_z_yes (le→leb (d - suc c) (b - suc a) (omega arith))))
    (le-or-lt d c))
    (le-or-lt b a)

-- as a program computes it, and its size
pub pos-less : (a b : ℕ) → pos a -ℤ pos b ≡ difference a b
pos-less a b = rw (pos-difference a, difference-less a 0 b) (difference-same a (0 + b) a b (omega arith))

pub difference-mag : (a b k : ℕ) → a < k → b < k → mag (difference a b) < k
difference-mag a b k p q =
    ⊎_elim (λ (h : b ≤ a). rw (difference-up a b h) (omega arith)) (λ (h : a < b). rw (difference-down a b h) (omega arith)) (le-or-lt b a)
