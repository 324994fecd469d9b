-- The bounds that the lower of two numbers reaches.
use Prim.Native.Nat.{ℕ, ◌≤◌, ◌<◌, min}
use native.Mathlib.Omega.{arith}
use mathlib.Core.Path.{◌≡◌}
use mathlib.Core.Logic.{⊎_elim}
use mathlib.Core.Bool.{true, false, cond}
use borrow.Author.Tests.{le-leb, lt-leb}
use lib.Dec.{leb}
use Rattle.quorums.proofs.Tests.{le-or-lt}

pub leb-most : (b : ℕ) → b ≤ 65535 → leb b 65535 ≡ true
leb-most b l = le-leb b 65535 l

pub leb-min : (b x y : ℕ) → leb b (min x y) ≡ cond (leb b x) (leb b y) false
leb-min b x y =
    ⊎_elim
    (λ (h : b ≤ x).
    ⊎_elim (λ (k : b ≤ y). rw (le-leb b x h, le-leb b y k) (le-leb b (min x y) (omega arith)))
    (λ (k : y < b). rw (le-leb b x h, lt-leb b y k) (lt-leb b (min x y) (omega arith)))
    (le-or-lt b y))
    (λ (h : x < b). rw (lt-leb b x h) (lt-leb b (min x y) (omega arith)))
    (le-or-lt b x)

-- the same, with the last of the two looked at first
pub leb-min-last : (b x y : ℕ) → leb b (min x y) ≡ cond (leb b y) (leb b x) false
leb-min-last b x y = let e : min x y ≡ min y x = omega arith in rw e (leb-min b y x)
