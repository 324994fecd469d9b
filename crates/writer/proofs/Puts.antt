-- Numbers as their bytes: the last of the eight that a number has, and none where it is absent.
use Rattle.std.proofs.lemmas.List.{take_all}
use Prim.Native.Nat.{ℕ, zero, suc, ◌-◌, ◌/◌, ◌%◌, ◌^◌, ◌≤◌, ◌<◌}
use native.Mathlib.Nat.{div-div-eq-div-mul, pow-succ'}
use native.Mathlib.Omega.{arith}
use mathlib.Core.Path.{◌≡◌, refl, sym, ap, ap₂, ◌∙◌}
use mathlib.Core.Logic.{⊎_elim}
use mathlib.Core.List.{List, [], ◌∷◌, ◌++◌}
use lib.ListN.{take, drop}
use Rattle.std.specs.Int.{bytes_high_first, byte_at}
use Rattle.quorums.proofs.Sums.{below_suc}
use Rattle.format.specs.Bytes.{bytes, number}
use Rattle.format.proofs.Lengths.{bytes-length}

-- a byte of a number is the one before it of the number without its low byte
byte-next : (k x : ℕ) → byte_at (suc k) x ≡ byte_at k (x / 256)
byte-next zero x = refl
byte-next (suc k) x = ap (λ n. n % 256) (ap (λ n. x / n) (pow-succ' 256 (suc k)) ∙ sym (div-div-eq-div-mul x 256 (256 ^ suc k)))

-- the low byte comes last
low-last : (w x : ℕ) → bytes_high_first (suc w) x ≡ bytes_high_first w (x / 256) ++ (x % 256 ∷ [])
low-last zero x = refl
low-last (suc w) x = ap₂ (λ (b : ℕ) (l : List ℕ). b ∷ l) (byte-next w x) (low-last w x)

high-first : (w x : ℕ) → bytes_high_first w x ≡ bytes w x
unfolding bytes
high-first zero x = refl
high-first (suc w) x = low-last w x ∙ ap (λ l. l ++ (x % 256 ∷ [])) (high-first w (x / 256))

-- the last w bytes of n
last-bytes : (n w x : ℕ) → w ≤ n → drop (n - w) (bytes_high_first n x) ≡ bytes_high_first w x
last-bytes zero w x h = let e : w ≡ 0 = omega arith in rw e refl
last-bytes (suc n) w x h =
    ⊎_elim (λ (d : w ≡ suc n). let e : suc n - w ≡ 0 = omega arith in rw (e, d) refl)
    (λ (d : w < suc n). let e : suc n - w ≡ suc (n - w) = omega arith in rw e (last-bytes n w x (omega arith)))
    (below_suc (omega arith))

-- as they are lent
pub lent_bytes : (w x : ℕ) (all : List ℕ) → w ≤ 8 → all ≡ bytes_high_first 8 x → take (8 - (8 - w)) (drop (8 - w) all) ≡ bytes w x
lent_bytes w x all h e =
    let last : drop (8 - w) all ≡ bytes w x = ap (drop (8 - w)) e ∙ last-bytes 8 w x h ∙ high-first w x in
    ap (take (8 - (8 - w))) last ∙ take_all (8 - (8 - w)) (bytes w x) (omega (arith, bytes-length w x))

-- a number that is absent, and one that stands
pub number-absent : (s w x : ℕ) → s ≡ 0 → number s w x ≡ []
unfolding number
number-absent s w x e = rw e

pub number-present : (s w x : ℕ) → (s ≡ 0 → ⊥) → number s w x ≡ bytes w x
unfolding number
number-present zero w x ne = absurd (ne refl)
number-present (suc s) w x ne = refl
