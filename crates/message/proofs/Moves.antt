-- A cursor moves over the bytes of a number: where the bytes at the cursor are those of x, reading finds x, or refuses it for its range.
use Prim.Native.Nat.{ℕ, zero, suc, ◌+◌, ◌/◌, ◌%◌, ◌^◌, ◌<◌, ◌≤◌}
use native.Mathlib.Nat.{pow-succ'}
use native.Mathlib.Omega.{arith}
use mathlib.Core.Path.{◌≡◌, refl, sym, ap, ap₂, ◌∙◌}
use mathlib.Core.Bool.{Bool, true, false, cond}
use mathlib.Core.List.{List, [], ◌∷◌, ◌++◌, append_assoc, append-nil}
use borrow.Author.Tests.{le-leb, lt-leb}
use lib.ListN.{length, get_or, length-append}
use lib.Seq.{get_or-append-add, get_or_at}
use lib.Dec.{eqb, leb}
use Rattle.format.specs.Bytes.{bytes, number, stands}
use Rattle.format.proofs.Lengths.{bytes-length}
use Rattle.message.specs.Cursors.{Cursor}
use Rattle.message.specs.Cursors.{number_at, within, read_bytes, read_number, skip, require}
use Rattle.message.proofs.Stuck.{Stuck}

-- The cursor met no fault and stands behind the bytes pre.
pub record Stands (c : Cursor) (pre : List ℕ) : Type 0 where
  pub none : c.number ≡ 0
  pub place : c.at ≡ length pre

abbrev at_place : ℕ → ℕ → Cursor
at_place p x = record { number = 0; at = p; x = x }

-- behind pre, with the number x
abbrev pub behind : List ℕ → ℕ → Cursor
behind pre x = at_place (length pre) x

pub stands-behind : (c : Cursor) (pre : List ℕ) (x : ℕ) → c ≡ behind pre x → Stands c pre
stands-behind c pre x e = record { none = ap (λ (d : Cursor). d.number) e; place = ap (λ (d : Cursor). d.at) e }

pub stands_at : {c d : Cursor} {pre : List ℕ} → c ≡ d → Stands d pre → Stands c pre
stands_at e h = record { none = ap (λ (d : Cursor). d.number) e ∙ h.none; place = ap (λ (d : Cursor). d.at) e ∙ h.place }

pub behind-stands : (pre : List ℕ) (x : ℕ) → Stands (behind pre x) pre
behind-stands pre x = record { none = refl; place = refl }

-- ---- ranges

pub in-range : (low high x : ℕ) → low ≤ x → x ≤ high → within low high x ≡ true
unfolding within
in-range low high x l h = simp (le-leb low x l, le-leb x high h)

pub below-range : (low high x : ℕ) → x < low → within low high x ≡ false
unfolding within
below-range low high x l = simp (lt-leb low x l)

pub above-range : (low high x : ℕ) → high < x → within low high x ≡ false
unfolding within
above-range low high x l = simp (lt-leb x high l) (same (leb low x))
  where
    same : (b : Bool) → cond b false false ≡ false
    same true = refl
    same false = refl

-- ---- the bytes of a number are that number

number-back : (w x : ℕ) (pre t : List ℕ) → x < 256 ^ w → number_at (pre ++ (bytes w x ++ t)) (length pre) w ≡ x
unfolding number_at bytes
number-back zero x pre t h = omega arith
number-back (suc w) x pre t h =
    let front : List ℕ = bytes w (x / 256) in
    let low : x / 256 < 256 ^ w = omega (arith, pow-succ' 256 w) in
    let same : pre ++ (front ++ (x % 256 ∷ []) ++ t) ≡ pre ++ (front ++ (x % 256 ∷ t)) = ap (λ l. pre ++ l) (append_assoc front (x % 256 ∷ []) t) in
    let first : number_at (pre ++ (front ++ (x % 256 ∷ []) ++ t)) (length pre) w ≡ x / 256 =
    ap (λ l. number_at l (length pre) w) same ∙ number-back w (x / 256) pre (x % 256 ∷ t) low in
    let last : get_or (pre ++ (front ++ (x % 256 ∷ []) ++ t)) (length pre + w) 0 ≡ x % 256 =
    ap (λ l. get_or l (length pre + w) 0) same
    ∙ get_or-append-add pre (front ++ (x % 256 ∷ t)) w 0 ∙ get_or_at front (x % 256) t 0 w (bytes-length w (x / 256)) in
    omega (arith, first, last)

there : (msg pre e t : List ℕ) (c : Cursor) → Stands c pre → msg ≡ pre ++ (e ++ t) → leb (c.at + length e) (length msg) ≡ true
there msg pre e t c h m =
    le-leb (c.at + length e) (length msg)
    (omega (arith, h.place, ap length m, length-append pre (e ++ t), length-append e t))

bytes-there : (msg pre t : List ℕ) (c : Cursor) (w x : ℕ) → Stands c pre → msg ≡ pre ++ (bytes w x ++ t) → leb (c.at + w) (length msg) ≡ true
bytes-there msg pre t c w x h m = ap (λ n. leb (c.at + n) (length msg)) (sym (bytes-length w x)) ∙ there msg pre (bytes w x) t c h m

bytes-are : (msg pre t : List ℕ) (c : Cursor) (w x : ℕ) → Stands c pre → msg ≡ pre ++ (bytes w x ++ t) → x < 256 ^ w → number_at msg c.at w ≡ x
bytes-are msg pre t c w x h m l = ap₂ (λ a b. number_at a b w) m h.place ∙ number-back w x pre t l

-- ---- steps

-- over a number that is absent, or within its range
pub move : (msg pre t : List ℕ) (c : Cursor) (s w low high x : ℕ) → Stands c pre → msg ≡ pre ++ (number s w x ++ t) → x < 256 ^ w → (s ≡ 0 → x ≡ 0)
    → (0 < s → within low high x ≡ true)
    → read_number msg (stands s) w low high c ≡ behind (pre ++ number s w x) x
unfolding read_number read_bytes number stands
move msg pre t c zero w low high x h m l z r =
    simp (h.none, h.place, z refl, append-nil pre)
move msg pre t c (suc s) w low high x h m l z r =
    let place : c.at + w ≡ length (pre ++ bytes w x) = omega (arith, h.place, length-append pre (bytes w x), bytes-length w x) in
    simp (h.none, bytes-there msg pre t c w x h m, bytes-are msg pre t c w x h m l, r (omega arith)) (ap (λ p. at_place p x) place)

-- a number that stands and is out of range is refused by 4
pub refuse : (msg pre t : List ℕ) (c : Cursor) (s w low high x : ℕ) → Stands c pre → msg ≡ pre ++ (number s w x ++ t) → x < 256 ^ w → 0 < s
    → within low high x ≡ false
    → Stuck (read_number msg (stands s) w low high c) 3
unfolding read_number read_bytes number stands
refuse msg pre t c zero w low high x h m l p r = absurd (omega arith)
refuse msg pre t c (suc s) w low high x h m l p r =
    record { has = simp (h.none, bytes-there msg pre t c w x h m, bytes-are msg pre t c w x h m l, r) }

-- over a value
pub skip-move : (msg pre v t : List ℕ) (c : Cursor) → Stands c pre → msg ≡ pre ++ (v ++ t) → skip msg (length v) c ≡ behind (pre ++ v) 0
unfolding skip
skip-move msg pre v t c h m =
    let place : c.at + length v ≡ length (pre ++ v) = omega (arith, h.place, length-append pre v) in
    simp (h.none, there msg pre v t c h m) (ap (λ p. at_place p 0) place)

pub require-passes : (ok : Bool) (k : ℕ) (c : Cursor) → ok ≡ true → require ok k c ≡ c
unfolding require
require-passes ok k c e = rw e (same (eqb c.number 0))
  where
    same : (b : Bool) → cond b c c ≡ c
    same true = refl
    same false = refl

pub require-refuses : (ok : Bool) (k : ℕ) (c : Cursor) → c.number ≡ 0 → ok ≡ false → Stuck (require ok (suc k) c) k
unfolding require
require-refuses ok k c n e = record { has = simp (n, e) }
