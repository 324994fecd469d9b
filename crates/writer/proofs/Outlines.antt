-- Maps that loops make, a bit a turn.
use Prim.Native.Nat.{ℕ, zero, suc, ◌+◌, ◌*◌, ◌%◌, ◌^◌, ◌≤◌, ◌<◌}
use native.Mathlib.Nat.{mul-le-mul_right, one-mul, mod-eq_of_lt, le_of_suc-le-suc}
use native.Mathlib.Numerals.{add-one}
use native.Mathlib.Omega.{arith}
use mathlib.Core.Path.{◌≡◌, refl, sym, ap, ◌∙◌}
use mathlib.Core.Bool.{not}
use mir.Val.{bool_byte}
use borrow.Author.Tests.{ne_eqb}
use lib.Dec.{eqb}
use lib.Pow.{pow_mono}
use Rattle.quorums.specs.Sum.{sum}
use Rattle.format.specs.Bytes.{stands, marks}
use Rattle.format.specs.Table.{field_map}
use Rattle.format.proofs.Marks.{marks-none, marks-next, marks-lt, stands-le, stands-none}

-- after n of 16 turns: the map of the first n marks
pub record Marked (n : ℕ) (f : ℕ → ℕ) (map : ℕ) : Type 0 where
  pub within : n ≤ 16
  pub is-map : map ≡ marks n f

pub marked_start : (f : ℕ → ℕ) → Marked 0 f 0
marked_start f = record { within = omega arith; is-map = sym (marks-none f) }

-- the numbers stay below 2 ^ 16, and a mark is not cut where it is shifted to its place
pub marked-small : {n : ℕ} {f : ℕ → ℕ} {map : ℕ} → Marked n f map → n < 16 → (m top : ℕ) → m ≤ 1 → 65536 ≤ top
    → (m * 2 ^ n % top ≡ m * 2 ^ n) × (map + m * 2 ^ n < 65536)
marked-small {n} {f} {map} s l m top h wide =
    let t : m * 2 ^ n ≤ 2 ^ n = rw one-mul at (mul-le-mul_right (2 ^ n) h) in
    let below : map < 2 ^ n = rw s.is-map (marks-lt n f) in
    let most : 2 ^ n ≤ 32768 = pow_mono (le_of_suc-le-suc l) in
    (mod-eq_of_lt (omega arith), omega arith)

pub marked_next : {n : ℕ} {f : ℕ → ℕ} {map : ℕ} → Marked n f map → n < 16 → (m top : ℕ) → m ≡ stands (f n) → 65536 ≤ top
    → Marked (n + 1) f (map + m * 2 ^ n % top)
marked_next {n} {f} {map} s l m top e wide =
    let whole = (marked-small s l m top (rw e (stands-le (f n))) wide).0 in
    record { within = omega arith; is-map = rw (whole, add-one, marks-next, s.is-map, e) }

-- a number that is 0 adds nothing
pub marked_none : {n : ℕ} {f : ℕ → ℕ} {map : ℕ} → Marked n f map → n < 16 → f n ≡ 0 → Marked (n + 1) f map
marked_none {n} {f} {map} s l e = record { within = omega arith; is-map = rw (add-one, marks-next, e, stands-none) (omega (arith, s.is-map)) }

pub marked_all : {n : ℕ} {f : ℕ → ℕ} {map : ℕ} → Marked n f map → 16 ≤ n → map ≡ marks 16 f
marked_all {n} {f} s l = s.is-map ∙ ap (λ (k : ℕ). marks k f) (omega (arith, s.within))

-- a mark, from a test
pub mark-test : (x : ℕ) → bool_byte (not (eqb x 0)) ≡ stands x
unfolding stands
mark-test zero = refl
mark-test (suc x) = ap (λ b. bool_byte (not b)) (ne_eqb (suc x) 0 (λ e. omega arith))

-- the map of a message, bit by bit
pub map-sum : (desk round register rows note : ℕ)
    → field_map desk round register rows note ≡ 3 + 4 * stands desk + 8 * stands round + 16 * stands register + 32 * stands rows + 64 * stands note
unfolding field_map marks sum stands
map-sum desk round register rows note = omega arith
