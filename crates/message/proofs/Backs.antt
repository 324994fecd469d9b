-- A step of the reader that finds no fault has passed over the bytes of what it found.
use Prim.Native.Nat.{ℕ, zero, suc, ◌+◌, ◌*◌, ◌/◌, ◌%◌, ◌<◌, ◌≤◌}
use native.Mathlib.Omega.{arith}
use mathlib.Core.Path.{◌≡◌, refl, sym, ap, ap₂, ◌∙◌}
use mathlib.Core.Bool.{Bool, true, false, cond}
use mathlib.Core.List.{List, [], ◌∷◌, ◌++◌, append-nil}
use borrow.Author.Tests.{eqb-true, leb-true}
use lib.Dec.{eqb, leb, eqb-suc-zero}
use lib.ListN.{length, get_or, take, drop, length-append, length-drop}
use lib.Seq.{take-suc, take-add, get_or-drop, length-take-le}
use Rattle.quorums.proofs.Tests.{both}
use Rattle.format.specs.Bytes.{bytes, number, stands}
use Rattle.format.proofs.Marks.{stands-none, stands-bit, stands-pos}
use Rattle.format.proofs.Lengths.{bytes-length, number_same}
use Rattle.message.specs.Cursors.{Cursor}
use Rattle.message.specs.Envelopes.{Bytes}
use Rattle.message.specs.Cursors.{stay, number_at, within, read_bytes, read_number, skip, require}
use Rattle.message.proofs.Sticky.{read_number-open, require-open}
use Rattle.message.proofs.Moves.{require-passes, require-refuses}

-- The cursor met no fault, and the bytes before it are pre.
pub record Passed (msg : List ℕ) (c : Cursor) (pre : List ℕ) : Type 0 where
  pub none : c.number ≡ 0
  pub place : c.at ≡ length pre
  pub there : c.at ≤ length msg
  pub taken : take c.at msg ≡ pre

pub moved : {msg pre post : List ℕ} {c : Cursor} → pre ≡ post → Passed msg c pre → Passed msg c post
moved e p = record { none = p.none; place = p.place ∙ ap length e; there = p.there; taken = p.taken ∙ e }

pub at : {msg pre : List ℕ} {c d : Cursor} → d ≡ c → Passed msg c pre → Passed msg d pre
at {msg} e p =
    record {
      none = ap (λ (x : Cursor). x.number) e ∙ p.none;
      place = ap (λ (x : Cursor). x.at) e ∙ p.place;
      there = rw (ap (λ (x : Cursor). x.at) e) p.there;
      taken = ap (λ (x : Cursor). take x.at msg) e ∙ p.taken;
    }

-- ---- the bytes of the number that w bytes hold are those bytes

bytes_back : (msg : List ℕ) → Bytes msg → (at w : ℕ) → at + w ≤ length msg → bytes w (number_at msg at w) ≡ take w (drop at msg)
unfolding bytes number_at
bytes_back msg b at zero l = refl
bytes_back msg b at (suc w) l =
    let high : (number_at msg at w * 256 + get_or msg (at + w) 0) / 256 ≡ number_at msg at w = omega (arith, b.byte (at + w)) in
    let low : (number_at msg at w * 256 + get_or msg (at + w) 0) % 256 ≡ get_or msg (at + w) 0 = omega (arith, b.byte (at + w)) in
    ap₂ (λ x y. bytes w x ++ (y ∷ [])) high low
    ∙ ap₂ (λ x y. x ++ (y ∷ [])) (bytes_back msg b at w (omega arith)) (sym (get_or-drop at msg w 0))
    ∙ sym (take-suc (drop at msg) w 0 (omega (arith, length-drop at msg)))

-- ---- numbers

-- What a cursor that read a number has found, where s says whether the number stands.
pub record Got (msg : List ℕ) (s w low high : ℕ) (c : Cursor) (pre : List ℕ) : Type 0 where
  pub passed : Passed msg c (pre ++ number s w c.x)
  pub absent : s ≡ 0 → c.x ≡ 0
  pub low-holds : 0 < s → low ≤ c.x
  pub high-holds : c.x ≤ high

-- a choice without a fault is not the faulty one
unfaulted : (b : Bool) (x y : Cursor) (k : ℕ) → y.number ≡ suc k → (cond b x y).number ≡ 0 → (b ≡ true) × (x.number ≡ 0)
unfaulted true x y k f e = (refl, e)
unfaulted false x y k f e = absurd (omega (arith, f, e))

-- a number that doesn't stand leaves the cursor where it is, whatever its number
pub number-absent : (msg : List ℕ) (w low high : ℕ) (c : Cursor) → read_number msg 0 w low high c ≡ stay c.number c
unfolding read_number
number-absent msg w low high c = by-test (eqb c.number 0) refl
  where
    by-test : (b : Bool) → eqb c.number 0 ≡ b → cond b (stay 0 c) (stay c.number c) ≡ stay c.number c
    by-test true e = ap (λ (k : ℕ). stay k c) (sym (eqb-true _ _ e))
    by-test false e = refl

standing-is : (msg : List ℕ) (s w low high : ℕ) (c : Cursor) → c.number ≡ 0 → read_number msg (suc s) w low high c ≡ read_bytes msg w low high c
unfolding read_number
standing-is msg s w low high c e = simp (e, eqb-suc-zero s)

-- The w bytes from c on were read as d without a fault: they are there, and hold a number of the range.
record BytesRead (msg : List ℕ) (w low high : ℕ) (c d : Cursor) : Type 0 where
  pub fits : c.at + w ≤ length msg
  pub low-holds : low ≤ number_at msg c.at w
  pub high-holds : number_at msg c.at w ≤ high
  pub is : d ≡ record { number = 0; at = c.at + w; x = number_at msg c.at w }

bytes_read : (msg : List ℕ) (w low high : ℕ) (c : Cursor) → (read_bytes msg w low high c).number ≡ 0
    → BytesRead msg w low high c (read_bytes msg w low high c)
unfolding read_bytes within
bytes_read msg w low high c e =
    let room = unfaulted (leb (c.at + w) (length msg)) _ (stay 2 c) 1 refl e in
    let range = unfaulted (cond (leb low (number_at msg c.at w)) (leb (number_at msg c.at w) high) false) _ (stay 4 c) 3 refl room.1 in
    let tests = both (leb low (number_at msg c.at w)) _ range.0 in
    record { fits = leb-true _ _ room.0; low-holds = leb-true _ _ tests.0; high-holds = leb-true _ _ tests.1; is = rw (room.0, range.0) refl }

-- so it is with a number that stands
number_read : (msg : List ℕ) (s w low high : ℕ) (c : Cursor) → 0 < s → (read_number msg s w low high c).number ≡ 0
    → BytesRead msg w low high c (read_number msg s w low high c)
number_read msg zero w low high c p e = absurd (omega arith)
number_read msg (suc s) w low high c p e =
    let same = standing-is msg s w low high c (read_number-open msg (suc s) w low high c e) in
    rw same (bytes_read msg w low high c (sym (ap (λ (d : Cursor). d.number) same) ∙ e))

-- it is then at least its least
pub number-least : (msg : List ℕ) (s w low high : ℕ) (c : Cursor) → 0 < s → (read_number msg s w low high c).number ≡ 0 → low ≤ (read_number msg s w low high c).x
number-least msg s w low high c p e =
    let read = number_read msg s w low high c p e in
    omega (arith, ap (λ (d : Cursor). d.x) read.is, read.low-holds)

bytes-got : (msg : List ℕ) → Bytes msg → (s w low high : ℕ) (c : Cursor) (pre : List ℕ) → Passed msg c pre → (read_bytes msg w low high c).number ≡ 0
    → Got msg (suc s) w low high (read_bytes msg w low high c) pre
unfolding number
bytes-got msg b s w low high c pre h e =
    let read = bytes_read msg w low high c e in
    let fits = read.fits in
    let same : take (c.at + w) msg ≡ pre ++ bytes w (number_at msg c.at w) =
    take-add c.at w msg ∙ ap₂ ◌++◌ h.taken (sym (bytes_back msg b c.at w fits)) in
    rw read.is
    (record {
      passed = record { none = refl; place = omega (arith, h.place, length-append pre (bytes w (number_at msg c.at w)), bytes-length w (number_at msg c.at w)); there = fits; taken = same };
      absent = λ z. absurd (omega arith);
      low-holds = λ p. read.low-holds;
      high-holds = read.high-holds;
    })

pub number-got : (msg : List ℕ) → Bytes msg → (s w low high : ℕ) (c : Cursor) (pre : List ℕ) → Passed msg c pre
    → (read_number msg s w low high c).number ≡ 0
    → Got msg s w low high (read_number msg s w low high c) pre
unfolding number
number-got msg b zero w low high c pre h e =
    rw (number-absent msg w low high c)
    (record {
      passed = record { none = h.none; place = h.place ∙ ap length (sym (append-nil pre)); there = h.there; taken = h.taken ∙ sym (append-nil pre) };
      absent = λ z. refl;
      low-holds = λ p. absurd (omega arith);
      high-holds = omega arith;
    })
number-got msg b (suc s) w low high c pre h e =
    rw (standing-is msg s w low high c h.none) (bytes-got msg b s w low high c pre h (rw (standing-is msg s w low high c h.none) at e))

-- the number that a step hands on is within its range, or 0
pub number-most : (msg : List ℕ) (s w low high : ℕ) (c : Cursor) → (read_number msg s w low high c).x ≤ high
unfolding read_number read_bytes within
number-most msg s w low high c =
    by_tests (eqb c.number 0) (eqb s 0) (leb (c.at + w) (length msg)) (leb low (number_at msg c.at w)) (leb (number_at msg c.at w) high) refl
  where
    by_tests : (a b d e f : Bool) → leb (number_at msg c.at w) high ≡ f
        → (cond a
        (cond b (stay 0 c)
        (cond d (cond (cond e f false) (record { number = 0; at = c.at + w; x = number_at msg c.at w }) (stay 4 c)) (stay 2 c)))
        (stay c.number c)
        ).x ≤ high
    by_tests false b d e f t = omega arith
    by_tests true true d e f t = omega arith
    by_tests true false false e f t = omega arith
    by_tests true false true false f t = omega arith
    by_tests true false true true false t = omega arith
    by_tests true false true true true t = leb-true _ _ t

-- a number from 1 on stands where s says so
pub got-mark : (msg : List ℕ) (s w high : ℕ) (c : Cursor) (pre : List ℕ) → s ≤ 1 → Got msg s w 1 high c pre → stands c.x ≡ s
got-mark msg zero w high c pre l g = ap stands (g.absent refl) ∙ stands-none
got-mark msg (suc zero) w high c pre l g = stands-pos c.x (g.low-holds (omega arith))
got-mark msg (suc (suc s)) w high c pre l g = absurd (omega arith)

-- so that it is written by its own mark
pub own-mark : (s w x : ℕ) → s ≤ 1 → stands x ≡ s → number s w x ≡ number x w x
own-mark s w x l e = number_same s x w x (stands-bit s l ∙ sym e)

-- ---- values and tests

pub skip-got : (msg : List ℕ) (w : ℕ) (c : Cursor) (pre : List ℕ) → Passed msg c pre → (skip msg w c).number ≡ 0
    → (c.at + w ≤ length msg) × Passed msg (skip msg w c) (pre ++ take w (drop c.at msg))
unfolding skip
skip-got msg w c pre h e =
    let room = unfaulted (leb (c.at + w) (length msg)) (record { number = 0; at = c.at + w; x = 0 }) (stay 2 c) 1 refl (rw h.none at e) in
    let fits : c.at + w ≤ length msg = leb-true _ _ room.0 in
    let same : take (c.at + w) msg ≡ pre ++ take w (drop c.at msg) = take-add c.at w msg ∙ ap (λ l. l ++ take w (drop c.at msg)) h.taken in (
      fits,
      rw (h.none, room.0)
          (record {
            none = refl;
            place = omega (arith, h.place, length-append pre (take w (drop c.at msg)), length-take-le w (drop c.at msg) (omega (arith, length-drop c.at msg)));
            there = fits;
            taken = same;
          }),
    )

pub require-got : (ok : Bool) (k : ℕ) (c : Cursor) → (require ok (suc k) c).number ≡ 0 → (ok ≡ true) × (require ok (suc k) c ≡ c)
require-got true k c e = (refl, require-passes true (suc k) c refl)
require-got false k c e = absurd (omega (arith, e, (require-refuses false k c (require-open false (suc k) c e) refl).has))
