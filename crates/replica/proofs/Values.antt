-- Laws of values: a value and its bytes tell each other, also with zeros after the bytes, and `same` compares the bytes.
use Prim.Native.Nat.{ℕ, min, ◌+◌, ◌-◌, ◌≤◌, ◌<◌}
use native.Mathlib.Omega.{arith}
use mathlib.Core.Path.{◌≡◌, refl, sym, ap, ◌∙◌}
use mathlib.Core.Logic.{◌↔◌, ⊎_elim}
use mathlib.Core.Bool.{true}
use mathlib.Core.List.{List, [], ◌++◌}
use lib.Dec.{eqb, leb}
use lib.ListN.{length, get_or, take, drop, replicate, get_or-eq_default}
use lib.Pointwise.{pointwise, bytes_decides}
use Rattle.std.proofs.lemmas.List.{length-append, length-take, length-drop, length-replicate, get_or_append_left, get_or-append_right, get_or-drop, get_or-replicate}
use lib.Seq.{get_or-take, ext_get_or, length-take-le}
use borrow.Author.Tests.{eq-eqb, eqb-true, lt-ltb, le-ltb, leb-true, le-leb, lt-leb}
use Rattle.quorums.specs.Sum.{all}
use Rattle.quorums.proofs.Tests.{le-or-lt, both, one-test}
use Rattle.quorums.proofs.Sums.{all-each, each_all}
use Rattle.quorums.specs.Tables.{run, table}
use Rattle.ledger.proofs.Fresh.{zeros}
use Rattle.quorums.proofs.Tables.{table_at, table-length, table_same, is-table}
use Rattle.replica.specs.declared.value.Value.{Value}
use Rattle.replica.specs.Values.{most_value, value_fits, bytes_of, value_of, empty_value, trimmed, same_byte, same_at, same, Typed}

-- ---- lists

-- what is below a bound within a list is below it past the end too, where there is 0
all-below : (b : ℕ) (l : List ℕ) → 0 < b → ((k : ℕ) → k < length l → get_or l k 0 < b) → (k : ℕ) → get_or l k 0 < b
all-below b l p h k =
    ⊎_elim (λ (d : length l ≤ k). rw (get_or-eq_default l 0 d) p) (λ (d : k < length l). h k d) (le-or-lt (length l) k)

-- ---- the bytes of a value

pub bytes-length : (v : Value) → length (bytes_of v) ≡ v.length
unfolding bytes_of
bytes-length v = table-length v.length (λ k. get_or v.bytes k 0)

pub byte_of : (v : Value) (k : ℕ) → k < v.length → get_or (bytes_of v) k 0 ≡ get_or v.bytes k 0
unfolding bytes_of
byte_of v k h = table_at v.length (λ m. get_or v.bytes m 0) k h

-- past the last there is 0
byte_past : (v : Value) (k : ℕ) → v.length ≤ k → get_or (bytes_of v) k 0 ≡ 0
byte_past v k h = get_or-eq_default (bytes_of v) 0 (omega (arith, bytes-length v))

-- for the functions that lend the first bytes
pub lent-bytes : (v : Value) → Typed v → v.length ≤ 64 → take v.length v.bytes ≡ bytes_of v
unfolding bytes_of
lent-bytes v t h =
    is-table v.length _ (take v.length v.bytes) (length-take-le v.length v.bytes (omega (arith, t.bytes-length)))
    (λ k b. get_or-take v.length v.bytes k 0 b)

-- ---- the test

pub fits-short : (v : Value) → value_fits v ≡ true → v.length ≤ 64
unfolding value_fits
fits-short v e = leb-true _ _ e

pub short-fits : (v : Value) → v.length ≤ 64 → value_fits v ≡ true
unfolding value_fits
short-fits v h = le-leb _ _ h

-- ---- the value with the bytes of a list

pub value-length : (l : List ℕ) → length l ≤ 64 → (value_of l).length ≡ length l
unfolding value_of
value-length l h = omega arith

-- it fits exactly where the list has at most 64 bytes
pub value-fits : (l : List ℕ) → value_fits (value_of l) ≡ leb (length l) most_value
unfolding value_fits value_of
value-fits l =
    ⊎_elim (λ (h : length l ≤ 64). rw (le-leb (length l) 64 h) (le-leb (min (length l) 65) 64 (omega arith)))
    (λ (h : 64 < length l). rw (lt-leb (length l) 64 h) (lt-leb (min (length l) 65) 64 (omega arith)))
    (le-or-lt (length l) 64)

-- its bytes are the list's
pub bytes-of-value : (l : List ℕ) → length l ≤ 64 → bytes_of (value_of l) ≡ l
unfolding value_of
bytes-of-value l h =
    let v = value_of l in
    let size : length (bytes_of v) ≡ length l = bytes-length v ∙ value-length l h in
    ext_get_or 0 (bytes_of v) l size (λ i b. byte_of v i (omega (arith, bytes-length v)) ∙ table_at 64 (λ k. get_or l k 0) i (omega (arith, size)))

pub value-of-none : value_of [] ≡ empty_value
unfolding value_of table run
value-of-none = refl

pub value-typed : (l : List ℕ) → ((k : ℕ) → get_or l k 0 < 256) → Typed (value_of l)
unfolding value_of
value-typed l h =
    let cells = table 64 (λ k. get_or l k 0) in
    let size = table-length 64 (λ k. get_or l k 0) in
    let below = all-below 256 cells (omega arith) (λ k b. omega (arith, table_at 64 (λ m. get_or l m 0) k (omega arith), h k)) in
    record {
      bytes-length = size;
      length-fits = omega arith;
      byte_fits = λ k. omega (arith, below k);
    }

pub empty-typed : Typed empty_value
empty-typed = record { bytes-length = refl; length-fits = omega arith; byte_fits = λ k. omega (arith, zeros 64 k) }

pub empty-fits : value_fits empty_value ≡ true
unfolding value_fits
empty-fits = refl

-- ---- zeros after the bytes

-- a value that fits is, but for what lies past its bytes, made of them
pub trimmed-is : (v : Value) → v.length ≤ 64 → trimmed v ≡ value_of (bytes_of v)
unfolding trimmed value_of
trimmed-is v h =
    let e : v.length ≡ min (length (bytes_of v)) 65 = omega (arith, bytes-length v) in
    ap (λ n. record { length = n; bytes = table 64 (λ k. get_or (bytes_of v) k 0) }) e

pub trimmed-bytes : (v : Value) → v.length ≤ 64 → bytes_of (trimmed v) ≡ bytes_of v
trimmed-bytes v h = ap bytes_of (trimmed-is v h) ∙ bytes-of-value (bytes_of v) (omega (arith, bytes-length v))

-- what is made from bytes has zeros after them already
pub trimmed-value : (l : List ℕ) → length l ≤ 64 → trimmed (value_of l) ≡ value_of l
trimmed-value l h = trimmed-is (value_of l) (omega (arith, value-length l h)) ∙ ap value_of (bytes-of-value l h)

-- the first bytes, taken from an array of 64, are those of the value, and zeros come after both
pub trimmed-lent : (v : Value) → table 64 (λ k. get_or (take (min v.length 64) v.bytes) k 0) ≡ (trimmed v).bytes
unfolding trimmed
trimmed-lent v =
    table_same 64 _ _
    (λ k l.
    ⊎_elim
    (λ (h : v.length ≤ k).
    get_or-eq_default (take (min v.length 64) v.bytes) 0 (omega (arith, length-take (min v.length 64) v.bytes)) ∙ sym (byte_past v k h))
    (λ (h : k < v.length). get_or-take (min v.length 64) v.bytes k 0 (omega arith) ∙ sym (byte_of v k h))
    (le-or-lt v.length k))

-- ---- values with the same bytes

-- at a byte of both, and past them

same-within : (k n x y : ℕ) → k < n → (same_byte k n x y ≡ true) ↔ (x ≡ y)
unfolding same_byte
same-within k n x y h = rw (lt-ltb k n h) (eqb-true x y, eq-eqb x y)

same-past : (k n x y : ℕ) → n ≤ k → same_byte k n x y ≡ true
unfolding same_byte
same-past k n x y h = rw (le-ltb k n h)

-- where all bytes of the first are the same, there are no others to compare
pub same_rest : (a b : Value) (k : ℕ) → min a.length 64 ≤ k → all k (same_at a b) ≡ true → all 64 (same_at a b) ≡ true
same_rest a b k h e =
    each_all 64 (same_at a b) (λ m l.
    ⊎_elim (λ (p : k ≤ m). same-past m a.length _ _ (omega arith)) (λ (p : m < k). all-each k (same_at a b) e m p) (le-or-lt k m))

-- the bytes of two values of one length, taken from their arrays, are equal exactly where the values are the same at each byte
pub same_slices : (a b : Value) → length a.bytes ≡ 64 → length b.bytes ≡ 64 → a.length ≡ b.length
    → pointwise eqb (take (min a.length 64) a.bytes) (take (min b.length 64) b.bytes) ≡ all 64 (same_at a b)
same_slices a b ta tb e = one-test _ _ told shown
  where
    xs : List ℕ
    xs = take (min a.length 64) a.bytes

    ys : List ℕ
    ys = take (min b.length 64) b.bytes

    told : pointwise eqb xs ys ≡ true → all 64 (same_at a b) ≡ true
    told h =
        each_all 64 (same_at a b) (λ k l.
        ⊎_elim (λ (p : a.length ≤ k). same-past k a.length _ _ p)
        (λ (p : k < a.length).
        (same-within k a.length _ _ p).1
        (sym (get_or-take (min a.length 64) a.bytes k 0 (omega arith))
        ∙ ap (λ z. get_or z k 0) ((bytes_decides xs ys).0 h)
        ∙ get_or-take (min b.length 64) b.bytes k 0 (omega arith)))
        (le-or-lt a.length k))

    shown : all 64 (same_at a b) ≡ true → pointwise eqb xs ys ≡ true
    shown h =
        (bytes_decides xs ys).1
        (ext_get_or 0 xs ys (omega (arith, length-take (min a.length 64) a.bytes, length-take (min b.length 64) b.bytes, ta, tb, e))
        (λ k l.
        let m : k < min a.length 64 = omega (arith, length-take (min a.length 64) a.bytes) in
        get_or-take (min a.length 64) a.bytes k 0 m
        ∙ (same-within k a.length _ _ (omega arith)).0 (all-each 64 (same_at a b) h k (omega arith))
        ∙ sym (get_or-take (min b.length 64) b.bytes k 0 (omega arith))))

same-told : (a b : Value) → a.length ≤ 64 → same a b ≡ true → bytes_of a ≡ bytes_of b
unfolding same
same-told a b m e =
    let parts = both (eqb a.length b.length) (all 64 (same_at a b)) e in
    let one = eqb-true a.length b.length parts.0 in
    let size = bytes-length a in
    ext_get_or 0 (bytes_of a) (bytes_of b) (size ∙ one ∙ sym (bytes-length b))
    (λ k h.
    let l : k < a.length = omega arith in
    byte_of a k l ∙ (same-within k a.length _ _ l).0 (all-each 64 (same_at a b) parts.1 k (omega arith)) ∙ sym (byte_of b k (omega arith)))

same-shown : (a b : Value) → bytes_of a ≡ bytes_of b → same a b ≡ true
unfolding same
same-shown a b e =
    let one : a.length ≡ b.length = sym (bytes-length a) ∙ ap length e ∙ bytes-length b in
    rw (eq-eqb a.length b.length one)
    (each_all 64 (same_at a b) (λ k h.
    ⊎_elim (λ (p : a.length ≤ k). same-past k a.length _ _ p)
    (λ (p : k < a.length). (same-within k a.length _ _ p).1 (sym (byte_of a k p) ∙ ap (λ l. get_or l k 0) e ∙ byte_of b k (omega arith)))
    (le-or-lt a.length k)))

pub same_bytes : (a b : Value) → a.length ≤ 64 → (same a b ≡ true) ↔ (bytes_of a ≡ bytes_of b)
same_bytes a b m = (same-told a b m, same-shown a b)

-- ---- a value that is made of a slice

-- the first bytes of a list in the place of as many zeros
pub copied : (part : List ℕ) (end : ℕ) → end ≡ min (length part) 64 → take end part ++ drop end (replicate 64 0) ≡ table 64 (λ k. get_or part k 0)
copied part end e =
    is-table 64 _ _ (simp length-append (omega (arith, length-take end part, length-drop {A = ℕ} end (replicate 64 0), length-replicate {A = ℕ} 64 0)))
    (λ k l.
    ⊎_elim
    (λ (p : end ≤ k).
    get_or-append_right (take end part) (drop end (replicate 64 0)) end k 0 (omega (arith, length-take end part)) p
    ∙ get_or-drop end (replicate 64 0) (k - end) 0
    ∙ get_or-replicate 64 (end + (k - end)) 0 0 (omega arith)
    ∙ sym (get_or-eq_default part 0 (omega arith)))
    (λ (p : k < end).
    get_or_append_left (take end part) (drop end (replicate 64 0)) 0 k (omega (arith, length-take end part)) ∙ get_or-take end part k 0 p)
    (le-or-lt end k))
