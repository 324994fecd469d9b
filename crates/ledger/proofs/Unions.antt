-- Laws of the join. A cell of the union is that of the later row, and a row is taken whole; so joining is idempotent and associative, and where
-- the rows agree it commutes. What is joined has at least the transfers of each part.
use Prim.Native.Nat.{ℕ, ◌/◌, ◌≤◌, ◌<◌, max}
use native.Mathlib.Nat.{le_refl, max_comm, le-max_left, le-max_right}
use native.Mathlib.Omega.{arith}
use mathlib.Core.Path.{◌≡◌, refl, sym, ap, ap₂, ◌∙◌}
use mathlib.Core.Logic.{⊎_elim}
use mathlib.Core.Bool.{true, false}
use mathlib.Core.List.{List}
use borrow.Author.Tests.{lt-ltb, le-ltb, eq-eqb, eqb-true, leb-true, not-false}
use lib.ListN.{get_or, length}
use Rattle.quorums.proofs.Tests.{le-or-lt, eqb_comm}
use Rattle.quorums.proofs.Sums.{all-each, each_all, all_same}
use Rattle.ledger.specs.declared.ledger.Ledger.{Ledger}
use Rattle.ledger.specs.Ledgers.{count_of, Typed, accepted}
use Rattle.ledger.specs.Joins.{agree, later, agree_at, later_at, larger_at, joins, joined, join_answer, has_at, lacks}
use Rattle.quorums.proofs.Tables.{table-length, table_at, table_same, is-table}

-- ---- what stands in a union

pub joined-count : (a b : Ledger) (i : ℕ) → i < 16 → count_of (joined a b) i ≡ max (count_of a i) (count_of b i)
unfolding joined
joined-count a b i h = table_at 16 (larger_at a b) i h

pub joined-cell : (a b : Ledger) (k : ℕ) → k < 256 → get_or (joined a b).cells k 0 ≡ later_at a b k
unfolding joined
joined-cell a b k h = table_at 256 (later_at a b) k h

pub joined-lengths : (a b : Ledger) → (length (joined a b).counts ≡ 16) × (length (joined a b).cells ≡ 256)
unfolding joined
joined-lengths a b = (table-length 16 (larger_at a b), table-length 256 (later_at a b))

-- two ledgers with the same counts and cells are one
pub same-ledger : (a b : Ledger) → a.counts ≡ b.counts → a.cells ≡ b.cells → a ≡ b
same-ledger a b p q = ap₂ made p q
  where
    made : List ℕ → List ℕ → Ledger
    made x y = record { counts = x; cells = y }

-- a joined ledger has at least each part's counts
pub joined-left : (a b : Ledger) (i : ℕ) → i < 16 → count_of a i ≤ count_of (joined a b) i
joined-left a b i h = rw (joined-count a b i h) (le-max_left (count_of a i) (count_of b i))

pub joined-right : (a b : Ledger) (i : ℕ) → i < 16 → count_of b i ≤ count_of (joined a b) i
joined-right a b i h = rw (joined-count a b i h) (le-max_right (count_of a i) (count_of b i))

-- ---- one cell

pub later_first : (m n x y : ℕ) → n ≤ m → later m n x y ≡ x
unfolding later
later_first m n x y h = rw (le-ltb m n h)

pub later_second : (m n x y : ℕ) → m < n → later m n x y ≡ y
unfolding later
later_second m n x y h = rw (lt-ltb m n h)

-- a later cell is one of the two
pub later-either : (P : ℕ → Type 0) (m n x y : ℕ) → P x → P y → P (later m n x y)
later-either P m n x y p q =
    ⊎_elim (λ (h : n ≤ m). rw (later_first m n x y h) p) (λ (h : m < n). rw (later_second m n x y h) q) (le-or-lt n m)

agree-self : (m x : ℕ) → agree m m x x ≡ true
unfolding agree
agree-self m x = rw (le-ltb m m (omega arith)) (eq-eqb x x refl)

agree-comm : (m n x y : ℕ) → agree m n x y ≡ agree n m y x
unfolding agree
agree-comm m n x y =
    ⊎_elim
    (λ (h : m ≤ n).
    ⊎_elim (λ (k : n ≤ m). rw (le-ltb m n k, le-ltb n m h) (eqb_comm x y)) (λ (k : m < n). rw (lt-ltb m n k, le-ltb n m h)) (le-or-lt n m))
    (λ (h : n < m). let k : n ≤ m = omega arith in rw (le-ltb m n k, lt-ltb n m h))
    (le-or-lt m n)

later-comm : (m n x y : ℕ) → agree m n x y ≡ true → later m n x y ≡ later n m y x
unfolding agree
later-comm m n x y e =
    ⊎_elim
    (λ (h : m ≤ n).
    ⊎_elim
    (λ (k : n ≤ m). later_first m n x y k ∙ eqb-true x y (rw (le-ltb m n k, le-ltb n m h) at e) ∙ sym (later_first n m y x h))
    (λ (k : m < n). later_second m n x y k ∙ sym (later_first n m y x h))
    (le-or-lt n m))
    (λ (h : n < m). later_first m n x y (omega arith) ∙ sym (later_second n m y x h))
    (le-or-lt m n)

-- a cell of the union is no smaller
pub later-grows : (m n x y : ℕ) → agree m n x y ≡ true → x ≤ later m n x y
unfolding agree
later-grows m n x y e =
    ⊎_elim (λ (h : n ≤ m). rw (later_first m n x y h) (le_refl x))
    (λ (h : m < n). rw (later_second m n x y h) (leb-true x y (rw (lt-ltb m n h) at e)))
    (le-or-lt n m)

later-assoc : (m n p x y z : ℕ) → later (max m n) p (later m n x y) z ≡ later m (max n p) x (later n p y z)
later-assoc m n p x y z =
    ⊎_elim
    (λ (h : n ≤ m).
    ⊎_elim (λ (k : p ≤ m). later_first (max m n) p (later m n x y) z (omega arith) ∙ later_first m n x y h ∙ sym (later_first m (max n p) x (later n p y z) (omega arith)))
    (λ (k : m < p). later_second (max m n) p (later m n x y) z (omega arith) ∙ sym (later_second m (max n p) x (later n p y z) (omega arith) ∙ later_second n p y z (omega arith)))
    (le-or-lt p m))
    (λ (h : m < n).
    ⊎_elim (λ (k : p ≤ n). later_first (max m n) p (later m n x y) z (omega arith) ∙ later_second m n x y h ∙ sym (later_second m (max n p) x (later n p y z) (omega arith) ∙ later_first n p y z k))
    (λ (k : n < p). later_second (max m n) p (later m n x y) z (omega arith) ∙ sym (later_second m (max n p) x (later n p y z) (omega arith) ∙ later_second n p y z k))
    (le-or-lt p n))
    (le-or-lt n m)

max_assoc : (m n p : ℕ) → max (max m n) p ≡ max m (max n p)
max_assoc m n p = omega arith

-- ---- the laws

-- a ledger joined with itself is itself
pub joins-self : (a : Ledger) → joins a a ≡ true
unfolding joins
joins-self a = each_all 256 (agree_at a a) (λ k h. agree-self (count_of a (k / 16)) (get_or a.cells k 0))

pub joined-self : (a : Ledger) → Typed a → joined a a ≡ a
unfolding joined
joined-self a t =
    same-ledger (joined a a) a
    (sym (is-table 16 (larger_at a a) a.counts t.counts-length (λ i h. omega arith)))
    (sym (is-table 256 (later_at a a) a.cells t.cells-length (λ k h. sym (later_first _ _ _ _ (omega arith)))))

-- where b has nothing more, a is the union
pub joined-has : (a b : Ledger) → length a.counts ≡ 16 → length a.cells ≡ 256 → lacks a b ≡ false → joined a b ≡ a
unfolding joined lacks
joined-has a b counted celled e =
    let has = all-each 16 (has_at a b) (not-false _ e) in
    same-ledger _ _
    (sym (is-table 16 (larger_at a b) a.counts counted (λ i l. omega (arith, leb-true (count_of b i) (count_of a i) (has i l)))))
    (sym (is-table 256 (later_at a b) a.cells celled (λ k l. sym (later_first _ _ _ _ (leb-true (count_of b (k / 16)) (count_of a (k / 16)) (has (k / 16) (omega arith)))))))

-- joining commutes
pub joins-comm : (a b : Ledger) → joins a b ≡ joins b a
unfolding joins
joins-comm a b = all_same 256 (agree_at a b) (agree_at b a) (λ k h. agree-comm _ _ _ _)

pub joined-comm : (a b : Ledger) → joins a b ≡ true → joined a b ≡ joined b a
unfolding joins joined
joined-comm a b e =
    same-ledger (joined a b) (joined b a)
    (table_same 16 (larger_at a b) (larger_at b a) (λ i h. max_comm (count_of a i) (count_of b i)))
    (table_same 256 (later_at a b) (later_at b a) (λ k h. later-comm _ _ _ _ (all-each 256 (agree_at a b) e k h)))

-- and associates
larger-assoc : (a b c : Ledger) (i : ℕ) → i < 16 → larger_at (joined a b) c i ≡ larger_at a (joined b c) i
larger-assoc a b c i h = rw (joined-count a b i h, joined-count b c i h) (max_assoc (count_of a i) (count_of b i) (count_of c i))

later-assoc-at : (a b c : Ledger) (k : ℕ) → k < 256 → later_at (joined a b) c k ≡ later_at a (joined b c) k
later-assoc-at a b c k h =
    let row : k / 16 < 16 = omega arith in
    rw (joined-count a b (k / 16) row, joined-count b c (k / 16) row, joined-cell a b k h, joined-cell b c k h)
    (later-assoc (count_of a (k / 16)) (count_of b (k / 16)) (count_of c (k / 16)) (get_or a.cells k 0) (get_or b.cells k 0) (get_or c.cells k 0))

pub joined-assoc : (a b c : Ledger) → joined (joined a b) c ≡ joined a (joined b c)
unfolding joined
joined-assoc a b c =
    same-ledger (joined (joined a b) c) (joined a (joined b c))
    (table_same 16 (larger_at (joined a b) c) (larger_at a (joined b c)) (larger-assoc a b c))
    (table_same 256 (later_at (joined a b) c) (later_at a (joined b c)) (later-assoc-at a b c))

-- ---- the same of the call's answers

pub join-self : (a : Ledger) → Typed a → join_answer a a ≡ accepted a
unfolding join_answer
join-self a t = rw (joins-self a, joined-self a t)

pub join-comm : (a b : Ledger) → joins a b ≡ true → join_answer a b ≡ join_answer b a
unfolding join_answer
join-comm a b e = rw (sym (joins-comm a b) ∙ e, e) (ap accepted (joined-comm a b e))

-- whichever two of three ledgers are joined first
pub join-assoc : (a b c : Ledger) → joins (joined a b) c ≡ true → joins a (joined b c) ≡ true → join_answer (joined a b) c ≡ join_answer a (joined b c)
unfolding join_answer
join-assoc a b c p q = rw (p, q) (ap accepted (joined-assoc a b c))
