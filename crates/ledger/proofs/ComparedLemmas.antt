-- What the comparisons decide: equality of the ledgers, and counts that are no smaller.
use Prim.Native.Nat.{ℕ, ◌/◌, ◌≤◌, ◌<◌}
use mathlib.Core.Path.{◌≡◌, sym, ap, ◌∙◌}
use mathlib.Core.Logic.{◌↔◌}
use mathlib.Core.Bool.{true, false, not, false≢true}
use borrow.Author.Tests.{eqb-true, eq-eqb, leb-true, le-leb, le-ltb, not-false}
use lib.Dec.{eqb}
use lib.ListN.{get_or}
use lib.Seq.{ext_get_or}
use native.Mathlib.Omega.{arith}
use Rattle.quorums.proofs.Tests.{both, test-false}
use Rattle.quorums.proofs.Sums.{all-each, each_all, all_same}
use Rattle.quorums.specs.Sum.{all}
use Rattle.ledger.specs.declared.ledger.Ledger.{Ledger}
use Rattle.ledger.specs.Ledgers.{count_of, Typed}
use Rattle.ledger.specs.Joins.{agree, agree_at, joins, same_count_at, same_cell_at, equal, has_at, lacks}
use Rattle.ledger.proofs.Unions.{same-ledger}

-- `equal` holds exactly of one ledger
pub equal-same : (a b : Ledger) → Typed a → Typed b → (equal a b ≡ true) ↔ (a ≡ b)
unfolding equal
equal-same a b s t = (to, from)
  where
    to : equal a b ≡ true → a ≡ b
    to e =
        let x = both (all 16 (same_count_at a b)) _ e in
        same-ledger a b
        (ext_get_or 0 _ _ (s.counts-length ∙ sym t.counts-length) (λ i h. eqb-true _ _ (all-each 16 (same_count_at a b) x.0 i (omega (arith, s.counts-length)))))
        (ext_get_or 0 _ _ (s.cells-length ∙ sym t.cells-length) (λ k h. eqb-true _ _ (all-each 256 (same_cell_at a b) x.1 k (omega (arith, s.cells-length)))))

    from : a ≡ b → equal a b ≡ true
    from e =
        rw (each_all 16 (same_count_at a b) (λ i h. eq-eqb _ _ (ap (λ l. count_of l i) e)))
        (each_all 256 (same_cell_at a b) (λ k h. eq-eqb _ _ (ap (λ l. get_or l.cells k 0) e)))

-- a ledger that lacks nothing of another has counts no smaller
pub lacks-nothing : (a b : Ledger) → (lacks a b ≡ false) ↔ ((i : ℕ) → i < 16 → count_of b i ≤ count_of a i)
unfolding lacks
lacks-nothing a b = (
  λ e i h. leb-true _ _ (all-each 16 (has_at a b) (not-false _ e) i h),
  λ h. ap not (each_all 16 (has_at a b) (λ i k. le-leb _ _ (h i k))),
)

-- Two ledgers are the same where neither lacks a transfer of the other and their rows agree: at equal counts, cells that agree are equal.

agree-even : (m n x y : ℕ) → m ≡ n → agree m n x y ≡ eqb x y
unfolding agree
agree-even m n x y e = simp (le-ltb m n (omega arith), le-ltb n m (omega arith))

pub joins-equal : (a b : Ledger) → lacks a b ≡ false → lacks b a ≡ false → joins a b ≡ equal a b
unfolding joins equal
joins-equal a b p q =
    rw (each_all 16 (same_count_at a b) (λ i h. eq-eqb _ _ (counts i h)))
    (all_same 256 (agree_at a b) (same_cell_at a b) (λ k h. agree-even _ _ _ _ (counts (k / 16) (omega arith))))
  where
    counts : (i : ℕ) → i < 16 → count_of a i ≡ count_of b i
    counts i h = omega (arith, (lacks-nothing a b).0 p i h, (lacks-nothing b a).0 q i h)

-- and they are not where one does

equal-counts : (a b : Ledger) → equal a b ≡ true → (i : ℕ) → i < 16 → count_of a i ≡ count_of b i
unfolding equal
equal-counts a b e i h = eqb-true _ _ (all-each 16 (same_count_at a b) (both (all 16 (same_count_at a b)) _ e).0 i h)

pub lacks-equal : (a b : Ledger) → lacks a b ≡ true → equal a b ≡ false
lacks-equal a b l =
    test-false (equal a b)
    (λ e. false≢true (sym ((lacks-nothing a b).1 (λ i h. omega (arith, equal-counts a b e i h))) ∙ l))

pub lacked-equal : (a b : Ledger) → lacks b a ≡ true → equal a b ≡ false
lacked-equal a b l =
    test-false (equal a b)
    (λ e. false≢true (sym ((lacks-nothing b a).1 (λ i h. omega (arith, equal-counts a b e i h))) ∙ l))
