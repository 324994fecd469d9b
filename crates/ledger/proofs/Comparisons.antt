-- The comparison row by row is that of the whole ledgers, where both are within bounds: then a row from n on has no transfer, and a row with none has
-- only cells of 0, so rows that are passed over agree and neither ledger lacks anything in them.
use Rattle.std.specs.Prelude.{Ok, Err}
use Prim.Native.Nat.{ℕ, ◌+◌, ◌*◌, ◌/◌, ◌≤◌, ◌<◌, min}
use native.Mathlib.Omega.{arith}
use mathlib.Core.Path.{◌≡◌, refl, sym, ◌∙◌}
use mathlib.Core.Logic.{inl, ⊎_elim}
use mathlib.Core.Bool.{Bool, true, false, cond}
use borrow.Author.Tests.{le-ltb, le-leb, eq-eqb, eqb-true}
use lib.Dec.{eqb}
use lib.ListN.{length}
use Rattle.quorums.specs.Sum.{all}
use Rattle.quorums.proofs.Tests.{le-or-lt}
use Rattle.quorums.proofs.Sums.{sum-zero, sum-rest, all-each, each_all, all_same}
use Rattle.config.specs.declared.cluster.Config.{Config}
use Rattle.ledger.specs.declared.ledger.Ledger.{Ledger}
use Rattle.ledger.specs.Ledgers.{count_of, cell_of, given_of}
use Rattle.ledger.specs.Checks.{bounded}
use Rattle.config.specs.Refusals.{refusal}
use Rattle.ledger.specs.Joins.{agree, agree_at, row_agrees, row_agrees_at, has_at, lacks, joins, joined, rows_compared, compared_of}
use Rattle.quorums.proofs.Tests.{one-test}
use Rattle.ledger.proofs.Rows.{by_rows}
use Rattle.ledger.proofs.Totals.{cell-outside, count-empty}
use Rattle.ledger.proofs.Unions.{joined-comm, joined-has}

-- ---- rows with no transfer

module _ (c : Config) (l : Ledger) (b : bounded c l ≡ true) where
  -- a row from n on has none
  pub outside-blank : (i : ℕ) → c.n ≤ i → i < 16 → count_of l i ≡ 0
  unfolding given_of
  outside-blank i g h = (count-empty c l i b h).1 (sum-zero 16 (λ j. cell_of l i j) (λ j k. cell-outside c l i j b h k (inl g)))

  -- and a row with none has only cells of 0
  pub blank-cell : (i j : ℕ) → i < 16 → j < 16 → count_of l i ≡ 0 → cell_of l i j ≡ 0
  unfolding given_of
  blank-cell i j h k e =
      omega (
        arith,
        (count-empty c l i b h).0 e,
        sum-rest 16 (λ m. 0) (λ m. cell_of l i m) (λ m n. omega arith) j k,
        sum-zero 16 (λ m. 0) (λ m n. refl),
      )

-- ---- the rows that are compared

-- a test that passes from m on
all_rest : (m n : ℕ) (p : ℕ → Bool) → m ≤ n → ((i : ℕ) → m ≤ i → i < n → p i ≡ true) → all m p ≡ all n p
all_rest m n p h rest =
    one-test (all m p) (all n p)
    (λ e. each_all n p (λ i l. ⊎_elim (λ (g : m ≤ i). rest i g l) (λ (g : i < m). all-each m p e i g) (le-or-lt m i)))
    (λ e. each_all m p (λ i l. all-each n p e i (omega arith)))

agree_same : (m n x y : ℕ) → m ≡ n → x ≡ y → agree m n x y ≡ true
unfolding agree
agree_same m n x y e d = rw (le-ltb m n (omega arith), le-ltb n m (omega arith)) (eq-eqb x y d)

-- two tests in front of one that passes where they do
passed_over : (s t r : Bool) → (s ≡ true → t ≡ true → r ≡ true) → cond s (cond t true r) r ≡ r
passed_over true true r h = sym (h refl refl)
passed_over true false r h = refl
passed_over false t r h = refl

-- in the rows from n on b has nothing that a could lack
has-rows : (c : Config) (a b : Ledger) → bounded c b ≡ true → all (min c.n 16) (has_at a b) ≡ all 16 (has_at a b)
has-rows c a b q =
    all_rest (min c.n 16) 16 (has_at a b) (omega arith)
    (λ i g h. le-leb (count_of b i) (count_of a i) (omega (arith, outside-blank c b q i (omega arith) h)))

module _ (c : Config) (a b : Ledger) (p : bounded c a ≡ true) (q : bounded c b ≡ true) where
  row-whole : (i : ℕ) → i < 16 → row_agrees_at a b i ≡ all 16 (λ j. agree_at a b (i * 16 + j))
  unfolding row_agrees
  row-whole i h =
      passed_over (eqb (count_of a i) 0) (eqb (count_of b i) 0) _
      (λ s t.
      let x = eqb-true (count_of a i) 0 s in
      let y = eqb-true (count_of b i) 0 t in
      each_all 16 _ (λ j k. agree_same _ _ _ _ (x ∙ sym y) (blank-cell c a p i j h k x ∙ sym (blank-cell c b q i j h k y))))
      ∙ all_same 16 _ _ (λ j k. let e : (i * 16 + j) / 16 ≡ i = omega arith in rw e refl)

  rows_agree : all (min c.n 16) (row_agrees_at a b) ≡ joins a b
  unfolding joins row_agrees
  rows_agree =
      all_rest (min c.n 16) 16 (row_agrees_at a b) (omega arith)
      (λ i g h.
      let n : c.n ≤ i = omega arith in
      rw (eq-eqb _ _ (outside-blank c a p i n h), eq-eqb _ _ (outside-blank c b q i n h)) refl)
      ∙ all_same 16 _ _ row-whole
      ∙ sym (by_rows (agree_at a b))

  -- they join where their rows do, and then each lacks what it lacks in those rows
  pub compared-whole : compared_of c.n a b ≡ cond (joins a b) (Ok (record { lacks = lacks a b; ahead = lacks b a })) (Err (refusal 6))
  unfolding compared_of rows_compared lacks
  compared-whole = rw (rows_agree, has-rows c a b q, has-rows c b a p) refl

-- where b lacks nothing of a, b is the union
pub joined-told : (a b : Ledger) → length b.counts ≡ 16 → length b.cells ≡ 256 → joins a b ≡ true → lacks b a ≡ false → joined a b ≡ b
joined-told a b counted celled e told = joined-comm a b e ∙ joined-has b a counted celled told
