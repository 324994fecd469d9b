-- The ledger for a set of transfers: its counts and cells, weights and quorums are those of the set, two of them join to that of the union, and one
-- transfer more is added to both alike.
use Prim.Native.Nat.{ℕ, ◌+◌, ◌*◌, ◌/◌, ◌%◌, ◌≤◌, ◌<◌, max}
use native.Mathlib.Decide.{ℕ_discrete}
use native.Mathlib.Omega.{arith}
use mathlib.Core.Path.{◌≡◌, refl, sym, ap, ap₂, ◌∙◌}
use mathlib.Core.Logic.{◌⊎◌, inl, inr, ⊎_elim, ◌↔◌}
use mathlib.Core.Bool.{Bool, true, false, cond, not}
use mathlib.Core.List.{List, [], ◌∷◌}
use borrow.Author.Tests.{lt-ltb, le-ltb, eq-eqb, ne_eqb, eqb-true, le-leb}
use lib.Dec.{eqb}
use lib.IntN.{pos}
use lib.Signed.{lt_z}
use lib.ListN.{length, get_or, set, length-set, get_or-eq_default}
use lib.Seq.{get_or-set_same, get_or-set_other}
use Rattle.quorums.specs.Sum.{sum, sum_in}
use Rattle.quorums.specs.Difference.{difference}
use Rattle.quorums.specs.Accounts.{held, weight, total, weight_in, quorum}
use Rattle.quorums.proofs.Tests.{le-or-lt}
use Rattle.quorums.proofs.Sums.{sum_same, sum_in-same, sum_in-set, each_all}
use Rattle.quorums.proofs.Weights.{weight_in-is, margin-is}
use Rattle.format.proofs.Same.{SameSheet}
use Rattle.config.specs.Cluster.{lawful_of, start_of, above_of, most_weight}
use Rattle.config.specs.declared.cluster.Config.{Config}
use Rattle.config.proofs.Clusters.{lawful-bounds}
use Rattle.quorums.specs.Tables.{run, table}
use Rattle.ledger.specs.Ledgers.{fresh_ledger, count_of, cell_of, given_of, received_of, accounts_of, Typed}
use Rattle.ledger.specs.Maps.{named}
use Rattle.ledger.specs.Weights.{weight_of, all_of, margin_of, quorum_of}
use Rattle.ledger.specs.Checks.{may_hold, total_fits, cell_fits, row_fits, server_above, bounded, above_floor}
use Rattle.ledger.specs.Joins.{agree, agree_at, later_at, larger_at, joins, joined, lacks}
use Rattle.ledger.specs.Changes.{added}
use Rattle.ledger.proofs.Answers.{quorum-margin}
use Rattle.quorums.proofs.Tables.{table-length, table_at, table_same, is-table}
use Rattle.ledger.proofs.Totals.{told-bounded}
use Rattle.ledger.proofs.Added.{may-hold-placed}
use Rattle.ledger.proofs.Unions.{same-ledger, later_first, later_second}
use Rattle.ledger.proofs.ComparedLemmas.{lacks-nothing}
use Rattle.machine.specs.Sets.{Transfer, Transfers, includes, union, tally, count, cell, given, received, accounts, weight_of as plain_weight, quorum_of as plain_quorum}
use Rattle.machine.specs.Margins.{margin_of as plain_margin}
use Rattle.machine.specs.Sheets.{Sound}
use Rattle.machine.proofs.SetRanges.{SetRange}
use Rattle.machine.proofs.Rows.{Agree}
use Rattle.runs.proofs.Records.{ledger_for}

-- no transfer
pub fresh-for : ledger_for [] ≡ fresh_ledger
unfolding ledger_for table run count cell tally
fresh-for = refl

-- ---- counts and cells

-- the arrays have their lengths
lengths : (a : Transfers) → (length (ledger_for a).counts ≡ 16) × (length (ledger_for a).cells ≡ 256)
unfolding ledger_for
lengths a = (table-length 16 (count a), table-length 256 (λ k. cell a (k / 16) (k % 16)))

pub count-below : (a : Transfers) (i : ℕ) → i < 16 → count_of (ledger_for a) i ≡ count a i
unfolding ledger_for
count-below a i l = table_at 16 (count a) i l

-- the cell at k, of giver k / 16 and taker k % 16
cell_at : (a : Transfers) (k : ℕ) → k < 256 → get_or (ledger_for a).cells k 0 ≡ cell a (k / 16) (k % 16)
unfolding ledger_for
cell_at a k l = table_at 256 (λ k. cell a (k / 16) (k % 16)) k l

pub cell-for : (a : Transfers) (i j : ℕ) → i < 16 → j < 16 → cell_of (ledger_for a) i j ≡ cell a i j
cell-for a i j l k =
    let row : (i * 16 + j) / 16 ≡ i = omega arith in
    let column : (i * 16 + j) % 16 ≡ j = omega arith in
    cell_at a (i * 16 + j) (omega arith) ∙ ap₂ (cell a) row column

-- so a message has the same bytes
pub sheet-for : (a : Transfers) → SameSheet (count_of (ledger_for a)) (count a) (cell_of (ledger_for a)) (cell a)
sheet-for a = record { same-counts = count-below a; same-cells = λ i l j k. cell-for a i j l k }

-- ---- one transfer more

module _ (t : Transfer) (a : Transfers) where
  -- it counts for its giver, and its amount is in the cell of its giver and its taker
  count-own : count (t ∷ a) t.giver ≡ count a t.giver + 1
  unfolding count tally
  count-own = rw (eq-eqb t.giver t.giver refl)

  count-other : (i : ℕ) → (i ≡ t.giver → ⊥) → count (t ∷ a) i ≡ count a i
  unfolding count tally
  count-other i ne = rw (ne_eqb t.giver i (λ e. ne (sym e))) (omega arith)

  cell-own : cell (t ∷ a) t.giver t.taker ≡ cell a t.giver t.taker + t.amount
  unfolding cell tally
  cell-own = rw (eq-eqb t.giver t.giver refl, eq-eqb t.taker t.taker refl)

  cell_other : (i j : ℕ) → (i ≡ t.giver → j ≡ t.taker → ⊥) → cell (t ∷ a) i j ≡ cell a i j
  unfolding cell tally
  cell_other i j ne = omega (arith, nothing (eqb t.giver i) (eqb t.taker j) refl refl)
    where
      nothing : (x y : Bool) → eqb t.giver i ≡ x → eqb t.taker j ≡ y → cond x (cond y t.amount 0) 0 ≡ 0
      nothing true true p q = absurd (ne (sym (eqb-true _ _ p)) (sym (eqb-true _ _ q)))
      nothing true false p q = refl
      nothing false y p q = refl

pub added-for : (a : Transfers) (i j k d : ℕ) → i < 16 → j < 16
    → added (ledger_for a) i j d ≡ ledger_for (record { giver = i; number = k; taker = j; amount = d } ∷ a)
unfolding added ledger_for
added-for a i j k d l m =
    same-ledger (added (ledger_for a) i j d) (ledger_for (t ∷ a))
    (is-table 16 (count (t ∷ a)) counts (length-set (ledger_for a).counts i _ ∙ (lengths a).0) (λ p h. count-in p h (ℕ_discrete p i)))
    (is-table 256 (λ p. cell (t ∷ a) (p / 16) (p % 16)) cells (length-set (ledger_for a).cells (i * 16 + j) _ ∙ (lengths a).1)
    (λ p h. cell_in p h (ℕ_discrete p (i * 16 + j))))
  where
    t : Transfer
    t = record { giver = i; number = k; taker = j; amount = d }

    counts : List ℕ
    counts = set (ledger_for a).counts i (count_of (ledger_for a) i + 1)

    cells : List ℕ
    cells = set (ledger_for a).cells (i * 16 + j) (cell_of (ledger_for a) i j + d)

    count-in : (p : ℕ) → p < 16 → Dec (p ≡ i) → get_or counts p 0 ≡ count (t ∷ a) p
    count-in p h (yes e) =
        rw e
        (get_or-set_same (ledger_for a).counts i _ 0 (omega (arith, (lengths a).0)) ∙ ap (λ x. x + 1) (count-below a i l) ∙ sym (count-own t a))
    count-in p h (no e) = get_or-set_other (ledger_for a).counts i p _ 0 e ∙ count-below a p h ∙ sym (count-other t a p e)

    cell_in : (p : ℕ) → p < 256 → Dec (p ≡ i * 16 + j) → get_or cells p 0 ≡ cell (t ∷ a) (p / 16) (p % 16)
    cell_in p h (yes e) =
        let row : p / 16 ≡ i = omega arith in
        let column : p % 16 ≡ j = omega arith in
        rw (row, column, e)
        (get_or-set_same (ledger_for a).cells (i * 16 + j) _ 0 (omega (arith, (lengths a).1))
        ∙ ap (λ x. x + d) (cell-for a i j l m)
        ∙ sym (cell-own t a))
    cell_in p h (no e) =
        get_or-set_other (ledger_for a).cells (i * 16 + j) p _ 0 e
        ∙ cell_at a p h
        ∙ sym (cell_other t a (p / 16) (p % 16) (λ r q. e (omega arith)))

-- ---- the cluster's bounds

-- there are at most 16 servers
pub server-below : (c : Config) → lawful_of c ≡ true → (i : ℕ) → i < c.n → i < 16
server-below c valid i l = omega (arith, (lawful-bounds c valid).most)

-- a cell that holds nothing may stand anywhere
may-hold-zero : (n k x : ℕ) → x ≡ 0 → may_hold n k x ≡ true
unfolding may_hold
may-hold-zero n k x e = rw e

-- a row's total from its count to 16,000 × count passes the test
total-fits : (count total : ℕ) → count ≤ total → total ≤ most_weight * count → total_fits count total ≡ true
unfolding total_fits
total-fits count total p q = rw (le-leb _ _ p) (le-leb _ _ q)

module _ (c : Config) (valid : lawful_of c ≡ true) (a : Transfers) (w : SetRange c a) where
  -- there is nothing of servers from n on
  pub count-for : (i : ℕ) → count_of (ledger_for a) i ≡ count a i
  count-for i =
      ⊎_elim
      (λ (h : 16 ≤ i).
      get_or-eq_default (ledger_for a).counts 0 (omega (arith, (lengths a).0))
      ∙ sym (w.counts-inside i (omega (arith, (lawful-bounds c valid).most))))
      (λ (h : i < 16). count-below a i h)
      (le-or-lt 16 i)

  pub given-for : (i : ℕ) → i < 16 → given_of (ledger_for a) i ≡ given a i
  unfolding given_of
  given-for i l = sum_same 16 _ _ (λ j k. cell-for a i j l k) ∙ w.rows i

  pub received-for : (i : ℕ) → i < 16 → received_of (ledger_for a) i ≡ received a i
  unfolding received_of
  received-for i l = sum_same 16 _ _ (λ j k. cell-for a j i k l) ∙ w.columns i

  pub ledger-typed : Typed (ledger_for a)
  ledger-typed =
      record {
        counts-length = (lengths a).0;
        cells-length = (lengths a).1;
        count_fits = λ i. omega (arith, count-for i, w.count_most i);
        cell-fits =
            λ k.
            ⊎_elim
            (λ (h : 256 ≤ k). omega (arith, get_or-eq_default (ledger_for a).cells 0 {n = k} (omega (arith, (lengths a).1))))
            (λ (h : k < 256). omega (arith, cell_at a k h, w.cell-most (k / 16) (k % 16)))
            (le-or-lt 256 k);
      }

  pub ledger-bounded : bounded c (ledger_for a) ≡ true
  ledger-bounded =
      told-bounded c (ledger_for a)
      (each_all 256 (cell_fits c.n (ledger_for a))
      (λ k h. ap (may_hold c.n k) (cell_at a k h) ∙ placed k (ℕ_discrete (k / 16) (k % 16)) (le-or-lt c.n (k / 16)) (le-or-lt c.n (k % 16))))
      (each_all 16 (row_fits (ledger_for a))
      (λ i h.
      total-fits _ _ (omega (arith, count-for i, given-for i h, w.rows i, w.total-least i))
      (omega (arith, count-for i, given-for i h, w.rows i, w.total-most i))))
    where
      placed : (k : ℕ) → Dec (k / 16 ≡ k % 16) → (c.n ≤ k / 16) ⊎ (k / 16 < c.n) → (c.n ≤ k % 16) ⊎ (k % 16 < c.n)
          → may_hold c.n k (cell a (k / 16) (k % 16)) ≡ true
      placed k (yes e) x y = may-hold-zero c.n k _ (ap (cell a (k / 16)) (sym e) ∙ w.own (k / 16))
      placed k (no e) (inl h) y = may-hold-zero c.n k _ (w.givers-inside (k / 16) (k % 16) h)
      placed k (no e) (inr h) (inl g) = may-hold-zero c.n k _ (w.takers-inside (k / 16) (k % 16) g)
      placed k (no e) (inr h) (inr g) = may-hold-placed c.n k _ h g e

  -- ---- weights, margins and quorums

  pub weight-for : (i : ℕ) → i < c.n → weight_of c (ledger_for a) i ≡ plain_weight c a i
  unfolding weight_of plain_weight weight
  weight-for i l = ap₂ difference (ap (λ x. start_of c i + x) (received-for i (server-below c valid i l))) (given-for i (server-below c valid i l))

  -- what the servers of a set have before their gifts are taken off, and what they gave
  held_in_lem : (p q : ℕ → Bool) → ((i : ℕ) → i < c.n → p i ≡ q i)
      → sum_in c.n p (held (accounts_of c (ledger_for a))) ≡ sum_in c.n q (held (accounts c a))
  held_in_lem p q e =
      sum_in-same c.n p _ _ (λ i l s. ap (λ x. start_of c i + x) (received-for i (server-below c valid i l))) ∙ sum_in-set c.n p q _ e

  given-in : (p q : ℕ → Bool) → ((i : ℕ) → i < c.n → p i ≡ q i) → sum_in c.n p (given_of (ledger_for a)) ≡ sum_in c.n q (given a)
  given-in p q e = sum_in-same c.n p _ _ (λ i l s. given-for i (server-below c valid i l)) ∙ sum_in-set c.n p q _ e

  pub all-for : all_of c (ledger_for a) ≡ weight_in c.n (accounts c a) (λ i. true)
  unfolding all_of
  all-for =
      weight_in-is c.n (accounts_of c (ledger_for a)) (λ i. true)
      ∙ ap₂ difference (held_in_lem (λ i. true) (λ i. true) (λ i l. refl)) (given-in (λ i. true) (λ i. true) (λ i l. refl))
      ∙ sym (weight_in-is c.n (accounts c a) (λ i. true))

  pub margin-for : (m : ℕ) (q : ℕ → Bool) → ((i : ℕ) → i < c.n → named m i ≡ q i) → margin_of c (ledger_for a) m ≡ plain_margin c a q
  unfolding margin_of plain_margin total
  margin-for m q e =
      margin-is c.n (accounts_of c (ledger_for a)) (named m)
      ∙ ap₂ (λ x y. difference (2 * y) (2 * x + sum c.n (start_of c))) (given-in (named m) q e) (held_in_lem (named m) q e)
      ∙ sym (margin-is c.n (accounts c a) q)

  pub quorum-for : (m : ℕ) (q : ℕ → Bool) → ((i : ℕ) → i < c.n → named m i ≡ q i) → quorum_of c (ledger_for a) m ≡ plain_quorum c a q
  unfolding plain_quorum quorum plain_margin
  quorum-for m q e = quorum-margin c (ledger_for a) m ∙ ap (lt_z (pos 0)) (margin-for m q e)

  pub above-for : Sound c a → above_floor c (ledger_for a) ≡ true
  unfolding above_floor
  above-for s = each_all c.n (server_above c (ledger_for a)) (λ i l. ap (above_of c) (weight-for i l) ∙ s.floor i l)

-- ---- two ledgers

-- two cells that stand as their rows do
agree-rows : (m n x y : ℕ) → (m ≤ n → x ≤ y) → (n ≤ m → y ≤ x) → agree m n x y ≡ true
unfolding agree
agree-rows m n x y p q =
    ⊎_elim
    (λ (h : m ≤ n).
    ⊎_elim (λ (k : n ≤ m). rw (le-ltb m n k, le-ltb n m h) (eq-eqb x y (omega (arith, p h, q k)))) (λ (k : m < n). rw (lt-ltb m n k) (le-leb x y (p h)))
    (le-or-lt n m))
    (λ (h : n < m). let k : n ≤ m = omega arith in rw (le-ltb m n k, lt-ltb n m h) (le-leb y x (q k)))
    (le-or-lt m n)

module _ (a b : Transfers) (rows : (i : ℕ) → Agree a b i) where
  pub joins-for : joins (ledger_for a) (ledger_for b) ≡ true
  unfolding joins
  joins-for =
      each_all 256 (agree_at (ledger_for a) (ledger_for b))
      (λ k h.
      let r : k / 16 < 16 = omega arith in
      rw (count-below a (k / 16) r, count-below b (k / 16) r, cell_at a k h, cell_at b k h)
      (agree-rows _ _ _ _ ((rows (k / 16)).grows (k % 16)) ((rows (k / 16)).shrinks (k % 16))))

  pub joined-for : joined (ledger_for a) (ledger_for b) ≡ ledger_for (union a b)
  unfolding joined ledger_for
  joined-for =
      same-ledger (joined (ledger_for a) (ledger_for b)) (ledger_for (union a b))
      (table_same 16 (larger_at (ledger_for a) (ledger_for b)) (count (union a b))
      (λ i h. ap₂ max (count-below a i h) (count-below b i h) ∙ sym (rows i).counts))
      (table_same 256 (later_at (ledger_for a) (ledger_for b)) (λ k. cell (union a b) (k / 16) (k % 16)) later-for)
    where
      later-for : (k : ℕ) → k < 256 → later_at (ledger_for a) (ledger_for b) k ≡ cell (union a b) (k / 16) (k % 16)
      later-for k h =
          let r : k / 16 < 16 = omega arith in
          let i = k / 16 in
          rw (count-below a i r, count-below b i r, cell_at a k h, cell_at b k h)
          (⊎_elim (λ (l : count b i ≤ count a i). later_first _ _ _ _ l ∙ sym ((rows i).first (k % 16) l))
          (λ (l : count a i < count b i). later_second _ _ _ _ l ∙ sym ((rows i).second (k % 16) (omega arith)))
          (le-or-lt (count b i) (count a i)))

-- a lacks nothing of b where no count of b is above that of a
pub lacks-none : (a b : Transfers) → ((i : ℕ) → count b i ≤ count a i) → lacks (ledger_for a) (ledger_for b) ≡ false
lacks-none a b e = (lacks-nothing (ledger_for a) (ledger_for b)).1 (λ i h. omega (arith, count-below a i h, count-below b i h, e i))

-- a lacks a transfer of b exactly when some count of b is above that of a
pub lacks-for : (c : Config) → lawful_of c ≡ true → (a b : Transfers) → SetRange c a → SetRange c b
    → ((includes a b ≡ true) ↔ ((i : ℕ) → i < c.n → count b i ≤ count a i)) → lacks (ledger_for a) (ledger_for b) ≡ not (includes a b)
lacks-for c valid a b u w e = by-test (includes a b) (lacks (ledger_for a) (ledger_for b)) refl refl
  where
    below : includes a b ≡ true → (i : ℕ) → count b i ≤ count a i
    below p i = ⊎_elim (λ (l : c.n ≤ i). omega (arith, w.counts-inside i l)) (λ (l : i < c.n). e.0 p i l) (le-or-lt c.n i)

    by-test : (x y : Bool) → includes a b ≡ x → lacks (ledger_for a) (ledger_for b) ≡ y → y ≡ not x
    by-test true y p q = sym q ∙ lacks-none a b (below p)
    by-test false true p q = refl
    by-test false false p q =
        sym p
        ∙ e.1
        (λ i l.
        omega (
          arith,
          count-for c valid a u i,
          count-for c valid b w i,
          (lacks-nothing (ledger_for a) (ledger_for b)).0 q i (omega (arith, (lawful-bounds c valid).most)),
        ))
