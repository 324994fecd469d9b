-- The rows of a ledger summed one after the other: after i rows, their faults, what each server received of them, and what each of their givers gave.
use Prim.Native.Nat.{ℕ, ◌+◌, ◌*◌, ◌≤◌, ◌<◌}
use native.Mathlib.Omega.{arith}
use mathlib.Core.Path.{◌≡◌, refl, ap, ap₂, ◌∙◌}
use mathlib.Core.Logic.{⊎_elim}
use mathlib.Core.List.{List}
use borrow.Author.Tests.{lt-ltb, le-ltb}
use lib.ListN.{length, get_or, set, replicate}
use Rattle.quorums.specs.Sum.{sum}
use Rattle.quorums.proofs.Sums.{sum-next, sum_same}
use Rattle.quorums.proofs.Tests.{le-or-lt}
use Rattle.config.specs.Cluster.{most_weight}
use Rattle.ledger.specs.declared.ledger.Ledger.{Ledger}
use Rattle.ledger.specs.Ledgers.{count_of, cell_of, row_of, received_of, given_of}
use Rattle.quorums.specs.Tables.{table}
use Rattle.ledger.specs.Sums.{Sums, under, received_from, given_below, row_faults}
use Rattle.quorums.proofs.Tables.{is-table, table_at, table_same, table-length}
use Rattle.ledger.proofs.Rows.{row-cell}
use Rattle.ledger.proofs.Tallies.{Tallied, tally-none, tally-next, zeros-at, bounded, set-within}

pub record Summed (l : Ledger) (zeros received given : List ℕ) (faults i : ℕ) : Type 0 where
  pub counted : faults ≡ sum i (row_faults l)
  pub few : faults ≤ i * 4294967297
  pub size : length received ≡ 16
  pub takes : (k : ℕ) → k < 16 → get_or received k 0 ≡ received_from i l k
  pub takes-small : (k : ℕ) → k < 16 → get_or received k 0 ≤ i * 4294967295
  pub gives : Tallied (given_of l) zeros given i
  pub gives-small : (k : ℕ) → get_or given k 0 ≤ 68719476720

pub summed-none : (l : Ledger) (received given : List ℕ) → received ≡ replicate 16 0 → given ≡ replicate 16 0 → Summed l given received given 0 0
unfolding sum received_from
summed-none l received given r g =
    record {
      counted = refl;
      few = omega arith;
      size = ap length r;
      takes = zeros-at r;
      takes-small = λ k h. omega (arith, zeros-at r k h);
      gives = tally-none _ _ (ap length g);
      gives-small = bounded given 68719476720 (ap length g) (λ k h. omega (arith, zeros-at g k h));
    }

-- the total of a row
pub row-total : (l : Ledger) (i : ℕ) → sum 16 (λ j. get_or (row_of l i) j 0) ≡ given_of l i
unfolding given_of
row-total l i = sum_same 16 _ _ (row-cell l i)

module _ (l : Ledger) where
  -- there is room for one row more
  pub summed-room : {zeros received given : List ℕ} {faults i : ℕ} → i ≤ 16 → Summed l zeros received given faults i → Sums 18446744069414584320 received
  summed-room {received = received} {i = i} h s =
      record { size = s.size; small = bounded received 18446744069414584320 s.size (λ k g. omega (arith, s.takes-small k g)) }

  pub summed-next : {zeros received given received' : List ℕ} {faults i total wrong : ℕ} → i < 16 → zeros ≡ replicate 16 0 → Summed l zeros received given faults i
      → ((k : ℕ) → get_or l.cells k 0 ≤ 4294967295)
      → (total ≡ sum 16 (λ j. get_or (row_of l i) j 0)) × (total ≤ 68719476720)
      → received' ≡ table 16 (λ j. get_or received j 0 + get_or (row_of l i) j 0)
      → (wrong ≡ get_or (row_of l i) i 0 + under total (count_of l i) + under (most_weight * count_of l i) total) × (wrong ≤ 4294967297)
      → Summed l zeros received' (set given i total) (faults + wrong) (i + 1)
  unfolding row_faults received_from
  summed-next {zeros} {received} {given} {received'} {faults} {i} {total} {wrong} h blank s cells t r w =
      let gave : total ≡ given_of l i = t.0 ∙ row-total l i in
      let at : i * 16 + i ≡ i * 17 = omega arith in
      let own : get_or (row_of l i) i 0 ≡ get_or l.cells (i * 17) 0 = row-cell l i i h ∙ ap (λ k. get_or l.cells k 0) at in
      let more : (k : ℕ) → k < 16 → get_or received' k 0 ≡ get_or received k 0 + get_or (row_of l i) k 0 = λ k g. ap (λ xs. get_or xs k 0) r ∙ table_at 16 _ k g in
      record {
        counted = rw (sum-next i (row_faults l), ← gave, ← own) (ap₂ ◌+◌ s.counted w.0);
        few = omega (arith, s.few, w.1);
        size = ap length r ∙ table-length 16 _;
        takes = λ k g. omega (arith, more k g, s.takes k g, row-cell l i k g, sum-next i (λ m. cell_of l m k));
        takes-small = λ k g. omega (arith, more k g, s.takes-small k g, row-cell l i k g, cells (i * 16 + k));
        gives = tally-next (given_of l) zeros given i total h s.gives (omega (arith, gave, zeros-at blank i h));
        gives-small = λ k. set-within given i total k 68719476720 (omega (arith, s.gives.size)) s.gives-small t.1;
      }

  -- all rows below n
  module _ {zeros received given : List ℕ} {faults n : ℕ} (h : n ≤ 16) (blank : zeros ≡ replicate 16 0) (s : Summed l zeros received given faults n) where
    pub summed-received : received ≡ table 16 (received_from n l)
    summed-received = is-table 16 _ received s.size s.takes

    pub summed-given : given ≡ table 16 (given_below n l)
    unfolding given_below
    summed-given =
        is-table 16 _ given s.gives.size
        (λ k g.
        ⊎_elim (λ (b : n ≤ k). rw (le-ltb k n b) (s.gives.left k b ∙ zeros-at blank k g))
        (λ (b : k < n). rw (lt-ltb k n b) (omega (arith, s.gives.done k b, zeros-at blank k g)))
        (le-or-lt n k))

  -- all rows there are
  pub all-received : {received : List ℕ} → received ≡ table 16 (received_from 16 l) → received ≡ table 16 (received_of l)
  unfolding received_from received_of
  all-received r = r

  pub all-given : {given : List ℕ} → given ≡ table 16 (given_below 16 l) → given ≡ table 16 (given_of l)
  unfolding given_below
  all-given g = g ∙ table_same 16 _ _ (λ i h. rw (lt-ltb i 16 h) refl)
