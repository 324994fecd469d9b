-- A sheet that is weighed row by row: the cells of its rows are those of the ledger that a reader would build, so that their sums are what each server
-- received and gave.
use Prim.Native.Nat.{ℕ, ◌+◌, ◌*◌, ◌/◌, ◌%◌, ◌≤◌, ◌<◌}
use native.Mathlib.Numerals.{add-one}
use native.Mathlib.Omega.{arith}
use mathlib.Core.Path.{◌≡◌, refl, sym, ap, ap₂, ◌∙◌}
use mathlib.Core.List.{List}
use lib.ListN.{length, get_or, replicate}
use Rattle.quorums.specs.Sum.{sum}
use Rattle.quorums.proofs.Sums.{sum_same, sum-zero, sum-next}
use Rattle.config.specs.declared.cluster.Config.{Config}
use Rattle.ledger.specs.Ledgers.{cell_of, received_of, given_of}
use Rattle.quorums.specs.Tables.{table}
use Rattle.quorums.proofs.Tables.{is-table, table_at, table_same}
use Rattle.format.specs.Bytes.{bit}
use Rattle.message.specs.Cursors.{Cursor}
use Rattle.reader.specs.Steps.{at_place}
use Rattle.reader.proofs.Outcomes.{Clean, same-number}
use Rattle.message.specs.Scans.{RowRead, cells_after, cell_read, read_count, row_cells, row_of, rows_after, count_read, cell_of_row, ledger_read}
use Rattle.message.proofs.Backs.{number-most}
use Rattle.ledger.proofs.Tallies.{Tallied, tally-zeros, sum-all}
use Rattle.reader.proofs.Rests.{NoRows}

-- ---- one row more

-- a row is read from the place of its cursor
module _ (msg : List ℕ) {d : Cursor} {at x : ℕ} (h : Clean d at x) where
  same-count : (s : ℕ) → read_count msg s (at_place at) ≡ read_count msg s d
  unfolding read_count
  same-count s = same-number h msg s 2 1 65535

  pub same-row : (c : Config) (i s : ℕ) → row_of c msg i s (at_place at) ≡ row_of c msg i s d
  unfolding row_of
  same-row c i s = rw (same-count s) refl

  pub same-cells : (c : Config) (i s j : ℕ) → row_cells c msg i s (at_place at) j ≡ row_cells c msg i s d j
  unfolding row_cells
  same-cells c i s j = rw (same-count s) refl

module _ (c : Config) (msg : List ℕ) (m : ℕ) (from : Cursor) (i : ℕ) {at x : ℕ} (here : Clean (rows_after c msg m from i) at x) (stands : 1 ≡ bit m i) where
  row-is : row_of c msg i 1 (at_place at) ≡ row_of c msg i (bit m i) (rows_after c msg m from i)
  row-is = same-row msg here c i 1 ∙ ap (λ s. row_of c msg i s (rows_after c msg m from i)) stands

  pub row-cursor : (row_of c msg i 1 (at_place at)).cursor ≡ rows_after c msg m from (i + 1)
  unfolding rows_after
  row-cursor = rw add-one (ap (λ (r : RowRead). r.cursor) row-is)

  pub row-cells-are : (j : ℕ) → row_cells c msg i 1 (at_place at) j ≡ cell_of_row c msg m from i j
  unfolding cell_of_row
  row-cells-are j = same-cells msg here c i 1 j ∙ ap (λ s. row_cells c msg i s (rows_after c msg m from i) j) stands

  pub row-count-is : (row_of c msg i 1 (at_place at)).count ≡ count_read c msg m from i
  unfolding count_read
  row-count-is = ap (λ (r : RowRead). r.count) row-is

  -- what each server received by it, and what its giver gave
  pub row-received : (xs : List ℕ) {ys : List ℕ} → ys ≡ table 16 (λ j. get_or xs j 0 + row_cells c msg i 1 (at_place at) j)
      → ((k : ℕ) → k < 16 → get_or xs k 0 ≡ sum i (λ r. cell_of_row c msg m from r k))
      → (k : ℕ) → k < 16 → get_or ys k 0 ≡ sum (i + 1) (λ r. cell_of_row c msg m from r k)
  row-received xs e sums k l =
      ap (λ zs. get_or zs k 0) e
      ∙ table_at 16 _ k l
      ∙ omega (arith, sums k l, row-cells-are k, sum-next i (λ r. cell_of_row c msg m from r k))

  pub row-given : sum 16 (row_cells c msg i 1 (at_place at)) ≡ sum 16 (cell_of_row c msg m from i)
  row-given = sum_same 16 _ _ (λ j l. row-cells-are j)

-- ---- cells are small

pub cell-most : (c : Config) (msg : List ℕ) (m : ℕ) (from : Cursor) (i j : ℕ) → cell_of_row c msg m from i j ≤ 4294967295
unfolding cell_of_row row_cells cell_read cells_after
cell-most c msg m from i j = number-most msg _ _ _ _ _

-- ---- the ledger that a reader would build

module _ (c : Config) (msg : List ℕ) (m : ℕ) (from : Cursor) where
  ledger-cell : (i j : ℕ) → i < 16 → j < 16 → cell_of (ledger_read c msg m from) i j ≡ cell_of_row c msg m from i j
  unfolding ledger_read
  ledger-cell i j k l =
      let row : (i * 16 + j) / 16 ≡ i = omega arith in
      let place : (i * 16 + j) % 16 ≡ j = omega arith in
      table_at 256 _ (i * 16 + j) (omega arith) ∙ ap₂ (cell_of_row c msg m from) row place

  ledger-received : (j : ℕ) → j < 16 → sum 16 (λ i. cell_of_row c msg m from i j) ≡ received_of (ledger_read c msg m from) j
  unfolding received_of
  ledger-received j l = sum_same 16 _ _ (λ i k. sym (ledger-cell i j k l))

  ledger-given : (i : ℕ) → i < 16 → sum 16 (cell_of_row c msg m from i) ≡ given_of (ledger_read c msg m from) i
  unfolding given_of
  ledger-given i k = sum_same 16 _ _ (λ j l. sym (ledger-cell i j k l))

  -- the sums of i rows are those of all where the others are empty
  module _ (i : ℕ) (most : i ≤ 16) (empty : NoRows c msg m from i) where
    pub rows-received : (xs : List ℕ) → length xs ≡ 16 → ((k : ℕ) → k < 16 → get_or xs k 0 ≡ sum i (λ r. cell_of_row c msg m from r k))
        → xs ≡ table 16 (received_of (ledger_read c msg m from))
    rows-received xs size sums = is-table 16 _ xs size (λ k l. sums k l ∙ sum-all _ i most (λ r g. (empty r g).1 k) ∙ ledger-received k l)

    pub rows-given : (xs ys : List ℕ) → xs ≡ replicate 16 0 → Tallied (λ r. sum 16 (cell_of_row c msg m from r)) xs ys i
        → ys ≡ table 16 (given_of (ledger_read c msg m from))
    rows-given xs ys blank sums = tally-zeros _ xs ys i blank sums (λ r g. sum-zero 16 _ (λ j l. (empty r g).1 j)) ∙ table_same 16 _ _ ledger-given
