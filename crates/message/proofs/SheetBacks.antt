-- A reader that finds no fault in a sheet has passed over the bytes of the ledger that it found.
use Prim.Native.Nat.{ℕ, zero, suc, ◌+◌, ◌-◌, ◌*◌, ◌/◌, ◌%◌, ◌^◌, ◌<◌, ◌≤◌}
use native.Mathlib.Omega.{arith}
use mathlib.Core.Path.{◌≡◌, refl, sym, ap, ap₂, ◌∙◌}
use mathlib.Core.Logic.{⊎_elim}
use mathlib.Core.List.{List, ◌++◌, append_assoc, append-nil}
use lib.Pow.{pow_mono}
use lib.ListN.{length, get_or, get_or-eq_default}
use Rattle.quorums.specs.Sum.{sum}
use Rattle.quorums.proofs.Sums.{sum-zero, below_suc}
use Rattle.quorums.proofs.Tests.{le-or-lt}
use Rattle.config.specs.declared.cluster.Config.{Config}
use Rattle.ledger.specs.declared.ledger.Ledger.{Ledger}
use Rattle.ledger.specs.Ledgers.{count_of, cell_of, Typed}
use Rattle.quorums.specs.Tables.{table}
use Rattle.quorums.proofs.Tables.{table-length, table_at}
use Rattle.format.specs.Bytes.{number, series, stands, bit}
use Rattle.format.specs.Table.{cell_map, cells, row_mark, row, row_map, rows, sheet}
use Rattle.format.proofs.Lengths.{number_same, series-next}
use Rattle.format.proofs.Marks.{stands-none, stands-zero, stands-bit, stands_same, bit_le, marks-bit, marks-stand, bit-none}
use Rattle.format.proofs.Same.{SameSheet, row_map-same, rows_same}
use Rattle.message.specs.Cursors.{Cursor}
use Rattle.message.specs.Envelopes.{Bytes}
use Rattle.message.specs.Cursors.{read_number}
use Rattle.message.specs.Scans.{cells_after, cell_read, read_count, cell_map_of, row_cells, row_of, rows_after, count_read, cell_of_row, ledger_read, sheet_of}
use Rattle.message.proofs.Sticky.{read_number-open, require-open, cells_open, row_open, rows-sooner, rows-open}
use Rattle.message.proofs.Backs.{Passed, moved, at, Got, number-got, number-most, got-mark, own-mark, require-got}

-- ---- cells

module _ (msg : List ℕ) (b : Bytes msg) (m : ℕ) (c : Cursor) (pre : List ℕ) (h : Passed msg c pre) where
  cell_bytes : ℕ → List ℕ
  cell_bytes j = number (cell_read msg m c j) 4 (cell_read msg m c j)

  next-cell : (j : ℕ) → (cells_after msg m c (suc j)).number ≡ 0 → Passed msg (cells_after msg m c j) (pre ++ series j cell_bytes)
      → (stands (cell_read msg m c j) ≡ bit m j) × Passed msg (cells_after msg m c (suc j)) (pre ++ series (suc j) cell_bytes)
  unfolding cells_after cell_read cell_bytes
  next-cell j e p =
      let g = number-got msg b (bit m j) 4 1 4294967295 (cells_after msg m c j) _ p e in
      let s = got-mark msg (bit m j) 4 4294967295 _ _ (bit_le m j) g in
      let q = g.passed in
      let same =
      append_assoc pre (series j cell_bytes) _ ∙ ap (λ l. pre ++ (series j cell_bytes ++ l)) (own-mark (bit m j) 4 (cell_read msg m c j) (bit_le m j) s) ∙ ap (λ l. pre ++ l) (sym (series-next j cell_bytes)) in
      (s, record { none = q.none; place = q.place ∙ ap length same; there = q.there; taken = q.taken ∙ same })

  cells-passed : (j : ℕ) → (cells_after msg m c j).number ≡ 0 → Passed msg (cells_after msg m c j) (pre ++ series j cell_bytes)
  unfolding cells_after series
  cells-passed zero e =
      record { none = h.none; place = h.place ∙ ap length (sym (append-nil pre)); there = h.there; taken = h.taken ∙ sym (append-nil pre) }
  cells-passed (suc j) e = (next-cell j e (cells-passed j (read_number-open msg _ _ _ _ _ e))).1

  -- no fault at a cell, where there is none at a later one
  earlier : (j n : ℕ) → j ≤ n → (cells_after msg m c n).number ≡ 0 → (cells_after msg m c j).number ≡ 0
  unfolding cells_after
  earlier j zero l e = let d : j ≡ 0 = omega arith in rw d e
  earlier j (suc n) l e =
      ⊎_elim (λ (d : j ≡ suc n). rw d e) (λ (d : j < suc n). earlier j n (omega arith) (read_number-open msg _ _ _ _ _ e)) (below_suc (omega arith))

  pub cell-marks : (cells_after msg m c 16).number ≡ 0 → (j : ℕ) → j < 16 → stands (cell_read msg m c j) ≡ bit m j
  cell-marks e j l = (next-cell j (earlier (suc j) 16 l e) (cells-passed j (earlier j 16 (omega arith) e))).0

  pub cells-back : (cells_after msg m c 16).number ≡ 0 → Passed msg (cells_after msg m c 16) (pre ++ cells (cell_read msg m c))
  unfolding cells cell_bytes
  cells-back e = cells-passed 16 e

  -- the cell map is that of the cells found
  pub cell-map-back : (cells_after msg m c 16).number ≡ 0 → m < 65536 → cell_map (cell_read msg m c) ≡ m
  unfolding cell_map
  cell-map-back e l =
      marks-stand 16 (cell_read msg m c) (bit m) (λ j k. cell-marks e j k ∙ sym (stands-bit (bit m j) (bit_le m j))) ∙ marks-bit 16 m l

-- ---- a row

-- a row's mark, where it has no cell without a count
mark-is : (n : ℕ) (cell : ℕ → ℕ) → (n ≡ 0 → (j : ℕ) → j < 16 → cell j ≡ 0) → stands (row_mark n cell) ≡ stands n
unfolding row_mark
mark-is n cell z = stands_same (n + sum 16 cell) n (λ e. omega arith) (λ e. omega (arith, sum-zero 16 cell (z e), e))

-- What a row without a fault is.
pub record RowBack (c : Config) (msg : List ℕ) (i s : ℕ) (from : Cursor) (pre : List ℕ) : Type 0 where
  pub row-mark : stands (row_mark (row_of c msg i s from).count (row_cells c msg i s from)) ≡ s
  pub row-passed : Passed msg (row_of c msg i s from).cursor (pre ++ row (row_of c msg i s from).count (row_cells c msg i s from))

module _ (c : Config) (small : c.n ≤ 16) (msg : List ℕ) (b : Bytes msg) (i s : ℕ) (s-bit : s ≤ 1) (from : Cursor) (pre : List ℕ) (h : Passed msg from pre) where
  count : Cursor
  count = read_count msg s from

  map_number : Cursor
  map_number = read_number msg s 2 1 (2 ^ c.n - 1) count

  map : Cursor
  map = cell_map_of c msg i s count

  cell : ℕ → ℕ
  cell = cell_read msg map.x map

  -- each step is without a fault
  record Clean : Type 0 where
    pub cells-clean : (cells_after msg map.x map 16).number ≡ 0
    pub map_is : map ≡ map_number
    pub map-clean : map_number.number ≡ 0
    pub count-clean : count.number ≡ 0
    pub end_is : (row_of c msg i s from).cursor ≡ cells_after msg map.x map 16

  clean : (row_of c msg i s from).cursor.number ≡ 0 → Clean
  unfolding row_of cell_map_of map map_number count
  clean e =
      let end = require-got _ 3 _ e in
      let cells-none = require-open _ 4 _ e in
      let own = require-got _ 3 _ (cells_open msg _ _ 16 cells-none) in
      let map-none = require-open _ 4 _ (cells_open msg _ _ 16 cells-none) in
      record {
        cells-clean = cells-none;
        map_is = own.1;
        map-clean = map-none;
        count-clean = read_number-open msg _ _ _ _ _ map-none;
        end_is = end.1;
      }

  count-got : Clean → Got msg s 2 1 65535 count pre
  unfolding count read_count
  count-got k = number-got msg b s 2 1 65535 from pre h k.count-clean

  map-got : Clean → Got msg s 2 1 (2 ^ c.n - 1) map_number (pre ++ number s 2 count.x)
  unfolding map_number
  map-got k = number-got msg b s 2 1 (2 ^ c.n - 1) count _ (count-got k).passed k.map-clean

  map-passed : Clean → Passed msg map (pre ++ number s 2 count.x ++ number s 2 map.x)
  map-passed k =
      at k.map_is (moved (ap (λ x. pre ++ number s 2 count.x ++ number s 2 x) (sym (ap (λ (d : Cursor). d.x) k.map_is))) (map-got k).passed)

  map-fits : Clean → map.x < 65536
  map-fits k = omega (arith, ap (λ (d : Cursor). d.x) k.map_is, (map-got k).high-holds, pow_mono small)

  -- without a count there are no cells
  no_cells : Clean → count.x ≡ 0 → (j : ℕ) → j < 16 → cell j ≡ 0
  unfolding cell
  no_cells k z j l =
      let none : s ≡ 0 = sym (got-mark msg s 2 65535 count pre s-bit (count-got k)) ∙ ap stands z ∙ stands-none in
      let empty : map.x ≡ 0 = ap (λ (d : Cursor). d.x) k.map_is ∙ (map-got k).absent none in
      stands-zero _
      (cell-marks msg b map.x map _ (map-passed k) k.cells-clean j l ∙ ap (λ m. bit m j) empty ∙ bit-none j)

  mark-back : Clean → stands (row_mark count.x cell) ≡ s
  mark-back k = mark-is count.x cell (no_cells k) ∙ got-mark msg s 2 65535 count pre s-bit (count-got k)

  map-of-cells : Clean → cell_map cell ≡ map.x
  unfolding cell
  map-of-cells k = cell-map-back msg b map.x map _ (map-passed k) k.cells-clean (map-fits k)

  count-of : (row_of c msg i s from).count ≡ count.x
  unfolding row_of count
  count-of = refl

  cells_of : row_cells c msg i s from ≡ cell
  unfolding row_cells cell map count
  cells_of = refl

  bytes-of-row : Clean → pre ++ number s 2 count.x ++ number s 2 map.x ++ cells cell ≡ pre ++ row count.x cell
  unfolding row
  bytes-of-row k =
      let mark : stands s ≡ stands (row_mark count.x cell) = stands-bit s s-bit ∙ sym (mark-back k) in
      ap₂ (λ x y. pre ++ x ++ y ++ cells cell) (number_same s (row_mark count.x cell) 2 count.x mark)
      (number_same s (row_mark count.x cell) 2 map.x mark ∙ ap (number (row_mark count.x cell) 2) (sym (map-of-cells k)))
      ∙ ap (λ l. l ++ cells cell) (append_assoc pre _ _)
      ∙ append_assoc pre _ (cells cell)

  pub row_back : (row_of c msg i s from).cursor.number ≡ 0 → RowBack c msg i s from pre
  unfolding cell
  row_back e =
      let k = clean e in
      record {
        row-mark = ap₂ (λ x y. stands (row_mark x y)) count-of cells_of ∙ mark-back k;
        row-passed =
            at k.end_is
            (moved (bytes-of-row k ∙ ap₂ (λ x y. pre ++ row x y) (sym count-of) (sym cells_of))
            (cells-back msg b map.x map _ (map-passed k) k.cells-clean));
      }

-- ---- the rows

module _ (c : Config) (small : c.n ≤ 16) (msg : List ℕ) (b : Bytes msg) (m : ℕ) (from : Cursor) (pre : List ℕ) (h : Passed msg from pre) where
  row_bytes : ℕ → List ℕ
  row_bytes i = row (count_read c msg m from i) (cell_of_row c msg m from i)

  next_row : (i : ℕ) → (rows_after c msg m from (suc i)).number ≡ 0 → Passed msg (rows_after c msg m from i) (pre ++ series i row_bytes)
      → (stands (row_mark (count_read c msg m from i) (cell_of_row c msg m from i)) ≡ bit m i)
      × Passed msg (rows_after c msg m from (suc i)) (pre ++ series (suc i) row_bytes)
  unfolding rows_after count_read cell_of_row row_bytes
  next_row i e p =
      let r = row_back c small msg b i (bit m i) (bit_le m i) (rows_after c msg m from i) _ p e in
      (r.row-mark, moved (append_assoc pre (series i row_bytes) (row_bytes i) ∙ ap (λ l. pre ++ l) (sym (series-next i row_bytes))) r.row-passed)

  rows-passed : (i : ℕ) → (rows_after c msg m from i).number ≡ 0 → Passed msg (rows_after c msg m from i) (pre ++ series i row_bytes)
  unfolding rows_after series
  rows-passed zero e = moved (sym (append-nil pre)) h
  rows-passed (suc i) e = (next_row i e (rows-passed i (row_open c msg i _ _ e))).1

  row-marks : (rows_after c msg m from 16).number ≡ 0 → (i : ℕ) → i < 16
      → stands (row_mark (count_read c msg m from i) (cell_of_row c msg m from i)) ≡ bit m i
  row-marks e i l = (next_row i (rows-sooner c msg m from (suc i) 16 l e) (rows-passed i (rows-sooner c msg m from i 16 (omega arith) e))).0

  rows_back : (rows_after c msg m from 16).number ≡ 0
      → Passed msg (rows_after c msg m from 16) (pre ++ rows (count_read c msg m from) (cell_of_row c msg m from))
  unfolding rows row_bytes
  rows_back e = rows-passed 16 e

  row-map-back : (rows_after c msg m from 16).number ≡ 0 → m < 65536 → row_map (count_read c msg m from) (cell_of_row c msg m from) ≡ m
  unfolding row_map
  row-map-back e l = marks-stand 16 _ (bit m) (λ i k. row-marks e i k ∙ sym (stands-bit (bit m i) (bit_le m i))) ∙ marks-bit 16 m l

-- ---- the ledger found

pub ledger-same : (c : Config) (msg : List ℕ) (m : ℕ) (from : Cursor)
    → SameSheet (count_of (ledger_read c msg m from)) (count_read c msg m from) (cell_of (ledger_read c msg m from)) (cell_of_row c msg m from)
unfolding ledger_read
ledger-same c msg m from =
    record {
      same-counts = λ i l. table_at 16 (count_read c msg m from) i l;
      same-cells = λ i l j k.
          let p : (i * 16 + j) / 16 ≡ i = omega arith in
          let q : (i * 16 + j) % 16 ≡ j = omega arith in
          table_at 256 (λ x. cell_of_row c msg m from (x / 16) (x % 16)) (i * 16 + j) (omega arith) ∙ ap₂ (cell_of_row c msg m from) p q;
    }

-- What a sheet without a fault is.
pub record SheetBack (c : Config) (msg : List ℕ) (s : ℕ) (from : Cursor) (pre : List ℕ) (l : Ledger) : Type 0 where
  pub sheet-mark : stands (row_map (count_of l) (cell_of l)) ≡ s
  pub sheet-passed : Passed msg (sheet_of c msg s from).cursor (pre ++ sheet (count_of l) (cell_of l))

module _ (c : Config) (small : c.n ≤ 16) (msg : List ℕ) (b : Bytes msg) (s : ℕ) (s-bit : s ≤ 1) (from : Cursor) (pre : List ℕ) (h : Passed msg from pre) where
  map_read : Cursor
  map_read = read_number msg s 2 1 (2 ^ c.n - 1) from

  ledger : Ledger
  ledger = ledger_read c msg map_read.x map_read

  rows-clean : (sheet_of c msg s from).cursor.number ≡ 0 → (rows_after c msg map_read.x map_read 16).number ≡ 0
  unfolding sheet_of map_read
  rows-clean e = e

  sheet-map-got : (sheet_of c msg s from).cursor.number ≡ 0 → Got msg s 2 1 (2 ^ c.n - 1) map_read pre
  unfolding map_read
  sheet-map-got e = number-got msg b s 2 1 (2 ^ c.n - 1) from pre h (rows-open c msg _ _ 16 (rows-clean e))

  map_back : (sheet_of c msg s from).cursor.number ≡ 0 → row_map (count_of ledger) (cell_of ledger) ≡ map_read.x
  unfolding ledger
  map_back e =
      row_map-same _ _ _ _ (ledger-same c msg map_read.x map_read)
      ∙ row-map-back c small msg b map_read.x map_read _ (sheet-map-got e).passed (rows-clean e) (omega (arith, (sheet-map-got e).high-holds, pow_mono small))

  cursor-of : (sheet_of c msg s from).cursor ≡ rows_after c msg map_read.x map_read 16
  unfolding sheet_of map_read
  cursor-of = refl

  ledger-of : (sheet_of c msg s from).ledger ≡ ledger
  unfolding sheet_of ledger map_read
  ledger-of = refl

  bytes-of-sheet : (sheet_of c msg s from).cursor.number ≡ 0
      → pre ++ number s 2 map_read.x ++ rows (count_read c msg map_read.x map_read) (cell_of_row c msg map_read.x map_read)
      ≡ pre ++ sheet (count_of ledger) (cell_of ledger)
  unfolding sheet ledger
  bytes-of-sheet e =
      append_assoc pre _ _
      ∙ ap₂ (λ x y. pre ++ (x ++ y))
      (own-mark s 2 map_read.x s-bit (got-mark msg s 2 _ map_read pre s-bit (sheet-map-got e)) ∙ ap (λ x. number x 2 x) (sym (map_back e)))
      (sym (rows_same _ _ _ _ (ledger-same c msg map_read.x map_read)))

  pub sheet-back : (sheet_of c msg s from).cursor.number ≡ 0 → SheetBack c msg s from pre (sheet_of c msg s from).ledger
  sheet-back e =
      rw ledger-of
      (record {
        sheet-mark = ap stands (map_back e) ∙ got-mark msg s 2 _ map_read pre s-bit (sheet-map-got e);
        sheet-passed =
            at cursor-of
            (moved (bytes-of-sheet e) (rows_back c small msg b map_read.x map_read _ (sheet-map-got e).passed (rows-clean e)));
      })

-- ---- whatever bytes are read, the ledger is one that a call can have

pub table-most : (n : ℕ) (f : ℕ → ℕ) (most : ℕ) → ((i : ℕ) → f i ≤ most) → (k : ℕ) → get_or (table n f) k 0 ≤ most
table-most n f most h k =
    ⊎_elim (λ (l : n ≤ k). let z : get_or (table n f) k 0 ≡ 0 = get_or-eq_default (table n f) 0 (omega (arith, table-length n f)) in omega (arith, z))
    (λ (l : k < n). omega (arith, table_at n f k l, h k))
    (le-or-lt n k)

pub ledger-typed : (c : Config) (msg : List ℕ) (s : ℕ) (from : Cursor) → Typed (sheet_of c msg s from).ledger
unfolding sheet_of ledger_read count_read cell_of_row row_of row_cells read_count cell_read cells_after
ledger-typed c msg s from =
    record {
      counts-length = table-length 16 _;
      cells-length = table-length 256 _;
      count_fits = table-most 16 _ 65535 (λ i. number-most msg _ _ _ _ _);
      cell-fits = table-most 256 _ 4294967295 (λ k. number-most msg _ _ _ _ _);
    }
