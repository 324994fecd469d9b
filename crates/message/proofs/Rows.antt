-- A reader at the bytes of a row finds that row where it is good, and refuses it by 4 where it isn't.
use Prim.Native.Nat.{ℕ, ◌-◌, ◌^◌, ◌<◌, ◌≤◌}
use native.Mathlib.Omega.{arith}
use mathlib.Core.Path.{◌≡◌, refl, sym, ap, ◌∙◌}
use mathlib.Core.Logic.{◌⊎◌, inl, inr, ⊎_elim}
use mathlib.Core.Bool.{Bool, true, false}
use mathlib.Core.List.{List, ◌++◌, append_assoc}
use borrow.Author.Tests.{eq-eqb, ne_eqb}
use lib.Dec.{eqb}
use lib.Pow.{pow_pos, pow_mono}
use lib.ListN.{length}
use Rattle.quorums.specs.Sum.{sum}
use Rattle.quorums.proofs.Sums.{sum_same}
use Rattle.quorums.proofs.Tests.{le-or-lt}
use Rattle.config.specs.declared.cluster.Config.{Config}
use Rattle.ledger.specs.Checks.{total_fits}
use Rattle.format.specs.Bytes.{number, stands, marks, bit}
use Rattle.format.specs.Table.{cell_map, cells, row_mark, row}
use Rattle.format.proofs.Marks.{stands-none, stands-pos, marks-lt, bit-marks}
use Rattle.message.specs.Cursors.{Cursor}
use Rattle.message.specs.Cursors.{within, read_number, require}
use Rattle.message.specs.Scans.{RowRead, cells_after, cell_read, read_count, cell_map_of, row_cells, row_of}
use Rattle.message.proofs.Stuck.{Stuck, stuck_at, require-stuck, row-stuck-map, map-stuck}
use Rattle.message.proofs.Ahead.{apart, past}
use Rattle.message.proofs.GoodRows.{RowGood, count-stands, map-of-mark, map_below, own-empty, absent-count, absent-map, placed-cell, absent-good}
use Rattle.message.proofs.Moves.{in-range, below-range, above-range, Stands, behind, behind-stands, move, refuse, require-passes, require-refuses, stands_at}
use Rattle.message.proofs.Cells.{AtCells, cells-stand, cells-found}

-- A reader stands before the bytes of a row, which is absent or of a giver below n.
pub record AtRow (c : Config) (msg pre t : List ℕ) (from : Cursor) (i count : ℕ) (cell : ℕ → ℕ) : Type 0 where
  pub small : c.n ≤ 16
  pub index : i < 16
  pub giver : 0 < row_mark count cell → i < c.n
  pub count_fits : count ≤ 65535
  pub cell-fits : (j : ℕ) → cell j ≤ 4294967295
  pub stands-there : Stands from pre
  pub ahead : msg ≡ pre ++ (row count cell ++ t)

-- ---- the steps of a row

count_bytes : ℕ → (ℕ → ℕ) → List ℕ
count_bytes count cell = number (row_mark count cell) 2 count

map_bytes : ℕ → (ℕ → ℕ) → List ℕ
map_bytes count cell = number (row_mark count cell) 2 (cell_map cell)

row-bytes : (count : ℕ) (cell : ℕ → ℕ) → row count cell ≡ count_bytes count cell ++ map_bytes count cell ++ cells cell
unfolding row count_bytes map_bytes
row-bytes count cell = refl

module _ (c : Config) (msg pre t : List ℕ) (from : Cursor) (i count : ℕ) (cell : ℕ → ℕ) (a : AtRow c msg pre t from i count cell) where
  behind-count : List ℕ
  behind-count = pre ++ count_bytes count cell

  behind-map : List ℕ
  behind-map = behind-count ++ map_bytes count cell

  whole : msg ≡ pre ++ (count_bytes count cell ++ map_bytes count cell ++ cells cell ++ t)
  whole = a.ahead ∙ ap (λ l. pre ++ (l ++ t)) (row-bytes count cell)

  ahead-count : msg ≡ pre ++ (count_bytes count cell ++ (map_bytes count cell ++ (cells cell ++ t)))
  ahead-count = apart msg pre (count_bytes count cell) (map_bytes count cell) (cells cell ++ t) (apart msg pre (count_bytes count cell ++ map_bytes count cell) (cells cell) t whole)

  ahead-map : msg ≡ behind-count ++ (map_bytes count cell ++ (cells cell ++ t))
  unfolding behind-count
  ahead-map = past msg pre (count_bytes count cell) _ ahead-count

  ahead-cells : msg ≡ behind-map ++ (cells cell ++ t)
  unfolding behind-map
  ahead-cells = past msg behind-count (map_bytes count cell) _ ahead-map

  count-read : (0 < row_mark count cell → 1 ≤ count) → read_count msg (stands (row_mark count cell)) from ≡ behind behind-count count
  unfolding read_count behind-count count_bytes
  count-read p =
      move msg pre _ from (row_mark count cell) 2 1 65535 count a.stands-there ahead-count (omega (arith, a.count_fits)) (absent-count count cell)
      (λ q. in-range 1 65535 count (p q) a.count_fits)

  map_read : Cursor
  map_read = read_number msg (stands (row_mark count cell)) 2 1 (2 ^ c.n - 1) (behind behind-count count)

  map-number : (0 < row_mark count cell → 1 ≤ cell_map cell) → cell_map cell < 2 ^ c.n → map_read ≡ behind behind-map (cell_map cell)
  unfolding map_read behind-map map_bytes
  map-number p b =
      move msg behind-count _ (behind behind-count count) (row_mark count cell) 2 1 (2 ^ c.n - 1) (cell_map cell) (behind-stands behind-count count)
      ahead-map (omega (arith, b, pow_mono a.small)) (absent-map count cell)
      (λ q. in-range 1 (2 ^ c.n - 1) (cell_map cell) (p q) (omega (arith, b)))

  own-bit : cell i ≡ 0 → eqb (bit (cell_map cell) i) 0 ≡ true
  unfolding cell_map
  own-bit z = eq-eqb _ 0 (bit-marks 16 cell i a.index ∙ ap stands z ∙ stands-none)

  map_read_lem : (0 < row_mark count cell → 1 ≤ cell_map cell) → cell_map cell < 2 ^ c.n → cell i ≡ 0
      → cell_map_of c msg i (stands (row_mark count cell)) (behind behind-count count) ≡ behind behind-map (cell_map cell)
  unfolding cell_map_of map_read
  map_read_lem p b z = rw (map-number p b) (require-passes _ 4 (behind behind-map (cell_map cell)) (own-bit z))

  at_cells : AtCells msg behind-map t (cell_map cell) cell
  unfolding cell_map
  at_cells = record { marked = λ j l. bit-marks 16 cell j l; fits = a.cell-fits; ahead = ahead-cells }

-- ---- the whole row

-- the rest of a row, after its count and its cell map
row_end : List ℕ → Cursor → Cursor → RowRead
row_end msg count m =
    record { count = count.x; cursor = require (total_fits count.x (sum 16 (cell_read msg m.x m))) 4 (cells_after msg m.x m 16) }

row-end : (c : Config) (msg : List ℕ) (i s : ℕ) (from count m : Cursor) → read_count msg s from ≡ count → cell_map_of c msg i s count ≡ m
    → row_of c msg i s from ≡ row_end msg count m
unfolding row_of row_end
row-end c msg i s from count m e d = rw (e, d) refl

cells-end : (c : Config) (msg : List ℕ) (i s : ℕ) (from count m : Cursor) (j : ℕ) → read_count msg s from ≡ count → cell_map_of c msg i s count ≡ m
    → row_cells c msg i s from j ≡ cell_read msg m.x m j
unfolding row_cells
cells-end c msg i s from count m j e d = rw (e, d) refl

-- What reading finds in a row.
pub record RowFound (c : Config) (msg pre : List ℕ) (from : Cursor) (i count : ℕ) (cell : ℕ → ℕ) : Type 0 where
  pub found-count : (row_of c msg i (stands (row_mark count cell)) from).count ≡ count
  pub found-cells : (j : ℕ) → j < 16 → row_cells c msg i (stands (row_mark count cell)) from j ≡ cell j
  pub found-end : Stands (row_of c msg i (stands (row_mark count cell)) from).cursor (pre ++ row count cell)

module _ (c : Config) (msg pre t : List ℕ) (from : Cursor) (i count : ℕ) (cell : ℕ → ℕ) (a : AtRow c msg pre t from i count cell) where
  place-count : List ℕ
  place-count = behind-count c msg pre t from i count cell a

  place_map : List ℕ
  place_map = behind-map c msg pre t from i count cell a

  map-cursor : Cursor
  map-cursor = behind place_map (cell_map cell)

  total-same : sum 16 (cell_read msg (cell_map cell) map-cursor) ≡ sum 16 cell
  unfolding map-cursor place_map
  total-same =
      sum_same 16 _ _
      (λ j l.
      cells-found msg _ t (cell_map cell) cell (behind place_map (cell_map cell)) (at_cells c msg pre t from i count cell a)
      (behind-stands place_map (cell_map cell)) j l)

  -- the end of a row whose count and cell map were read
  end-of-cells : Stands (cells_after msg (cell_map cell) map-cursor 16) (pre ++ row count cell)
  unfolding map-cursor place_map behind-map behind-count
  end-of-cells =
      let s = cells-stand msg _ t (cell_map cell) cell (behind place_map (cell_map cell)) (at_cells c msg pre t from i count cell a)
      (behind-stands place_map (cell_map cell)) in
      record { none = s.none; place = s.place ∙ ap length together }
    where
      together : pre ++ count_bytes count cell ++ map_bytes count cell ++ cells cell ≡ pre ++ row count cell
      together =
          ap (λ l. l ++ cells cell) (append_assoc pre (count_bytes count cell) (map_bytes count cell))
          ∙ append_assoc pre (count_bytes count cell ++ map_bytes count cell) (cells cell)
          ∙ ap (λ l. pre ++ l) (sym (row-bytes count cell))

  -- the two numbers at the front of a row were read
  record Front : Type 0 where
    pub count-is : read_count msg (stands (row_mark count cell)) from ≡ behind place-count count
    pub map_is : cell_map_of c msg i (stands (row_mark count cell)) (behind place-count count) ≡ map-cursor

  front-row : Front → row_of c msg i (stands (row_mark count cell)) from ≡ row_end msg (behind place-count count) map-cursor
  front-row f = row-end c msg i (stands (row_mark count cell)) from (behind place-count count) map-cursor f.count-is f.map_is

  cell-found : (j : ℕ) → j < 16 → cell_read msg (cell_map cell) map-cursor j ≡ cell j
  unfolding map-cursor place_map
  cell-found j l =
      cells-found msg _ t (cell_map cell) cell (behind place_map (cell_map cell)) (at_cells c msg pre t from i count cell a)
      (behind-stands place_map (cell_map cell)) j l

  cells-of-front : Front → (j : ℕ) → j < 16 → row_cells c msg i (stands (row_mark count cell)) from j ≡ cell j
  unfolding map-cursor
  cells-of-front f j l =
      cells-end c msg i (stands (row_mark count cell)) from (behind place-count count) map-cursor j f.count-is f.map_is ∙ cell-found j l

  total-test : Bool
  total-test = total_fits count (sum 16 (cell_read msg (cell_map cell) map-cursor))

  total-test-is : total-test ≡ total_fits count (sum 16 cell)
  unfolding total-test
  total-test-is = ap (total_fits count) total-same

  cursor-of-front : Front
      → (row_of c msg i (stands (row_mark count cell)) from).cursor ≡ require total-test 4 (cells_after msg (cell_map cell) map-cursor 16)
  unfolding row_end map-cursor total-test
  cursor-of-front f = ap (λ (r : RowRead). r.cursor) (front-row f)

  count-of-front : Front → (row_of c msg i (stands (row_mark count cell)) from).count ≡ count
  unfolding row_end
  count-of-front f = ap (λ (r : RowRead). r.count) (front-row f)

  front-found : Front → total_fits count (sum 16 cell) ≡ true → RowFound c msg pre from i count cell
  front-found f g =
      record {
        found-count = count-of-front f;
        found-cells = cells-of-front f;
        found-end = stands_at (cursor-of-front f ∙ require-passes total-test 4 _ (total-test-is ∙ g)) end-of-cells;
      }

  front-refused : Front → total_fits count (sum 16 cell) ≡ false → Stuck (row_of c msg i (stands (row_mark count cell)) from).cursor 3
  front-refused f g = stuck_at (cursor-of-front f) (require-refuses total-test 3 _ end-of-cells.none (total-test-is ∙ g))

  -- the front of a row, from the tests that it passes
  front : (0 < row_mark count cell → 1 ≤ count) → (0 < row_mark count cell → 1 ≤ cell_map cell) → cell_map cell < 2 ^ c.n → cell i ≡ 0 → Front
  unfolding map-cursor place_map place-count
  front p q b z = record { count-is = count-read c msg pre t from i count cell a p; map_is = map_read_lem c msg pre t from i count cell a q b z }

  -- a good row is found
  pub row-found : RowGood c.n i count cell → RowFound c msg pre from i count cell
  row-found g =
      front-found
      (front (count-stands c.n i count cell g) (map-of-mark c.n i count cell g) (map_below c.n i count cell a.small g)
      (own-empty c.n i count cell a.index g))
      g.fits

  -- ---- a row that isn't good

  count-refused : 0 < row_mark count cell → count ≤ 0 → Stuck (row_of c msg i (stands (row_mark count cell)) from).cursor 3
  unfolding read_count count_bytes
  count-refused p z =
      row-stuck-map c msg i _ from 3
      (map-stuck c msg i _ _ 3
      (refuse msg pre _ from (row_mark count cell) 2 1 65535 count a.stands-there (ahead-count c msg pre t from i count cell a)
      (omega (arith, a.count_fits)) p (below-range 1 65535 count (omega arith))))

  map-refused : 0 < row_mark count cell → 1 ≤ count → within 1 (2 ^ c.n - 1) (cell_map cell) ≡ false
      → Stuck (row_of c msg i (stands (row_mark count cell)) from).cursor 3
  unfolding cell_map_of map_bytes cell_map
  map-refused p q r =
      row-stuck-map c msg i _ from 3
      (stuck_at (ap (cell_map_of c msg i (stands (row_mark count cell))) (count-read c msg pre t from i count cell a (λ h. q)))
      (require-stuck _ 4 _ 3
      (refuse msg _ _ _ (row_mark count cell) 2 1 (2 ^ c.n - 1) (cell_map cell)
      (behind-stands (behind-count c msg pre t from i count cell a) count)
      (ahead-map c msg pre t from i count cell a) (omega (arith, marks-lt 16 cell)) p r)))

  own-marked : 0 < cell i → eqb (bit (cell_map cell) i) 0 ≡ false
  unfolding cell_map
  own-marked z = ne_eqb (bit (marks 16 cell) i) 0 (λ e. omega (arith, e, bit-marks 16 cell i a.index, stands-pos (cell i) z))

  own-refused : 0 < row_mark count cell → 1 ≤ count → 1 ≤ cell_map cell → cell_map cell < 2 ^ c.n → 0 < cell i
      → Stuck (row_of c msg i (stands (row_mark count cell)) from).cursor 3
  unfolding cell_map_of map_read
  own-refused p q r b z =
      row-stuck-map c msg i _ from 3
      (stuck_at (ap (cell_map_of c msg i (stands (row_mark count cell))) (count-read c msg pre t from i count cell a (λ h. q)))
      (rw (map-number c msg pre t from i count cell a (λ h. r) b)
      (require-refuses _ 3 (behind (behind-map c msg pre t from i count cell a) (cell_map cell)) refl (own-marked z))))

  -- whether the row is good
  pub row-decides : RowGood c.n i count cell ⊎ Stuck (row_of c msg i (stands (row_mark count cell)) from).cursor 3
  row-decides =
      ⊎_elim (λ (h : row_mark count cell ≤ 0). inl (absent-good c.n i count cell (omega arith)))
      (λ (h : 0 < row_mark count cell).
      ⊎_elim (λ (z : count ≤ 0). inr (count-refused h z))
      (λ (p : 0 < count).
      ⊎_elim (λ (z : cell_map cell ≤ 0). inr (map-refused h p (below-range 1 _ (cell_map cell) (omega arith))))
      (λ (q : 0 < cell_map cell).
      ⊎_elim (λ (z : 2 ^ c.n ≤ cell_map cell). inr (map-refused h p (above-range 1 _ (cell_map cell) (omega (arith, pow_pos c.n)))))
      (λ (b : cell_map cell < 2 ^ c.n).
      ⊎_elim (λ (z : cell i ≤ 0). by_total h p q b (omega arith)) (λ (z : 0 < cell i). inr (own-refused h p q b z)) (le-or-lt (cell i) 0))
      (le-or-lt (2 ^ c.n) (cell_map cell)))
      (le-or-lt (cell_map cell) 0))
      (le-or-lt count 0))
      (le-or-lt (row_mark count cell) 0)
    where
      by_total : 0 < row_mark count cell → 1 ≤ count → 1 ≤ cell_map cell → cell_map cell < 2 ^ c.n → cell i ≡ 0
          → RowGood c.n i count cell ⊎ Stuck (row_of c msg i (stands (row_mark count cell)) from).cursor 3
      by_total h p q b z = by-test (total_fits count (sum 16 cell)) refl
        where
          by-test : (d : Bool) → total_fits count (sum 16 cell) ≡ d
              → RowGood c.n i count cell ⊎ Stuck (row_of c msg i (stands (row_mark count cell)) from).cursor 3
          by-test true e = inl (record { fits = e; placed = λ j l. placed-cell c.n i cell j l (a.giver h) b z })
          by-test false e = inr (front-refused (front (λ k. p) (λ k. q) b z) e)
