-- A whole message (paper 01, "Message bytes", the table and "Checks"), in the order of its bytes.
use Rattle.std.specs.Prelude.{ℕ, zero, suc, ◌-◌, ◌/◌, ◌%◌, ◌^◌, Bool, false, cond, List, length, eqb, ltb}
use Rattle.quorums.specs.Sum.{sum}
use Rattle.config.specs.Cluster.{stamp_bytes, most_stamp}
use Rattle.config.specs.declared.cluster.Config.{Config}
use Rattle.ledger.specs.declared.ledger.Ledger.{Ledger}
use Rattle.ledger.specs.Checks.{total_fits, above_floor}
use Rattle.quorums.specs.Tables.{table}
use Rattle.format.specs.Bytes.{bit}
use Rattle.replica.specs.Values.{most_value}
use Rattle.message.specs.declared.envelope.Envelope.{Envelope}
use Rattle.message.specs.Cursors.{Cursor, start, read_number, skip, require}

-- ---- the map and bits 0 to 3

-- bits 7 to 15 unset, 0 and 1 set
unfoldable pub map_lawful : ℕ → Bool
map_lawful m = cond (ltb m 128) (eqb (m % 4) 3) false

-- requests and replies have bits 2 and 3; shares have neither 2, 3 nor 6
unfoldable pub kind_has : ℕ → ℕ → Bool
kind_has kind m =
    cond (eqb kind 3) (cond (eqb (bit m 2) 0) (cond (eqb (bit m 3) 0) (eqb (bit m 6) 0) false) false) (cond (eqb (bit m 2) 1) (eqb (bit m 3) 1) false)

unfoldable pub read_map : List ℕ → Cursor
read_map msg = let c = read_number msg 1 2 0 65535 start in require (map_lawful c.x) 3 c

unfoldable pub read_kind : List ℕ → Cursor → Cursor
read_kind msg map = let c = read_number msg 1 1 1 3 map in require (kind_has c.x map.x) 3 c

-- The map and the fields of bits 0 to 3, and the cursor behind them.
pub record HeadRead : Type 0 where
  pub map : ℕ
  pub kind : ℕ
  pub server : ℕ
  pub desk : ℕ
  pub round : ℕ
  pub cursor : Cursor

unfoldable pub head_of : Config → List ℕ → HeadRead
head_of c msg =
    let map = read_map msg in
    let kind = read_kind msg map in
    let server = read_number msg 1 1 0 (c.n - 1) kind in
    let desk = read_number msg (bit map.x 2) 2 1 65535 server in
    let round = read_number msg (bit map.x 3) 4 1 4294967295 desk in
    record { map = map.x; kind = kind.x; server = server.x; desk = desk.x; round = round.x; cursor = round }

-- ---- bit 4: the register stands where s isn't 0

-- The tag, where the value lies, and the cursor behind it.
pub record RegisterRead : Type 0 where
  pub stamp : ℕ
  pub desk : ℕ
  pub from : ℕ
  pub length : ℕ
  pub cursor : Cursor

unfoldable pub register_of : Config → List ℕ → ℕ → Cursor → RegisterRead
register_of c msg s from =
    let stamp = read_number msg s (stamp_bytes c) 1 (most_stamp c) from in
    let desk = read_number msg s 2 1 65535 stamp in
    let length = read_number msg s 1 0 most_value desk in
    let value = skip msg length.x length in
    record { stamp = stamp.x; desk = desk.x; from = length.at; length = length.x; cursor = value }

-- ---- bit 5: rows and cells

-- after the first j cells of a row with the cell map m
unfoldable pub cells_after : List ℕ → ℕ → Cursor → ℕ → Cursor
cells_after msg m c zero = c
cells_after msg m c (suc j) = read_number msg (bit m j) 4 1 4294967295 (cells_after msg m c j)

-- its cell j
unfoldable pub cell_read : List ℕ → ℕ → Cursor → ℕ → ℕ
cell_read msg m c j = (cells_after msg m c (suc j)).x

-- the count of a row, which stands where s isn't 0
unfoldable pub read_count : List ℕ → ℕ → Cursor → Cursor
read_count msg s c = read_number msg s 2 1 65535 c

-- the cell map of giver i, after its count: bits below n, its own unset
unfoldable pub cell_map_of : Config → List ℕ → ℕ → ℕ → Cursor → Cursor
cell_map_of c msg i s count = let m = read_number msg s 2 1 (2 ^ c.n - 1) count in require (eqb (bit m.x i) 0) 4 m

-- the cells of the row of giver i
unfoldable pub row_cells : Config → List ℕ → ℕ → ℕ → Cursor → ℕ → ℕ
row_cells c msg i s from j = let m = cell_map_of c msg i s (read_count msg s from) in cell_read msg m.x m j

-- A row: its count, and the cursor behind it.
pub record RowRead : Type 0 where
  pub count : ℕ
  pub cursor : Cursor

-- the row of giver i, whose total lies from its count to 16,000 × count
unfoldable pub row_of : Config → List ℕ → ℕ → ℕ → Cursor → RowRead
row_of c msg i s from =
    let count = read_count msg s from in
    let m = cell_map_of c msg i s count in
    record { count = count.x; cursor = require (total_fits count.x (sum 16 (cell_read msg m.x m))) 4 (cells_after msg m.x m 16) }

-- after the first i rows of a sheet with the row map m
unfoldable pub rows_after : Config → List ℕ → ℕ → Cursor → ℕ → Cursor
rows_after c msg m from zero = from
rows_after c msg m from (suc i) = (row_of c msg i (bit m i) (rows_after c msg m from i)).cursor

-- its count i, and its cell at 16 i + j
unfoldable pub count_read : Config → List ℕ → ℕ → Cursor → ℕ → ℕ
count_read c msg m from i = (row_of c msg i (bit m i) (rows_after c msg m from i)).count

unfoldable pub cell_of_row : Config → List ℕ → ℕ → Cursor → ℕ → ℕ → ℕ
cell_of_row c msg m from i = row_cells c msg i (bit m i) (rows_after c msg m from i)

unfoldable pub ledger_read : Config → List ℕ → ℕ → Cursor → Ledger
ledger_read c msg m from = record { counts = table 16 (count_read c msg m from); cells = table 256 (λ k. cell_of_row c msg m from (k / 16) (k % 16)) }

-- The ledger, and the cursor behind it.
pub record SheetRead : Type 0 where
  pub ledger : Ledger
  pub cursor : Cursor

unfoldable pub sheet_of : Config → List ℕ → ℕ → Cursor → SheetRead
sheet_of c msg s from =
    let m = read_number msg s 2 1 (2 ^ c.n - 1) from in
    record { ledger = ledger_read c msg m.x m; cursor = rows_after c msg m.x m 16 }

-- ---- bit 6, the end, and the weights

unfoldable pub read_note : List ℕ → ℕ → Cursor → Cursor
read_note msg s c = read_number msg s 4 1 4294967295 c

-- no bytes left over, or 2; last 5
unfoldable pub end_of : Config → List ℕ → Ledger → Cursor → Cursor
end_of c msg l note = require (above_floor c l) 5 (require (eqb note.at (length msg)) 2 note)

-- The number of the first fault, or 0, and what was found before it.
pub record Scan : Type 0 where
  pub number : ℕ
  pub envelope : Envelope
  pub register : RegisterRead
  pub ledger : Ledger

unfoldable pub scan_of : Config → List ℕ → Scan
scan_of c msg =
    let h = head_of c msg in
    let r = register_of c msg (bit h.map 4) h.cursor in
    let s = sheet_of c msg (bit h.map 5) r.cursor in
    let note = read_note msg (bit h.map 6) s.cursor in
    record {
      number = (end_of c msg s.ledger note).number;
      envelope = record { kind = h.kind; server = h.server; desk = h.desk; round = h.round; note = note.x };
      register = r;
      ledger = s.ledger;
    }
