-- What reading the parts of a sheet answers, and what is kept of it.
use Rattle.std.specs.Prelude.{ℕ, ◌-◌, ◌^◌, List, Result}
use Rattle.quorums.specs.Sum.{sum}
use Rattle.config.specs.declared.cluster.Config.{Config}
use Rattle.config.specs.declared.answer.Refusal.{Refusal}
use Rattle.ledger.specs.declared.ledger.Ledger.{Ledger}
use Rattle.message.specs.Cursors.{Cursor, read_number}
use Rattle.message.specs.Scans.{cells_after, cell_read, row_of, row_cells, count_read, cell_of_row, sheet_of}
use Rattle.reader.specs.declared.step.Read.{Read}
use Rattle.reader.specs.Steps.{outcome}

-- the total of cells, and the place after them
unfoldable pub cells_answer : List ℕ → ℕ → Cursor → Result Read Refusal
cells_answer msg m from = outcome (cells_after msg m from 16).number (record { x = sum 16 (cell_read msg m from); at = (cells_after msg m from 16).at })

-- the same of a row that stands
unfoldable pub row_answer : Config → List ℕ → ℕ → Cursor → Result Read Refusal
row_answer c msg i from =
    let end = (row_of c msg i 1 from).cursor in
    outcome end.number (record { x = sum 16 (row_cells c msg i 1 from); at = end.at })

-- nothing is counted, and no cell is filled
abbrev pub no_counts : ℕ → ℕ
no_counts i = 0

abbrev pub no_cells : ℕ → ℕ → ℕ
no_cells i j = 0

-- the cursor behind a sheet, its ledger, and the counts and cells of that
abbrev pub sheet_end : Config → List ℕ → ℕ → Cursor → Cursor
sheet_end c msg s from = (sheet_of c msg s from).cursor

abbrev pub sheet_ledger : Config → List ℕ → ℕ → Cursor → Ledger
sheet_ledger c msg s from = (sheet_of c msg s from).ledger

-- the row map
abbrev row_map : Config → List ℕ → ℕ → Cursor → Cursor
row_map c msg s from = read_number msg s 2 1 (2 ^ c.n - 1) from

unfoldable pub sheet_counts : Config → List ℕ → ℕ → Cursor → ℕ → ℕ
sheet_counts c msg s from = let m = row_map c msg s from in count_read c msg m.x m

unfoldable pub sheet_cells : Config → List ℕ → ℕ → Cursor → ℕ → ℕ → ℕ
sheet_cells c msg s from = let m = row_map c msg s from in cell_of_row c msg m.x m
