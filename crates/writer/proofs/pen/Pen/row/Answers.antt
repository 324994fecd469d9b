-- `row` meets its contract: count, cells, and the cell map between them. A row whose count is 0 has no bytes.
use Prim.Native.Nat.{ℕ}
use native.Mathlib.Omega.{arith}
use mathlib.Core.Path.{refl, ◌∙◌}
use lib.ListN.{get_or}
use Rattle.format.specs.Bytes.{bytes}
use Rattle.format.proofs.Lengths.{bytes-length}
use Rattle.writer.specs.Places.{Puts}
use Rattle.writer.proofs.Places.{puts-nothing}
use Rattle.writer.proofs.Rows.{row-absent, present-cells, cells-room, map-room, row-place, row-written}
use Rattle.writer.proofs.pen.Pen.row.Goals.{Start, Else-count-eq0, After-bytes}
use Rattle.writer.proofs.pen.Pen.row.Goals as goal

abbrev cell_of : Start → ℕ → ℕ
cell_of s j = get_or s.args.row.now j 0

-- the count is written
count-put : (c : After-bytes) → Puts (bytes 2 c.args.count) c.args.self.now c.bytes.new.self
count-put c = rw c.from.ensures at c.bytes.ensures

pub returns-then-count-eq0 : goal.returns-then-count-eq0
returns-then-count-eq0 c = puts-nothing (row-absent _ _ c.if-count-eq0.true (c.requires.counted c.if-count-eq0.true))

pub bytes-requires-clause-room : goal.bytes-requires-clause-room
bytes-requires-clause-room c =
    let size = present-cells c.args.count (cell_of (goal.at.bytes-requires-clause-room c).Start) c.if-count-eq0.false in
    record { room = omega (arith, c.requires.room.room, size, bytes-length 2 c.from.result) }

pub cells-map-requires-clause-room : goal.cells-map-requires-clause-room
cells-map-requires-clause-room c =
    let first = count-put (goal.at.cells-map-requires-clause-room c).After-bytes in
    cells-room _ _ c.if-count-eq0.false _ c.requires.room first (refl, refl)

pub bytes-requires-2-clause-room : goal.bytes-requires-2-clause-room
bytes-requires-2-clause-room c =
    let first = count-put (goal.at.bytes-requires-2-clause-room c).After-bytes in
    rw c.cells-map.ensures.map (map-room _ _ c.if-count-eq0.false _ c.requires.room first (refl, refl) _ c.cells-map.ensures.puts (refl, refl))

pub overflow_add-self : goal.overflow_add-self
overflow_add-self c =
    let size = present-cells c.args.count (cell_of (goal.at.overflow_add-self c).Start) c.if-count-eq0.false in
    let first = count-put (goal.at.overflow_add-self c).After-bytes in
    omega (arith, c.requires.room.room, size, first.place, bytes-length 2 c.args.count)

pub returns : goal.returns
returns c =
    let cell = cell_of (goal.at.returns c).Start in
    let first = count-put (goal.at.returns c).After-bytes in
    let cells = c.cells-map.ensures.puts in
    let map = rw c.cells-map.ensures.map at c.bytes-2.ensures in
    let written = row-written c.args.count cell c.if-count-eq0.false _ c.requires.room first (refl, refl) _ cells (refl, refl) map in
    record {
      written = written;
      place = row-place c.args.count cell c.if-count-eq0.false _ c.requires.room first (refl, refl) cells;
      same = map.same ∙ cells.same ∙ first.same;
    }
