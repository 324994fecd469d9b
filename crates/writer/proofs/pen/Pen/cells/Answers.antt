-- `cells` meets its contract: after j turns the first j cells are written, and in the map.
use native.Mathlib.Omega.{arith}
use mathlib.Core.Path.{refl, sym}
use Rattle.format.specs.Table.{cell_map, cells}
use Rattle.format.proofs.Marks.{stands-pos}
use Rattle.writer.proofs.Places.{puts-nothing, written_none, written-room, written_next, written_all}
use Rattle.writer.proofs.Puts.{number-absent, number-present}
use Rattle.writer.proofs.Outlines.{marked_start, marked_next, marked_none, marked-small, marked_all}
use Rattle.writer.proofs.pen.Pen.cells.Goals.{then-cell-ne0, else-cell-ne0}
use Rattle.writer.proofs.pen.Pen.cells.Goals as goal

pub loop-j-init : goal.loop-j-init
unfolding cells
loop-j-init c = record { written = written_none 16 _ _ c.requires.room; marked = marked_start _ }

pub bytes-requires-clause-room : goal.bytes-requires-clause-room
bytes-requires-clause-room c =
    let room = written-room c.loop-j.invariant.written (omega arith) in
    rw (c.from.ensures, ← number-present _ 4 _ c.if-cell-ne0.true) room

pub overflow_add-map : goal.overflow_add-map
overflow_add-map c =
    let s = marked-small c.loop-j.invariant.marked (omega arith) 1 18446744073709551616 (omega arith) (omega arith) in
    rw s.0 (omega (arith, s.1))

pub loop-j-preserved : goal.loop-j-preserved
loop-j-preserved c =
    let inv = c.loop-j.invariant in
    elim c.if-cell-ne0.branch [
      | then-cell-ne0 w ↦
          rw (w.self-is, w.map-is)
          (record {
            written = written_next inv.written (rw (number-present _ 4 _ w.if-cell-ne0.true) (rw w.from.ensures at w.bytes.ensures));
            marked = marked_next inv.marked (omega arith) 1 _ (sym (stands-pos _ (omega (arith, w.if-cell-ne0.true)))) (omega arith);
          })
      | else-cell-ne0 w ↦
          rw (w.self-is, w.map-is)
          (record {
            written = written_next inv.written (puts-nothing (number-absent _ 4 _ w.if-cell-ne0.false));
            marked = marked_none inv.marked (omega arith) w.if-cell-ne0.false;
          })
    ]

pub returns-clause-puts : goal.returns-clause-puts
unfolding cells
returns-clause-puts c = written_all c.loop-j.invariant.written (omega arith) refl

pub returns-clause-map : goal.returns-clause-map
unfolding cell_map
returns-clause-map c = marked_all c.loop-j.invariant.marked (omega arith)
