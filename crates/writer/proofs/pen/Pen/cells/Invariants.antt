-- `cells` meets its contract: after j turns the first j cells are written, and in the map.
use Prim.Native.Nat.{ℕ}
use mathlib.Core.List.{List}
use lib.ListN.{get_or}
use Rattle.format.specs.Bytes.{number}
use Rattle.writer.proofs.Places.{Written}
use Rattle.writer.proofs.Outlines.{Marked}
use Rattle.writer.proofs.pen.Pen.cells.Given as goal

-- the bytes of cell j
abbrev pub cell_at : List ℕ → ℕ → List ℕ
cell_at row j = number (get_or row j 0) 4 (get_or row j 0)

abbrev pub invariant-loop-j : goal.invariant-loop-j
invariant-loop-j l =
    record { written : Written l.j 16 (cell_at l.row) l.initial.self l.self; marked : Marked l.j (λ k. get_or l.row k 0) l.map }
