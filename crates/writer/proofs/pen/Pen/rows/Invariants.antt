-- `rows` meets its contract: after i turns the first i rows are written, and those from n on have no bytes.
use Prim.Native.Nat.{ℕ}
use mathlib.Core.List.{List}
use lib.ListN.{length}
use Rattle.ledger.specs.declared.ledger.Ledger.{Ledger}
use Rattle.ledger.specs.Ledgers.{count_of, cell_of}
use Rattle.format.specs.Table.{row}
use Rattle.writer.proofs.Places.{Written}
use Rattle.writer.proofs.pen.Pen.rows.Given as goal

-- the bytes of row i
abbrev pub row_at : Ledger → ℕ → List ℕ
row_at l i = row (count_of l i) (cell_of l i)

abbrev pub invariant-loop-count : goal.invariant-loop-count
invariant-loop-count l = Written (length l.yielded) 16 (row_at l.ledger) l.initial.self l.self
