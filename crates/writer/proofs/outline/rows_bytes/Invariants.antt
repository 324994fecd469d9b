-- `rows_bytes` meets its contract: after i turns it has the bytes of the first i rows.
use Prim.Native.Nat.{◌*◌, ◌≤◌}
use mathlib.Core.Path.{◌≡◌}
use lib.ListN.{length}
use Rattle.ledger.specs.Ledgers.{count_of, cell_of}
use Rattle.format.specs.Bytes.{series}
use Rattle.format.specs.Table.{row}
use Rattle.writer.proofs.outline.rows_bytes.Given as goal

abbrev pub invariant-loop-count : goal.invariant-loop-count
invariant-loop-count l =
    let i = length l.yielded in
    (l.bytes ≡ length (series i (λ k. row (count_of l.ledger k) (cell_of l.ledger k)))) × (l.bytes ≤ 68 * i) × (i ≤ 16)
