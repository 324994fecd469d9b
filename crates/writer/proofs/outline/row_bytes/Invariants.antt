-- `row_bytes` meets its contract: count and cell map take 4 bytes, and each cell that stands 4 more.
use Prim.Native.Nat.{◌+◌, ◌*◌, ◌≤◌}
use mathlib.Core.Path.{◌≡◌}
use lib.ListN.{get_or}
use Rattle.quorums.specs.Sum.{sum}
use Rattle.format.specs.Bytes.{stands}
use Rattle.writer.proofs.outline.row_bytes.Given as goal

abbrev pub invariant-loop-cell : goal.invariant-loop-cell
invariant-loop-cell l = (l.bytes ≡ 4 + 4 * sum l.cell-index (λ k. stands (get_or l.row k 0))) × (l.bytes ≤ 4 + 4 * l.cell-index)
