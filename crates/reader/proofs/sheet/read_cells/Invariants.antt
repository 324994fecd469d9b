-- `read_cells` meets its contract: after j cells the place, the total, the sums and what is kept are those of the first j, and the others read nothing where
-- nothing is left of the map or there is a fault.
use Rattle.std.proofs.Common.{◌≡◌, ℕ}
use Rattle.message.specs.Scans.{cell_read}
use Rattle.reader.specs.Steps.{read_at}
use Rattle.reader.proofs.CellTurns.{CellsSoFar, cells_kept}
use Rattle.reader.proofs.sheet.read_cells.Given as goal

abbrev pub invariant-loop-rest : goal.invariant-loop-rest
invariant-loop-rest g l =
    let map = l.fn.map in
    let cell = cell_read l.msg l.fn.map.x (read_at l.fn.map) in
    CellsSoFar l.msg l.fn.map.x (read_at l.fn.map) l.initial.received l.received l.at l.total l.rest l.j
    × ((counts : ℕ → ℕ) (cells : ℕ → ℕ → ℕ) → g.K.Keep.keeps l.initial.keep counts cells → ((j : ℕ) → cells l.i j ≡ 0)
    → g.K.Keep.keeps l.keep counts (cells_kept cells l.i l.j cell))

abbrev pub decreases-loop-rest : goal.decreases-loop-rest
decreases-loop-rest g l = l.rest
