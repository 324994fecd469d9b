-- `read_rows` meets its contract: after i rows the place, the sums and what is kept are those of the first i, and the others read nothing where nothing is
-- left of the map or there is a fault.
use Rattle.reader.specs.Steps.{read_at}
use Rattle.reader.proofs.RowTurns.{RowsSoFar, counts_kept, rows_kept}
use Rattle.reader.proofs.sheet.read_rows.Given as goal

abbrev pub invariant-loop-rest : goal.invariant-loop-rest
invariant-loop-rest g l =
    let map = l.fn.map in
    RowsSoFar l.config l.msg map.x (read_at map) l.sums.received l.sums.given l.at l.rest l.i
    × g.K.Keep.keeps l.keep (counts_kept l.config l.msg map.x (read_at map) l.i) (rows_kept l.config l.msg map.x (read_at map) l.i)

abbrev pub decreases-loop-rest : goal.decreases-loop-rest
decreases-loop-rest g l = l.rest
