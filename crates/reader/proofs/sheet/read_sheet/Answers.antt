-- `read_sheet` meets its contract: the row map, then the rows.
use Rattle.reader.proofs.Outcomes.{handed-back, read-clean, read-refused}
use Rattle.reader.proofs.RowTurns.{sheet-refused, sheet-blank, sheet-ends, sheet-is, sheet-kept}
use Rattle.reader.proofs.sheet.read_sheet.Goals as goal

pub returns-in_err-map-clause-ends : goal.returns-in_err-map-clause-ends
returns-in_err-map-clause-ends g c =
    handed-back _ c.from_residual.ensures (sheet-refused _ _ _ _ _ (read-refused _ _ (rw c.most_map.ensures.0 at c.in_err-map.ensures.0)))

pub returns-in_err-map-clause-keeps : goal.returns-in_err-map-clause-keeps
returns-in_err-map-clause-keeps g c =
    let blank = sheet-blank c.args.config.now _ _ _ _ (read-refused _ _ (rw c.most_map.ensures.0 at c.in_err-map.ensures.0)) in
    rw (blank.0, blank.1) c.requires.3

pub returns-clause-ends : goal.returns-clause-ends
returns-clause-ends g c =
    let map = read-clean _ _ (rw c.most_map.ensures.0 at c.in_ok-map.ensures.0) in
    rw (← sheet-ends c.args.config.now _ _ _ _ map) c.read_rows.ensures.ends

pub returns-clause-adds : goal.returns-clause-adds
returns-clause-adds g c =
    let map = read-clean _ _ (rw c.most_map.ensures.0 at c.in_ok-map.ensures.0) in
    rw (← sheet-is c.args.config.now _ _ _ _ map) c.read_rows.ensures.adds

pub returns-clause-keeps : goal.returns-clause-keeps
returns-clause-keeps g c =
    let map = read-clean _ _ (rw c.most_map.ensures.0 at c.in_ok-map.ensures.0) in
    let kept = sheet-kept c.args.config.now _ _ _ _ map in
    rw (← kept.0, ← kept.1) c.read_rows.ensures.keeps
