-- `read_cells` meets its contract: after j cells the place, the total, the sums and what is kept are those of the first j, and the others read nothing where
-- nothing is left of the map or there is a fault.
use Rattle.message.specs.Scans.{cell_read}
use Rattle.reader.specs.Steps.{read_at}
use Rattle.reader.proofs.CellTurns.{cells-start, cells-inside, cells-done, cells-added, cells-none, cell-is, cells-turn, cells-clean, cells-stop, kept-none, kept_next, kept-all}
use Rattle.reader.proofs.Outcomes.{handed-back}
use Rattle.reader.proofs.sheet.read_cells.Goals as goal

pub loop-rest-init : goal.loop-rest-init
loop-rest-init g c = (
  cells-start _ _ _ _ _ c.requires.1 c.requires.3.size,
  λ counts cells h blank. rw (kept-none cells c.args.i (cell_read c.args.msg.now c.args.map.x (read_at c.args.map)) blank) h,
)

pub returns-in_err-cell-clause-ends : goal.returns-in_err-cell-clause-ends
returns-in_err-cell-clause-ends g c =
    let l = c.loop-rest.invariant.0 in
    handed-back _ c.from_residual.ensures (cells-stop l _ c.in_err-cell.ensures.0 (cells-inside l c.requires.2 c.loop-rest-test.true))

pub returns-in_err-cell-clause-adds : goal.returns-in_err-cell-clause-adds
returns-in_err-cell-clause-adds g c =
    let l = c.loop-rest.invariant.0 in
    cells-added l (cells-clean l _ c.in_err-cell.ensures.0 (cells-inside l c.requires.2 c.loop-rest-test.true))

pub returns-in_err-cell-clause-keeps : goal.returns-in_err-cell-clause-keeps
returns-in_err-cell-clause-keeps g c counts cells h blank =
    let l = c.loop-rest.invariant in
    let none = cells-clean l.0 _ c.in_err-cell.ensures.0 (cells-inside l.0 c.requires.2 c.loop-rest-test.true) in
    rw (← kept-all cells c.args.i c.loop-rest.j _ none) (l.1 counts cells h blank)

pub loop-rest-preserved : goal.loop-rest-preserved
loop-rest-preserved g c =
    let l = c.loop-rest.invariant in
    let read = c.in_ok-cell.ensures in (
      cells-turn l.0 _ read.0 (cells-inside l.0 c.requires.2 c.loop-rest-test.true) read.1.0 read.1.1,
      λ counts cells h blank.
          rw (← kept_next cells c.args.i c.loop-rest.j _ _ (cell-is l.0 _ read.0)) (c.cell.ensures counts _ (l.1 counts cells h blank)),
    )

pub returns-clause-ends : goal.returns-clause-ends
returns-clause-ends g c = let l = c.loop-rest.invariant.0 in (cells-done l c.loop-rest-test.false, l.within)

pub returns-clause-adds : goal.returns-clause-adds
returns-clause-adds g c = let l = c.loop-rest.invariant.0 in cells-added l (cells-none l c.loop-rest-test.false)

pub returns-clause-keeps : goal.returns-clause-keeps
returns-clause-keeps g c counts cells h blank =
    let l = c.loop-rest.invariant in
    rw (← kept-all cells c.args.i c.loop-rest.j _ (cells-none l.0 c.loop-rest-test.false)) (l.1 counts cells h blank)
