-- `read_rows` meets its contract: after i rows the place, the sums and what is kept are those of the first i, and the others read nothing where nothing is
-- left of the map or there is a fault.
use Rattle.std.proofs.Common.{◌≡◌, sym, ◌∙◌, arith}
use Rattle.format.specs.Bytes.{bit}
use Rattle.reader.proofs.Outcomes.{handed-back}
use Rattle.reader.proofs.RowTurns.{rows_start, rows_inside, room, takes-small, gives-small, rows-done, rows-summed, rows-skip, rows-turn, rows-stop, stands-is, counts-none, rows-none, left-blank, kept-done, kept-skip, kept-turn, kept-stop}
use Rattle.reader.proofs.sheet.read_rows.Goals.{then-rest-eq1+in_ok-row, else-rest-eq1}
use Rattle.reader.proofs.sheet.read_rows.Goals as goal

pub loop-rest-init : goal.loop-rest-init
loop-rest-init g c = (
  rows_start _ _ _ _ _ _ _ c.requires.1 c.requires.3,
  rw (counts-none _ _ _ _, rows-none _ _ _ _) c.requires.4,
)

pub read_row-requires : goal.read_row-requires
read_row-requires g c =
    let l = c.loop-rest.invariant.0 in
    (c.requires.0, rows_inside l c.requires.2 c.loop-rest-test.true, l.within, room c.loop-rest.sums.takes_small)

pub invariant_of-sums : goal.invariant_of-sums
invariant_of-sums g c =
    let l = c.loop-rest.invariant.0 in
    record {
      takes_small = takes-small l (sym c.if-rest-eq1.true ∙ stands-is l) (rows_inside l c.requires.2 c.loop-rest-test.true) c.read_row.ensures.adds;
      gives_small = c.loop-rest.sums.gives_small;
    }

pub invariant_of-sums-then-rest-eq1 : goal.invariant_of-sums-then-rest-eq1
invariant_of-sums-then-rest-eq1 g c =
    let l = c.loop-rest.invariant.0 in
    let stands = sym c.if-rest-eq1.true ∙ stands-is l in
    let inside = rows_inside l c.requires.2 c.loop-rest-test.true in
    let row = c.in_ok-row.ensures in
    let adds = c.read_row.ensures.adds in
    record { takes_small = takes-small l stands inside adds; gives_small = gives-small (rows-turn l stands inside _ _ row.ends.0 row.ends.1 adds) }

pub returns-in_err-row-clause-ends : goal.returns-in_err-row-clause-ends
returns-in_err-row-clause-ends g c =
    let l = c.loop-rest.invariant.0 in
    handed-back _ c.from_residual.ensures (rows-stop l (sym c.if-rest-eq1.true ∙ stands-is l) (rows_inside l c.requires.2 c.loop-rest-test.true) _ c.in_err-row.ensures.ends.0)

pub returns-in_err-row-clause-keeps : goal.returns-in_err-row-clause-keeps
returns-in_err-row-clause-keeps g c =
    let l = c.loop-rest.invariant in
    let stands = sym c.if-rest-eq1.true ∙ stands-is l.0 in
    let inside = rows_inside l.0 c.requires.2 c.loop-rest-test.true in
    let stop = kept-stop l.0 stands inside _ c.in_err-row.ensures.ends.0 in
    let turn = kept-turn l.0 stands inside in
    let blank = left-blank _ _ _ _ c.loop-rest.i in
    rw (← stop.0, ← stop.1, ← turn.0, ← turn.1) (c.read_row.ensures.keeps _ _ l.1 blank.0 blank.1)

pub loop-rest-preserved : goal.loop-rest-preserved
loop-rest-preserved g c =
    let l = c.loop-rest.invariant in
    let inside = rows_inside l.0 c.requires.2 c.loop-rest-test.true in
    elim c.if-rest-eq1.branch [
      | then-rest-eq1+in_ok-row w ↦
          let stands = sym w.if-rest-eq1.true ∙ stands-is l.0 in
          let row = w.in_ok-row.ensures in
          let turn = kept-turn l.0 stands inside in
          let blank = left-blank _ _ _ _ c.loop-rest.i in
          rw (w.keep-is, w.sums-is, w.at-is, ← turn.0, ← turn.1)
          (rows-turn l.0 stands inside _ _ row.ends.0 row.ends.1 w.read_row.ensures.adds, row.keeps _ _ l.1 blank.0 blank.1)
      | else-rest-eq1 w ↦
          let unset : bit c.args.map.x c.loop-rest.i ≡ 0 = omega (arith, w.if-rest-eq1.false, stands-is l.0) in
          let skip = kept-skip l.0 unset in
          rw (w.keep-is, w.sums-is, w.at-is, ← skip.0, ← skip.1) (rows-skip l.0 unset inside, l.1)
    ]

pub returns-clause-ends : goal.returns-clause-ends
returns-clause-ends g c = let l = c.loop-rest.invariant.0 in (rows-done l c.loop-rest-test.false, l.within)

pub returns-clause-adds : goal.returns-clause-adds
returns-clause-adds g c = rows-summed c.loop-rest.invariant.0 c.loop-rest-test.false

pub returns-clause-keeps : goal.returns-clause-keeps
returns-clause-keeps g c =
    let l = c.loop-rest.invariant in
    let done = kept-done l.0 c.loop-rest-test.false in
    rw (← done.0, ← done.1) l.1
