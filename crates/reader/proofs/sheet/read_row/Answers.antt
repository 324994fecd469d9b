-- `read_row` meets its contract: the count, the cell map, the cells, and the test of their total.
use Rattle.std.proofs.Common.{rules, sym, ◌∙◌}
use Rattle.message.specs.Scans.{read_count, cell_map_of}
use Rattle.reader.specs.Steps.{at_place}
use Rattle.reader.proofs.CellTurns.{none-added}
use Rattle.reader.proofs.Fronts.{put_same, row-blank}
use Rattle.reader.proofs.Outcomes.{Clean, handed-back}
use Rattle.reader.proofs.RowReads.{count-refused, count-clean, count-none, count-is, count-refuses, map-refused, map-clean, map-own, row-refused, row-none, cells-are, cells-refused, total-refused, row-is}
use Rattle.reader.proofs.sheet.read_row.Goals.{In_ok-count, Else-bit-ne0}
use Rattle.reader.proofs.sheet.read_row.Goals as goal

-- what each step found
count : (g : _) (c : In_ok-count g) → let n = c.in_ok-count.count in Clean (read_count c.args.msg.now 1 (at_place c.args.at)) n.at n.x
count g c = count-clean _ _ _ c.in_ok-count.ensures.0

map : (g : _) (c : Else-bit-ne0 g) → (let n = c.in_ok-count.count in Clean (read_count c.args.msg.now 1 (at_place c.args.at)) n.at n.x)
    → let m = c.in_ok-map.map in
    Clean (cell_map_of c.args.config.now c.args.msg.now c.args.i 1 (read_count c.args.msg.now 1 (at_place c.args.at))) m.at m.x
map g c n = map-clean _ _ _ _ n _ c.most_map.ensures.0 _ c.in_ok-map.ensures.0 (sym c.bit.ensures.0 ∙ c.if-bit-ne0.false)

pub returns-in_err-count-clause-ends : goal.returns-in_err-count-clause-ends
returns-in_err-count-clause-ends g c =
    handed-back _ c.from_residual.ensures (row-refused _ _ _ _ _ (count-refuses _ _ _ _ _ (count-refused _ _ _ c.in_err-count.ensures.0)))

pub returns-in_err-count-clause-adds : goal.returns-in_err-count-clause-adds
returns-in_err-count-clause-adds g c =
    let fault = count-refused _ _ _ c.in_err-count.ensures.0 in
    none-added _ _ c.requires.3.size (row-none c.args.config.now _ c.args.i _ _ (count-refuses _ _ _ _ _ fault))

pub returns-in_err-count-clause-keeps : goal.returns-in_err-count-clause-keeps
returns-in_err-count-clause-keeps g c counts cells h first blank =
    let fault = count-refused _ _ _ c.in_err-count.ensures.0 in
    let none = row-none c.args.config.now _ c.args.i _ _ (count-refuses _ _ _ _ _ fault) in
    rw (count-none c.args.config.now _ c.args.i _ _ fault, none, put_same counts c.args.i 0 (sym first), row-blank cells c.args.i blank) h

pub returns-in_err-map-clause-ends : goal.returns-in_err-map-clause-ends
returns-in_err-map-clause-ends g c =
    let n = count g (goal.at.returns-in_err-map-clause-ends g c).In_ok-count in
    handed-back _ c.from_residual-in_err-map.ensures (row-refused _ _ _ _ _ (map-refused _ _ _ _ n _ c.most_map.ensures.0 _ c.in_err-map.ensures.0))

pub returns-in_err-map-clause-adds : goal.returns-in_err-map-clause-adds
returns-in_err-map-clause-adds g c =
    let n = count g (goal.at.returns-in_err-map-clause-adds g c).In_ok-count in
    none-added _ _ c.requires.3.size (row-none c.args.config.now _ c.args.i _ _ (map-refused _ _ _ _ n _ c.most_map.ensures.0 _ c.in_err-map.ensures.0))

pub returns-in_err-map-clause-keeps : goal.returns-in_err-map-clause-keeps
returns-in_err-map-clause-keeps g c counts cells h first blank =
    let n = count g (goal.at.returns-in_err-map-clause-keeps g c).In_ok-count in
    let none = row-none c.args.config.now _ c.args.i _ _ (map-refused _ _ _ _ n _ c.most_map.ensures.0 _ c.in_err-map.ensures.0) in
    rw (count-is c.args.config.now _ c.args.i _ n, none, row-blank cells c.args.i blank) (c.count.ensures counts cells h)

pub returns-then-bit-ne0-clause-ends : goal.returns-then-bit-ne0-clause-ends
returns-then-bit-ne0-clause-ends g c =
    let n = count g (goal.at.returns-then-bit-ne0-clause-ends g c).In_ok-count in
    let own = map-own _ _ _ _ n _ c.most_map.ensures.0 _ c.in_ok-map.ensures.0 (λ z. c.if-bit-ne0.true (c.bit.ensures.0 ∙ z)) in
    (row-refused _ _ _ _ _ own, tt)

pub returns-then-bit-ne0-clause-adds : goal.returns-then-bit-ne0-clause-adds
returns-then-bit-ne0-clause-adds g c =
    let n = count g (goal.at.returns-then-bit-ne0-clause-adds g c).In_ok-count in
    let own = map-own _ _ _ _ n _ c.most_map.ensures.0 _ c.in_ok-map.ensures.0 (λ z. c.if-bit-ne0.true (c.bit.ensures.0 ∙ z)) in
    none-added _ _ c.requires.3.size (row-none c.args.config.now _ c.args.i _ _ own)

pub returns-then-bit-ne0-clause-keeps : goal.returns-then-bit-ne0-clause-keeps
returns-then-bit-ne0-clause-keeps g c counts cells h first blank =
    let n = count g (goal.at.returns-then-bit-ne0-clause-keeps g c).In_ok-count in
    let own = map-own _ _ _ _ n _ c.most_map.ensures.0 _ c.in_ok-map.ensures.0 (λ z. c.if-bit-ne0.true (c.bit.ensures.0 ∙ z)) in
    rw (count-is c.args.config.now _ c.args.i _ n, row-none c.args.config.now _ c.args.i _ _ own, row-blank cells c.args.i blank) (c.count.ensures counts cells h)

pub returns-in_err-cells-clause-ends : goal.returns-in_err-cells-clause-ends
returns-in_err-cells-clause-ends g c =
    let p = goal.at.returns-in_err-cells-clause-ends g c in
    handed-back _ c.from_residual-in_err-cells.ensures (cells-refused _ _ _ _ _ (map g p.Else-bit-ne0 (count g p.In_ok-count)) _ c.in_err-cells.ensures.ends.0)

pub returns-in_err-cells-clause-adds : goal.returns-in_err-cells-clause-adds
returns-in_err-cells-clause-adds g c =
    let p = goal.at.returns-in_err-cells-clause-adds g c in
    rw (cells-are _ _ _ _ _ (map g p.Else-bit-ne0 (count g p.In_ok-count))) c.read_cells.ensures.adds

pub returns-in_err-cells-clause-keeps : goal.returns-in_err-cells-clause-keeps
returns-in_err-cells-clause-keeps g c counts cells h first blank =
    let p = goal.at.returns-in_err-cells-clause-keeps g c in
    let n = count g p.In_ok-count in
    rw (count-is c.args.config.now _ c.args.i _ n, cells-are _ _ _ _ _ (map g p.Else-bit-ne0 n)) (c.read_cells.ensures.keeps _ cells (c.count.ensures counts cells h) blank)

pub returns-then-not-total_fits-clause-ends : goal.returns-then-not-total_fits-clause-ends
returns-then-not-total_fits-clause-ends g c =
    let p = goal.at.returns-then-not-total_fits-clause-ends g c in
    let n = count g p.In_ok-count in
    (total-refused _ _ _ _ _ (map g p.Else-bit-ne0 n) n _ c.in_ok-cells.ensures.ends.0 _ c.total_fits.ensures (search rules), tt)

pub returns-then-not-total_fits-clause-adds : goal.returns-then-not-total_fits-clause-adds
returns-then-not-total_fits-clause-adds g c =
    let p = goal.at.returns-then-not-total_fits-clause-adds g c in
    rw (cells-are _ _ _ _ _ (map g p.Else-bit-ne0 (count g p.In_ok-count))) c.read_cells.ensures.adds

pub returns-then-not-total_fits-clause-keeps : goal.returns-then-not-total_fits-clause-keeps
returns-then-not-total_fits-clause-keeps g c counts cells h first blank =
    let p = goal.at.returns-then-not-total_fits-clause-keeps g c in
    let n = count g p.In_ok-count in
    rw (count-is c.args.config.now _ c.args.i _ n, cells-are _ _ _ _ _ (map g p.Else-bit-ne0 n)) (c.read_cells.ensures.keeps _ cells (c.count.ensures counts cells h) blank)

pub returns-clause-ends : goal.returns-clause-ends
returns-clause-ends g c =
    let p = goal.at.returns-clause-ends g c in
    let n = count g p.In_ok-count in
    (row-is _ _ _ _ _ (map g p.Else-bit-ne0 n) n _ c.in_ok-cells.ensures.ends.0 _ c.total_fits.ensures (search rules), c.in_ok-cells.ensures.ends.1)

pub returns-clause-adds : goal.returns-clause-adds
returns-clause-adds g c =
    let p = goal.at.returns-clause-adds g c in
    rw (cells-are _ _ _ _ _ (map g p.Else-bit-ne0 (count g p.In_ok-count))) c.read_cells.ensures.adds

pub returns-clause-keeps : goal.returns-clause-keeps
returns-clause-keeps g c counts cells h first blank =
    let p = goal.at.returns-clause-keeps g c in
    let n = count g p.In_ok-count in
    rw (count-is c.args.config.now _ c.args.i _ n, cells-are _ _ _ _ _ (map g p.Else-bit-ne0 n)) (c.read_cells.ensures.keeps _ cells (c.count.ensures counts cells h) blank)
