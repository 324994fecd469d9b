-- `none_smaller` meets its contract: `so_far` tells of the cells that have been looked at.
use borrow.Author.Rules.{rules}
use lib.Dec.{leb}
use mathlib.Core.Path.{sym, ap₂}
use Rattle.quorums.proofs.Sums.{all_none}
use Rattle.std.proofs.lemmas.Slice.Zip.{zip_turn}
use Rattle.ledger.proofs.Rows.{all-yielded}
use Rattle.ledger.proofs.join.none_smaller.Goals as goal

pub loop-cell-init : goal.loop-cell-init
loop-cell-init c = sym (all_none _)

pub loop-cell-preserved : goal.loop-cell-preserved
loop-cell-preserved c =
    let l = c.loop-cell in
    let s = c.into_iter-cell-iterator.result in
    let t = zip_turn c.args.row.now c.args.earlier.now l.yielded s l.cell-iterator c.next.new.self _ (search rules) (search rules) l.yielded_by _ c.in-Some.is c.next.ensures.steps in
    all-yielded l.yielded _ _ _ _ l.invariant (ap₂ leb (t.3 0) (t.2 0))
