-- `take` meets its contract: the counts before i are the larger ones, and the cells of the rows before i those of the later rows.
use Prim.Native.Nat.{◌+◌, ◌-◌, ◌*◌, ◌<◌, ◌≤◌}
use native.Mathlib.Omega.{arith}
use mathlib.Core.Path.{◌≡◌, ◌∙◌}
use lib.ListN.{get_or, set}
use Rattle.ledger.specs.Ledgers.{count_of}
use Rattle.ledger.specs.Joins.{joined, larger_at}
use Rattle.ledger.proofs.Joins.{row-taken, row-kept}
use Rattle.ledger.proofs.Unions.{same-ledger}
use Rattle.ledger.proofs.Written.{Written, written_next, written_row, written_kept, written_all}
use Rattle.ledger.proofs.ledger.Ledger.take.Goals.{then-mine-theirs, else-mine-theirs}
use Rattle.ledger.proofs.ledger.Ledger.take.Goals as goal

pub loop-i-preserved : goal.loop-i-preserved
loop-i-preserved c =
    let l = c.loop-i in
    let mine = c.args.self.now in
    let theirs = c.args.other.now in
    let count : get_or l.self.counts l.i 0 ≡ count_of mine l.i = l.invariant.0.left l.i (omega arith) in
    let next : Written 16 (larger_at mine theirs) mine.counts (set l.self.counts l.i c.max.result) (l.i + 1) =
    written_next l.invariant.0 (omega arith) (omega (arith, count)) in
    elim c.if-mine-theirs.branch [
      | then-mine-theirs w ↦
          let more : count_of mine l.i < count_of theirs l.i = omega (arith, count) in
          let row = w.copy_from_slice.ensures.after ∙ w.row.ensures.0 ∙ row-taken mine theirs l.i (rw w.row.ensures.0 at w.row.ensures.1) more in
          let sixteen : l.i * 16 + 16 - l.i * 16 ≡ 16 = omega arith in
          let in_range : l.i < 16 = omega arith in
          rw w.self-is (next, written_row _ sixteen l.invariant.1 in_range row)
      | else-mine-theirs w ↦
          let few : count_of theirs l.i ≤ count_of mine l.i = omega (arith, count) in
          let farther : l.i * 16 ≤ (l.i + 1) * 16 = omega arith in
          rw w.self-is (next, written_kept ((l.i + 1) * 16) l.invariant.1 farther (λ m g b. row-kept mine theirs l.i m few g b))
    ]

pub returns : goal.returns
unfolding joined
returns c =
    let l = c.loop-i in
    let e : l.i ≡ 16 = omega arith in
    same-ledger _ _ (written_all _ (rw e at l.invariant.0)) (written_all _ (rw e at l.invariant.1))
