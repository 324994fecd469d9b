-- `left_over` meets its contract: before turn i the rest is what there is from n to i.
use native.Mathlib.Omega.{arith}
use mathlib.Core.Path.{◌≡◌, ap, ◌∙◌}
use lib.ListN.{get_or}
use Rattle.quorums.proofs.Tables.{table_at}
use Rattle.ledger.specs.Sums.{received_from}
use Rattle.ledger.proofs.Faults.{beyond-start, beyond-next}
use Rattle.ledger.proofs.ledger.Ledger.left_over.Goals as goal

pub loop-i-init : goal.loop-i-init
loop-i-init c = (beyond-start _ _, omega arith)

pub loop-i-preserved : goal.loop-i-preserved
loop-i-preserved c =
    let l = c.loop-i in
    let a = c.args in
    let got : get_or a.received.now l.i 0 ≡ received_from a.n a.self.now l.i = ap (λ xs. get_or xs l.i 0) c.requires.1 ∙ table_at 16 _ l.i c.loop-i-test.true in (
      beyond-next a.n a.self.now l.i l.rest _ _ _ (omega arith) l.invariant.0 (simp c.row.ensures.0 at c.filled.ensures.0) got c.from.ensures,
      omega (arith, c.filled.ensures.1, c.requires.2.small l.i, c.from.ensures, l.invariant.1),
    )
