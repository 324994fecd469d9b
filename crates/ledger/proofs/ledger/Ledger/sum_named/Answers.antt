-- `sum_named` meets its contract: before turn i the servers below i that the map names are in the tally.
use Prim.Native.Nat.{◌<◌}
use native.Mathlib.Omega.{arith}
use mathlib.Core.Path.{◌≡◌, sym, ◌∙◌}
use Rattle.ledger.specs.Ledgers.{given_of}
use Rattle.ledger.proofs.Summed.{row-total, all-received, all-given}
use Rattle.ledger.proofs.Tallies.{covers-table, covers-put, covers-passed, sums-put}
use Rattle.ledger.proofs.ledger.Ledger.sum_named.Goals.{then-names, else-names}
use Rattle.ledger.proofs.ledger.Ledger.sum_named.Goals as goal

pub returns-then-from-gt-FEW : goal.returns-then-from-gt-FEW
returns-then-from-gt-FEW c =
    let e = c.add_rows.ensures in
    (covers-table _ _ _ _ c.requires.0 (all-received c.args.self.now e.2), covers-table _ _ _ _ c.requires.0 (all-given c.args.self.now e.3))

pub loop-i-preserved : goal.loop-i-preserved
loop-i-preserved c =
    let l = c.loop-i in
    let takes = l.invariant.1 in
    let gives = l.invariant.2 in
    let small = l.invariant.3 in
    let little = l.invariant.4 in
    let here : l.i < 16 = omega (arith, l.invariant.0) in
    elim c.if-names.branch [
      | then-names w ↦
          let gave : w.row_total.result ≡ given_of c.args.self.now l.i = simp w.row.ensures.0 at w.row_total.ensures.0 ∙ row-total c.args.self.now l.i in
          rw w.tally-is (
            l.invariant.0,
            covers-put takes _ (omega (arith, small.size)) w.column_total.ensures.0,
            covers-put gives _ (omega (arith, little.size)) gave,
            sums-put small l.i _ here w.column_total.ensures.1,
            sums-put little l.i _ here w.row_total.ensures.1,
          )
      | else-names w ↦
          let off = sym c.names.ensures ∙ w.if-names.false in
          rw w.tally-is (l.invariant.0, covers-passed takes off, covers-passed gives off, small, little)
    ]
