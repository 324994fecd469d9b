-- `column_total` meets its contract: the total is that of the cells that have been looked at.
use native.Mathlib.Omega.{arith}
use Prim.Native.Nat.{ℕ, ◌+◌, ◌*◌, ◌≤◌}
use mathlib.Core.Path.{◌≡◌, sym}
use borrow.Author.Rules.{rules}
use lib.ListN.{get_or}
use Rattle.quorums.proofs.Sums.{sum-none, sum-next}
use Rattle.ledger.specs.Ledgers.{cell_of, received_of}
use Rattle.ledger.proofs.ledger.Ledger.column_total.Goals as goal

pub loop-j-init : goal.loop-j-init
loop-j-init c = (c.requires, sym (sum-none _), omega arith)

pub loop-j-preserved : goal.loop-j-preserved
loop-j-preserved c =
    let l = c.loop-j in
    let a = c.args in
    let cells : (k : ℕ) → get_or a.self.now.cells k 0 ≤ 4294967295 = λ k. search rules in
    let more = sum-next l.j (λ k. cell_of a.self.now k a.i) in
    (l.invariant.0, omega (arith, l.invariant.1, more, c.from-total.ensures), omega (arith, l.invariant.2, c.from-total.ensures, cells (l.j * 16 + a.i)))

pub returns : goal.returns
unfolding received_of
returns c =
    let e : c.loop-j.j ≡ 16 = omega arith in
    (rw e at c.loop-j.invariant.1, omega (arith, c.loop-j.invariant.2))
