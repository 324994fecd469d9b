-- `add_rows` meets its contract: after i turns the first i rows are summed.
use native.Mathlib.Omega.{arith}
use mathlib.Core.Path.{◌≡◌, refl}
use borrow.Author.Rules.{rules}
use lib.ListN.{get_or, replicate}
use Prim.Native.Nat.{ℕ, ◌≤◌}
use Rattle.ledger.proofs.Summed.{Summed, summed-none, summed-next, summed-received, summed-given}
use Rattle.ledger.proofs.ledger.Ledger.add_rows.Goals.{Start}
use Rattle.ledger.proofs.ledger.Ledger.add_rows.Goals as goal

-- nothing was given before
blank : (c : Start) → c.args.tally.now.given ≡ replicate 16 0
blank c = c.requires.1

pub loop-i-init : goal.loop-i-init
loop-i-init c = (c.requires.0, summed-none c.args.self.now _ _ refl (blank (goal.at.loop-i-init c).Start))

pub loop-i-preserved : goal.loop-i-preserved
loop-i-preserved c =
    let row = c.row-row.ensures.0 in
    let cells : (k : ℕ) → get_or c.args.self.now.cells k 0 ≤ 4294967295 = λ k. search rules in
    (c.requires.0, summed-next c.args.self.now (omega arith) (blank (goal.at.loop-i-preserved c).Start) c.loop-i.invariant.1 cells (simp row at c.row_total-total.ensures) (simp row at c.add_row.ensures) (simp row at c.row_faults-faults.ensures))

pub returns : goal.returns
returns c =
    let a = c.args in
    let l = c.loop-i in
    let e : l.i ≡ a.n = omega arith in
    let s : Summed a.self.now a.tally.now.given l.received l.tally.given l.faults a.n = rw e at l.invariant.1 in
    let none = blank (goal.at.returns c).Start in (
      s.counted,
      omega (arith, s.few, c.requires.0),
      summed-received a.self.now c.requires.0 none s,
      summed-given a.self.now c.requires.0 none s,
    )
