-- `add_rows` meets its contract: after i turns the first i rows are summed.
use Prim.Native.Nat.{◌≤◌}
use Rattle.ledger.proofs.Summed.{Summed}
use Rattle.ledger.proofs.ledger.Ledger.add_rows.Given as goal

abbrev pub invariant-loop-i : goal.invariant-loop-i
invariant-loop-i l = (l.n ≤ 16) × Summed l.self l.initial.tally.given l.received l.tally.given l.faults l.i
