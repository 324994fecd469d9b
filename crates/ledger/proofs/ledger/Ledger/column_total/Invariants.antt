-- `column_total` meets its contract: the total is that of the cells that have been looked at.
use Rattle.std.proofs.Common.{◌≡◌, ◌*◌, ◌≤◌, ◌<◌}
use Rattle.quorums.specs.Sum.{sum}
use Rattle.ledger.specs.Ledgers.{cell_of}
use Rattle.ledger.proofs.ledger.Ledger.column_total.Given as goal

abbrev pub invariant-loop-j : goal.invariant-loop-j
invariant-loop-j l = (l.i < 16) × (l.total ≡ sum l.j (λ k. cell_of l.self k l.i)) × (l.total ≤ l.j * 4294967295)
