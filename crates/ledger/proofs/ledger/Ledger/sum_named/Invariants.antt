-- `sum_named` meets its contract: before turn i the servers below i that the map names are in the tally.
use Rattle.std.proofs.Common.{◌≤◌}
use Rattle.ledger.specs.Ledgers.{received_of, given_of}
use Rattle.ledger.specs.Sums.{Covers, Sums}
use Rattle.ledger.proofs.ledger.Ledger.sum_named.Given as goal

abbrev pub invariant-loop-i : goal.invariant-loop-i
invariant-loop-i l =
    let t = l.tally in
    (l.n ≤ 16) × Covers l.i l.map (received_of l.self) t.received × Covers l.i l.map (given_of l.self) t.given × Sums 68719476720 t.received × Sums 68719476720 t.given
