-- `take` meets its contract: the counts before i are the larger ones, and the cells of the rows before i those of the later rows.
use Rattle.std.proofs.Common.{◌*◌}
use Rattle.ledger.specs.Joins.{larger_at, later_at}
use Rattle.ledger.proofs.Written.{Written}
use Rattle.ledger.proofs.ledger.Ledger.take.Given as goal

abbrev pub invariant-loop-i : goal.invariant-loop-i
invariant-loop-i l =
    Written 16 (larger_at l.initial.self l.other) l.initial.self.counts l.self.counts l.i
    × Written 256 (later_at l.initial.self l.other) l.initial.self.cells l.self.cells (l.i * 16)
