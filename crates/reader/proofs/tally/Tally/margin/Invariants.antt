-- `margin` meets its contract: after i turns both sides are the sums over the servers below i that the map names.
use Rattle.std.proofs.Common.{◌≤◌}
use Rattle.ledger.proofs.Weights.{Counted}
use Rattle.reader.proofs.tally.Tally.margin.Given as goal

abbrev pub invariant-loop-i : goal.invariant-loop-i
invariant-loop-i l = (l.config.n ≤ 16) × Counted l.config l.self.received l.self.given l.map l.i l.total l.held l.given
