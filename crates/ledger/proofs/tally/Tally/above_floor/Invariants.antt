-- `above_floor` meets its contract: every server before i is above the floor.
use Rattle.std.proofs.Common.{◌≡◌, ◌≤◌, true}
use Rattle.quorums.specs.Sum.{all}
use Rattle.ledger.proofs.Weights.{above_at}
use Rattle.ledger.proofs.tally.Tally.above_floor.Given as goal

abbrev pub invariant-loop-i : goal.invariant-loop-i
invariant-loop-i l = (l.config.n ≤ 16) × (all l.i (above_at l.config l.self.received l.self.given) ≡ true)
