-- `joins` meets its contract: every row before i agrees.
use Rattle.std.proofs.Common.{◌≡◌, ◌+◌, ◌*◌, true}
use Rattle.quorums.specs.Sum.{all}
use Rattle.ledger.specs.Joins.{agree_at}
use Rattle.ledger.proofs.ledger.Ledger.joins.Given as goal

abbrev pub invariant-loop-i : goal.invariant-loop-i
invariant-loop-i l = all l.i (λ r. all 16 (λ j. agree_at l.self l.other (r * 16 + j))) ≡ true
