-- `lacks` meets its contract: the ledger has the transfers of every giver before i.
use Rattle.std.proofs.Common.{◌≡◌, true}
use Rattle.quorums.specs.Sum.{all}
use Rattle.ledger.specs.Joins.{has_at}
use Rattle.ledger.proofs.ledger.Ledger.lacks.Given as goal

abbrev pub invariant-loop-i : goal.invariant-loop-i
invariant-loop-i l = all l.i (has_at l.self l.other) ≡ true
