-- `compare` meets its contract: the first i rows agree, and `has` and `told` tell whether either ledger has the other's transfers in them.
use Rattle.std.proofs.Common.{◌≡◌, true}
use Rattle.quorums.specs.Sum.{all}
use Rattle.ledger.specs.Joins.{row_agrees_at, has_at}
use Rattle.ledger.proofs.ledger.Ledger.compare.Given as goal

abbrev pub invariant-loop-i : goal.invariant-loop-i
invariant-loop-i l =
    (all l.i (row_agrees_at l.self l.other) ≡ true) × (l.has ≡ all l.i (has_at l.self l.other)) × (l.told ≡ all l.i (has_at l.other l.self))
