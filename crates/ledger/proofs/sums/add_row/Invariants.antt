-- `add_row` meets its contract: after j turns the first j cells are added.
use lib.ListN.{get_or}
use Rattle.ledger.proofs.Tallies.{Tallied}
use Rattle.ledger.proofs.sums.add_row.Given as goal

abbrev pub invariant-loop-j : goal.invariant-loop-j
invariant-loop-j l = Tallied (λ k. get_or l.row k 0) l.initial.sums l.sums l.j
