-- `kept` meets its contract: the entries that were passed are in their places, none of them above 16,000, and there are zeros after them.
use Rattle.config.proofs.Filled.{Filled}
use Rattle.config.proofs.list.kept.Given as goal

abbrev pub invariant-loop-i : goal.invariant-loop-i
invariant-loop-i l = Filled l.n l.starts l.kept l.i
