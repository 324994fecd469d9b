-- `of` meets its contract: the entries that were passed are in their places, none of them above 16,000, with zeros after them, and are added up.
use Rattle.config.proofs.Filled.{Gathered}
use Rattle.config.proofs.cluster.Config.of.Given as goal

abbrev pub invariant-loop-i : goal.invariant-loop-i
invariant-loop-i l = Gathered l.n l.starts l.kept l.total l.lowest l.i
