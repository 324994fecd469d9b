-- `left_over` meets its contract: before turn i the rest is what there is from n to i.
use Prim.Native.Nat.{◌*◌, ◌≤◌}
use mathlib.Core.Path.{◌≡◌}
use Rattle.quorums.specs.Sum.{sum}
use Rattle.ledger.specs.Sums.{beyond_from}
use Rattle.ledger.proofs.ledger.Ledger.left_over.Given as goal

abbrev pub invariant-loop-i : goal.invariant-loop-i
invariant-loop-i l = (l.rest ≡ sum l.i (beyond_from l.n l.self)) × (l.rest ≤ l.i * 137439018975)
