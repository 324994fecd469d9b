-- What desk staff see (paper 02, N1: "How much weight is still missing"). To ask for it is no step of a run, and no clause of demand 3 speaks of it.
use Rattle.std.specs.Prelude.{ℕ, Bool, ℤ}
use Rattle.std.proofs.Math.Option.{Option, none, some}
use Rattle.quorums.specs.Accounts.{margin}
use Rattle.config.specs.declared.cluster.Config.{Config}
use Rattle.machine.specs.Sets.{Transfers, accounts}
use Rattle.machine.specs.Parties.{if-running, Desk, answered}

-- twice the weight of the servers in q, less W
unfoldable pub margin_of : Config → Transfers → (ℕ → Bool) → ℤ
margin_of c a q = margin c.n (accounts c a) q

-- while an operation runs, the margin of the servers heard in this round on the desk's own set
unfoldable pub margin_by : Config → Desk → Option ℤ
margin_by c x = if-running x.activity (λ o. some (margin_of c x.replica.set (answered o.heard))) none
