-- The published restricted pairwise rule (source document 000) of a desk's record: the quorums on its ledger are Definition 1's, and its ledger has
-- RP-Integrity (Definition 5).
use Prim.Native.Nat.{ℕ}
use mathlib.Core.Path.{◌≡◌}
use mathlib.Core.Logic.{◌↔◌}
use mathlib.Core.Bool.{true}
use Rattle.config.proofs.Clusters.{lawful-valid}
use Rattle.quorums.specs.Published.{WeightedMajority, RpIntegrity}
use Rattle.ledger.specs.Ledgers.{accounts_of}
use Rattle.ledger.specs.Maps.{named}
use Rattle.ledger.specs.Weights.{quorum_of}
use Rattle.ledger.proofs.Published.{quorum-majority, integrity}
use Rattle.replica.proofs.Replicas.{Fits as Holds, fits_told as holds-told}
use Rattle.desk.specs.declared.record.Desk.{Desk}
use Rattle.desk.specs.Desks.{fits}
use Rattle.desk.proofs.Desks.{fits_told}

-- what the record test says of what the desk holds
held : (x : Desk) → fits x ≡ true → Holds x.config x.replica
held x e = holds-told x.config x.replica (fits_told x e).replica-fits

-- Definition 1: a quorum on the ledger is a set of more than half of the weight of all servers.
pub ledger-majority : (x : Desk) (m : ℕ) → fits x ≡ true
    → (quorum_of x.config x.replica.ledger m ≡ true)
    ↔ WeightedMajority x.config.n (accounts_of x.config x.replica.ledger) (named m)
ledger-majority x m e = let t = held x e in quorum-majority x.config x.replica.ledger m (lawful-valid x.config t.lawful) t.ledger-bounded

-- Definition 5, RP-Integrity: every weight on the ledger is above W / (2(n − f)).
pub ledger-integrity : (x : Desk) → fits x ≡ true → RpIntegrity x.config.n x.config.f (accounts_of x.config x.replica.ledger)
ledger-integrity x e = integrity x.config x.replica.ledger (held x e).ledger-above
