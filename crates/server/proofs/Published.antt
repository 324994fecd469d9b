-- The published restricted pairwise rule (source document 000) of a server's record: its transfers pass line 12 of Algorithm 4 or are refused, the quorums
-- on its ledger are Definition 1's, and its ledger has RP-Integrity (Definition 5).
use Prim.Native.Nat.{ℕ, ◌<◌}
use mathlib.Core.Path.{◌≡◌, sym, ap}
use mathlib.Core.Logic.{◌↔◌}
use mathlib.Core.Bool.{true}
use Rattle.config.proofs.Clusters.{lawful-valid}
use Rattle.quorums.specs.Published.{WeightedMajority, RpIntegrity, Line12}
use Rattle.quorums.proofs.Tests.{fails}
use Rattle.config.specs.Cluster.{total_of}
use Rattle.config.specs.Refusals.{refusal, granted}
use Rattle.ledger.specs.Ledgers.{count_of, accounts_of}
use Rattle.ledger.specs.Maps.{named}
use Rattle.ledger.specs.Weights.{weight_of, quorum_of}
use Rattle.ledger.specs.Changes.{lawful, most_count, spares}
use Rattle.ledger.proofs.Checks.{accepted-not-refused}
use Rattle.ledger.proofs.Published.{quorum-majority, integrity, gift-line}
use Rattle.server.specs.declared.record.Server.{Server}
use Rattle.server.specs.Servers.{fits, refused}
use Rattle.server.specs.Transfers.{transfer_of}
use Rattle.server.proofs.Transfers.{standing, transfer-done, transfer-unspared, transfer-cases}

-- what a server can spare is what line 12 lets through
pub spares-published : (s : Server) (d : ℕ)
    → (spares s.config s.replica.ledger s.number d ≡ true)
    ↔ Line12 s.config.n s.config.f (total_of s.config) (weight_of s.config s.replica.ledger s.number) d
unfolding spares
spares-published s d = gift-line s.config s.replica.ledger s.number d

-- Algorithm 4, line 12: a lawful transfer of a server whose count is not at its end is accepted exactly when the line lets it through.
pub transfer-published : (s : Server) (j d : ℕ) → fits s ≡ true → lawful s.config s.number j d ≡ true
    → count_of s.replica.ledger s.number < most_count
    → ((transfer_of s j d).verdict ≡ granted)
    ↔ Line12 s.config.n s.config.f (total_of s.config) (weight_of s.config s.replica.ledger s.number) d
transfer-published s j d e w h = (
  λ t. (spares-published s d).0 (told t),
  λ p. ap (λ r. r.verdict) (transfer-done s j d e (record { legal = w; counted = h; spared = (spares-published s d).1 p })),
)
  where
    told : (transfer_of s j d).verdict ≡ granted → spares s.config s.replica.ledger s.number d ≡ true
    told =
        transfer-cases (λ r. r.verdict ≡ granted → spares s.config s.replica.ledger s.number d ≡ true) s j d (λ f g t. g.spared)
        (λ k t. accepted-not-refused k (sym t))

-- One that the line does not let through is 10, and the record is as it was.
pub transfer-thin : (s : Server) (j d : ℕ) → fits s ≡ true → lawful s.config s.number j d ≡ true
    → count_of s.replica.ledger s.number < most_count
    → (Line12 s.config.n s.config.f (total_of s.config) (weight_of s.config s.replica.ledger s.number) d → ⊥)
    → transfer_of s j d ≡ refused (refusal 10) s
transfer-thin s j d e w h n =
    transfer-unspared s j d e w h ((fails (spares s.config s.replica.ledger s.number d) (spares-published s d)).1 n)

-- Definition 1: a quorum on the ledger is a set of more than half of the weight of all servers.
pub ledger-majority : (s : Server) (m : ℕ) → fits s ≡ true
    → (quorum_of s.config s.replica.ledger m ≡ true)
    ↔ WeightedMajority s.config.n (accounts_of s.config s.replica.ledger) (named m)
ledger-majority s m e = let t = standing s e in quorum-majority s.config s.replica.ledger m (lawful-valid s.config t.lawful-house) t.held.ledger-bounded

-- Definition 5, RP-Integrity: every weight on the ledger is above W / (2(n − f)).
pub ledger-integrity : (s : Server) → fits s ≡ true → RpIntegrity s.config.n s.config.f (accounts_of s.config s.replica.ledger)
ledger-integrity s e = integrity s.config s.replica.ledger (standing s e).held.ledger-above
