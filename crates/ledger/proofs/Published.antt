-- The published restricted pairwise rule (source document 000) of a ledger: quorums are Definition 1's, a ledger that is not light has RP-Integrity
-- (Definition 5), and what a server may give is what line 12 of Algorithm 4 lets through.
use Prim.Native.Nat.{ℕ}
use mathlib.Core.Path.{◌≡◌}
use mathlib.Core.Logic.{◌↔◌}
use mathlib.Core.Bool.{true}
use lib.IntN.{pos, ◌-ℤ◌}
use Rattle.quorums.specs.Accounts.{total}
use Rattle.quorums.specs.Published.{WeightedMajority, RpIntegrity, Line12}
use Rattle.quorums.proofs.Rule.{quorum-published, floor-published, gift-published}
use Rattle.config.specs.Cluster.{valid_of, total_of, above_of}
use Rattle.config.specs.declared.cluster.Config.{Config}
use Rattle.ledger.specs.declared.ledger.Ledger.{Ledger}
use Rattle.ledger.specs.Ledgers.{accounts_of}
use Rattle.ledger.specs.Maps.{named}
use Rattle.ledger.specs.Weights.{weight_of, quorum_of}
use Rattle.ledger.specs.Checks.{bounded, above_floor}
use Rattle.ledger.proofs.Totals.{received-given}
use Rattle.ledger.proofs.Majorities.{each-above}

-- Definition 1: on a ledger within bounds a quorum is a set of more than half of the weight of all servers.
pub quorum-majority : (c : Config) (l : Ledger) (m : ℕ) → valid_of c ≡ true → bounded c l ≡ true
    → (quorum_of c l m ≡ true) ↔ WeightedMajority c.n (accounts_of c l) (named m)
unfolding quorum_of
quorum-majority c l m v b = quorum-published c.n (accounts_of c l) (named m) (received-given c l v b)

-- Definition 5, RP-Integrity: every weight is above W / (2(n − f)).
pub integrity : (c : Config) (l : Ledger) → above_floor c l ≡ true → RpIntegrity c.n c.f (accounts_of c l)
unfolding total total_of above_of weight_of
integrity c l a = (floor-published c.n c.f (accounts_of c l)).0 (each-above c l a)

-- Algorithm 4, line 12: server i may give d when what it keeps is above the floor.
pub gift-line : (c : Config) (l : Ledger) (i d : ℕ) → (above_of c (weight_of c l i -ℤ pos d) ≡ true) ↔ Line12 c.n c.f (total_of c) (weight_of c l i) d
unfolding above_of weight_of
gift-line c l i d = gift-published c.n c.f (total_of c) (accounts_of c l) i d
