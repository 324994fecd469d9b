-- The published restricted pairwise rule (source document 000) of the sheet of a message that passes its checks: what is answered of a quorum is
-- Definition 1's, and the sheet has RP-Integrity (Definition 5).
use Rattle.std.specs.Prelude.{Ok}
use Prim.Native.Nat.{ℕ}
use mathlib.Core.Path.{◌≡◌, sym, ap, ◌∙◌}
use mathlib.Core.Logic.{◌↔◌}
use mathlib.Core.Bool.{Bool, true, false}
use mathlib.Core.List.{List}
use borrow.Author.Tests.{eqb-true}
use lib.Dec.{eqb}
use lib.IntN.{ℤ, pos}
use lib.Signed.{lt_z}
use Rattle.quorums.specs.Published.{WeightedMajority, RpIntegrity}
use Rattle.quorums.proofs.Tests.{chosen-first, fails}
use Rattle.config.specs.declared.cluster.Config.{Config}
use Rattle.config.specs.Refusals.{Signed}
use Rattle.ledger.specs.Ledgers.{accounts_of}
use Rattle.ledger.specs.Maps.{named, map_of}
use Rattle.ledger.specs.Weights.{margin_of, quorum_of}
use Rattle.config.proofs.Clusters.{lawful-valid}
use Rattle.ledger.proofs.Answers.{signed-not-refused, quorum-margin, quorum-number, told-quorum}
use Rattle.ledger.proofs.Published.{quorum-majority, integrity}
use Rattle.message.specs.Answers.{check, receive_of}
use Rattle.message.proofs.Rounds.{check-told}
use Rattle.message.proofs.Bounds.{passed-bounded, passed-above}
use Rattle.reader.specs.Weighings.{quorum_in}

-- a number is told, and its sign: whether it is above zero
pub record Tells (s : Signed) (sign : Bool) : Type 0 where
  pub number : ℤ
  pub told : s ≡ Ok number
  pub above_zero : lt_z (pos 0) number ≡ sign

-- the number is told of a message that passes and a map of the cluster, and its sign is what the sheet decides
quorum-told : (c : Config) (map : ℕ) (msg : List ℕ) (b : Bool)
    → Tells (quorum_in c map msg) b
    ↔ ((check c msg ≡ 0) × (map_of c map ≡ true) × (quorum_of c (receive_of c msg).replica.ledger map ≡ b))
unfolding quorum_in
quorum-told c map msg b = (
  λ t.
      let passes = chosen-first (eqb (check c msg) 0) _ _ _ (λ d. signed-not-refused _ _ (sym d)) t.told in
      let is = quorum-number c (receive_of c msg).replica.ledger map _ passes.1 in
      (eqb-true _ _ passes.0, is.0, quorum-margin c _ map ∙ ap (lt_z (pos 0)) (sym is.2) ∙ t.above_zero),
  λ t.
      record {
        number = margin_of c (receive_of c msg).replica.ledger map;
        told = simp t.0 (told-quorum c (receive_of c msg).replica.ledger map t.1 (check-told c msg t.0).0);
        above_zero = sym (quorum-margin c _ map) ∙ t.2;
      },
)

-- the sheet decides by Definition 1
sheet-majority : (c : Config) (map : ℕ) (msg : List ℕ) → check c msg ≡ 0
    → (quorum_of c (receive_of c msg).replica.ledger map ≡ true) ↔ WeightedMajority c.n (accounts_of c (receive_of c msg).replica.ledger) (named map)
sheet-majority c map msg e = quorum-majority c (receive_of c msg).replica.ledger map (lawful-valid c (check-told c msg e).0) (passed-bounded c msg e)

-- Definition 1: the number is above zero of a set of more than half of the weight of all servers,
pub quorum-above : (c : Config) (map : ℕ) (msg : List ℕ)
    → Tells (quorum_in c map msg) true
    ↔ ((check c msg ≡ 0) × (map_of c map ≡ true) × WeightedMajority c.n (accounts_of c (receive_of c msg).replica.ledger) (named map))
quorum-above c map msg = (
  λ e. let t = (quorum-told c map msg true).0 e in (t.0, t.1, (sheet-majority c map msg t.0).0 t.2),
  λ t. (quorum-told c map msg true).1 (t.0, t.1, (sheet-majority c map msg t.0).1 t.2),
)

-- and zero or below of every other set of servers.
pub quorum-not-above : (c : Config) (map : ℕ) (msg : List ℕ)
    → Tells (quorum_in c map msg) false
    ↔ ((check c msg ≡ 0) × (map_of c map ≡ true) × (WeightedMajority c.n (accounts_of c (receive_of c msg).replica.ledger) (named map) → ⊥))
quorum-not-above c map msg = (
  λ e. let t = (quorum-told c map msg false).0 e in (t.0, t.1, (fails _ (sheet-majority c map msg t.0)).0 t.2),
  λ t. (quorum-told c map msg false).1 (t.0, t.1, (fails _ (sheet-majority c map msg t.0)).1 t.2),
)

-- Definition 5, RP-Integrity: every weight on the sheet is above W / (2(n − f)).
pub sheet-integrity : (c : Config) (msg : List ℕ) → check c msg ≡ 0 → RpIntegrity c.n c.f (accounts_of c (receive_of c msg).replica.ledger)
sheet-integrity c msg e = integrity c (receive_of c msg).replica.ledger (passed-above c msg e)
