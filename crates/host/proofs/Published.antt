-- The published restricted pairwise rule (source document 000) in the number that `tovridsa_quorum` gives a C host.
use Rattle.std.specs.Prelude.{Ok, Err}
use Prim.Native.Nat.{ℕ}
use mathlib.Core.Path.{◌≡◌, refl, sym, ap, ◌∙◌}
use mathlib.Core.Logic.{◌↔◌}
use mathlib.Core.Bool.{true, false≢true}
use mathlib.Core.List.{List}
use lib.IntN.{pos}
use lib.Signed.{lt_z}
use Rattle.quorums.specs.Published.{WeightedMajority}
use Rattle.config.specs.declared.cluster.Config.{Config}
use Rattle.config.specs.Refusals.{Signed}
use Rattle.ledger.specs.Ledgers.{accounts_of}
use Rattle.ledger.specs.Maps.{named, map_of}
use Rattle.ledger.proofs.Answers.{signed-not-refused}
use Rattle.message.specs.Answers.{check, receive_of}
use Rattle.reader.specs.Weighings.{quorum_in}
use Rattle.reader.proofs.Published.{Tells, quorum-above}
use Rattle.host.specs.Codes.{signed_code, quorum_code}
use Rattle.host.proofs.Apart.{refusal_is}

-- only a number that is told has a code above 0
above-told : (s : Signed) → (lt_z (pos 0) (signed_code s) ≡ true) ↔ Tells s true
above-told (Ok y) = (λ e. record { number = y; told = refl; above_zero = e }, λ t. let same : y ≡ t.number = cc t.told in ap (lt_z (pos 0)) same ∙ t.above_zero)
above-told (Err r) = (λ e. absurd (false≢true (ap (lt_z (pos 0)) (sym (refusal_is r)) ∙ e)), λ t. absurd (signed-not-refused _ _ (sym t.told)))

-- Definition 1: the number is above 0 for a message that passes its checks and a set of servers that has more than half of the weight of all on its sheet,
-- and for no other.
pub quorum-code : (c : Config) (map : ℕ) (msg : List ℕ)
    → (lt_z (pos 0) (quorum_code c map msg) ≡ true)
    ↔ ((check c msg ≡ 0) × (map_of c map ≡ true) × WeightedMajority c.n (accounts_of c (receive_of c msg).replica.ledger) (named map))
unfolding quorum_code
quorum-code c map msg =
    let told = above-told (quorum_in c map msg) in
    let rule = quorum-above c map msg in
    (λ e. rule.0 (told.0 e), λ t. told.1 (rule.1 t))
