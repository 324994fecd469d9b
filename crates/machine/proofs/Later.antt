-- An operation that chooses after A ended, by replies that were asked for after that, finds a tag no lower than A's. Either its set has a transfer
-- that a server of A's quorum made after A, and then it carries that server's tag; or the two quorums share a server (question four), whose reply
-- brought its tag.
use Prim.Native.Nat.{ℕ, ◌<◌}
use mathlib.Core.Path.{◌≡◌, refl, sym, ap}
use mathlib.Core.Logic.{inl, inr, ⊎_elim}
use mathlib.Core.Bool.{Bool, true, false, cond, false≢true}
use mathlib.Core.List.{List, [], ◌∷◌}
use borrow.Author.Tests.{eqb-true}
use lib.Dec.{eqb}
use Rattle.quorums.proofs.Meeting.{Shared}
use Rattle.config.specs.Cluster.{lawful_of}
use Rattle.config.specs.declared.cluster.Config.{Config}
use Rattle.machine.specs.Sets.{Transfer, Transfers, has, quorum_of}
use Rattle.machine.specs.Parties.{Register, Replica, join, Message, Operation, answered}
use Rattle.machine.specs.Views.{◌≼◌}
use Rattle.machine.proofs.Moves.{PlainState}
use Rattle.machine.proofs.Lists.{In}
use Rattle.machine.proofs.Outcomes.{Hearing}
use Rattle.machine.proofs.Tags.{tag-trans}
use Rattle.machine.proofs.Sets.{Fails, all-or-one}
use Rattle.machine.proofs.Histories.{History, Good}
use Rattle.machine.proofs.QuestionFour.{quorums-share}
use Rattle.machine.proofs.Replicas.{good-join}
use Rattle.machine.proofs.Invariant.{Invariant}
use Rattle.machine.proofs.GiftsKept.{started}
use Rattle.machine.proofs.Following.{Seen, Following, heard-seen}

-- a server that answered has a reply among those heard
pub record Replied (l : List Message) (i : ℕ) : Type 0 where
  pub message : Message
  pub heard : In message l
  pub server : message.server ≡ i

pub answered-replied : (l : List Message) (i : ℕ) → answered l i ≡ true → Replied l i
unfolding answered
answered-replied [] i e = absurd (false≢true e)
answered-replied (m ∷ l) i e = by-test (eqb m.server i) refl e (answered-replied l i)
  where
    by-test : (t : Bool) → eqb m.server i ≡ t → cond t true (answered l i) ≡ true → (answered l i ≡ true → Replied l i) → Replied (m ∷ l) i
    by-test true f g rest = record { message = m; heard = inl refl; server = eqb-true m.server i f }
    by-test false f g rest = let y = rest g in record { message = y.message; heard = inr y.heard; server = y.server }

module _ (c : Config) (lawful : lawful_of c ≡ true) {h : History} {s : PlainState} (inv : Invariant c h s) (a : Register) (S : Transfers) (q : ℕ → Bool)
    (rounds : ℕ → ℕ) (f : Following a S q rounds h s) (quorum : quorum_of c S q ≡ true) where
  -- a transfer of p's set that a server of q made after A, or none
  module _ (p : Replica) (good : Good h p) (l : List Message) (seen : (m : Message) → In m l → Seen a S q rounds m.server p)
      (on : quorum_of c p.set (answered l) ≡ true) where
    later-transfer : (t : Transfer) → has p.set t ≡ true → q t.giver ≡ true → has S t ≡ false → a ≼ p.register
    later-transfer t e g n =
        let k = good.carried t e in
        tag-trans a k.gift.tag p.register
        ((f.evidence t.giver g).later k.gift k.made (ap (λ z. z.giver) k.transfer) (rw k.transfer n))
        k.tag

    shared-server : ((t : Transfer) → has p.set t ≡ true → q t.giver ≡ true → has S t ≡ true) → a ≼ p.register
    unfolding quorum_of
    shared-server none =
        let both-have : Shared c.n q (answered l) =
        quorums-share inv.lawful (started c lawful) f.closed good.closed q (answered l) none
        (λ t e g.
        let y = answered-replied l t.giver g in
        (seen y.message y.heard).transfers t e (sym y.server))
        quorum
        on in
        let y = answered-replied l both-have.at both-have.right in
        (seen y.message y.heard).tag (rw y.server both-have.left)

    pub no_lower : a ≼ p.register
    no_lower =
        ⊎_elim
        (λ (all : (t : Transfer) → has p.set t ≡ true → cond (q t.giver) (has S t) true ≡ true).
        shared-server (λ t e g. rw g at (all t e)))
        (λ (x : Fails (λ t. cond (q t.giver) (has S t) true) p.set). one x (q x.one.giver) refl x.failed)
        (all-or-one (λ t. cond (q t.giver) (has S t) true) p.set)
      where
        one : (x : Fails (λ t. cond (q t.giver) (has S t) true) p.set) (b : Bool) → q x.one.giver ≡ b → cond b (has S x.one) true ≡ false
            → a ≼ p.register
        one x true e n = later-transfer x.one x.there e n
        one x false e n = absurd (false≢true (sym n))

  -- the choice of desk d, which hears m, in a round that began after A ended
  pub later-choice : (d : ℕ) (o : Operation) (m : Message) → In m s.sent → Hearing d (s.desks d) m o → rounds d < (s.desks d).round
      → quorum_of c (join (s.desks d).replica m.replica).set (answered (m ∷ o.heard)) ≡ true
      → a ≼ (join (s.desks d).replica m.replica).register
  later-choice d o m at hearing l on =
      no_lower (join (s.desks d).replica m.replica) (good-join h (s.desks d).replica m.replica (inv.desks d) (inv.messages m at))
      (m ∷ o.heard)
      (heard-seen a S q rounds f d o m at hearing l)
      on
