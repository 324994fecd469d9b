-- The steps of servers keep the invariant: a server's register only rises and its set only grows, and what it sends is what it then holds.
use Prim.Native.Nat.{ℕ, ◌≤◌}
use native.Mathlib.Omega.{arith}
use mathlib.Core.Path.{◌≡◌, refl, sym, ◌∙◌, subst}
use mathlib.Core.Logic.{◌⊎◌, inl, ⊎_elim}
use mathlib.Core.Bool.{true}
use mathlib.Core.List.{List, [], ◌∷◌, ◌++◌}
use Rattle.config.specs.Cluster.{start_of}
use Rattle.config.specs.declared.cluster.Config.{Config}
use Rattle.machine.specs.Sets.{Transfers, has}
use Rattle.machine.specs.Parties.{Register, Replica, request, reply, share, Message}
use Rattle.machine.specs.Runs.{Answer, after_server, after_crash, put}
use Rattle.machine.specs.Calls.{accept, reply_to, served}
use Rattle.machine.specs.Views.{◌≼◌}
use Rattle.machine.proofs.Moves.{PlainState}
use Rattle.machine.proofs.Lists.{In, in_either, in_one, each_append}
use Rattle.machine.proofs.Outcomes.{share_of}
use Rattle.machine.proofs.Tags.{tag-refl, tag-trans}
use Rattle.machine.proofs.Histories.{Gift, History, Lawfully, Good, ◌⊇◌}
use Rattle.machine.proofs.Joins.{join-left, join-right, join-has-left}
use Rattle.machine.proofs.Replicas.{good-join}
use Rattle.machine.proofs.Desks.{put-cases}
use Rattle.machine.proofs.Invariant.{Since, Invariant, while-second}
use Rattle.machine.proofs.DesksKept.{kinds-apart}

-- server i holds y, and the messages l were sent
abbrev pub with_server : PlainState → ℕ → Replica → List Message → PlainState
with_server s i y l = record { servers = put s.servers i y; crashed = s.crashed; desks = s.desks; sent = s.sent ++ l }

-- what a server may send
pub record Sendable (h : History) (s : PlainState) (servers : ℕ → Replica) (m : Message) : Type 0 where
  pub good : Good h m.replica
  pub since : m.kind ≡ reply → Since h servers m.server m.replica.set m.replica.register
  pub round : m.round ≤ (s.desks m.desk).round
  -- a message that is no share has a tag of at least g, where all those of its desk and round have
  pub follows : (g : Register) → (m.kind ≡ share → ⊥)
      → ((q : Message) → In q s.sent → (q.kind ≡ share → ⊥) → q.desk ≡ m.desk → q.round ≡ m.round → g ≼ q.replica.register)
      → g ≼ m.replica.register

module _ {c : Config} {h : History} {s : PlainState} (inv : Invariant c h s) (i : ℕ) where
  -- one server changes, and the history may grow to k by transfers that it makes
  module _ (k : History) (good : (r : Replica) → Good h r → Good k r)
      (gifts : (e : Gift) → In e k → In e h ⊎ (e.tag ≡ (s.servers e.transfer.giver).register))
      (y : Replica) (up : (s.servers i).register ≼ y.register) where
    abbrev servers : ℕ → Replica
    servers = put s.servers i y

    rises : (j : ℕ) → (s.servers j).register ≼ (servers j).register
    rises j =
        put-cases (λ z. (s.servers j).register ≼ z.register) s.servers i _ j
        (λ e. subst (λ z. (s.servers z).register ≼ y.register) (sym e) up)
        (λ e. tag-refl (s.servers j).register)

    pub since-kept : (j : ℕ) (a : Transfers) (g : Register) → Since h s.servers j a g → Since k servers j a g
    since-kept j a g q =
        record {
          now = tag-trans g _ _ q.now (rises j);
          later = λ e m f l.
              ⊎_elim (λ (p : In e h). q.later e p f l)
              (λ (p : e.tag ≡ (s.servers e.transfer.giver).register).
              subst (λ z. g ≼ z) (sym p) (subst (λ z. g ≼ (s.servers z).register) (sym f) q.now))
              (gifts e m);
        }

    pub server-kept : (l : List Message) → Lawfully c.n c.f (start_of c) k → Good k y
        → ((g : Gift) → In g k → has (servers g.transfer.giver).set g.transfer ≡ true)
        → ((m : Message) → In m l → Sendable k s servers m)
        → Invariant c k (with_server s i y l)
    server-kept l law whole own told =
        record {
          lawful = law;
          own = own;
          servers = λ j. put-cases (Good k) s.servers i _ j (λ e. whole) (λ e. good _ (inv.servers j));
          desks = λ d. good _ (inv.desks d);
          messages = each_append (λ m. Good k m.replica) s.sent l (λ m p. good _ (inv.messages m p)) (λ m p. (told m p).good);
          since = λ m n e.
              ⊎_elim (λ (p : In m s.sent). since-kept _ _ _ (inv.since m p e)) (λ (p : In m l). (told m p).since e) (in_either m s.sent l n);
          rounds = each_append (λ m. m.round ≤ (s.desks m.desk).round) s.sent l inv.rounds (λ m p. (told m p).round);
          spreading = λ d.
              while-second _ _ (s.desks d).activity
              (λ g z q.
              record {
                held = q.held;
                answered = λ m n. since-kept _ _ g (q.answered m n);
                current = λ m n ns e f.
                    ⊎_elim (λ (p : In m s.sent). q.current m p ns e f)
                    (λ (p : In m l). (told m p).follows g ns (λ t at nt dd rr. q.current t at nt (dd ∙ e) (rr ∙ f)))
                    (in_either m s.sent l n);
              })
              (inv.spreading d);
        }

  abbrev r : Replica
  r = s.servers i

  -- ---- no transfer is made

  joined : (y : Replica) (l : List Message) → Good h y → r.register ≼ y.register → ◌⊇◌ y.set r.set
      → ((m : Message) → In m l → Sendable h s (put s.servers i y) m)
      → Invariant c h (with_server s i y l)
  joined y l whole up more told =
      server-kept h (λ z q. q) (λ e m. inl m) y up l inv.lawful whole
      (λ g m.
      put-cases (λ z. has z.set g.transfer ≡ true) s.servers i _ g.transfer.giver
      (λ e. more g.transfer (subst (λ z. has (s.servers z).set g.transfer ≡ true) e (inv.own g m)))
      (λ e. inv.own g m))
      told

  pub crashes-kept : Invariant c h (after_crash s i)
  crashes-kept =
      record {
        lawful = inv.lawful;
        own = inv.own;
        servers = inv.servers;
        desks = inv.desks;
        messages = inv.messages;
        since = inv.since;
        rounds = inv.rounds;
        spreading = inv.spreading;
      }

  pub shares-kept : (a : Answer) → Invariant c h (after_server s i (record { answer = a; party = r; sent = share_of i r ∷ [] }))
  shares-kept a =
      joined r (share_of i r ∷ []) (inv.servers i) (tag-refl r.register) (λ t e. e)
      (λ m n.
      subst (Sendable h s _) (sym (in_one m (share_of i r) n))
      (record {
        good = inv.servers i;
        since = λ e. absurd (kinds-apart e (λ f. omega arith));
        round = omega arith;
        follows = λ g ns q. absurd (ns refl);
      }))

  module _ (m : Message) (at : In m s.sent) where
    abbrev p : Replica
    p = served r m

    -- the register of what was served is no higher than the one held then
    no-higher : m.replica.register ≼ p.register
    no-higher = join-right r m.replica

    good : Good h p
    good = good-join h r m.replica (inv.servers i) (inv.messages m at)

    pub takes-kept : (a : Answer) → Invariant c h (after_server s i (accept a p))
    takes-kept a = joined p [] good (join-left r m.replica) (join-has-left r m.replica) (λ m n. absurd n)

    pub replies-kept : (a : Answer) → m.kind ≡ request → Invariant c h (after_server s i (record { answer = a; party = p; sent = reply_to m i p ∷ [] }))
    replies-kept a k =
        joined p (reply_to m i p ∷ []) good (join-left r m.replica) (join-has-left r m.replica)
        (λ n e.
        subst (Sendable h s _) (sym (in_one n (reply_to m i p) e))
        (record {
          good = good;
          since = λ f. own-since;
          round = inv.rounds m at;
          follows = λ g ns q.
              tag-trans g m.replica.register p.register
              (q m at (λ z. kinds-apart (sym k ∙ z) (λ f. omega arith)) refl refl)
              no-higher;
        }))
      where
        -- a server's own transfers are all in what it then holds
        own-since : Since h (put s.servers i p) i p.set p.register
        own-since =
            record {
              now = put-cases (λ z. p.register ≼ z.register) s.servers i _ i (λ e. tag-refl p.register) (λ e. absurd (e refl));
              later = λ e n f l.
                  let held : has p.set e.transfer ≡ true =
                  join-has-left r m.replica e.transfer (subst (λ z. has (s.servers z).set e.transfer ≡ true) f (inv.own e n)) in
                  let z : ◌≡◌ {A = ℕ} 0 1 = cc in absurd (omega arith);
            }
