-- What stays true from the moment at which an operation A ended, with the tag of a, on the set S, by the answers of the quorum q. Its evidence is
-- that every server of q has held a tag of at least a since; so every later reply of such a server has one, and every later reply at all has its
-- sender's transfers of S. `rounds` are the rounds of the desks at that moment: a reply of a higher round was asked for, and served, after it.
use Prim.Native.Nat.{ℕ, ◌<◌}
use native.Mathlib.Omega.{arith}
use mathlib.Core.Path.{◌≡◌, refl, sym, ap, ◌∙◌, subst}
use mathlib.Core.Logic.{◌⊎◌, inl, inr, ⊎_elim}
use mathlib.Core.Bool.{Bool, true}
use mathlib.Core.List.{List, [], ◌∷◌, ◌++◌}
use Rattle.config.specs.declared.cluster.Config.{Config}
use Rattle.machine.specs.Sets.{Transfers}
use Rattle.machine.specs.Parties.{Register, Replica, join, request, reply, Message, Operation, Activity, idle, running, ended, Desk}
use Rattle.machine.specs.Runs.{Answer, done, wrote, after_desk, after_server, after_crash}
use Rattle.machine.specs.Calls.{accept, begun, request_of, restarted, moved_on, finished, marked, dropped, reply_to, given-away, served}
use Rattle.machine.specs.Steps.{Step}
use Rattle.machine.specs.Views.{◌≼◌}
use Rattle.machine.proofs.Lists.{In, in_either, in_one, nth_in}
use Rattle.machine.proofs.Outcomes.{Hearing, share_of}
use Rattle.machine.proofs.Tags.{tag-refl, tag-trans}
use Rattle.machine.proofs.Histories.{Gift, History, Closed, Good, ◌⊇◌}
use Rattle.machine.proofs.Closed.{AllOf, closed-more}
use Rattle.machine.proofs.Joins.{join-left, join-right, join-has-left, join-has-right}
use Rattle.machine.proofs.Replicas.{good_more}
use Rattle.machine.proofs.Moves.{PlainState, stepped, gift_by, gift_of, moved}
use Rattle.machine.proofs.Desks.{put-cases}
use Rattle.machine.proofs.Invariant.{Since, Invariant, own-whole}
use Rattle.machine.proofs.DesksKept.{kinds-apart}
use Rattle.machine.proofs.ServersKept.{with_server, since-kept}

-- Q, of the replies heard, while an operation runs
abbrev pub WhileRunning : (List Message → Type 0) → Activity → Type 0
WhileRunning Q idle = Unit
WhileRunning Q (running o) = Q o.heard
WhileRunning Q (ended y) = Unit

module _ (a : Register) (S : Transfers) (q : ℕ → Bool) (rounds : ℕ → ℕ) where
  -- the replica r, which server i knows, has i's transfers of S, and a tag of at least a if i is in q
  pub record Seen (i : ℕ) (r : Replica) : Type 0 where
    pub transfers : AllOf i S r.set
    pub tag : q i ≡ true → a ≼ r.register

  seen_more : (i : ℕ) (r y : Replica) → ◌⊇◌ y.set r.set → r.register ≼ y.register → Seen i r → Seen i y
  seen_more i r y p l s = record { transfers = λ t e f. p t (s.transfers t e f); tag = λ e. tag-trans a r.register y.register (s.tag e) l }

  pub record Following (h : History) (s : PlainState) : Type 0 where
    pub closed : Closed h S
    pub evidence : (i : ℕ) → q i ≡ true → Since h s.servers i S a
    pub replies : (m : Message) → In m s.sent → m.kind ≡ reply → rounds m.desk < m.round → Seen m.server m.replica
    pub desks : (d : ℕ) → rounds d < (s.desks d).round
        → WhileRunning (λ l. (m : Message) → In m l → Seen m.server (s.desks d).replica) (s.desks d).activity

  -- what a server holds is seen
  seen-now : {c : Config} {h : History} {s : PlainState} → Invariant c h s → Following h s → (i : ℕ) → Seen i (s.servers i)
  seen-now inv f i = record { transfers = own-whole inv f.closed i; tag = λ e. (f.evidence i e).now }

  -- ---- one desk changes, and requests are sent at most

  module _ {h : History} {s : PlainState} (f : Following h s) (d : ℕ) where
    desk-follows : (n : Answer) (y : Desk) (l : List Message) → ((m : Message) → In m l → m.kind ≡ request)
        → (rounds d < y.round → WhileRunning (λ k. (m : Message) → In m k → Seen m.server y.replica) y.activity)
        → Following h (after_desk s d (record { answer = n; party = y; sent = l }))
    desk-follows n y l asked here =
        record {
          closed = f.closed;
          evidence = f.evidence;
          replies = λ m i k g.
              ⊎_elim (λ (p : In m s.sent). f.replies m p k g)
              (λ (p : In m l). absurd (kinds-apart (sym (asked m p) ∙ k) (λ e. omega arith)))
              (in_either m s.sent l i);
          desks = λ e.
              put-cases (λ z. rounds e < z.round → WhileRunning (λ k. (m : Message) → In m k → Seen m.server z.replica) z.activity) s.desks d y e
              (λ g. subst (λ z. rounds z < y.round → WhileRunning (λ k. (m : Message) → In m k → Seen m.server y.replica) y.activity) (sym g) here)
              (λ g. f.desks e);
        }

    quiet : (y : Desk) → (rounds d < y.round → WhileRunning (λ k. (m : Message) → In m k → Seen m.server y.replica) y.activity)
        → Following h (after_desk s d (accept done y))
    quiet y here = desk-follows done y [] (λ m i. absurd i) here

    asks-follows : (n : Answer) (o : Operation) (i : ℕ)
        → Following h (after_desk s d (record { answer = n; party = s.desks d; sent = request_of d (s.desks d) o i ∷ [] }))
    asks-follows n o i =
        desk-follows n (s.desks d) (request_of d (s.desks d) o i ∷ [])
        (λ m p. subst (λ z. z.kind ≡ request) (sym (in_one m (request_of d (s.desks d) o i) p)) refl)
        (f.desks d)

    -- a reply of a later round is seen, and so is each heard before, in the joined replica
    pub heard-seen : (o : Operation) (m : Message) → In m s.sent → Hearing d (s.desks d) m o → rounds d < (s.desks d).round
        → (n : Message) → In n (m ∷ o.heard)
        → Seen n.server (join (s.desks d).replica m.replica)
    heard-seen o m at hearing l n i =
        let x = s.desks d in
        let running-now = subst (WhileRunning (λ k. (m : Message) → In m k → Seen m.server x.replica)) hearing.runs (f.desks d l) in
        ⊎_elim
        (λ (e : n ≡ m).
        subst (λ z. Seen z.server (join x.replica m.replica)) (sym e)
        (seen_more m.server m.replica _ (join-has-right x.replica m.replica) (join-right x.replica m.replica)
        (f.replies m at hearing.kind (subst (λ z. rounds z < m.round) (sym hearing.desk) (subst (λ z. rounds d < z) (sym hearing.round) l)))))
        (λ (e : In n o.heard).
        seen_more n.server x.replica _ (join-has-left x.replica m.replica) (join-left x.replica m.replica)
        (running-now n e))
        i

  -- ---- one server changes

  module _ {c : Config} {h : History} {s : PlainState} (inv : Invariant c h s) (f : Following h s) (i : ℕ) where
    server-follows : (k : History) → (good : (r : Replica) → Good h r → Good k r)
        → (gifts : (e : Gift) → In e k → In e h ⊎ (e.tag ≡ (s.servers e.transfer.giver).register))
        → Closed k S
        → (y : Replica) (l : List Message)
        → (s.servers i).register ≼ y.register
        → ((m : Message) → In m l → m.kind ≡ reply → Seen m.server m.replica)
        → Following k (with_server s i y l)
    server-follows k good gifts closed y l up told =
        record {
          closed = closed;
          evidence = λ j e. since-kept inv i k good gifts y up j S a (f.evidence j e);
          replies = λ m n e g.
              ⊎_elim (λ (p : In m s.sent). f.replies m p e g) (λ (p : In m l). told m p e) (in_either m s.sent l n);
          desks = f.desks;
        }

    same-history : (y : Replica) (l : List Message) → (s.servers i).register ≼ y.register
        → ((m : Message) → In m l → m.kind ≡ reply → Seen m.server m.replica)
        → Following h (with_server s i y l)
    same-history y l up told = server-follows h (λ r g. g) (λ e m. inl m) f.closed y l up told

    abbrev r : Replica
    r = s.servers i

    crashes-follows : Following h (after_crash s i)
    crashes-follows = record { closed = f.closed; evidence = f.evidence; replies = f.replies; desks = f.desks }

    shares-follows : (n : Answer) → Following h (after_server s i (record { answer = n; party = r; sent = share_of i r ∷ [] }))
    shares-follows n =
        same-history r (share_of i r ∷ []) (tag-refl r.register)
        (λ m p e. absurd (kinds-apart (sym (ap (λ z. z.kind) (in_one m (share_of i r) p)) ∙ e) (λ g. omega arith)))

    gives-follows : (j e : ℕ) → Following (gift_by r i j e ∷ h) (after_server s i (accept done (given-away r i j e)))
    gives-follows j e =
        server-follows (gift_by r i j e ∷ h) (good_more (gift_by r i j e) h)
        (λ x m. ⊎_elim (λ (p : x ≡ gift_by r i j e). inr (rw p refl)) (λ (p : In x h). inl p) m)
        (closed-more (gift_by r i j e) h S f.closed)
        (given-away r i j e)
        []
        (tag-refl r.register)
        (λ m n. absurd n)

    module _ (m : Message) where
      takes-follows : (n : Answer) → Following h (after_server s i (accept n (served r m)))
      takes-follows n = same-history (served r m) [] (join-left r m.replica) (λ m n. absurd n)

      replies-follows : (n : Answer)
          → Following h (after_server s i (record { answer = n; party = served r m; sent = reply_to m i (served r m) ∷ [] }))
      replies-follows n =
          same-history (served r m) (reply_to m i (served r m) ∷ []) (join-left r m.replica)
          (λ t p e.
          subst (λ z. Seen z.server z.replica) (sym (in_one t (reply_to m i (served r m)) p))
          (seen_more i r _ (join-has-left r m.replica) (join-left r m.replica) (seen-now inv f i)))

  -- ---- every step

  pub step_follows : (c : Config) (h : History) (s : PlainState) → Invariant c h s → Following h s → (st : Step)
      → Following (gift_of c s st ++ h) (stepped c s st).state
  step_follows c h s inv f st =
      moved c s (λ g z. Following (g ++ h) z.state) st
      (record {
        still = λ n e. f;
        tells = λ d y e at g. f;
        crashes = λ i e l. crashes-follows inv f i;
        gives = λ i j e p up g. gives-follows inv f i j e;
        shares = λ i place size n e up. shares-follows inv f i (wrote n);
        takes = λ i k place size m n e up g z. takes-follows inv f i m (wrote n);
        replies = λ i k place size m n e up g z y. replies-follows inv f i m (wrote n);
        begins = λ d t note e at l rests room. quiet f d (begun (s.desks d) t note) (λ g m i. absurd i);
        asks = λ d i place size o n e at g l. asks-follows f d (wrote n) o i;
        drops = λ d o e at g. quiet f d (dropped (s.desks d)) (λ z. tt);
        restarts = λ d k m o x i room. quiet f d (restarted (s.desks d) o m) (λ g n z. absurd z);
        marks = λ d k m o x i q.
            quiet f d (marked (s.desks d) o (join (s.desks d).replica m.replica) m)
            (λ g. heard-seen f d o m (nth_in s.sent k m x.sent) x.hearing g);
        chooses = λ d k m o x i z g room w. quiet f d (moved_on d (s.desks d) o (join (s.desks d).replica m.replica)) (λ e n y. absurd y);
        ends = λ d k m o g x i z w. quiet f d (finished (s.desks d) o (join (s.desks d).replica m.replica) g) (λ e. tt);
      })
