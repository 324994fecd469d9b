-- The steps of desks keep the invariant: they change one desk, make no transfer, and send requests at most.
use Prim.Native.Nat.{ℕ, suc, ◌≤◌}
use native.Mathlib.Omega.{arith}
use mathlib.Core.Path.{◌≡◌, refl, sym, ap, ◌∙◌, subst}
use mathlib.Core.Logic.{⊎_elim}
use mathlib.Core.List.{List, [], ◌∷◌, ◌++◌}
use Rattle.quorums.proofs.Tests.{test-false}
use Rattle.config.specs.declared.cluster.Config.{Config}
use Rattle.machine.specs.Sets.{Transfers, has}
use Rattle.machine.specs.Parties.{Register, Replica, join, Kind, request, Message, kind_number, Task, Operation, Desk}
use Rattle.machine.specs.Runs.{Answer, done, after_desk}
use Rattle.machine.specs.Calls.{accept, begun, request_of, restarted, moved_on, chosen, finished, marked, dropped}
use Rattle.machine.specs.Views.{◌≼◌}
use Rattle.machine.proofs.Moves.{PlainState}
use Rattle.machine.proofs.Lists.{In, in_either, in_one, each_append}
use Rattle.machine.proofs.Outcomes.{Hearing}
use Rattle.machine.proofs.Tags.{tag-refl, tag-trans, chosen-above}
use Rattle.machine.proofs.Histories.{History, Good, ◌⊇◌}
use Rattle.machine.proofs.Joins.{join-left, join-has-left, join-has-right}
use Rattle.machine.proofs.Replicas.{good-join, good-higher}
use Rattle.machine.proofs.Desks.{put-cases}
use Rattle.machine.proofs.Invariant.{Since, Spreading, InSecond, WhileSecond, Invariant, in-second, while-second, of-running}

-- ---- kinds are different

pub kinds-apart : {a b : Kind} → a ≡ b → (kind_number a ≡ kind_number b → ⊥) → ⊥
kinds-apart e f = f (ap kind_number e)

-- ---- Since, of more transfers and of a lower tag

pub since-more : (h : History) (servers : ℕ → Replica) (i : ℕ) (a b : Transfers) (g : Register) → ◌⊇◌ b a → Since h servers i a g → Since h servers i b g
since-more h servers i a b g p q =
    record {
      now = q.now;
      later = λ e m s f.
          q.later e m s (test-false (has a e.transfer) (λ t. let u = p e.transfer t in let z : ◌≡◌ {A = ℕ} 0 1 = cc in omega arith));
    }

pub since-lower : (h : History) (servers : ℕ → Replica) (i : ℕ) (a : Transfers) (g b : Register) → b ≼ g → Since h servers i a g → Since h servers i a b
since-lower h servers i a g b p q =
    record { now = tag-trans b g _ p q.now; later = λ e m s f. tag-trans b g e.tag p (q.later e m s f) }

-- ---- one desk changes

pub record Requested (h : History) (d : ℕ) (x : Desk) (m : Message) : Type 0 where
  pub good : Good h m.replica
  pub kind : m.kind ≡ request
  pub desk : m.desk ≡ d
  pub round : m.round ≡ x.round

module _ {c : Config} {h : History} {s : PlainState} (inv : Invariant c h s) (d : ℕ) where
  desk-kept : (a : Answer) (y : Desk) (l : List Message) → Good h y.replica → (s.desks d).round ≤ y.round
      → ((m : Message) → In m l → Requested h d y m)
      → WhileSecond (Spreading h s.servers (s.sent ++ l) d y) y.activity
      → Invariant c h (after_desk s d (record { answer = a; party = y; sent = l }))
  desk-kept a y l good up asked phase =
      record {
        lawful = inv.lawful;
        own = inv.own;
        servers = inv.servers;
        desks = λ e. put-cases (λ z. Good h z.replica) s.desks d y e (λ q. good) (λ q. inv.desks e);
        messages = each_append (λ m. Good h m.replica) s.sent l inv.messages (λ m p. (asked m p).good);
        since = λ m i k.
            ⊎_elim (λ (p : In m s.sent). inv.since m p k)
            (λ (p : In m l). absurd (kinds-apart (sym (asked m p).kind ∙ k) (λ e. omega arith)))
            (in_either m s.sent l i);
        rounds = λ m i.
            put-cases (λ z. m.round ≤ z.round) s.desks d y m.desk
            (λ q.
            ⊎_elim (λ (p : In m s.sent). omega (arith, rw q at (inv.rounds m p), up))
            (λ (p : In m l). omega (arith, (asked m p).round))
            (in_either m s.sent l i))
            (λ q.
            ⊎_elim (λ (p : In m s.sent). inv.rounds m p) (λ (p : In m l). absurd (q (asked m p).desk)) (in_either m s.sent l i));
        spreading = λ e.
            put-cases (λ z. WhileSecond (Spreading h s.servers (s.sent ++ l) e z) z.activity) s.desks d y e
            (λ q. subst (λ z. WhileSecond (Spreading h s.servers (s.sent ++ l) z y) y.activity) (sym q) phase)
            (λ q. while-second _ _ (s.desks e).activity (λ g k. others e q g k) (inv.spreading e));
      }
    where
      others : (e : ℕ) → (e ≡ d → ⊥) → (g : Register) (k : List Message) → Spreading h s.servers s.sent e (s.desks e) g k
          → Spreading h s.servers (s.sent ++ l) e (s.desks e) g k
      others e ne g k q =
          record {
            held = q.held;
            answered = q.answered;
            current = λ m i k o r.
                ⊎_elim (λ (p : In m s.sent). q.current m p k o r) (λ (p : In m l). absurd (ne (sym o ∙ (asked m p).desk))) (in_either m s.sent l i);
          }

  abbrev x : Desk
  x = s.desks d

  -- a call that sends nothing
  quiet : (y : Desk) → Good h y.replica → x.round ≤ y.round → WhileSecond (Spreading h s.servers (s.sent ++ []) d y) y.activity
      → Invariant c h (after_desk s d (accept done y))
  quiet y good up phase = desk-kept done y [] good up (λ m i. absurd i) phase

  sent-before : (m : Message) → In m (s.sent ++ []) → In m s.sent
  sent-before = each_append (λ m. In m s.sent) s.sent [] (λ m i. i) (λ m i. absurd i)

  pub begins-kept : (t : Task) (note : ℕ) → Invariant c h (after_desk s d (accept done (begun x t note)))
  begins-kept t note = quiet (begun x t note) (inv.desks d) (omega arith) tt

  pub drops-kept : Invariant c h (after_desk s d (accept done (dropped x)))
  drops-kept = quiet (dropped x) (inv.desks d) (omega arith) tt

  pub asks-kept : (a : Answer) (o : Operation) (i : ℕ)
      → Invariant c h (after_desk s d (record { answer = a; party = x; sent = request_of d x o i ∷ [] }))
  asks-kept a o i =
      desk-kept a x (request_of d x o i ∷ []) (inv.desks d) (omega arith)
      (λ m p.
      subst (Requested h d x) (sym (in_one m (request_of d x o i) p)) (record { good = inv.desks d; kind = refl; desk = refl; round = refl }))
      (while-second _ _ x.activity
      (λ g l q.
      record {
        held = q.held;
        answered = q.answered;
        current = λ m k ns e r.
            ⊎_elim (λ (p : In m s.sent). q.current m p ns e r)
            (λ (p : In m (request_of d x o i ∷ [])). subst (λ z. g ≼ z.replica.register) (sym (in_one m (request_of d x o i) p)) q.held)
            (in_either m s.sent (request_of d x o i ∷ []) k);
      })
      (inv.spreading d))

  -- no message is of the round to come
  none_yet : (m : Message) → In m s.sent → m.desk ≡ d → m.round ≡ suc x.round → ⊥
  none_yet m i e r = omega (arith, rw e at (inv.rounds m i), r)

  -- ---- a hear of the reply m, while o runs

  module _ (o : Operation) (m : Message) (at : In m s.sent) (hearing : Hearing d x m o) where
    abbrev p : Replica
    p = join x.replica m.replica

    good : Good h p
    good = good-join h x.replica m.replica (inv.desks d) (inv.messages m at)

    second-now : InSecond (Spreading h s.servers s.sent d x) o.phase o.heard
    second-now = of-running (Spreading h s.servers s.sent d x) x.activity o hearing.runs (inv.spreading d)

    pub restarts-kept : Invariant c h (after_desk s d (accept done (restarted x o m)))
    restarts-kept =
        quiet (restarted x o m) good (omega arith)
        (in-second _ _ o.phase o.heard []
        (λ g e q.
        record {
          held = tag-trans g x.replica.register p.register q.held (join-left x.replica m.replica);
          answered = λ n i. absurd i;
          current = λ n i ns dd r. absurd (none_yet n (sent-before n i) dd r);
        })
        second-now)

    pub chooses-kept : Invariant c h (after_desk s d (accept done (moved_on d x o p)))
    chooses-kept =
        quiet (moved_on d x o p) (good-higher h p.set p.register _ (chosen-above d o.task p.register) good) (omega arith)
        (record {
          held = tag-refl (chosen d o.task p.register);
          answered = λ n i. absurd i;
          current = λ n i ns dd r. absurd (none_yet n (sent-before n i) dd r);
        })

    pub ends-kept : (g : Register) → Invariant c h (after_desk s d (accept done (finished x o p g)))
    ends-kept g = quiet (finished x o p g) good (omega arith) tt

    -- the servers that answered, this reply's among them
    pub answered-since : (g : Register) → Spreading h s.servers s.sent d x g o.heard
        → (n : Message) → In n (m ∷ o.heard)
        → Since h s.servers n.server p.set g
    answered-since g q n k =
        ⊎_elim
        (λ (e : n ≡ m).
        subst (λ z. Since h s.servers z.server p.set g) (sym e)
        (since-more h s.servers m.server m.replica.set p.set g (join-has-right x.replica m.replica)
        (since-lower h s.servers m.server m.replica.set m.replica.register g
        (q.current m at (λ e. kinds-apart (sym hearing.kind ∙ e) (λ f. omega arith)) hearing.desk hearing.round)
        (inv.since m at hearing.kind))))
        (λ (e : In n o.heard). since-more h s.servers n.server x.replica.set p.set g (join-has-left x.replica m.replica) (q.answered n e))
        k

    pub marks-kept : Invariant c h (after_desk s d (accept done (marked x o p m)))
    marks-kept =
        quiet (marked x o p m) good (omega arith)
        (in-second _ _ o.phase o.heard (m ∷ o.heard)
        (λ g e q.
        record {
          held = tag-trans g x.replica.register p.register q.held (join-left x.replica m.replica);
          answered = answered-since g q;
          current = λ n k ns dd r. q.current n (sent-before n k) ns dd r;
        })
        second-now)
