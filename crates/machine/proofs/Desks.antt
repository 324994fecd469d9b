-- What one step can do to one desk, in a run of the machine, with the transfers that it brings to that desk.
use Prim.Native.Nat.{ℕ, suc, ◌≤◌, ◌<◌}
use mathlib.Core.Path.{◌≡◌, refl, sym, ap, ◌∙◌, subst}
use mathlib.Core.Bool.{true, false, cond}
use mathlib.Core.List.{List, [], ◌∷◌}
use mathlib.Core.Option.{Option, none, some}
use borrow.Author.Tests.{eqb-true, eqb-false, eq-eqb, ne_eqb}
use lib.Dec.{eqb}
use lib.ListN.{length}
use Rattle.config.specs.Cluster.{House, config_of}
use Rattle.config.specs.declared.cluster.Config.{Config}
use Rattle.machine.specs.Sets.{Transfers, quorum_of}
use Rattle.machine.specs.Parties.{Register, join, Message, Task, value_of, first, second, Operation, running, Desk, answered}
use Rattle.machine.specs.Runs.{config, Answer, done, wrote, told, put, nth, when, nothing, at, answer_at, desk_at}
use Rattle.machine.specs.Calls.{most_round, most_value, begun, restarted, no-stamp, moved_on, finished, marked, dropped, knows}
use Rattle.machine.specs.Steps.{machine, Step, begin, hear, asked_of, PlainRun, run_of}
use Rattle.machine.specs.Seen.{accepted, heard_in, hears, view_of}
use Rattle.machine.specs.Views.{Begins}
use Rattle.machine.proofs.Branches.{branch, when-none, Resting}
use Rattle.machine.proofs.Histories.{History}
use Rattle.machine.proofs.Moves.{PlainState, stepped, PlainMade, Heard, moved}

-- a change at i is none elsewhere
pub put-cases : {A : Type 0} (P : A → Type 0) (f : ℕ → A) (i : ℕ) (a : A) (x : ℕ) → (x ≡ i → P a) → ((x ≡ i → ⊥) → P (f x)) → P (put f i a x)
put-cases P f i a x p q = branch P (eqb x i) a (f x) (λ e. p (eqb-true x i e)) (λ e. q (eqb-false x i e))

-- what can become of the desk x, which has the number d, at place k of the run r; P takes what the step brings and the desk after it
pub record DeskMoves (r : PlainRun) (d k : ℕ) (x : Desk) (P : Transfers → Desk → Type 0) : Type 0 where
  pub still : P [] x
  pub begins : (t : Task) (note : ℕ) → Begins (view_of r) d k t → length (value_of t) ≤ most_value → Resting x.activity → x.round < most_round
      → P [] (begun x t note)
  pub drops : (o : Operation) → x.activity ≡ running o → P [] (dropped x)
  pub restarts : (p : ℕ) (m : Message) (o : Operation) → Heard (at r k) (hear d p) d p m o → knows x m ≡ false
      → x.round < most_round
      → P m.replica.set (restarted x o m)
  pub marks : (p : ℕ) (m : Message) (o : Operation) → Heard (at r k) (hear d p) d p m o → knows x m ≡ true
      → quorum_of (config r) (join x.replica m.replica).set (answered (m ∷ o.heard)) ≡ false
      → P m.replica.set (marked x o (join x.replica m.replica) m)
  pub chooses : (p : ℕ) (m : Message) (o : Operation) → Heard (at r k) (hear d p) d p m o → knows x m ≡ true
      → quorum_of (config r) (join x.replica m.replica).set (answered (m ∷ o.heard)) ≡ true
      → o.phase ≡ first
      → x.round < most_round
      → no-stamp (config r) o.task (join x.replica m.replica).register ≡ false
      → P m.replica.set (moved_on d x o (join x.replica m.replica))
  pub ends : (p : ℕ) (m : Message) (o : Operation) (g : Register) → nth r.steps k ≡ some (hear d p) → Heard (at r k) (hear d p) d p m o
      → knows x m ≡ true
      → quorum_of (config r) (join x.replica m.replica).set (answered (m ∷ o.heard)) ≡ true
      → o.phase ≡ second g
      → P m.replica.set (finished x o (join x.replica m.replica) g)

-- the transfers that step k brings to desk d
abbrev pub brings : PlainRun → ℕ → ℕ → Transfers
brings r d k = when (hears r d k) [] (λ m. m.replica.set)

module _ (house : House) (steps : List Step) (d k : ℕ) (P : Transfers → Desk → Type 0) where
  abbrev c : Config
  c = config_of house

  abbrev r : PlainRun
  r = run_of machine house steps

  abbrev s : PlainState
  s = at r k

  abbrev x : Desk
  x = desk_at r d k

  -- the message that a step has desk d hear, and what it brings, by its answer
  abbrev hearing : Step → Option Message
  hearing st = heard_in d s.sent (asked_of machine c st)

  abbrev bringing : Step → Answer → Transfers
  bringing st a = when (cond (accepted a) (hearing st) none) [] (λ m. m.replica.set)

  module _ (m : DeskMoves r d k (desk_at r d k) P) (st : Step) (is : nth steps k ≡ some st) where
    -- a step that is no hear of d brings nothing
    quiet : (a : Answer) (y : Desk) → hearing st ≡ none → P [] y → P (bringing st a) y
    quiet a y e p =
        subst (λ o. P (when (cond (accepted a) o none) [] (λ m. m.replica.set)) y) (sym e)
        (branch (λ z. P (when z [] (λ m. m.replica.set)) y) (accepted a) none none (λ b. p) (λ b. p))

    refusing : (a : Answer) (y : Desk) → accepted a ≡ false → P [] y → P (bringing st a) y
    refusing a y e p = subst (λ b. P (when (cond b (hearing st) none) [] (λ m. m.replica.set)) y) (sym e) p

    -- a hear of d that is neither refused nor late brings the reply's set
    loud : (p : ℕ) (n : Message) (y : Desk) → st ≡ hear d p → nth s.sent p ≡ some n → P n.replica.set y → P (bringing st done) y
    loud p n y e f q =
        subst (λ o. P (when o [] (λ m. m.replica.set)) y)
        (sym
        (ap hearing e
        ∙ ap (λ b. when (nth s.sent p) none (λ m. cond b (some m) none)) (eq-eqb d d refl)
        ∙ ap (λ o. when o none (λ m. some m)) f))
        q

    -- the change of another desk is none of d
    elsewhere : (e : ℕ) (y : Desk) → (d ≡ e → P (bringing st done) y) → ((d ≡ e → ⊥) → hearing st ≡ none)
        → P (bringing st done) (put s.desks e y d)
    elsewhere e y here away =
        put-cases (P (bringing st done)) s.desks e y d here (λ f. quiet done x (away f) m.still)

    -- a hear of another desk is none of d
    other : (e p : ℕ) → st ≡ hear e p → (d ≡ e → ⊥) → hearing st ≡ none
    other e p f ne =
        ap hearing f
        ∙ ap (λ b. when (nth s.sent p) none (λ m. cond b (some m) none)) (ne_eqb e d (λ q. ne (sym q)))
        ∙ when-none (nth s.sent p)

    -- a hear of desk e, of which F is known and that makes it y
    hearing-by : (e p : ℕ) (n : Message) (o : Operation) (F : ℕ → Type 0) (y : ℕ → Desk) → Heard s st e p n o → F e
        → (Heard s (hear d p) d p n o → F d → P n.replica.set (y d))
        → P (bringing st done) (put s.desks e (y e) d)
    hearing-by e p n o F y h f here =
        elsewhere e (y e)
        (λ q.
        subst (λ z. Heard s st z p n o → F z → P (bringing st done) (y z)) q
        (λ g a.
        loud p n (y d) g.step g.sent (here (record { step = refl; seated = g.seated; sent = g.sent; hearing = g.hearing }) a))
        h
        f)
        (other e p h.step)

    answer-is : answer_at r k ≡ (stepped c s st).answer
    unfolding answer_at
    answer-is = ap (λ o. (when o (nothing s) (stepped c s)).answer) is

    abbrev Goal : History → PlainMade → Type 0
    Goal h z = z ≡ stepped c s st → P (bringing st z.answer) (z.state.desks d)

    by-step : P (bringing st (stepped c s st).answer) ((stepped c s st).state.desks d)
    by-step =
        moved c s Goal st
        (record {
          still = λ a e z. refusing a x e m.still;
          tells = λ e y q at f z. quiet (told y) x (ap hearing q) m.still;
          crashes = λ i q l z. quiet done x (ap hearing q) m.still;
          gives = λ i j e q up g z. quiet done x (ap hearing q) m.still;
          shares = λ i place size a q up z. quiet (wrote a) x (ap hearing q) m.still;
          takes = λ i p place size n a q up f g z. quiet (wrote a) x (ap hearing q ∙ when-none (nth s.sent p)) m.still;
          replies = λ i p place size n a q up f g h z. quiet (wrote a) x (ap hearing q ∙ when-none (nth s.sent p)) m.still;
          begins =
              λ e t note q at l rests room z.
              elsewhere e (begun (s.desks e) t note)
              (λ f.
              quiet done _ (ap hearing q)
              (subst (λ y. Resting (s.desks y).activity → (s.desks y).round < most_round → P [] (begun (s.desks y) t note)) f
              (λ a b.
              m.begins t note
              (record { note = note; step = is ∙ ap some (q ∙ ap (λ y. begin y t note) (sym f)); taken = answer-is ∙ sym (ap (λ y. y.answer) z) }) l a b)
              rests
              room))
              (λ f. ap hearing q);
          asks =
              λ e i place size o a q at f l z.
              put-cases (P (bringing st (wrote a))) s.desks e (s.desks e) d
              (λ g. quiet (wrote a) _ (ap hearing q) (subst (λ y. P [] (s.desks y)) g m.still))
              (λ g. quiet (wrote a) x (ap hearing q) m.still);
          drops =
              λ e o q at f z.
              elsewhere e (dropped (s.desks e))
              (λ g.
              quiet done _ (ap hearing q)
              (subst (λ y. (s.desks y).activity ≡ running o → P [] (dropped (s.desks y))) g (m.drops o) f))
              (λ g. ap hearing q);
          restarts =
              λ e p n o h i room z.
              hearing-by e p n o (λ y. (knows (s.desks y) n ≡ false) × ((s.desks y).round < most_round))
              (λ y. restarted (s.desks y) o n)
              h
              (i, room)
              (λ g f. m.restarts p n o g f.0 f.1);
          marks =
              λ e p n o h i q z.
              hearing-by e p n o
              (λ y. (knows (s.desks y) n ≡ true) × (quorum_of c (join (s.desks y).replica n.replica).set (answered (n ∷ o.heard)) ≡ false))
              (λ y. marked (s.desks y) o (join (s.desks y).replica n.replica) n)
              h
              (i, q)
              (λ g f. m.marks p n o g f.0 f.1);
          chooses =
              λ e p n o h i q f room w z.
              hearing-by e p n o
              (λ y.
              (knows (s.desks y) n ≡ true)
              × (quorum_of c (join (s.desks y).replica n.replica).set (answered (n ∷ o.heard)) ≡ true)
              × ((s.desks y).round < most_round)
              × (no-stamp c o.task (join (s.desks y).replica n.replica).register ≡ false))
              (λ y. moved_on y (s.desks y) o (join (s.desks y).replica n.replica))
              h
              (i, q, room, w)
              (λ g a. m.chooses p n o g a.0 a.1 f a.2 a.3);
          ends =
              λ e p n o g h i q f z.
              hearing-by e p n o
              (λ y.
              (knows (s.desks y) n ≡ true)
              × (quorum_of c (join (s.desks y).replica n.replica).set (answered (n ∷ o.heard)) ≡ true)
              × (nth steps k ≡ some (hear y p)))
              (λ y. finished (s.desks y) o (join (s.desks y).replica n.replica) g)
              h
              (i, q, is ∙ ap some h.step)
              (λ b a. m.ends p n o g a.2 b a.0 a.1 f);
        })
        refl

  pub desk-moved : DeskMoves r d k (desk_at r d k) P → P (brings r d k) (desk_at r d (suc k))
  unfolding hears at answer_at
  desk-moved m = by_place (nth steps k) refl
    where
      by_place : (o : Option Step) → nth steps k ≡ o
          → P
          (when (when o none (λ st. cond (accepted (when o (nothing s) (stepped c s)).answer) (hearing st) none)) [] (λ m. m.replica.set))
          ((when o (nothing s) (stepped c s)).state.desks d)
      by_place none e = m.still
      by_place (some st) e = by-step m st e
