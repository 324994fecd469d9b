-- An operation of the machine goes through its phases once: from phase 2 it comes to its end, with the register that phase 1 chose, or is dropped.
use Prim.Native.Nat.{ℕ, suc, ◌≤◌, ◌<◌}
use native.Mathlib.Omega.{arith}
use mathlib.Core.Path.{◌≡◌, refl, sym, ap, ◌∙◌, subst}
use mathlib.Core.Logic.{⊎_elim}
use mathlib.Core.Bool.{true}
use mathlib.Core.List.{List, ◌∷◌}
use Rattle.quorums.proofs.Tests.{le-or-lt}
use Rattle.config.specs.Cluster.{House}
use Rattle.machine.specs.Sets.{quorum_of}
use Rattle.machine.specs.Parties.{Register, join, Message, Task, writes, first, second, Operation, Result, Activity, idle, running, ended, answered}
use Rattle.machine.specs.Runs.{config, at, desk_at}
use Rattle.machine.specs.Steps.{Step, run_of, PlainRun, machine}
use Rattle.machine.specs.Seen.{view_of}
use Rattle.machine.specs.Views.{Current, Ends, Chose}
use Rattle.machine.proofs.Lists.{In, nth_in}
use Rattle.machine.proofs.Outcomes.{Hearing}
use Rattle.machine.proofs.Moves.{Seated}
use Rattle.machine.proofs.Desks.{desk-moved}
use Rattle.machine.proofs.Performed.{NoBegin, during, running-ended, gives-ended, ended-gives, running-origin, current-unique, chosen-runs}

-- phase 2 with the register g, or its end
abbrev pub Second : Register → Activity → Type 0
Second g idle = Unit
Second g (running o) = o.phase ≡ second g
Second g (ended x) = x.register ≡ g

-- a phase has one register
one : {g h : Register} (o : Operation) → o.phase ≡ second g → o.phase ≡ second h → g ≡ h
one o e f = cc

-- How an operation with the task t ends at place k with the result x: it is in phase 2 there, with the register of x, and the message that the desk
-- hears makes the servers that answered a quorum.
pub record Finish (r : PlainRun) (d k : ℕ) (t : Task) (x : Result) : Type 0 where
  pub operation : Operation
  pub message : Message
  pub sent : In message (at r k).sent
  pub hearing : Hearing d (desk_at r d k) message operation
  pub quorum : quorum_of (config r) (join (desk_at r d k).replica message.replica).set (answered (message ∷ operation.heard)) ≡ true
  pub task : operation.task ≡ t
  pub phase-two : operation.phase ≡ second x.register
  pub kind : x.is-write ≡ writes t

module _ (house : House) (steps : List Step) where
  abbrev r : PlainRun
  r = run_of machine house steps

  -- phase 2 stays, with its register, until the operation ends or is dropped
  second-next : (d k : ℕ) (g : Register) → NoBegin (view_of r) d k → Second g (desk_at r d k).activity → Second g (desk_at r d (suc k)).activity
  second-next d k g n h =
      desk-moved house steps d k (λ a y. Second g y.activity)
      (record {
        still = h;
        begins = λ t note b l rests room. absurd (n t b);
        drops = λ o e. tt;
        restarts = λ p m o f i room. phase o f.hearing.runs;
        marks = λ p m o f i q. phase o f.hearing.runs;
        chooses = λ p m o f i q e room w. absurd (apart o (phase o f.hearing.runs) e);
        ends = λ p m o y s f i q e. sym (one o (phase o f.hearing.runs) e);
      })
    where
      phase : (o : Operation) → (desk_at r d k).activity ≡ running o → o.phase ≡ second g
      phase o e = subst (Second g) e h

      apart : (o : Operation) → o.phase ≡ second g → o.phase ≡ first → ⊥
      apart o e f = let z : ◌≡◌ {A = ℕ} 0 1 = cc in omega arith

  pub phase-stays : {d i p k : ℕ} {t : Task} {o : Operation} {g : Register} → Current (view_of r) d i t p → (desk_at r d p).activity ≡ running o
      → o.phase ≡ second g
      → p ≤ k
      → Current (view_of r) d i t k
      → Second g (desk_at r d k).activity
  phase-stays {d} {i} {p} {k} {t} {o} {g} h e f m a =
      during (λ q. Second g (desk_at r d q).activity) p k h.earlier m a (λ q l b n s. second-next d q g n s) (subst (Second g) (sym e) f)

  -- an operation chooses once
  pub chose-unique : {d i : ℕ} {t : Task} {g h : Register} → Chose (view_of r) d i t g → Chose (view_of r) d i t h → g ≡ h
  chose-unique {d} {i} {t} {g} {h} a b =
      ⊎_elim (λ (l : a.place ≤ b.place). later a b l) (λ (l : b.place < a.place). sym (later b a (omega arith))) (le-or-lt a.place b.place)
    where
      later : {x y : Register} (u : Chose (view_of r) d i t x) (v : Chose (view_of r) d i t y) → u.place ≤ v.place → x ≡ y
      later {x} {y} u v l =
          let a = chosen-runs (desk_at r d u.place).activity x u.phase-two in
          let b = chosen-runs (desk_at r d v.place).activity y v.phase-two in
          one b.operation (subst (Second x) b.runs (phase-stays u.current a.runs a.phase-two l v.current)) b.phase-two

  -- ---- the end

  pub ends-finish : {d i k : ℕ} {t : Task} {x : Result} → Ends (view_of r) d i t k x → Finish r d k t x
  ends-finish {d} {i} {k} {t} {x} h =
      desk-moved house steps d k (λ a y. y.activity ≡ ended x → Finish r d k t x)
      (record {
        still = λ e. absurd (h.before x (ended-gives house steps d k x after.0 e));
        begins = λ u note b l rests room e. absurd (running-ended refl e);
        drops = λ o f e. absurd (idle_ended e);
        restarts = λ p m o f i room e. absurd (running-ended refl e);
        marks = λ p m o f i q e. absurd (running-ended refl e);
        chooses = λ p m o f i q g room w e. absurd (running-ended refl e);
        ends = λ p m o g s f i q z e. finish o g m (nth_in (at r k).sent p m f.sent) f.hearing q z e;
      })
      after.1
    where
      after : Seated d × ((desk_at r d (suc k)).activity ≡ ended x)
      after = gives-ended house steps d (suc k) x h.after

      idle_ended : idle ≡ ended x → ⊥
      idle_ended e = let z : ◌≡◌ {A = ℕ} 0 1 = cc in omega arith

      finish : (o : Operation) (g : Register) (m : Message) → In m (at r k).sent → Hearing d (desk_at r d k) m o
          → quorum_of (config r) (join (desk_at r d k).replica m.replica).set (answered (m ∷ o.heard)) ≡ true
          → o.phase ≡ second g
          → ended (record { is-write = writes o.task; register = g; restarts = o.restarts }) ≡ ended x
          → Finish r d k t x
      finish o g m n a q f y =
          let same : ◌≡◌ {A = Result} (record { is-write = writes o.task; register = g; restarts = o.restarts }) x = cc in
          let task : o.task ≡ t = (current-unique (running-origin house steps d k o a.runs).current h.current).1 in
          record {
            operation = o;
            message = m;
            sent = n;
            hearing = a;
            quorum = q;
            task = task;
            phase-two = f ∙ ap (λ (z : Result). second z.register) same;
            kind = sym (ap (λ z. z.is-write) same) ∙ ap writes task;
          }
