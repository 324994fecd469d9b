-- The order of tags: if A ended before B began, B's tag is no lower than A's, and higher where B writes. The answers by which A ended are evidence
-- of its tag (`evidence`), which every later step keeps; B's begin raises its desk's round above all that was sent before, so what B chooses, it
-- chooses by later replies (`later-choice`).
use Prim.Native.Nat.{ℕ, suc, ◌≤◌, ◌<◌}
use native.Mathlib.Omega.{arith}
use mathlib.Core.Path.{◌≡◌, refl, sym, ap, ◌∙◌, subst}
use mathlib.Core.Bool.{Bool, true, false≢true}
use mathlib.Core.List.{List, [], ◌∷◌, ◌++◌}
use mathlib.Core.Option.{Option, none, some}
use Rattle.config.specs.Cluster.{House, config_of, lawful_of}
use Rattle.config.specs.declared.cluster.Config.{Config}
use Rattle.machine.specs.Sets.{Transfers}
use Rattle.machine.specs.Parties.{Register, below, Replica, join, Task, read, write, writes, Phase, first, second, Operation, Result, Activity, idle, running, ended, answered}
use Rattle.machine.specs.Runs.{nth, when, nothing, at, desk_at}
use Rattle.machine.specs.Calls.{chosen}
use Rattle.machine.specs.Steps.{machine, Step, run_of, PlainRun}
use Rattle.machine.specs.Seen.{view_of}
use Rattle.machine.specs.Views.{Begins, Chose, ◌≼◌, Order}
use Rattle.machine.proofs.Lists.{nth_in}
use Rattle.machine.proofs.Tags.{tag-trans, tag_below, write-above, chosen-above}
use Rattle.machine.proofs.Histories.{History}
use Rattle.machine.proofs.Replicas.{good-join}
use Rattle.machine.proofs.Moves.{PlainState, stepped, gift_of}
use Rattle.machine.proofs.Desks.{desk-moved}
use Rattle.machine.proofs.Phases.{Finish, ends-finish}
use Rattle.machine.proofs.Places.{from_on}
use Rattle.machine.proofs.Performed.{NoBegin, during, begins-is, chosen-runs}
use Rattle.machine.proofs.Results.{results}
use Rattle.machine.proofs.Invariant.{Since, Spreading, Invariant, of-running, of-second}
use Rattle.machine.proofs.DesksKept.{answered-since}
use Rattle.machine.proofs.Always.{history_at, invariant}
use Rattle.machine.proofs.Following.{Following, step_follows}
use Rattle.machine.proofs.Later.{answered-replied, later-choice}

-- a write chooses above what is held
writes-above : (d : ℕ) (t : Task) (r : Register) → writes t ≡ true → below r (chosen d t r) ≡ true
writes-above d read r e = absurd (false≢true e)
writes-above d (write v) r e = write-above d v r

module _ (house : House) (lawful : lawful_of (config_of house) ≡ true) (steps : List Step) where
  abbrev c : Config
  c = config_of house

  abbrev r : PlainRun
  r = run_of machine house steps

  -- ---- rounds rise

  round-next : (d k : ℕ) → (desk_at r d k).round ≤ (desk_at r d (suc k)).round
  round-next d k =
      desk-moved house steps d k (λ b y. (desk_at r d k).round ≤ y.round)
      (record {
        still = omega arith;
        begins = λ t note b l rests room. omega arith;
        drops = λ o e. omega arith;
        restarts = λ p m o h i room. omega arith;
        marks = λ p m o h i q. omega arith;
        chooses = λ p m o h i q f room w. omega arith;
        ends = λ p m o g s h i q f. omega arith;
      })

  round-rises : (d k p : ℕ) → k ≤ p → (desk_at r d k).round ≤ (desk_at r d p).round
  round-rises d k p l = from_on (λ z. (desk_at r d k).round ≤ (desk_at r d z).round) k (omega arith) (λ z m e. omega (arith, round-next d z, e)) p l

  -- ---- what is followed stays followed

  module _ (a : Register) (S : Transfers) (q : ℕ → Bool) (rounds : ℕ → ℕ) where
    abbrev FollowingAt : ℕ → Type 0
    FollowingAt p = Following a S q rounds (history_at house steps p) (at r p)

    place-follows : (h : History) (s : PlainState) → Invariant c h s → Following a S q rounds h s → (o : Option Step)
        → Following a S q rounds (when o [] (gift_of c s) ++ h) (when o (nothing s) (stepped c s)).state
    place-follows h s inv f none = f
    place-follows h s inv f (some st) = step_follows a S q rounds c h s inv f st

    following-next : (p : ℕ) → FollowingAt p → FollowingAt (suc p)
    unfolding history_at at
    following-next p f = place-follows (history_at house steps p) (at r p) (invariant house lawful steps p) f (nth steps p)

    following-from : (k p : ℕ) → k ≤ p → FollowingAt k → FollowingAt p
    following-from k p l f = from_on FollowingAt k f (λ z m g. following-next z g) p l

  -- ---- the end of A

  -- the set on which A ended, the servers whose answers ended it, and the rounds then
  module _ (d k : ℕ) (t : Task) (x : Result) (e : Finish r d k t x) where
    abbrev held : Replica
    held = join (desk_at r d k).replica e.message.replica

    abbrev quorum_of_a : ℕ → Bool
    quorum_of_a = answered (e.message ∷ e.operation.heard)

    abbrev rounds_then : ℕ → ℕ
    rounds_then y = (desk_at r y k).round

    evidence : Following x.register held.set quorum_of_a rounds_then (history_at house steps k) (at r k)
    evidence =
        record {
          closed = (good-join _ _ _ (inv.desks d) (inv.messages e.message e.sent)).closed;
          evidence = λ i a.
              let y = answered-replied (e.message ∷ e.operation.heard) i a in
              subst (λ z. Since (history_at house steps k) (at r k).servers z held.set x.register) y.server
              (answered-since inv d e.operation e.message e.sent e.hearing x.register spreading y.message y.heard);
          replies = λ m i a l. absurd (omega (arith, l, inv.rounds m i));
          desks = λ y l. absurd (omega (arith, l));
        }
      where
        inv : Invariant c (history_at house steps k) (at r k)
        inv = invariant house lawful steps k

        spreading : Spreading (history_at house steps k) (at r k).servers (at r k).sent d (desk_at r d k) x.register e.operation.heard
        spreading =
            of-second _ e.operation.phase x.register e.operation.heard e.phase-two
            (of-running (Spreading (history_at house steps k) (at r k).servers (at r k).sent d (desk_at r d k)) (desk_at r d k).activity e.operation
            e.hearing.runs
            ((invariant house lawful steps k).spreading d))

  -- ---- the operation B, begun after that

  -- the register g, chosen for the task u, is in order after that of x
  abbrev Ordered : Result → Task → Register → Type 0
  Ordered x u g = (x.register ≼ g) × (writes u ≡ true → below x.register g ≡ true)

  abbrev Chosen : Result → Task → Phase → Type 0
  Chosen x u first = Unit
  Chosen x u (second g) = Ordered x u g

  abbrev Stage : Result → Task → Activity → Type 0
  Stage x u idle = Unit
  Stage x u (running o) = (o.task ≡ u) × Chosen x u o.phase
  Stage x u (ended y) = Unit

  module _ (d k : ℕ) (t : Task) (x : Result) (a : Finish r d k t x) (e : ℕ) (u : Task) where
    abbrev Later : ℕ → Type 0
    Later q = ((desk_at r e k).round < (desk_at r e q).round) × Stage x u (desk_at r e q).activity

    later-next : (q : ℕ) → k ≤ q → NoBegin (view_of r) e q → Later q → Later (suc q)
    later-next q l none_here (raised, stage) =
        desk-moved house steps e q (λ b y. ((desk_at r e k).round < y.round) × Stage x u y.activity)
        (record {
          still = (raised, stage);
          begins = λ v note b s rests room. absurd (none_here v b);
          drops = λ o f. (raised, tt);
          restarts = λ p m o h i room. (omega arith, running-stage o h.hearing.runs);
          marks = λ p m o h i q. (raised, running-stage o h.hearing.runs);
          chooses = λ p m o h i on f room w.
              let s = running-stage o h.hearing.runs in
              let no_lower : x.register ≼ (join (desk_at r e q).replica m.replica).register =
              later-choice c lawful (invariant house lawful steps q) x.register (held d k t x a).set (quorum_of_a d k t x a) (rounds_then d k t x a)
              (following-from x.register (held d k t x a).set (quorum_of_a d k t x a) (rounds_then d k t x a) k q l (evidence d k t x a))
              a.quorum
              e
              o
              m
              (nth_in (at r q).sent p m h.sent)
              h.hearing
              raised
              on in (
                omega arith,
                (
                  s.0,
                  (
                    tag-trans x.register _ _ no_lower (chosen-above e o.task _),
                    λ y. tag_below x.register _ _ no_lower (writes-above e o.task _ (ap writes s.0 ∙ y)),
                  ),
                ),
              );
          ends = λ p m o g s h i on f. (raised, tt);
        })
      where
        running-stage : (o : Operation) → (desk_at r e q).activity ≡ running o → Stage x u (running o)
        running-stage o f = subst (Stage x u) f stage

    -- right after its begin B has chosen nothing, and its round is above all that was sent before
    later-begun : (j : ℕ) → k ≤ j → Begins (view_of r) e j u → Later (suc j)
    later-begun j l b =
        let y = begins-is house steps e j u b in
        subst (λ z. ((desk_at r e k).round < z.round) × Stage x u z.activity) (sym y.after) (omega (arith, round-rises e k j l), (refl, tt))

    later-chosen : (j : ℕ) (g : Register) → k < j → Chose (view_of r) e j u g → Ordered x u g
    later-chosen j g l b =
        let s : Later b.place =
        during Later (suc j) b.place (omega arith) b.current.earlier b.current (λ q m cur none_here s. later-next q (omega arith) none_here s)
        (later-begun j (omega arith) b.current.begun) in
        let two = chosen-runs (desk_at r e b.place).activity g b.phase-two in
        let here : Stage x u (running two.operation) = subst (Stage x u) two.runs s.1 in
        subst (Chosen x u) two.phase-two here.1

-- Theorem: the order of tags.
pub order : (house : House) → lawful_of (config_of house) ≡ true → (steps : List Step) → Order (view_of (run_of machine house steps))
order house lawful steps d i k t x a ends chose e j u b l later =
    subst (λ g. (g ≼ b) × (writes u ≡ true → below g b ≡ true)) (sym ((results house steps).tag d i k t x a ends chose))
    (later-chosen house lawful steps d k t x (ends-finish house steps ends) e u j b l later)
