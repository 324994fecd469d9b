-- The registers of a desk in a run of the machine: the one that it holds never falls, and an operation chooses from one held after its begin. So the
-- tags that one desk chooses for its writes rise from each to the next.
use Prim.Native.Nat.{ℕ, suc, ◌≤◌, ◌<◌}
use native.Mathlib.Omega.{arith}
use mathlib.Core.Path.{◌≡◌, refl, sym, ap, ◌∙◌, subst}
use mathlib.Core.Logic.{⊎_elim}
use mathlib.Core.Bool.{true}
use mathlib.Core.List.{List}
use Rattle.quorums.proofs.Tests.{le-or-lt}
use Rattle.config.specs.Cluster.{House}
use Rattle.machine.specs.Parties.{Register, below, Replica, join, Task, write, Phase, first, second, Activity, idle, running, ended, Desk, Operation}
use Rattle.machine.specs.Runs.{desk_at}
use Rattle.machine.specs.Calls.{chosen}
use Rattle.machine.specs.Steps.{Step, run_of, PlainRun, machine}
use Rattle.machine.specs.Seen.{view_of}
use Rattle.machine.specs.Views.{Current, Chose, ◌≼◌, SameTag}
use Rattle.machine.proofs.Places.{from_on}
use Rattle.machine.proofs.Tags.{tag-refl, tag-trans, tag_below, below_apart, write-above, chosen-above}
use Rattle.machine.proofs.Joins.{join-left}
use Rattle.machine.proofs.Desks.{desk-moved}
use Rattle.machine.proofs.Performed.{NoBegin, during, begins-is, chosen-runs}

-- ---- what an operation chooses

-- g is what the operation t of desk d chooses from a register that is no lower than b
pub record Picked (d : ℕ) (t : Task) (b g : Register) : Type 0 where
  pub held : Register
  pub no_lower : b ≼ held
  pub is : g ≡ chosen d t held

-- in phase 2 the chosen register was picked, and h, the one held, is no lower
abbrev InPhase : ℕ → Task → Register → Register → Phase → Type 0
InPhase d t b h first = Unit
InPhase d t b h (second g) = Picked d t b g × (g ≼ h)

-- if an operation runs, it is t
abbrev Doing : ℕ → Task → Register → Register → Activity → Type 0
Doing d t b h idle = Unit
Doing d t b h (running o) = (o.task ≡ t) × InPhase d t b h o.phase
Doing d t b h (ended y) = Unit

-- the desk x, with the number d, that held b when it began the operation t, the last one that it began
record Going (d : ℕ) (t : Task) (b : Register) (x : Desk) : Type 0 where
  held : b ≼ x.replica.register
  doing : Doing d t b x.replica.register x.activity

phase-rises : (d : ℕ) (t : Task) (b h j : Register) (f : Phase) → h ≼ j → InPhase d t b h f → InPhase d t b j f
phase-rises d t b h j first e p = tt
phase-rises d t b h j (second g) e p = (p.0, tag-trans g h j p.1 e)

module _ (house : House) (steps : List Step) where
  abbrev r : PlainRun
  r = run_of machine house steps

  abbrev held_at : ℕ → ℕ → Register
  held_at d k = (desk_at r d k).replica.register

  -- ---- the register held never falls

  held_kept : (d k : ℕ) → held_at d k ≼ held_at d (suc k)
  held_kept d k =
      let x = desk_at r d k in
      desk-moved house steps d k (λ l y. held_at d k ≼ y.replica.register)
      (record {
        still = tag-refl (held_at d k);
        begins = λ t note b l e m. tag-refl (held_at d k);
        drops = λ o e. tag-refl (held_at d k);
        restarts = λ p m o h i room. join-left x.replica m.replica;
        marks = λ p m o h i q. join-left x.replica m.replica;
        chooses =
            λ p m o h i q f room w.
            tag-trans _ _ _ (join-left x.replica m.replica) (chosen-above d o.task (join x.replica m.replica).register);
        ends = λ p m o g s h i q f. join-left x.replica m.replica;
      })

  pub held-rises : (d k l : ℕ) → k ≤ l → held_at d k ≼ held_at d l
  held-rises d k l e = from_on (λ p. held_at d k ≼ held_at d p) k (tag-refl (held_at d k)) (λ p m f. tag-trans _ _ _ f (held_kept d p)) l e

  -- ---- an operation from its begin on

  -- a step that begins no operation of desk d
  going-kept : (d k : ℕ) (t : Task) (b : Register) → NoBegin (view_of r) d k → Going d t b (desk_at r d k) → Going d t b (desk_at r d (suc k))
  going-kept d k t b none g =
      let x = desk_at r d k in
      let runs : (o : Operation) → x.activity ≡ running o → Doing d t b (held_at d k) (running o) =
      λ o e. subst (Doing d t b (held_at d k)) e g.doing in
      let up : (m : Replica) → b ≼ (join x.replica m).register =
      λ m. tag-trans b (held_at d k) _ g.held (join-left x.replica m) in
      let later : (o : Operation) (m : Replica) → x.activity ≡ running o → Doing d t b (join x.replica m).register (running o) =
      λ o m e. ((runs o e).0, phase-rises d t b (held_at d k) _ o.phase (join-left x.replica m) (runs o e).1) in
      desk-moved house steps d k (λ l y. Going d t b y)
      (record {
        still = g;
        begins = λ u note n l e m. absurd (none u n);
        drops = λ o e. record { held = g.held; doing = tt };
        restarts = λ p m o h i room. record { held = up m.replica; doing = later o m.replica h.hearing.runs };
        marks = λ p m o h i q. record { held = up m.replica; doing = later o m.replica h.hearing.runs };
        chooses =
            λ p m o h i q f room w.
            let j = (join x.replica m.replica).register in
            record {
              held = tag-trans b j _ (up m.replica) (chosen-above d o.task j);
              doing = (
                (runs o h.hearing.runs).0,
                (
                  record { held = j; no_lower = up m.replica; is = ap (λ u. chosen d u j) (runs o h.hearing.runs).0 },
                  tag-refl (chosen d o.task j),
                ),
              );
            };
        ends = λ p m o y s h i q f. record { held = up m.replica; doing = tt };
      })

  current-going : (d i k : ℕ) (t : Task) → Current (view_of r) d i t k → Going d t (held_at d i) (desk_at r d k)
  current-going d i k t n =
      during (λ p. Going d t (held_at d i) (desk_at r d p)) (suc i) k (omega arith) n.earlier n (λ q l e none. going-kept d q t (held_at d i) none)
      (subst (Going d t (held_at d i)) (sym (begins-is house steps d i t n.begun).after) (record { held = tag-refl (held_at d i); doing = (refl, tt) }))

  -- what an operation chose was picked from a register held after its begin, and is no higher than the one held in phase 2
  chose-in-phase : (d i : ℕ) (t : Task) (g : Register) (h : Chose (view_of r) d i t g) → InPhase d t (held_at d i) (held_at d h.place) (second g)
  chose-in-phase d i t g h =
      let two = chosen-runs (desk_at r d h.place).activity g h.phase-two in
      let doing = subst (Doing d t (held_at d i) (held_at d h.place)) two.runs (current-going d i h.place t h.current).doing in
      subst (InPhase d t (held_at d i) (held_at d h.place)) two.phase-two doing.1

  pub chose-picked : (d i : ℕ) (t : Task) (g : Register) → Chose (view_of r) d i t g → Picked d t (held_at d i) g
  chose-picked d i t g h = (chose-in-phase d i t g h).0

  pub chose-held : (d i : ℕ) (t : Task) (g : Register) (h : Chose (view_of r) d i t g) → g ≼ held_at d h.place
  chose-held d i t g h = (chose-in-phase d i t g h).1

  -- ---- writes

  -- a write's register has its desk's number and its bytes, and is no start
  pub write-own : (d i : ℕ) (v : List ℕ) (g : Register) → Chose (view_of r) d i (write v) g → (g.desk ≡ d) × (1 ≤ g.stamp) × (g.value ≡ v)
  write-own d i v g h =
      let p = chose-picked d i (write v) g h in
      let s : g.stamp ≡ suc p.held.stamp = ap (λ y. y.stamp) p.is in
      (ap (λ y. y.desk) p.is, omega arith, ap (λ y. y.value) p.is)

  -- a write's tag is above that of every operation that its desk began before
  pub writes-rise : (d i j : ℕ) (t : Task) (v : List ℕ) (g h : Register) → i < j → Chose (view_of r) d i t g → Chose (view_of r) d j (write v) h → below g h ≡ true
  writes-rise d i j t v g h l a b =
      let p = chose-picked d j (write v) h b in
      let before : a.place ≤ j =
      ⊎_elim (λ (e : a.place ≤ j). e) (λ (e : j < a.place). absurd (a.current.last j (write v) l e b.current.begun)) (le-or-lt a.place j) in
      let low : g ≼ p.held =
      tag-trans g (held_at d j) p.held (tag-trans g _ _ (chose-held d i t g a) (held-rises d a.place j before)) p.no_lower in
      subst (λ y. below g y ≡ true) (sym p.is) (tag_below g p.held _ low (write-above d v p.held))

  -- two writes with one tag are one
  pub write-once : (d i e j : ℕ) (v w : List ℕ) (g h : Register) → Chose (view_of r) d i (write v) g → Chose (view_of r) e j (write w) h → SameTag g h
      → (d ≡ e) × (i ≡ j)
  write-once d i e j v w g h a b s =
      let same : d ≡ e = sym (write-own d i v g a).0 ∙ s.1 ∙ (write-own e j w h b).0 in
      let own : Chose (view_of r) d j (write w) h = subst (λ y. Chose (view_of r) y j (write w) h) (sym same) b in (
        same,
        ⊎_elim
            (λ (l : i ≤ j).
            ⊎_elim (λ (m : j ≤ i). omega arith) (λ (m : i < j). absurd (below_apart g h (writes-rise d i j (write v) w g h m a own) s)) (le-or-lt j i))
            (λ (l : j < i). absurd (below_apart h g (writes-rise d j i (write w) v h g l own a) (sym s.0, sym s.1)))
            (le-or-lt i j),
      )
