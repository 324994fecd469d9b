-- Operations in a run of the machine. What a desk does at a place comes from its last begin before it: by induction over places, each step by what it
-- can do to the desk. A begin is accepted only by a desk that rests, so none is accepted where an operation goes on.
use Prim.Native.Nat.{ℕ, zero, suc, ◌≤◌, ◌<◌}
use native.Mathlib.Omega.{arith}
use mathlib.Core.Path.{◌≡◌, refl, sym, ap, ◌∙◌, subst}
use mathlib.Core.Logic.{◌⊎◌, inl, inr, ⊎_elim}
use mathlib.Core.Bool.{Bool, true, false, false≢true}
use mathlib.Core.List.{List}
use mathlib.Core.Option.{none, some, none-ne-some, some-injective}
use borrow.Author.Tests.{le-leb}
use lib.ListN.{length}
use Rattle.quorums.proofs.Tests.{le-or-lt}
use Rattle.quorums.proofs.Sums.{below_suc}
use Rattle.config.specs.Cluster.{House, config_of}
use Rattle.config.specs.declared.cluster.Config.{Config}
use Rattle.machine.specs.Parties.{Register, Task, value_of, Phase, first, second, by-phase, Operation, Result, Activity, idle, running, ended, Desk}
use Rattle.machine.specs.Runs.{Answer, unmade, late, refused, done, wrote, told, put, nth, when, nothing, most_desk, on_desk, take, at, answer_at, desk_at}
use Rattle.machine.specs.Calls.{most_round, most_value, begun, begin_by, result_by}
use Rattle.machine.specs.Steps.{machine, Step, begin, hear, run_of, PlainRun}
use Rattle.machine.specs.Seen.{chosen_in, accepted, view_of}
use Rattle.machine.specs.Views.{View, Begins, Current, Ends}
use Rattle.machine.proofs.Places.{from_on}
use Rattle.machine.proofs.Branches.{Resting}
use Rattle.machine.proofs.Outcomes.{begin-cases, result-cases}
use Rattle.machine.proofs.Moves.{PlainState, stepped, Seated, on-desk}
use Rattle.machine.proofs.Desks.{put-cases, desk-moved}

-- ---- the last begin before a place, in any run

-- desk d begins no operation at place k
abbrev pub NoBegin : View → ℕ → ℕ → Type 0
NoBegin v d k = (u : Task) → Begins v d k u → ⊥

pub current-new : {v : View} {d k : ℕ} {t : Task} → Begins v d k t → Current v d k t (suc k)
current-new b = record { begun = b; earlier = omega arith; last = λ p u l m. absurd (omega arith) }

pub current-next : {v : View} {d i k : ℕ} {t : Task} → Current v d i t k → NoBegin v d k → Current v d i t (suc k)
current-next {v} {d} {i} {k} {t} h none_here =
    record {
      begun = h.begun;
      earlier = omega arith;
      last =
          λ p u l m b.
          ⊎_elim (λ (e : p ≡ k). none_here u (subst (λ q. Begins v d q u) e b)) (λ (e : p < k). h.last p u l e b) (below_suc m);
    }

pub current-earlier : {v : View} {d i k : ℕ} {t : Task} → Current v d i t k → (p : ℕ) → i < p → p ≤ k → Current v d i t p
current-earlier h p l m = record { begun = h.begun; earlier = l; last = λ q u a b. h.last q u a (omega arith) }

-- a place has one operation
pub current-unique : {v : View} {d i j k : ℕ} {t u : Task} → Current v d i t k → Current v d j u k → (i ≡ j) × (t ≡ u)
current-unique {v} {d} {i} {j} {k} {t} {u} h e =
    let same : i ≡ j = order (le-or-lt i j) (le-or-lt j i) in
    (same, task (subst (λ p. Begins v d p t) same h.begun) e.begun)
  where
    order : (i ≤ j) ⊎ (j < i) → (j ≤ i) ⊎ (i < j) → i ≡ j
    order (inl a) (inl b) = omega arith
    order (inl a) (inr b) = absurd (h.last j u b e.earlier e.begun)
    order (inr a) y = absurd (e.last i t a h.earlier h.begun)

    task : Begins v d j t → Begins v d j u → t ≡ u
    task a b = cc

-- an operation that ends stays the last one: its end is a hear
pub current-ended : {v : View} {d i k : ℕ} {t : Task} {x : Result} → Ends v d i t k x → Current v d i t (suc k)
current-ended {v} {d} {i} {k} {t} {x} h = current-next h.current (λ u b. apart u b.step h.step)
  where
    apart : (u : Task) {note m : ℕ} → nth v.steps k ≡ some (begin d u note) → nth v.steps k ≡ some (hear d m) → ⊥
    apart u a b = let z : ◌≡◌ {A = ℕ} 0 1 = cc in omega arith

-- What holds at a place p of an operation holds at a later one k, if each step between them, which is no begin of the desk, keeps it.
pub during : {v : View} {d i : ℕ} {t : Task} (P : ℕ → Type 0) (p k : ℕ) → i < p → p ≤ k → Current v d i t k
    → ((q : ℕ) → p ≤ q → Current v d i t q → NoBegin v d q → P q → P (suc q))
    → P p
    → P k
during {v} {d} {i} {t} P p k l m h step start =
    from_on (λ q. Current v d i t q → P q) p (λ e. start)
    (λ q n before e.
    let now : Current v d i t q = current-earlier e q (omega arith) (omega arith) in
    step q n now (λ u. e.last q u (omega arith) (omega arith)) (before now))
    k
    m
    h

-- ---- results told

-- whether an answer tells a result
abbrev pub telling : Answer → Bool
telling unmade = false
telling late = false
telling (refused k) = false
telling done = false
telling (wrote k) = false
telling (told x) = true

pub tells-nothing : (a : Answer) → telling a ≡ false → (x : Result) → a ≡ told x → ⊥
tells-nothing a e x f = false≢true (sym e ∙ ap telling f)

pub told_is : {x y : Result} → told x ≡ told y → x ≡ y
told_is e = cc

-- ---- a begin of the machine

-- the desk x accepts a begin with the task t, and is y then
pub record Begun (x : Desk) (t : Task) (y : Desk) : Type 0 where
  pub note : ℕ
  pub short : length (value_of t) ≤ most_value
  pub rests : Resting x.activity
  pub room : x.round < most_round
  pub after : y ≡ begun x t note

begin-taken : (c : Config) (s : PlainState) (d : ℕ) (t : Task) (note : ℕ) → (stepped c s (begin d t note)).answer ≡ done
    → Begun (s.desks d) t ((stepped c s (begin d t note)).state.desks d)
unfolding take
begin-taken c s d t note =
    on-desk c s (λ z. z.answer ≡ done → Begun (s.desks d) t (z.state.desks d)) d (λ x. begin_by c x t note) (apart unmade refl)
    (λ at.
    begin-cases (λ o. o.answer ≡ done → Begun (s.desks d) t (put s.desks d o.party d)) c (s.desks d) t note (λ k. apart (refused k) refl)
    (λ l rests room e.
    record {
      note = note;
      short = l;
      rests = rests;
      room = room;
      after = put-cases (λ y. y ≡ begun (s.desks d) t note) s.desks d _ d (λ f. refl) (λ f. absurd (f refl));
    }))
  where
    -- an answer that is none of an accepted call is not done
    apart : {A : Type 0} (a : Answer) → accepted a ≡ false → a ≡ done → A
    apart a e f = absurd (false≢true (sym e ∙ ap accepted f))

-- ---- where what a desk does comes from

-- the begin of an operation with the task t that runs at place k
pub record RunningFrom (r : PlainRun) (d k : ℕ) (t : Task) : Type 0 where
  pub begun : ℕ
  pub current : Current (view_of r) d begun t k

-- the begin and the end of the operation whose result x is there at place k
pub record EndedFrom (r : PlainRun) (d k : ℕ) (x : Result) : Type 0 where
  pub begun : ℕ
  pub task : Task
  pub end : ℕ
  pub current : Current (view_of r) d begun task k
  pub ends : Ends (view_of r) d begun task end x
  pub earlier : end < k

-- no operation both runs and has ended
pub running-ended : {a : Activity} {o : Operation} {x : Result} → a ≡ running o → a ≡ ended x → ⊥
running-ended e f = let z : ◌≡◌ {A = ℕ} 0 1 = cc in omega arith

-- an operation that runs in phase 2, in which phase 1 chose g
pub record PhaseTwo (a : Activity) (g : Register) : Type 0 where
  pub operation : Operation
  pub runs : a ≡ running operation
  pub phase-two : operation.phase ≡ second g

pub chosen-runs : (a : Activity) (g : Register) → chosen_in a ≡ some g → PhaseTwo a g
chosen-runs idle g e = absurd (none-ne-some g e)
chosen-runs (running o) g e = record { operation = o; runs = refl; phase-two = by-phases o.phase e }
  where
    by-phases : (h : Phase) → by-phase h none (λ u. some u) ≡ some g → h ≡ second g
    by-phases first f = absurd (none-ne-some g f)
    by-phases (second u) f = ap second (some-injective u g f)
chosen-runs (ended y) g e = absurd (none-ne-some g e)

pub runs-chosen : (a : Activity) (g : Register) → PhaseTwo a g → chosen_in a ≡ some g
runs-chosen a g p = rw (p.runs, p.phase-two) refl

abbrev Origin : PlainRun → ℕ → ℕ → Activity → Type 0
Origin r d k idle = Unit
Origin r d k (running o) = RunningFrom r d k o.task
Origin r d k (ended x) = EndedFrom r d k x

module _ (house : House) (steps : List Step) where
  abbrev c : Config
  c = config_of house

  abbrev r : PlainRun
  r = run_of machine house steps

  pub begins-is : (d k : ℕ) (t : Task) → Begins (view_of r) d k t → Begun (desk_at r d k) t (desk_at r d (suc k))
  unfolding at answer_at
  begins-is d k t b =
      subst (λ z. z.answer ≡ done → Begun (desk_at r d k) t (z.state.desks d))
      (ap (λ o. when o (nothing (at r k)) (stepped c (at r k))) (sym b.step))
      (begin-taken c (at r k) d t b.note)
      b.taken

  -- no begin is accepted where an operation runs, nor where the desk stays as it is
  pub busy : (d k : ℕ) (o : Operation) → (desk_at r d k).activity ≡ running o → NoBegin (view_of r) d k
  busy d k o e u b = subst Resting e (begins-is d k u b).rests

  pub unmoved : (d k : ℕ) → desk_at r d k ≡ desk_at r d (suc k) → NoBegin (view_of r) d k
  unmoved d k e u b = let f = begins-is d k u b in subst Resting (ap (λ y. y.activity) (e ∙ f.after)) f.rests

  -- What a result call tells is the result of an operation that has ended, of a desk that there is.
  pub gives-ended : (d k : ℕ) (x : Result) → (view_of r).gives d k ≡ told x → Seated d × ((desk_at r d k).activity ≡ ended x)
  unfolding take
  gives-ended d k x =
      on-desk c (at r k) (λ z. z.answer ≡ told x → Seated d × ((desk_at r d k).activity ≡ ended x)) d result_by
      (λ e. absurd (tells-nothing unmade refl x e))
      (λ seated.
      result-cases (λ o. o.answer ≡ told x → Seated d × ((desk_at r d k).activity ≡ ended x)) (desk_at r d k)
      (λ n e. absurd (tells-nothing (refused n) refl x e))
      (λ y f e. (seated, f ∙ ap ended (told_is e))))

  pub ended-gives : (d k : ℕ) (x : Result) → Seated d → (desk_at r d k).activity ≡ ended x → (view_of r).gives d k ≡ told x
  unfolding take on_desk result_by
  ended-gives d k x seated e = rw (le-leb 1 d seated.some, le-leb d most_desk seated.most, e) refl

  running-gives : (d k : ℕ) (o : Operation) → (desk_at r d k).activity ≡ running o → (y : Result) → (view_of r).gives d k ≡ told y → ⊥
  running-gives d k o e y f = running-ended e (gives-ended d k y f).1

  module _ (d k : ℕ) where
    origin-next : (a : Activity) → NoBegin (view_of r) d k → Origin r d k a → Origin r d (suc k) a
    origin-next idle n h = tt
    origin-next (running o) n h = record { begun = h.begun; current = current-next h.current n }
    origin-next (ended x) n h =
        record {
          begun = h.begun;
          task = h.task;
          end = h.end;
          current = current-next h.current n;
          ends = h.ends;
          earlier = omega (arith, h.earlier);
        }

    -- what runs goes on
    goes_on : (o : Operation) → (desk_at r d k).activity ≡ running o → Origin r d k (desk_at r d k).activity → RunningFrom r d (suc k) o.task
    goes_on o e h = origin-next (running o) (busy d k o e) (subst (Origin r d k) e h)

    -- what runs comes to its end
    comes-to-end : (p : ℕ) (o : Operation) (x : Result) → nth steps k ≡ some (hear d p) → Seated d → (desk_at r d k).activity ≡ running o
        → (desk_at r d (suc k)).activity ≡ ended x
        → Origin r d k (desk_at r d k).activity
        → EndedFrom r d (suc k) x
    comes-to-end p o x s seated e f h =
        let from : RunningFrom r d k o.task = subst (Origin r d k) e h in
        record {
          begun = from.begun;
          task = o.task;
          end = k;
          current = current-next from.current (busy d k o e);
          ends =
              record {
                current = from.current;
                message = p;
                step = s;
                before = running-gives d k o e;
                after = ended-gives d (suc k) x seated f;
              };
          earlier = omega arith;
        }

    origin-step : Origin r d k (desk_at r d k).activity → Origin r d (suc k) (desk_at r d (suc k)).activity
    origin-step h =
        desk-moved house steps d k (λ a y. y ≡ desk_at r d (suc k) → Origin r d (suc k) y.activity)
        (record {
          still = λ e. origin-next (desk_at r d k).activity (unmoved d k e) h;
          begins = λ t note b l rests room e. record { begun = k; current = current-new b };
          drops = λ o f e. tt;
          restarts = λ p m o f i room e. goes_on o f.hearing.runs h;
          marks = λ p m o f i q e. goes_on o f.hearing.runs h;
          chooses = λ p m o f i q g room w e. goes_on o f.hearing.runs h;
          ends = λ p m o g s f i q z e. comes-to-end p o _ s f.seated f.hearing.runs (ap (λ y. y.activity) (sym e)) h;
        })
        refl

  origin : (d k : ℕ) → Origin r d k (desk_at r d k).activity
  unfolding at
  origin d zero = tt
  origin d (suc k) = origin-step d k (origin d k)

  pub running-origin : (d k : ℕ) (o : Operation) → (desk_at r d k).activity ≡ running o → RunningFrom r d k o.task
  running-origin d k o e = subst (Origin r d k) e (origin d k)

  pub ended-origin : (d k : ℕ) (x : Result) → (desk_at r d k).activity ≡ ended x → EndedFrom r d k x
  ended-origin d k x e = subst (Origin r d k) e (origin d k)
