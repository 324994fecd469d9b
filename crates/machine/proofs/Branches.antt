-- What came out of a choice, from what comes out of each of its branches: one law for each way in which the machine's definitions choose.
use Prim.Native.Nat.{ℕ}
use mathlib.Core.Path.{◌≡◌, refl}
use mathlib.Core.Bool.{Bool, true, false, cond}
use mathlib.Core.List.{List}
use mathlib.Core.Option.{Option, none, some}
use Rattle.machine.specs.Parties.{Register, Kind, request, reply, share, by_kind, Task, read, write, by-task, Phase, first, second, by-phase, Operation, Result, Activity, idle, running, ended, if-running, if-ended}
use Rattle.machine.specs.Runs.{when}

-- no operation runs
abbrev pub Resting : Activity → Type 0
Resting idle = Unit
Resting (running o) = ⊥
Resting (ended r) = Unit

-- of each element none
pub when-none : {A B : Type 0} (o : Option A) → when {B = Option B} o none (λ x. none) ≡ none
when-none none = refl
when-none (some x) = refl

module _ {A : Type 0} (P : A → Type 0) where
  -- a test
  pub branch : (b : Bool) (x y : A) → (b ≡ true → P x) → (b ≡ false → P y) → P (cond b x y)
  branch true x y p q = p refl
  branch false x y p q = q refl

  -- an element that is there, or not
  pub when-cases : {B : Type 0} (o : Option B) (y : A) (f : B → A) → P y → ((x : B) → o ≡ some x → P (f x)) → P (when o y f)
  when-cases none y f p q = p
  when-cases (some x) y f p q = q x refl

  -- the kind of a message, the task and the phase of an operation
  pub kind-cases : (k : Kind) (x y z : A) → (k ≡ request → P x) → (k ≡ reply → P y) → (k ≡ share → P z) → P (by_kind k x y z)
  kind-cases request x y z p q r = p refl
  kind-cases reply x y z p q r = q refl
  kind-cases share x y z p q r = r refl

  pub task-cases : (t : Task) (x : A) (f : List ℕ → A) → (t ≡ read → P x) → ((v : List ℕ) → t ≡ write v → P (f v)) → P (by-task t x f)
  task-cases read x f p q = p refl
  task-cases (write v) x f p q = q v refl

  pub phase-cases : (h : Phase) (x : A) (f : Register → A) → (h ≡ first → P x) → ((g : Register) → h ≡ second g → P (f g)) → P (by-phase h x f)
  phase-cases first x f p q = p refl
  phase-cases (second g) x f p q = q g refl

  -- what a desk does
  pub running-cases : (a : Activity) (f : Operation → A) (x : A) → ((o : Operation) → a ≡ running o → P (f o)) → (Resting a → P x) → P (if-running a f x)
  running-cases idle f x p q = q tt
  running-cases (running o) f x p q = p o refl
  running-cases (ended r) f x p q = q tt

  pub ended-cases : (a : Activity) (f : Result → A) (x : A) → ((r : Result) → a ≡ ended r → P (f r)) → P x → P (if-ended a f x)
  ended-cases idle f x p q = q
  ended-cases (running o) f x p q = q
  ended-cases (ended r) f x p q = p r refl
