-- Concrete lists: what `Ends`, `Chose`, `Current` and `Typed` say of every place of a list is brought down to tests that compute.
use Prim.Native.Nat.{ℕ, zero, suc, ◌<◌, ◌^◌}
use native.Mathlib.Omega.{arith}
use mathlib.Core.Path.{◌≡◌, refl, subst}
use mathlib.Core.Bool.{Bool, true, false, cond, not}
use mathlib.Core.List.{List, [], ◌∷◌, ◌++◌, append-nil}
use mathlib.Core.Option.{some, none-ne-some, some-injective}
use borrow.Author.Tests.{leb-true, ltb-true, lt-ltb, eq-eqb}
use lib.Dec.{eqb, leb, ltb}
use Rattle.quorums.specs.Sum.{all}
use Rattle.quorums.proofs.Sums.{all-each}
use Rattle.quorums.proofs.Tests.{both}
use Rattle.machine.specs.Parties.{Register, Task, value_of, Result}
use Rattle.machine.specs.Runs.{done, told, nth, when, answer_at}
use Rattle.machine.specs.Steps.{Step, begin, ask, serve, hear, result, drop, transfer, share, crash, PlainRun}
use Rattle.machine.specs.Seen.{view_of}
use Rattle.machine.specs.Views.{Current, Ends, Chose}
use Rattle.machine.specs.Typed.{Bytes, Typed}
use Rattle.machine.proofs.Performed.{telling, tells-nothing}

-- ---- the last operation that a desk began

-- whether a step is a begin of desk d
abbrev pub begun_by : ℕ → Step → Bool
begun_by d (begin e t note) = eqb e d
begun_by d (ask e i place size) = false
begun_by d (serve i m place size) = false
begun_by d (hear e m) = false
begun_by d (result e) = false
begun_by d (drop e) = false
begun_by d (transfer i j amount) = false
begun_by d (share i place size) = false
begun_by d (crash i) = false

-- whether desk d begins nothing after place i and before place k
abbrev pub quiet : List Step → ℕ → ℕ → ℕ → Bool
quiet l d i k = all k (λ p. cond (ltb i p) (when (nth l p) true (λ s. not (begun_by d s))) true)

pub current-of : (r : PlainRun) (d i : ℕ) (t : Task) (k noted : ℕ)
    → nth r.steps i ≡ some (begin d t noted) → answer_at r i ≡ done → ltb i k ≡ true → quiet r.steps d i k ≡ true → Current (view_of r) d i t k
current-of r d i t k noted s a l q =
    record {
      begun = record { note = noted; step = s; taken = a };
      earlier = ltb-true i k l;
      last = λ p u after before b. no-begin p u after before b.note b.step;
    }
  where
    no-begin : (p : ℕ) (u : Task) → i < p → p < k → (m : ℕ) → nth r.steps p ≡ some (begin d u m) → ⊥
    no-begin p u after before m e =
        let z = all-each k (λ p. cond (ltb i p) (when (nth r.steps p) true (λ s. not (begun_by d s))) true) q p before in
        let y : not (eqb d d) ≡ true = rw (lt-ltb i p after, e) at z in
        let x : false ≡ true = rw (eq-eqb d d refl) at y in
        let w : ◌≡◌ {A = ℕ} 0 1 = cc in
        absurd (omega arith)

-- ---- the end of an operation, and the register that it chose

-- desk d begins t at place i, with a note, and nothing after it before place k, where it hears a message, tells no result before and x after
pub ends_of_lem : (r : PlainRun) (d i : ℕ) (t : Task) (k : ℕ) (x : Result) (noted message : ℕ)
    → nth r.steps i ≡ some (begin d t noted) → answer_at r i ≡ done → ltb i k ≡ true → quiet r.steps d i k ≡ true
    → nth r.steps k ≡ some (hear d message) → telling ((view_of r).gives d k) ≡ false → (view_of r).gives d (suc k) ≡ told x → Ends (view_of r) d i t k x
ends_of_lem r d i t k x noted message s a l q h n g =
    record { current = current-of r d i t k noted s a l q; message = message; step = h; before = tells-nothing ((view_of r).gives d k) n; after = g }

-- desk d begins t at place i, with a note, and nothing after it before place k, where it is in phase 2 with g
pub chose-of : (r : PlainRun) (d i : ℕ) (t : Task) (k : ℕ) (g : Register) (noted : ℕ)
    → nth r.steps i ≡ some (begin d t noted) → answer_at r i ≡ done → ltb i k ≡ true → quiet r.steps d i k ≡ true
    → (view_of r).chosen d k ≡ some g → Chose (view_of r) d i t g
chose-of r d i t k g noted s a l q e = record { place = k; current = current-of r d i t k noted s a l q; phase-two = e }

-- ---- arguments that a call can have

-- whether a list is made of bytes
unfoldable pub are_bytes : List ℕ → Bool
are_bytes [] = true
are_bytes (x ∷ v) = cond (leb x 255) (are_bytes v) false

-- whether a begin has a value of bytes and a note of 32 bits
abbrev pub typed_step : Step → Bool
typed_step (begin d t note) = cond (are_bytes (value_of t)) (ltb note (2 ^ 32)) false
typed_step (ask d i place size) = true
typed_step (serve i k place size) = true
typed_step (hear d k) = true
typed_step (result d) = true
typed_step (drop d) = true
typed_step (transfer i j amount) = true
typed_step (share i place size) = true
typed_step (crash i) = true

unfoldable pub typed_steps : List Step → Bool
typed_steps [] = true
typed_steps (st ∷ l) = cond (typed_step st) (typed_steps l) false

byte-list : (v : List ℕ) → are_bytes v ≡ true → Bytes v
unfolding are_bytes
byte-list [] e k = omega arith
byte-list (x ∷ v) e zero = omega (arith, leb-true x 255 (both (leb x 255) (are_bytes v) e).0)
byte-list (x ∷ v) e (suc k) = byte-list v (both (leb x 255) (are_bytes v) e).1 k

-- a list whose steps pass the test, before one that is known to be typed, and alone
pub typed-before : (l m : List Step) → typed_steps l ≡ true → Typed m → Typed (l ++ m)
unfolding typed_steps
typed-before [] m e h k d t note f = h k d t note f
typed-before (st ∷ l) m e h zero d t note f =
    let is : typed_step (begin d t note) ≡ true =
    subst (λ z. typed_step z ≡ true) (some-injective st (begin d t note) f) (both (typed_step st) (typed_steps l) e).0 in
    let b = both (are_bytes (value_of t)) (ltb note (2 ^ 32)) is in
    (byte-list (value_of t) b.0, ltb-true note (2 ^ 32) b.1)
typed-before (st ∷ l) m e h (suc k) d t note f = typed-before l m (both (typed_step st) (typed_steps l) e).1 h k d t note f

pub all_typed : (l : List Step) → typed_steps l ≡ true → Typed l
all_typed l e = subst Typed (append-nil l) (typed-before l [] e (λ k d t note f. absurd (none-ne-some (begin d t note) f)))
