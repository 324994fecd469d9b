-- The answers of a run one after the other are those at its places.
use Prim.Native.Nat.{ℕ, zero, suc, ◌+◌}
use native.Mathlib.Omega.{arith}
use native.Mathlib.Nat.{add-zero, zero-add}
use mathlib.Core.Path.{◌≡◌, ◌∙◌}
use mathlib.Core.List.{List, [], ◌∷◌}
use mathlib.Core.Option.{some}
use Rattle.machine.specs.Runs.{Answer, nth, step, at, answer_at}
use Rattle.machine.specs.Steps.{Step, PlainRun}
use Rattle.nearmiss.specs.Steps.{answers_from, answers}

shift : (j k : ℕ) → j + suc k ≡ suc j + k
shift j k = omega arith

module _ (r : PlainRun) where
  -- from place j on, where l is what is left of the steps
  from_place : (i j : ℕ) (l : List Step) (a : Answer) → ((k : ℕ) → nth r.steps (j + k) ≡ nth l k)
      → nth (answers_from r (at r j) l) i ≡ some a → answer_at r (j + i) ≡ a
  unfolding answers_from answer_at at
  from_place i j [] a left e = let z : ◌≡◌ {A = ℕ} 0 1 = cc in absurd (omega arith)
  from_place zero j (x ∷ l) a left e =
      let first : nth r.steps j ≡ some x = rw add-zero at (left 0) in
      let answer : answer_at r j ≡ (step r (at r j) x).answer = rw (first, answer_at) in
      let told : (step r (at r j) x).answer ≡ a = cc in
      rw add-zero (answer ∙ told)
  from_place (suc i) j (x ∷ l) a left e =
      let first : nth r.steps j ≡ some x = rw add-zero at (left 0) in
      let state : at r (suc j) ≡ (step r (at r j) x).state = rw (first, at) in
      let rest : (k : ℕ) → nth r.steps (suc j + k) ≡ nth l k = λ k. rw (← (shift j k)) (left (suc k)) in
      rw (shift j i) (from_place i (suc j) l a rest (rw state e))

-- answer k of the list is that at place k
pub answers_at : (r : PlainRun) (k : ℕ) (a : Answer) → nth (answers r) k ≡ some a → answer_at r k ≡ a
unfolding at
answers_at r k a e = rw zero-add at (from_place r k 0 r.steps a (λ m. rw zero-add) e)
