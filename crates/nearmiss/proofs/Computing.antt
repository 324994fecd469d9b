-- Runs by computation: that no operation of a desk ends is brought down to a test that computes.
use Prim.Native.Nat.{ℕ, zero, suc, ◌<◌}
use native.Mathlib.Omega.{arith}
use mathlib.Core.Path.{◌≡◌, sym, ap, ◌∙◌}
use mathlib.Core.Bool.{Bool, true, not, false≢true}
use mathlib.Core.List.{List, [], ◌∷◌}
use mathlib.Core.Option.{some, none-ne-some}
use lib.ListN.{length}
use Rattle.quorums.specs.Sum.{all}
use Rattle.quorums.proofs.Sums.{all-each}
use Rattle.machine.specs.Parties.{Task, Result}
use Rattle.machine.specs.Runs.{nth}
use Rattle.machine.specs.Steps.{Step, PlainRun}
use Rattle.machine.specs.Seen.{view_of}
use Rattle.machine.specs.Views.{Ends}
use Rattle.machine.proofs.Performed.{telling}

-- whether no hear of desk d leaves it with a result
abbrev pub never_tells : PlainRun → ℕ → Bool
never_tells r d = all (length r.steps) (λ k. not (telling ((view_of r).gives d (suc k))))

nth-within : (l : List Step) (k : ℕ) (s : Step) → nth l k ≡ some s → k < length l
nth-within [] k s e = absurd (none-ne-some s e)
nth-within (x ∷ l) zero s e = omega arith
nth-within (x ∷ l) (suc k) s e = omega (arith, nth-within l k s e)

pub never_ends_lem : (r : PlainRun) (d : ℕ) → never_tells r d ≡ true → (i : ℕ) (t : Task) (k : ℕ) (x : Result) → Ends (view_of r) d i t k x → ⊥
never_ends_lem r d n i t k x e =
    let z = all-each (length r.steps) (λ k. not (telling ((view_of r).gives d (suc k)))) n k (nth-within r.steps k _ e.step) in
    absurd (false≢true (sym (ap (λ a. not (telling a)) e.after) ∙ z))
