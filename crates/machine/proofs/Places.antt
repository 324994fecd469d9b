-- What holds at a place of a run, and is kept by each step from there on, holds at every later place.
use Prim.Native.Nat.{ℕ, zero, suc, ◌≤◌, ◌<◌}
use native.Mathlib.Omega.{arith}
use mathlib.Core.Path.{◌≡◌, subst}
use mathlib.Core.Logic.{⊎_elim}
use Rattle.quorums.proofs.Tests.{le-or-lt}

pub from_on : (P : ℕ → Type 0) (k : ℕ) → P k → ((p : ℕ) → k ≤ p → P p → P (suc p)) → (p : ℕ) → k ≤ p → P p
from_on P k start step zero l = let same : k ≡ 0 = omega arith in subst P same start
from_on P k start step (suc p) l =
    ⊎_elim (λ (m : k ≤ p). step p m (from_on P k start step p m)) (λ (m : p < k). let same : k ≡ suc p = omega arith in subst P same start)
    (le-or-lt k p)
