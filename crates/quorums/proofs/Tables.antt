-- A table has its value at every index, and two lists with the same values are one.
use Prim.Native.Nat.{ℕ, zero, suc, ◌+◌, ◌<◌}
use native.Mathlib.Numerals.{add-one}
use native.Mathlib.Omega.{arith}
use mathlib.Core.Path.{◌≡◌, refl, sym, ap, ◌∙◌}
use mathlib.Core.Logic.{⊎_elim}
use mathlib.Core.List.{List}
use lib.ListN.{length, get_or, set}
use lib.Seq.{ext_get_or, get_or-set_same, get_or-set_other}
use Rattle.quorums.proofs.Sums.{below_suc}
use Rattle.quorums.specs.Tables.{run, table}

run_length : (f : ℕ → ℕ) (k n : ℕ) → length (run f k n) ≡ n
unfolding run
run_length f k zero = refl
run_length f k (suc n) = ap suc (run_length f (suc k) n)

run_at : (f : ℕ → ℕ) (k n i : ℕ) → i < n → get_or (run f k n) i 0 ≡ f (k + i)
unfolding run
run_at f k zero i l = absurd (omega arith)
run_at f k (suc n) zero l = ap f (omega arith)
run_at f k (suc n) (suc i) l = run_at f (suc k) n i (omega arith) ∙ ap f (omega arith)

pub table-length : (n : ℕ) (f : ℕ → ℕ) → length (table n f) ≡ n
unfolding table
table-length n f = run_length f 0 n

pub table_at : (n : ℕ) (f : ℕ → ℕ) (i : ℕ) → i < n → get_or (table n f) i 0 ≡ f i
unfolding table
table_at n f i l = run_at f 0 n i l ∙ ap f (omega arith)

-- a list of n values is the table of its values
pub is-table : (n : ℕ) (f : ℕ → ℕ) (l : List ℕ) → length l ≡ n → ((i : ℕ) → i < n → get_or l i 0 ≡ f i) → l ≡ table n f
is-table n f l e h =
    ext_get_or 0 l (table n f) (e ∙ sym (table-length n f)) (λ i k. let b : i < n = omega arith in h i b ∙ sym (table_at n f i b))

pub table_same : (n : ℕ) (f g : ℕ → ℕ) → ((i : ℕ) → i < n → f i ≡ g i) → table n f ≡ table n g
table_same n f g h = is-table n g (table n f) (table-length n f) (λ i l. table_at n f i l ∙ h i l)

-- a list that is filled from the front, one value a turn
pub filled_next : (f : ℕ → ℕ) (l : List ℕ) (i v : ℕ) → i < length l → ((m : ℕ) → m < i → get_or l m 0 ≡ f m) → v ≡ f i
    → (m : ℕ) → m < i + 1 → get_or (set l i v) m 0 ≡ f m
filled_next f l i v h below e m k =
    ⊎_elim (λ (d : m ≡ i). rw d (get_or-set_same l i v 0 h ∙ e))
    (λ (d : m < i). get_or-set_other l i m v 0 (λ c. omega arith) ∙ below m d)
    (below_suc (rw add-one at k))
