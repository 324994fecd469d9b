-- A list of 16 sums to which a number is added at each index in turn, or at those that a map names.
use Prim.Native.Nat.{ℕ, ◌+◌, ◌-◌, ◌*◌, ◌≤◌, ◌<◌}
use native.Mathlib.Decide.{ℕ_discrete}
use native.Mathlib.Numerals.{add-one}
use native.Mathlib.Omega.{arith}
use mathlib.Core.Path.{◌≡◌, refl, sym, ap, ◌∙◌}
use mathlib.Core.Logic.{⊎_elim}
use mathlib.Core.Bool.{false}
use mathlib.Core.List.{List}
use lib.ListN.{length, get_or, set, replicate, length-set, get_or-replicate, get_or-eq_default}
use lib.Seq.{get_or-set_same, get_or-set_other}
use Rattle.std.proofs.lemmas.Bool.{true≢false}
use Rattle.quorums.specs.Sum.{sum}
use Rattle.quorums.proofs.Tests.{le-or-lt}
use Rattle.quorums.proofs.Sums.{below_suc, sum-extend, sum-le, sum-const}
use Rattle.quorums.specs.Tables.{table}
use Rattle.ledger.specs.Maps.{named}
use Rattle.ledger.specs.Sums.{Sums, Covers}
use Rattle.quorums.proofs.Tables.{is-table, table_same, table-length, table_at}

-- ys is xs with f k added at each k below j
pub record Tallied (f : ℕ → ℕ) (xs ys : List ℕ) (j : ℕ) : Type 0 where
  pub size : length ys ≡ 16
  pub done : (k : ℕ) → k < j → get_or ys k 0 ≡ get_or xs k 0 + f k
  pub left : (k : ℕ) → j ≤ k → get_or ys k 0 ≡ get_or xs k 0

pub tally-none : (f : ℕ → ℕ) (xs : List ℕ) → length xs ≡ 16 → Tallied f xs xs 0
tally-none f xs e = record { size = e; done = λ k l. absurd (omega arith); left = λ k l. refl }

pub tally-next : (f : ℕ → ℕ) (xs ys : List ℕ) (j v : ℕ) → j < 16 → Tallied f xs ys j → v ≡ get_or xs j 0 + f j → Tallied f xs (set ys j v) (j + 1)
tally-next f xs ys j v l h e =
    record {
      size = simp length-set h.size;
      done =
          λ k b.
          ⊎_elim (λ (d : k ≡ j). rw d (get_or-set_same ys j v 0 (omega (arith, h.size)) ∙ e))
          (λ (d : k < j). get_or-set_other ys j k v 0 (λ c. omega arith) ∙ h.done k d)
          (below_suc (rw add-one at b));
      left = λ k b. get_or-set_other ys j k v 0 (λ c. omega arith) ∙ h.left k (omega arith);
    }

-- where nothing is to be added from j on, the rest is done
pub tally-all : (f : ℕ → ℕ) (xs ys : List ℕ) (j : ℕ) → Tallied f xs ys j → ((k : ℕ) → j ≤ k → f k ≡ 0) → ys ≡ table 16 (λ k. get_or xs k 0 + f k)
tally-all f xs ys j h none =
    is-table 16 _ ys h.size
    (λ k l.
    ⊎_elim (λ (g : j ≤ k). omega (arith, h.left k g, none k g)) (λ (g : k < j). h.done k g) (le-or-lt j k))

-- a list of zeros
pub zeros-at : {xs : List ℕ} → xs ≡ replicate 16 0 → (k : ℕ) → k < 16 → get_or xs k 0 ≡ 0
zeros-at e k l = ap (λ ys. get_or ys k 0) e ∙ get_or-replicate 16 k 0 0 l

-- where nothing was there before, the list is f's
pub tally-zeros : (f : ℕ → ℕ) (xs ys : List ℕ) (j : ℕ) → xs ≡ replicate 16 0 → Tallied f xs ys j → ((k : ℕ) → j ≤ k → f k ≡ 0) → ys ≡ table 16 f
tally-zeros f xs ys j blank h none = tally-all f xs ys j h none ∙ table_same 16 _ f (λ k l. omega (arith, zeros-at blank k l))

-- where nothing is to be added from j on, a sum is whole too
pub sum-all : (f : ℕ → ℕ) (j : ℕ) → j ≤ 16 → ((k : ℕ) → j ≤ k → f k ≡ 0) → sum j f ≡ sum 16 f
sum-all f j l none = let e : j + (16 - j) ≡ 16 = omega arith in sym (sum-extend j (16 - j) f (λ k g b. none k g)) ∙ ap (λ n. sum n f) e

-- 16 numbers with a bound have it at every index
pub bounded : (l : List ℕ) (most : ℕ) → length l ≡ 16 → ((k : ℕ) → k < 16 → get_or l k 0 ≤ most) → (k : ℕ) → get_or l k 0 ≤ most
bounded l most e h k = ⊎_elim (λ (g : 16 ≤ k). rw (get_or-eq_default l 0 (beyond g)) (omega arith)) (λ (g : k < 16). h k g) (le-or-lt 16 k)
  where
    beyond : 16 ≤ k → length l ≤ k
    beyond g = omega (arith, e)

-- a number written within a range leaves a list within it
pub set-within : (l : List ℕ) (i v m most : ℕ) → i < length l → ((k : ℕ) → get_or l k 0 ≤ most) → v ≤ most → get_or (set l i v) m 0 ≤ most
set-within l i v m most h r w = by_place (ℕ_discrete m i)
  where
    by_place : Dec (m ≡ i) → get_or (set l i v) m 0 ≤ most
    by_place (yes e) = rw (e, get_or-set_same l i v 0 h) w
    by_place (no e) = rw (get_or-set_other l i m v 0 e) (r m)

-- n cells come to at most n times the largest
pub sum-most : (n : ℕ) (f : ℕ → ℕ) → ((k : ℕ) → f k ≤ 4294967295) → sum n f ≤ n * 4294967295
sum-most n f h = omega (arith, sum-le n f (λ k. 4294967295) (λ k l. h k), sum-const n 4294967295)

-- so 16 sums that are each small are small together
pub sums-small : (f : ℕ → ℕ) → ((k : ℕ) → f k ≤ 68719476720) → Sums 68719476720 (table 16 f)
sums-small f h =
    record {
      size = table-length 16 f;
      small = bounded (table 16 f) 68719476720 (table-length 16 f) (λ k g. omega (arith, table_at 16 f k g, h k));
    }

-- ---- a list that has f at each of the servers that a map names

pub covers-table : (n m : ℕ) (f : ℕ → ℕ) (l : List ℕ) → n ≤ 16 → l ≡ table 16 f → Covers n m f l
covers-table n m f l h e = record { at = λ k b t. ap (λ xs. get_or xs k 0) e ∙ table_at 16 f k (omega arith) }

module _ {i m : ℕ} {f : ℕ → ℕ} {l : List ℕ} (s : Covers i m f l) where
  -- a server that is named is put in, and one that is not named is passed by
  pub covers-put : (v : ℕ) → i < length l → v ≡ f i → Covers (i + 1) m f (set l i v)
  covers-put v h e =
      record {
        at =
            λ k b t.
            ⊎_elim (λ (d : k ≡ i). rw d (get_or-set_same l i v 0 h ∙ e))
            (λ (d : k < i). get_or-set_other l i k v 0 (λ c. omega arith) ∙ s.at k d t)
            (below_suc (rw add-one at b));
      }

  pub covers-passed : named m i ≡ false → Covers (i + 1) m f l
  covers-passed p =
      record {
        at = λ k b t. ⊎_elim (λ (d : k ≡ i). absurd (true≢false (sym (rw d at t) ∙ p))) (λ (d : k < i). s.at k d t) (below_suc (rw add-one at b));
      }

-- sums stay small where a small one is put in
pub sums-put : {most : ℕ} {l : List ℕ} → Sums most l → (i v : ℕ) → i < 16 → v ≤ most → Sums most (set l i v)
sums-put {most} {l} s i v h w = record { size = simp length-set s.size; small = λ k. set-within l i v k most (omega (arith, s.size)) s.small w }
