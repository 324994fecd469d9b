-- A list that is written from the front, value by value or row by row: a row's part is lent out and comes back between what stood before it and after it.
use Prim.Native.Nat.{ℕ, ◌+◌, ◌*◌, ◌-◌, ◌≤◌, ◌<◌}
use native.Mathlib.Omega.{arith}
use mathlib.Core.Path.{◌≡◌, refl, sym, ◌∙◌}
use mathlib.Core.Logic.{⊎_elim}
use mathlib.Core.List.{List, ◌++◌}
use lib.ListN.{length, get_or, set, take, drop, length-set, length-append, length-take, length-drop, get_or-append}
use lib.Seq.{length-take-le, get_or-append-add, get_or-take, get_or-drop, get_or-set_other}
use Rattle.quorums.proofs.Tests.{le-or-lt}
use Rattle.quorums.specs.Tables.{table}
use Rattle.quorums.proofs.Tables.{is-table, table-length, table_at, filled_next}

-- ---- a part that comes back

-- the list xs with ys in the place of its part of k from a on
abbrev pub spliced : List ℕ → ℕ → ℕ → List ℕ → List ℕ
spliced xs a k ys = take a xs ++ (ys ++ drop k (drop a xs))

past : (p q : List ℕ) (n m : ℕ) → length p ≡ n → get_or (p ++ q) (n + m) 0 ≡ get_or q m 0
past p q n m e = rw (← e) (get_or-append-add p q m 0)

module _ (xs ys : List ℕ) (a k : ℕ) (fits : a + k ≤ length xs) (size : length ys ≡ k) where
  front : length (take a xs) ≡ a
  front = length-take-le a xs (omega arith)

  pub spliced-length : length (spliced xs a k ys) ≡ length xs
  spliced-length = simp (length-append, length-take, length-drop) (omega arith)

  pub spliced-before : (m : ℕ) → m < a → get_or (spliced xs a k ys) m 0 ≡ get_or xs m 0
  spliced-before m l = get_or-append (take a xs) _ 0 m (omega (arith, front)) ∙ get_or-take a xs m 0 l

  pub spliced-inside : (m : ℕ) → m < k → get_or (spliced xs a k ys) (a + m) 0 ≡ get_or ys m 0
  spliced-inside m l = past (take a xs) _ a m front ∙ get_or-append ys _ 0 m (omega arith)

  pub spliced-after : (m : ℕ) → get_or (spliced xs a k ys) (a + (k + m)) 0 ≡ get_or xs (a + (k + m)) 0
  spliced-after m =
      past (take a xs) _ a (k + m) front ∙ past ys _ k m size ∙ get_or-drop k (drop a xs) m 0 ∙ get_or-drop a xs (k + m) 0

-- ---- a list that is written

-- ys is xs with f's values before k
pub record Written (n : ℕ) (f : ℕ → ℕ) (xs ys : List ℕ) (k : ℕ) : Type 0 where
  pub size : length ys ≡ n
  pub done : (m : ℕ) → m < k → get_or ys m 0 ≡ f m
  pub left : (m : ℕ) → k ≤ m → get_or ys m 0 ≡ get_or xs m 0

pub written_none : {n : ℕ} (f : ℕ → ℕ) {xs : List ℕ} → length xs ≡ n → Written n f xs xs 0
written_none f e = record { size = e; done = λ m l. absurd (omega arith); left = λ m l. refl }

-- one value more
pub written_next : {n : ℕ} {f : ℕ → ℕ} {xs ys : List ℕ} {i : ℕ} {v : ℕ} → Written n f xs ys i → i < n → v ≡ f i → Written n f xs (set ys i v) (i + 1)
written_next {n} {f} {xs} {ys} {i} {v} h l e =
    record {
      size = simp length-set h.size;
      done = filled_next f ys i v (omega (arith, h.size)) h.done e;
      left = λ m b. get_or-set_other ys i m v 0 (λ c. omega arith) ∙ h.left m (omega arith);
    }

-- values that stay as they are
pub written_kept : {n : ℕ} {f : ℕ → ℕ} {xs ys : List ℕ} {i : ℕ} (k : ℕ) → Written n f xs ys i → i ≤ k → ((m : ℕ) → i ≤ m → m < k → f m ≡ get_or xs m 0)
    → Written n f xs ys k
written_kept {i = i} k h l same =
    record {
      size = h.size;
      done = λ m b. ⊎_elim (λ (g : i ≤ m). h.left m g ∙ sym (same m g b)) (λ (g : m < i). h.done m g) (le-or-lt i m);
      left = λ m b. h.left m (omega arith);
    }

-- one row of 16 more
row_more : {f : ℕ → ℕ} {xs ys : List ℕ} {i : ℕ} → Written 256 f xs ys (i * 16) → i < 16
    → Written 256 f xs (spliced ys (i * 16) 16 (table 16 (λ j. f (i * 16 + j)))) ((i + 1) * 16)
row_more {f} {xs} {ys} {i} h l =
    record {
      size = spliced-length ys row (i * 16) 16 fits full ∙ h.size;
      done =
          λ m k.
          ⊎_elim
          (λ (r : i * 16 ≤ m). let e : m ≡ i * 16 + (m - i * 16) = omega arith in rw e (inside (m - i * 16) (omega arith)))
          (λ (r : m < i * 16). spliced-before ys row (i * 16) 16 fits full m r ∙ h.done m r)
          (le-or-lt (i * 16) m);
      left =
          λ m k.
          let e : m ≡ i * 16 + (16 + (m - (i + 1) * 16)) = omega arith in
          rw e (spliced-after ys row (i * 16) 16 fits full (m - (i + 1) * 16) ∙ h.left _ (omega arith));
    }
  where
    row : List ℕ
    row = table 16 (λ j. f (i * 16 + j))

    fits : i * 16 + 16 ≤ length ys
    fits = omega (arith, h.size)

    full : length row ≡ 16
    full = table-length 16 (λ j. f (i * 16 + j))

    inside : (r : ℕ) → r < 16 → get_or (spliced ys (i * 16) 16 row) (i * 16 + r) 0 ≡ f (i * 16 + r)
    inside r b = spliced-inside ys row (i * 16) 16 fits full r b ∙ table_at 16 (λ j. f (i * 16 + j)) r b

pub written_row : {f : ℕ → ℕ} {xs ys row : List ℕ} {i : ℕ} (k : ℕ) → k ≡ 16 → Written 256 f xs ys (i * 16) → i < 16 → row ≡ table 16 (λ j. f (i * 16 + j))
    → Written 256 f xs (spliced ys (i * 16) k row) ((i + 1) * 16)
written_row k e h l p = rw (e, p) (row_more h l)

-- all
pub written_all : {n : ℕ} (f : ℕ → ℕ) {xs ys : List ℕ} → Written n f xs ys n → ys ≡ table n f
written_all {n} f {xs} {ys} h = is-table n f ys h.size h.done
