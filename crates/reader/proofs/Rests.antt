-- A loop over the bits of a map that halves what is left of it: bit j is the rest's lowest, and where nothing is left, no later bit stands. The steps
-- that are left out would read nothing.
use Prim.Native.Nat.{ℕ, zero, suc, ◌+◌, ◌*◌, ◌-◌, ◌/◌, ◌%◌, ◌^◌, ◌≤◌, ◌<◌}
use native.Mathlib.Nat.{div-div-eq-div-mul, div-eq_of_lt, lt_of_lt_of_le, pow-le-pow_right, pow-succ'}
use native.Mathlib.Numerals.{add-one}
use native.Mathlib.Omega.{arith}
use mathlib.Core.Path.{◌≡◌, sym, ap, ◌∙◌}
use mathlib.Core.Logic.{⊎_elim}
use mathlib.Core.Bool.{Bool, true, false, cond}
use mathlib.Core.List.{List}
use borrow.Author.Tests.{eq-eqb, ltb-true, lt-ltb, le-ltb}
use lib.Dec.{ltb}
use Rattle.quorums.proofs.Tests.{le-or-lt}
use Rattle.config.specs.declared.cluster.Config.{Config}
use Rattle.ledger.proofs.Maps.{shifted-zero}
use Rattle.format.specs.Bytes.{bit}
use Rattle.format.proofs.Marks.{bit-above}
use Rattle.message.specs.Cursors.{Cursor, stay}
use Rattle.message.specs.Scans.{RowRead, cells_after, cell_read, row_cells, row_of, rows_after, count_read, cell_of_row}
use Rattle.message.proofs.Backs.{number-absent}
use Rattle.reader.proofs.Absent.{row-absent, row-cell-absent, number-stays, number-clean, row-stuck, row-cell-stuck}

-- ---- what is left of a map

pub rest-bit : (m j : ℕ) {r : ℕ} → r ≡ m / 2 ^ j → r % 2 ≡ bit m j
unfolding bit
rest-bit m j e = ap (λ x. x % 2) e

twice : (j : ℕ) → 2 ^ j * 2 ≡ 2 ^ (j + 1)
twice j = rw add-one (omega (arith, pow-succ' 2 j))

pub rest-next : (m j : ℕ) {r : ℕ} → r ≡ m / 2 ^ j → r / 2 ≡ m / 2 ^ (j + 1)
rest-next m j e = ap (λ x. x / 2) e ∙ div-div-eq-div-mul m (2 ^ j) 2 ∙ ap (λ x. m / x) (twice j)

-- a map of 16 bits has nothing left after 16
pub rest-inside : (m j r : ℕ) → m ≤ 65535 → r ≡ m / 2 ^ j → (r ≡ 0 → ⊥) → j < 16
rest-inside m j r l e n =
    ⊎_elim (λ (h : 16 ≤ j). absurd (n (e ∙ div-eq_of_lt (lt_of_lt_of_le (small l) (pow-le-pow_right (omega arith) h))))) (λ (h : j < 16). h) (le-or-lt 16 j)
  where
    small : m ≤ 65535 → m < 2 ^ 16
    small h = omega arith

rest-done : (m j k : ℕ) → m / 2 ^ j ≡ 0 → j ≤ k → bit m k ≡ 0
rest-done m j k e l = bit-above m j k (ltb-true m (2 ^ j) (sym (shifted-zero m j) ∙ eq-eqb (m / 2 ^ j) 0 e)) l

-- ---- steps that read nothing

-- a chain of steps, of which those from j on stay
stayed : (f : ℕ → Cursor) (j : ℕ) → ((k : ℕ) → j ≤ k → f (suc k) ≡ stay (f k).number (f k)) → (d : ℕ) → f (suc (j + d)) ≡ stay (f j).number (f j)
stayed f j h zero = let e : j + 0 ≡ j = omega arith in rw e (h j (omega arith))
stayed f j h (suc d) =
    let e : j + suc d ≡ suc (j + d) = omega arith in
    rw e (h (suc (j + d)) (omega arith) ∙ ap (λ (c : Cursor). stay c.number c) (stayed f j h d))

-- the cursor after 16 steps, of which the last 16 - j read nothing
unfoldable pub settled : ℕ → Cursor → Cursor
settled j c = cond (ltb j 16) (stay c.number c) c

settles : (f : ℕ → Cursor) (j : ℕ) → j ≤ 16 → ((k : ℕ) → j ≤ k → f (suc k) ≡ stay (f k).number (f k)) → settled j (f j) ≡ f 16
unfolding settled
settles f j l h =
    ⊎_elim (λ (g : 16 ≤ j). let e : j ≡ 16 = omega arith in rw (le-ltb j 16 g) (ap f e))
    (λ (g : j < 16). let e : 16 ≡ suc (j + (15 - j)) = omega arith in rw (lt-ltb j 16 g) (sym (ap f e ∙ stayed f j h (15 - j))))
    (le-or-lt 16 j)

-- which has the number and the place of the last one that reads
pub record Settles (c end : Cursor) : Type 0 where
  pub same : end.number ≡ c.number
  pub place : end.at ≡ c.at

settled-same : (j : ℕ) (c end : Cursor) → settled j c ≡ end → Settles c end
unfolding settled
settled-same j c end e = by-test (ltb j 16) e
  where
    by-test : (b : Bool) → cond b (stay c.number c) c ≡ end → Settles c end
    by-test true d = record { same = sym (ap (λ (x : Cursor). x.number) d); place = sym (ap (λ (x : Cursor). x.at) d) }
    by-test false d = record { same = sym (ap (λ (x : Cursor). x.number) d); place = sym (ap (λ (x : Cursor). x.at) d) }

-- a chain of steps that stay once there is a number keeps it
keeps : (f : ℕ → Cursor) (j : ℕ) → ((k : ℕ) → ((f k).number ≡ 0 → ⊥) → f (suc k) ≡ stay (f k).number (f k)) → ((f j).number ≡ 0 → ⊥)
    → (d : ℕ) → (f (j + d)).number ≡ 0 → ⊥
keeps f j h n zero = let e : j + 0 ≡ j = omega arith in rw e n
keeps f j h n (suc d) =
    let e : j + suc d ≡ suc (j + d) = omega arith in
    rw (e, h (j + d) (keeps f j h n d)) (keeps f j h n d)

kept : (f : ℕ → Cursor) (j : ℕ) → ((k : ℕ) → ((f k).number ≡ 0 → ⊥) → f (suc k) ≡ stay (f k).number (f k)) → ((f j).number ≡ 0 → ⊥)
    → (k : ℕ) → j ≤ k → (f k).number ≡ 0 → ⊥
kept f j h n k l = let e : k ≡ j + (k - j) = omega arith in rw e (keeps f j h n (k - j))

-- ---- cells

-- a cell that doesn't stand
cell-unset : (msg : List ℕ) (m : ℕ) (from : Cursor) (k : ℕ) → bit m k ≡ 0 → cells_after msg m from (suc k) ≡ stay (cells_after msg m from k).number (cells_after msg m from k)
unfolding cells_after
cell-unset msg m from k e = rw e (number-absent msg _ _ _ (cells_after msg m from k))

pub cells-settled : (msg : List ℕ) (m : ℕ) (from : Cursor) (j : ℕ) → j ≤ 16 → m / 2 ^ j ≡ 0 → settled j (cells_after msg m from j) ≡ cells_after msg m from 16
cells-settled msg m from j l e = settles (cells_after msg m from) j l (λ k g. cell-unset msg m from k (rest-done m j k e g))

pub cells-settle : (msg : List ℕ) (m : ℕ) (from : Cursor) (j : ℕ) → j ≤ 16 → m / 2 ^ j ≡ 0 → Settles (cells_after msg m from j) (cells_after msg m from 16)
cells-settle msg m from j l e = settled-same _ _ _ (cells-settled msg m from j l e)

pub cell-beyond : (msg : List ℕ) (m : ℕ) (from : Cursor) (j k : ℕ) → m / 2 ^ j ≡ 0 → j ≤ k → cell_read msg m from k ≡ 0
unfolding cell_read
cell-beyond msg m from j k e l = ap (λ (c : Cursor). c.x) (cell-unset msg m from k (rest-done m j k e l))

-- where a cell has a fault, neither it nor a later one is read
cell_stays : (msg : List ℕ) (m : ℕ) (from : Cursor) (k : ℕ) → ((cells_after msg m from k).number ≡ 0 → ⊥)
    → cells_after msg m from (suc k) ≡ stay (cells_after msg m from k).number (cells_after msg m from k)
unfolding cells_after
cell_stays msg m from k n = number-stays msg _ _ _ _ (cells_after msg m from k) n

pub cells-fault-settled : (msg : List ℕ) (m : ℕ) (from : Cursor) (j : ℕ) → j < 16 → ((cells_after msg m from (j + 1)).number ≡ 0 → ⊥)
    → settled (j + 1) (cells_after msg m from (j + 1)) ≡ cells_after msg m from 16
cells-fault-settled msg m from j l n =
    settles (cells_after msg m from) (j + 1) (omega arith)
    (λ k g. cell_stays msg m from k (kept (cells_after msg m from) (j + 1) (cell_stays msg m from) n k g))

pub cells-fault : (msg : List ℕ) (m : ℕ) (from : Cursor) (j : ℕ) → j < 16 → ((cells_after msg m from (j + 1)).number ≡ 0 → ⊥)
    → Settles (cells_after msg m from (j + 1)) (cells_after msg m from 16)
cells-fault msg m from j l n = settled-same _ _ _ (cells-fault-settled msg m from j l n)

cell-clean : (msg : List ℕ) (m : ℕ) (from : Cursor) (j : ℕ) → ((cells_after msg m from (suc j)).number ≡ 0 → ⊥) → cell_read msg m from j ≡ 0
unfolding cells_after cell_read
cell-clean msg m from j n = number-clean msg _ _ _ _ (cells_after msg m from j) n

pub cell-after-fault : (msg : List ℕ) (m : ℕ) (from : Cursor) (j k : ℕ) → ((cells_after msg m from (j + 1)).number ≡ 0 → ⊥) → j ≤ k → cell_read msg m from k ≡ 0
cell-after-fault msg m from j k n l =
    cell-clean msg m from k (kept (cells_after msg m from) (j + 1) (cell_stays msg m from) n (suc k) (omega arith))

-- ---- rows

-- a row that doesn't stand
row-of-unset : (c : Config) (msg : List ℕ) (m : ℕ) (from : Cursor) (k : ℕ) → bit m k ≡ 0
    → row_of c msg k (bit m k) (rows_after c msg m from k) ≡ record { count = 0; cursor = stay (rows_after c msg m from k).number (rows_after c msg m from k) }
row-of-unset c msg m from k e = ap (λ s. row_of c msg k s (rows_after c msg m from k)) e ∙ row-absent c msg k (rows_after c msg m from k)

pub row-unset : (c : Config) (msg : List ℕ) (m : ℕ) (from : Cursor) (k : ℕ) → bit m k ≡ 0 → rows_after c msg m from (suc k) ≡ stay (rows_after c msg m from k).number (rows_after c msg m from k)
unfolding rows_after
row-unset c msg m from k e = ap (λ (r : RowRead). r.cursor) (row-of-unset c msg m from k e)

pub count-unset : (c : Config) (msg : List ℕ) (m : ℕ) (from : Cursor) (k : ℕ) → bit m k ≡ 0 → count_read c msg m from k ≡ 0
unfolding count_read
count-unset c msg m from k e = ap (λ (r : RowRead). r.count) (row-of-unset c msg m from k e)

pub row-cells-unset : (c : Config) (msg : List ℕ) (m : ℕ) (from : Cursor) (k : ℕ) → bit m k ≡ 0 → (j : ℕ) → cell_of_row c msg m from k j ≡ 0
unfolding cell_of_row
row-cells-unset c msg m from k e j = ap (λ s. row_cells c msg k s (rows_after c msg m from k) j) e ∙ row-cell-absent c msg k (rows_after c msg m from k) j

pub rows-settled : (c : Config) (msg : List ℕ) (m : ℕ) (from : Cursor) (i : ℕ) → i ≤ 16 → m / 2 ^ i ≡ 0
    → settled i (rows_after c msg m from i) ≡ rows_after c msg m from 16
rows-settled c msg m from i l e = settles (rows_after c msg m from) i l (λ k g. row-unset c msg m from k (rest-done m i k e g))

pub rows-settle : (c : Config) (msg : List ℕ) (m : ℕ) (from : Cursor) (i : ℕ) → i ≤ 16 → m / 2 ^ i ≡ 0 → Settles (rows_after c msg m from i) (rows_after c msg m from 16)
rows-settle c msg m from i l e = settled-same _ _ _ (rows-settled c msg m from i l e)

-- no row from i on has a count or a cell
abbrev pub NoRows : Config → List ℕ → ℕ → Cursor → ℕ → Type 0
NoRows c msg m from i = (r : ℕ) → i ≤ r → (count_read c msg m from r ≡ 0) × ((j : ℕ) → cell_of_row c msg m from r j ≡ 0)

pub rows-beyond : (c : Config) (msg : List ℕ) (m : ℕ) (from : Cursor) (i : ℕ) → m / 2 ^ i ≡ 0 → NoRows c msg m from i
rows-beyond c msg m from i e r l = let none = rest-done m i r e l in (count-unset c msg m from r none, row-cells-unset c msg m from r none)

-- where a row has a fault, no later one is read
row_stays : (c : Config) (msg : List ℕ) (m : ℕ) (from : Cursor) (k : ℕ) → ((rows_after c msg m from k).number ≡ 0 → ⊥)
    → rows_after c msg m from (suc k) ≡ stay (rows_after c msg m from k).number (rows_after c msg m from k)
unfolding rows_after
row_stays c msg m from k n =
    ap (λ (r : RowRead). r.cursor) (row-stuck c msg k _ (rows_after c msg m from k) n ∙ row-absent c msg k (rows_after c msg m from k))

module _ (c : Config) (msg : List ℕ) (m : ℕ) (from : Cursor) (i : ℕ) (fault : (rows_after c msg m from i).number ≡ 0 → ⊥) where
  faulty : (k : ℕ) → i ≤ k → (rows_after c msg m from k).number ≡ 0 → ⊥
  faulty = kept (rows_after c msg m from) i (row_stays c msg m from) fault

  pub rows-fault-settled : i ≤ 16 → settled i (rows_after c msg m from i) ≡ rows_after c msg m from 16
  rows-fault-settled l = settles (rows_after c msg m from) i l (λ k g. row_stays c msg m from k (faulty k g))

  pub rows-fault : i ≤ 16 → Settles (rows_after c msg m from i) (rows_after c msg m from 16)
  rows-fault l = settled-same _ _ _ (rows-fault-settled l)

  pub rows-after-fault : NoRows c msg m from i
  unfolding count_read cell_of_row
  rows-after-fault r l =
      let at = rows_after c msg m from r in
      let stuck = faulty r l in (
        ap (λ (x : RowRead). x.count) (row-stuck c msg r _ at stuck ∙ row-absent c msg r at),
        λ j. row-cell-stuck c msg r _ at j stuck ∙ row-cell-absent c msg r at j,
      )
