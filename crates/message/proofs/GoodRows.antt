-- What a row within the paper's ranges comes to, and an absent one.
use Prim.Native.Nat.{ℕ, ◌^◌, ◌<◌, ◌≤◌}
use native.Mathlib.Omega.{arith}
use mathlib.Core.Path.{◌≡◌, refl, sym, ap, ◌∙◌}
use mathlib.Core.Logic.{◌⊎◌, inl, inr, ⊎_elim}
use mathlib.Core.Bool.{true}
use Rattle.quorums.specs.Sum.{sum}
use Rattle.quorums.proofs.Tests.{le-or-lt}
use Rattle.ledger.specs.Checks.{total_fits}
use Rattle.ledger.proofs.Totals.{Placed, total-fits-told}
use Rattle.format.specs.Bytes.{marks, bit}
use Rattle.format.specs.Table.{cell_map, row_mark}
use Rattle.format.proofs.Marks.{stands-zero, stands-pos, same-stands, marks-lt, marks-stands, marks-cut, bit-marks, bit-above, bit-none}

-- The row of giver i in a cluster of n servers is within the paper's ranges.
pub record RowGood (n i count : ℕ) (cell : ℕ → ℕ) : Type 0 where
  pub fits : total_fits count (sum 16 cell) ≡ true
  pub placed : (j : ℕ) → j < 16 → (cell j ≡ 0) ⊎ Placed n i j

-- ---- what a good row comes to

pub count-stands : (n i count : ℕ) (cell : ℕ → ℕ) → RowGood n i count cell → 0 < row_mark count cell → 1 ≤ count
unfolding row_mark
count-stands n i count cell g p = omega (arith, total-fits-told count (sum 16 cell) g.fits)

pub map-stands : (cell : ℕ → ℕ) → 0 < sum 16 cell → 1 ≤ cell_map cell
unfolding cell_map
map-stands cell p =
    ⊎_elim (λ (h : cell_map cell ≤ 0). absurd (omega (arith, same-stands (marks 16 cell) (sum 16 cell) (marks-stands 16 cell) (omega arith))))
    (λ (h : 0 < cell_map cell). h)
    (le-or-lt (cell_map cell) 0)

pub map-of-mark : (n i count : ℕ) (cell : ℕ → ℕ) → RowGood n i count cell → 0 < row_mark count cell → 1 ≤ cell_map cell
unfolding row_mark
map-of-mark n i count cell g p = map-stands cell (omega (arith, total-fits-told count (sum 16 cell) g.fits))

pub map_below : (n i count : ℕ) (cell : ℕ → ℕ) → n ≤ 16 → RowGood n i count cell → cell_map cell < 2 ^ n
unfolding cell_map
map_below n i count cell s g =
    let e : marks 16 cell ≡ marks n cell =
    marks-cut 16 n cell s (λ j a b. ⊎_elim (λ (z : cell j ≡ 0). z) (λ (p : Placed n i j). absurd (omega (arith, p.taker))) (g.placed j b)) in
    rw e (marks-lt n cell)

pub own-empty : (n i count : ℕ) (cell : ℕ → ℕ) → i < 16 → RowGood n i count cell → cell i ≡ 0
own-empty n i count cell l g = ⊎_elim (λ (z : cell i ≡ 0). z) (λ (p : Placed n i i). absurd (p.apart refl)) (g.placed i l)

-- ---- an absent row

pub absent-count : (count : ℕ) (cell : ℕ → ℕ) → row_mark count cell ≡ 0 → count ≡ 0
unfolding row_mark
absent-count count cell e = omega arith

pub absent-map : (count : ℕ) (cell : ℕ → ℕ) → row_mark count cell ≡ 0 → cell_map cell ≡ 0
unfolding row_mark cell_map
absent-map count cell e = same-stands (sum 16 cell) (marks 16 cell) (sym (marks-stands 16 cell)) (omega arith)

-- the cells of a row whose cell map is below 2 ^ n and has no own bit
pub placed-cell : (n i : ℕ) (cell : ℕ → ℕ) (j : ℕ) → j < 16 → i < n → cell_map cell < 2 ^ n → cell i ≡ 0 → (cell j ≡ 0) ⊎ Placed n i j
unfolding cell_map
placed-cell n i cell j l g b z =
    ⊎_elim (λ (e : cell j ≤ 0). inl (omega arith))
    (λ (p : 0 < cell j).
    ⊎_elim (λ (h : n ≤ j). absurd (omega (arith, bit-marks 16 cell j l, bit-above (marks 16 cell) n j b h, stands-pos (cell j) p)))
    (λ (h : j < n). inr (record { giver = g; taker = h; apart = λ e. let same : cell i ≡ cell j = ap cell e in omega (arith, same) }))
    (le-or-lt n j))
    (le-or-lt (cell j) 0)

pub absent-cell : (count : ℕ) (cell : ℕ → ℕ) → row_mark count cell ≡ 0 → (j : ℕ) → j < 16 → cell j ≡ 0
unfolding cell_map
absent-cell count cell e j l =
    stands-zero (cell j) (sym (bit-marks 16 cell j l) ∙ ap (λ m. bit m j) (absent-map count cell e) ∙ bit-none j)

pub absent-good : (n i count : ℕ) (cell : ℕ → ℕ) → row_mark count cell ≡ 0 → RowGood n i count cell
unfolding row_mark total_fits
absent-good n i count cell e =
    record {
      fits = let a : count ≡ 0 = omega arith in let b : sum 16 cell ≡ 0 = omega arith in rw (a, b) refl;
      placed = λ j l. inl (absent-cell count cell e j l);
    }
