-- A reader at the bytes of a row's cells finds those cells.
use Prim.Native.Nat.{ℕ, zero, suc, ◌<◌, ◌≤◌}
use native.Mathlib.Omega.{arith}
use mathlib.Core.Path.{◌≡◌, sym, ap, ◌∙◌}
use mathlib.Core.List.{List, ◌++◌, append_assoc, append-nil}
use lib.ListN.{length}
use Rattle.format.specs.Bytes.{number, series, stands, bit}
use Rattle.format.specs.Table.{cells}
use Rattle.message.specs.Cursors.{Cursor}
use Rattle.message.specs.Cursors.{read_number}
use Rattle.message.specs.Scans.{cells_after, cell_read}
use Rattle.message.proofs.Ahead.{further}
use Rattle.message.proofs.Moves.{in-range, Stands, behind, stands-behind, move}

cell_bytes : (ℕ → ℕ) → ℕ → List ℕ
cell_bytes cell j = number (cell j) 4 (cell j)

-- What a reader stands before: a cell map with the marks of the cells, which fit, and then their bytes.
pub record AtCells (msg pre t : List ℕ) (m : ℕ) (cell : ℕ → ℕ) : Type 0 where
  pub marked : (j : ℕ) → j < 16 → bit m j ≡ stands (cell j)
  pub fits : (j : ℕ) → cell j ≤ 4294967295
  pub ahead : msg ≡ pre ++ (cells cell ++ t)

next-cell : (msg pre t : List ℕ) (m : ℕ) (cell : ℕ → ℕ) (c : Cursor) (j : ℕ) → AtCells msg pre t m cell → j < 16
    → Stands (cells_after msg m c j) (pre ++ series j (cell_bytes cell))
    → cells_after msg m c (suc j) ≡ behind (pre ++ series j (cell_bytes cell) ++ number (cell j) 4 (cell j)) (cell j)
unfolding cells_after cells cell_bytes
next-cell msg pre t m cell c j a l h =
    let r = further msg pre t (cell_bytes cell) 16 j l a.ahead in
    ap (λ s. read_number msg s 4 1 4294967295 (cells_after msg m c j)) (a.marked j l)
    ∙ move msg (pre ++ series j (cell_bytes cell)) r.0 (cells_after msg m c j) (cell j) 4 1 4294967295 (cell j) h r.1
    (omega (arith, a.fits j)) (λ e. e) (λ p. in-range 1 4294967295 (cell j) p (a.fits j))

cells-after : (msg pre t : List ℕ) (m : ℕ) (cell : ℕ → ℕ) (c : Cursor) → AtCells msg pre t m cell → Stands c pre → (j : ℕ) → j ≤ 16
    → Stands (cells_after msg m c j) (pre ++ series j (cell_bytes cell))
unfolding series cells_after cell_bytes
cells-after msg pre t m cell c a h zero l = record { none = h.none; place = h.place ∙ ap length (sym (append-nil pre)) }
cells-after msg pre t m cell c a h (suc j) l =
    let e = next-cell msg pre t m cell c j a (omega arith) (cells-after msg pre t m cell c a h j (omega arith)) in
    stands-behind _ _ (cell j) (e ∙ ap (λ l. behind l (cell j)) (append_assoc pre (series j (cell_bytes cell)) (number (cell j) 4 (cell j))))

-- after the last cell the reader stands behind them all
pub cells-stand : (msg pre t : List ℕ) (m : ℕ) (cell : ℕ → ℕ) (c : Cursor) → AtCells msg pre t m cell → Stands c pre
    → Stands (cells_after msg m c 16) (pre ++ cells cell)
unfolding cells cell_bytes
cells-stand msg pre t m cell c a h = cells-after msg pre t m cell c a h 16 (omega arith)

pub cells-found : (msg pre t : List ℕ) (m : ℕ) (cell : ℕ → ℕ) (c : Cursor) → AtCells msg pre t m cell → Stands c pre → (j : ℕ) → j < 16
    → cell_read msg m c j ≡ cell j
unfolding cell_read
cells-found msg pre t m cell c a h j l = ap (λ (d : Cursor). d.x) (next-cell msg pre t m cell c j a l (cells-after msg pre t m cell c a h j (omega arith)))
