-- Every step of a reader keeps a number that isn't 0.
use Prim.Native.Nat.{ℕ, zero, suc, ◌≤◌, ◌<◌}
use mathlib.Core.Path.{◌≡◌, ap, ◌∙◌}
use mathlib.Core.Logic.{⊎_elim}
use mathlib.Core.Bool.{Bool}
use mathlib.Core.List.{List}
use borrow.Author.Tests.{ne_eqb}
use native.Mathlib.Omega.{arith}
use Rattle.quorums.proofs.Sums.{below_suc}
use Rattle.config.specs.declared.cluster.Config.{Config}
use Rattle.ledger.specs.declared.ledger.Ledger.{Ledger}
use Rattle.format.specs.Bytes.{bit}
use Rattle.message.specs.Cursors.{Cursor}
use Rattle.message.specs.Cursors.{read_number, skip, require}
use Rattle.message.specs.Scans.{cells_after, cell_map_of, read_count, row_of, rows_after, head_of, register_of, sheet_of, read_note, end_of, scan_of}

-- the cursor has the number k, which isn't 0
pub record Stuck (c : Cursor) (k : ℕ) : Type 0 where
  pub has : c.number ≡ suc k

pub stuck_at : {c d : Cursor} {k : ℕ} → c ≡ d → Stuck d k → Stuck c k
stuck_at e h = record { has = ap (λ (d : Cursor). d.number) e ∙ h.has }

pub read_number-stuck : (msg : List ℕ) (s w low high : ℕ) (c : Cursor) (k : ℕ) → Stuck c k → Stuck (read_number msg s w low high c) k
unfolding read_number
read_number-stuck msg s w low high c k h = record { has = simp (ne_eqb c.number 0 (λ e. omega (arith, h.has))) h.has }

pub skip-stuck : (msg : List ℕ) (w : ℕ) (c : Cursor) (k : ℕ) → Stuck c k → Stuck (skip msg w c) k
unfolding skip
skip-stuck msg w c k h = record { has = simp (ne_eqb c.number 0 (λ e. omega (arith, h.has))) h.has }

pub require-stuck : (ok : Bool) (n : ℕ) (c : Cursor) (k : ℕ) → Stuck c k → Stuck (require ok n c) k
unfolding require
require-stuck ok n c k h = record { has = simp (ne_eqb c.number 0 (λ e. omega (arith, h.has))) h.has }

pub cells-stuck : (msg : List ℕ) (m : ℕ) (c : Cursor) (k : ℕ) → Stuck c k → (j : ℕ) → Stuck (cells_after msg m c j) k
unfolding cells_after
cells-stuck msg m c k h zero = h
cells-stuck msg m c k h (suc j) = read_number-stuck msg _ _ _ _ _ k (cells-stuck msg m c k h j)

-- a row whose cell map was refused
pub row-stuck-map : (c : Config) (msg : List ℕ) (i s : ℕ) (from : Cursor) (k : ℕ) → Stuck (cell_map_of c msg i s (read_count msg s from)) k
    → Stuck (row_of c msg i s from).cursor k
unfolding row_of
row-stuck-map c msg i s from k h = require-stuck _ _ _ k (cells-stuck msg _ _ k h 16)

-- or its count
pub map-stuck : (c : Config) (msg : List ℕ) (i s : ℕ) (count : Cursor) (k : ℕ) → Stuck count k → Stuck (cell_map_of c msg i s count) k
unfolding cell_map_of
map-stuck c msg i s count k h = require-stuck _ _ _ k (read_number-stuck msg _ _ _ _ _ k h)

pub row-stuck : (c : Config) (msg : List ℕ) (i s : ℕ) (from : Cursor) (k : ℕ) → Stuck from k → Stuck (row_of c msg i s from).cursor k
unfolding read_count
row-stuck c msg i s from k h = row-stuck-map c msg i s from k (map-stuck c msg i s _ k (read_number-stuck msg _ _ _ _ _ k h))

-- a sheet one of whose rows was refused
pub rows-stuck : (c : Config) (msg : List ℕ) (m : ℕ) (from : Cursor) (k i n : ℕ) → i ≤ n → Stuck (rows_after c msg m from i) k
    → Stuck (rows_after c msg m from n) k
unfolding rows_after
rows-stuck c msg m from k i zero l h = let e : i ≡ 0 = omega arith in rw e at h
rows-stuck c msg m from k i (suc n) l h =
    ⊎_elim (λ (d : i ≡ suc n). rw d at h) (λ (d : i < suc n). row-stuck c msg n _ _ k (rows-stuck c msg m from k i n (omega arith) h))
    (below_suc (omega arith))

pub rows_none : (c : Config) (msg : List ℕ) (m : ℕ) (from : Cursor) (k : ℕ) → Stuck from k → Stuck (rows_after c msg m from 0) k
unfolding rows_after
rows_none c msg m from k h = h

pub register-stuck : (c : Config) (msg : List ℕ) (s : ℕ) (from : Cursor) (k : ℕ) → Stuck from k → Stuck (register_of c msg s from).cursor k
unfolding register_of
register-stuck c msg s from k h =
    skip-stuck msg _ _ k (read_number-stuck msg _ _ _ _ _ k (read_number-stuck msg _ _ _ _ _ k (read_number-stuck msg _ _ _ _ _ k h)))

pub sheet-stuck : (c : Config) (msg : List ℕ) (s : ℕ) (from : Cursor) (k : ℕ) → Stuck from k → Stuck (sheet_of c msg s from).cursor k
unfolding sheet_of
sheet-stuck c msg s from k h = rows-stuck c msg _ _ k 0 16 (omega arith) (rows_none c msg _ _ k (read_number-stuck msg _ _ _ _ _ k h))

pub note-stuck : (msg : List ℕ) (s : ℕ) (from : Cursor) (k : ℕ) → Stuck from k → Stuck (read_note msg s from) k
unfolding read_note
note-stuck msg s from k h = read_number-stuck msg _ _ _ _ _ k h

pub end-stuck : (c : Config) (msg : List ℕ) (l : Ledger) (note : Cursor) (k : ℕ) → Stuck note k → Stuck (end_of c msg l note) k
unfolding end_of
end-stuck c msg l note k h = require-stuck _ _ _ k (require-stuck _ _ note k h)

-- ---- a message that was refused at its head, register or sheet

pub scan-stuck-sheet : (c : Config) (msg : List ℕ) (k : ℕ)
    → Stuck (sheet_of c msg (bit (head_of c msg).map 5) (register_of c msg (bit (head_of c msg).map 4) (head_of c msg).cursor).cursor).cursor k
    → (scan_of c msg).number ≡ suc k
unfolding scan_of
scan-stuck-sheet c msg k h = (end-stuck c msg _ _ k (note-stuck msg _ _ k h)).has

pub scan-stuck-register : (c : Config) (msg : List ℕ) (k : ℕ) → Stuck (register_of c msg (bit (head_of c msg).map 4) (head_of c msg).cursor).cursor k
    → (scan_of c msg).number ≡ suc k
scan-stuck-register c msg k h = scan-stuck-sheet c msg k (sheet-stuck c msg _ _ k h)

pub scan-stuck-head : (c : Config) (msg : List ℕ) (k : ℕ) → Stuck (head_of c msg).cursor k → (scan_of c msg).number ≡ suc k
scan-stuck-head c msg k h = scan-stuck-register c msg k (register-stuck c msg _ _ k h)
