-- Where a number is 0 after a step of a reader, it was 0 before it: a step keeps one that isn't.
use Prim.Native.Nat.{ℕ, zero, suc, ◌≤◌}
use native.Mathlib.Omega.{arith}
use mathlib.Core.Path.{◌≡◌, refl}
use mathlib.Core.Bool.{Bool}
use mathlib.Core.List.{List}
use Rattle.config.specs.declared.cluster.Config.{Config}
use Rattle.ledger.specs.declared.ledger.Ledger.{Ledger}
use Rattle.message.specs.Cursors.{Cursor}
use Rattle.message.specs.Cursors.{read_number, skip, require}
use Rattle.message.specs.Scans.{cells_after, row_of, rows_after, register_of, sheet_of, read_note, end_of}
use Rattle.message.proofs.Stuck.{Stuck, read_number-stuck, skip-stuck, require-stuck, cells-stuck, row-stuck, rows_none, rows-stuck, register-stuck, sheet-stuck, note-stuck, end-stuck}

opened : (c d : Cursor) → ((k : ℕ) → Stuck c k → Stuck d k) → d.number ≡ 0 → c.number ≡ 0
opened c d keeps e = by_number c.number refl
  where
    by_number : (n : ℕ) → c.number ≡ n → c.number ≡ 0
    by_number zero t = t
    by_number (suc k) t = absurd (omega (arith, (keeps k (record { has = t })).has, e))

pub read_number-open : (msg : List ℕ) (s w low high : ℕ) (c : Cursor) → (read_number msg s w low high c).number ≡ 0 → c.number ≡ 0
read_number-open msg s w low high c e = opened c _ (read_number-stuck msg s w low high c) e

pub skip-open : (msg : List ℕ) (w : ℕ) (c : Cursor) → (skip msg w c).number ≡ 0 → c.number ≡ 0
skip-open msg w c e = opened c _ (skip-stuck msg w c) e

pub require-open : (ok : Bool) (k : ℕ) (c : Cursor) → (require ok k c).number ≡ 0 → c.number ≡ 0
require-open ok k c e = opened c _ (require-stuck ok k c) e

pub cells_open : (msg : List ℕ) (m : ℕ) (c : Cursor) (j : ℕ) → (cells_after msg m c j).number ≡ 0 → c.number ≡ 0
cells_open msg m c j e = opened c _ (λ k h. cells-stuck msg m c k h j) e

pub row_open : (c : Config) (msg : List ℕ) (i s : ℕ) (from : Cursor) → (row_of c msg i s from).cursor.number ≡ 0 → from.number ≡ 0
row_open c msg i s from e = opened from _ (row-stuck c msg i s from) e

-- the same of rows before the last
pub rows-sooner : (c : Config) (msg : List ℕ) (m : ℕ) (from : Cursor) (i n : ℕ) → i ≤ n → (rows_after c msg m from n).number ≡ 0
    → (rows_after c msg m from i).number ≡ 0
rows-sooner c msg m from i n l e = opened _ _ (λ k h. rows-stuck c msg m from k i n l h) e

pub rows-open : (c : Config) (msg : List ℕ) (m : ℕ) (from : Cursor) (i : ℕ) → (rows_after c msg m from i).number ≡ 0 → from.number ≡ 0
rows-open c msg m from i e = opened from _ (λ k h. rows-stuck c msg m from k 0 i (omega arith) (rows_none c msg m from k h)) e

pub register-open : (c : Config) (msg : List ℕ) (s : ℕ) (from : Cursor) → (register_of c msg s from).cursor.number ≡ 0 → from.number ≡ 0
register-open c msg s from e = opened from _ (register-stuck c msg s from) e

pub sheet-open : (c : Config) (msg : List ℕ) (s : ℕ) (from : Cursor) → (sheet_of c msg s from).cursor.number ≡ 0 → from.number ≡ 0
sheet-open c msg s from e = opened from _ (sheet-stuck c msg s from) e

pub note-open : (msg : List ℕ) (s : ℕ) (from : Cursor) → (read_note msg s from).number ≡ 0 → from.number ≡ 0
note-open msg s from e = opened from _ (note-stuck msg s from) e

pub end-open : (c : Config) (msg : List ℕ) (l : Ledger) (note : Cursor) → (end_of c msg l note).number ≡ 0 → note.number ≡ 0
end-open c msg l note e = opened note _ (end-stuck c msg l note) e
