-- A row that doesn't stand: nothing is read, so its count and cells are 0 and the cursor stays. A row after a fault is read as one that doesn't stand.
use Prim.Native.Nat.{ℕ, zero, suc, ◌+◌, ◌-◌, ◌^◌}
use mathlib.Core.Path.{◌≡◌, refl, sym, ap, ◌∙◌}
use mathlib.Core.Bool.{Bool, true, false, cond}
use mathlib.Core.List.{List}
use borrow.Author.Tests.{ne_eqb}
use lib.Dec.{eqb, leb}
use lib.ListN.{length}
use Rattle.quorums.proofs.Sums.{sum-zero}
use Rattle.config.specs.declared.cluster.Config.{Config}
use Rattle.ledger.specs.Checks.{total_fits}
use Rattle.format.proofs.Marks.{bit-none}
use Rattle.message.specs.Cursors.{Cursor}
use Rattle.message.specs.Cursors.{stay, number_at, within, read_bytes, read_number, require}
use Rattle.message.specs.Scans.{cells_after, cell_read, read_count, cell_map_of, row_cells, row_of}
use Rattle.message.proofs.Moves.{require-passes}
use Rattle.message.proofs.Backs.{number-absent}

-- the cursor from which every step of an absent row stays
abbrev still : Cursor → Cursor
still from = stay from.number from

passes : (k : ℕ) (c : Cursor) → require true k c ≡ c
passes k c = require-passes true k c refl

count-absent : (msg : List ℕ) (from : Cursor) → read_count msg 0 from ≡ still from
unfolding read_count
count-absent msg from = number-absent msg 2 1 65535 from

map-absent : (c : Config) (msg : List ℕ) (i : ℕ) (from : Cursor) → cell_map_of c msg i 0 (read_count msg 0 from) ≡ still from
unfolding cell_map_of read_count
map-absent c msg i from = simp (number-absent, bit-none, passes)

cells-absent : (msg : List ℕ) (from : Cursor) (j : ℕ) → cells_after msg 0 (still from) j ≡ still from
unfolding cells_after
cells-absent msg from zero = refl
cells-absent msg from (suc j) = rw (cells-absent msg from j, bit-none j) (number-absent msg _ _ _ (still from))

cell-absent : (msg : List ℕ) (from : Cursor) (j : ℕ) → cell_read msg 0 (still from) j ≡ 0
unfolding cell_read
cell-absent msg from j = ap (λ (c : Cursor). c.x) (cells-absent msg from (suc j))

fits-absent : total_fits 0 0 ≡ true
unfolding total_fits
fits-absent = refl

pub row-absent : (c : Config) (msg : List ℕ) (i : ℕ) (from : Cursor) → row_of c msg i 0 from ≡ record { count = 0; cursor = stay from.number from }
unfolding row_of
row-absent c msg i from =
    rw (
      map-absent c msg i from,
      count-absent msg from,
      sum-zero 16 (cell_read msg 0 (still from)) (λ j l. cell-absent msg from j),
      fits-absent,
      cells-absent msg from 16,
      passes 4 (still from),
    )

pub row-cell-absent : (c : Config) (msg : List ℕ) (i : ℕ) (from : Cursor) (j : ℕ) → row_cells c msg i 0 from j ≡ 0
unfolding row_cells
row-cell-absent c msg i from j = rw (map-absent c msg i from) (cell-absent msg from j)

-- ---- after a fault

pub number-stays : (msg : List ℕ) (s w low high : ℕ) (c : Cursor) → (c.number ≡ 0 → ⊥) → read_number msg s w low high c ≡ stay c.number c
unfolding read_number
number-stays msg s w low high c n = simp (ne_eqb c.number 0 n)

-- a step that found a fault read nothing
pub number-clean : (msg : List ℕ) (s w low high : ℕ) (c : Cursor) → ((read_number msg s w low high c).number ≡ 0 → ⊥) → (read_number msg s w low high c).x ≡ 0
unfolding read_number read_bytes
number-clean msg s w low high c n = by_tests (eqb c.number 0) (eqb s 0) (leb (c.at + w) (length msg)) (within low high (number_at msg c.at w)) n
  where
    by_tests : (a b d e : Bool) → ((cond a (cond b (stay 0 c) (cond d (cond e (record { number = 0; at = c.at + w; x = number_at msg c.at w }) (stay 4 c)) (stay 2 c))) (stay c.number c)).number ≡ 0 → ⊥)
        → (cond a (cond b (stay 0 c) (cond d (cond e (record { number = 0; at = c.at + w; x = number_at msg c.at w }) (stay 4 c)) (stay 2 c))) (stay c.number c)).x ≡ 0
    by_tests false b d e h = refl
    by_tests true true d e h = refl
    by_tests true false false e h = refl
    by_tests true false true false h = refl
    by_tests true false true true h = absurd (h refl)

number_same : (msg : List ℕ) (s w low high : ℕ) (c : Cursor) → (c.number ≡ 0 → ⊥) → read_number msg s w low high c ≡ read_number msg 0 w low high c
number_same msg s w low high c n = number-stays msg s w low high c n ∙ sym (number-absent msg w low high c)

count_stuck : (msg : List ℕ) (s : ℕ) (from : Cursor) → (from.number ≡ 0 → ⊥) → read_count msg s from ≡ read_count msg 0 from
unfolding read_count
count_stuck msg s from n = number_same msg s 2 1 65535 from n

map-stuck : (c : Config) (msg : List ℕ) (i s : ℕ) (from : Cursor) → (from.number ≡ 0 → ⊥)
    → cell_map_of c msg i s (read_count msg s from) ≡ cell_map_of c msg i 0 (read_count msg 0 from)
unfolding cell_map_of
map-stuck c msg i s from n =
    rw (count_stuck msg s from n, count-absent msg from, number_same msg s 2 1 (2 ^ c.n - 1) (still from) n)

pub row-stuck : (c : Config) (msg : List ℕ) (i s : ℕ) (from : Cursor) → (from.number ≡ 0 → ⊥) → row_of c msg i s from ≡ row_of c msg i 0 from
unfolding row_of
row-stuck c msg i s from n = rw (map-stuck c msg i s from n, count_stuck msg s from n)

pub row-cell-stuck : (c : Config) (msg : List ℕ) (i s : ℕ) (from : Cursor) (j : ℕ) → (from.number ≡ 0 → ⊥) → row_cells c msg i s from j ≡ row_cells c msg i 0 from j
unfolding row_cells
row-cell-stuck c msg i s from j n = rw (map-stuck c msg i s from n)
