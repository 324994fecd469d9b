-- Rows as the loops see them: the cells are cut into rows of 16. Where every row whose count is 0 is empty, it stands where its count does, and has no bytes
-- elsewhere.
use Prim.Native.Nat.{ℕ, zero, suc, ◌+◌, ◌*◌, ◌/◌, ◌≤◌, ◌<◌}
use native.Mathlib.Numerals.{add-one}
use native.Mathlib.Omega.{arith}
use mathlib.Core.Path.{◌≡◌, sym, ap, ◌∙◌}
use mathlib.Core.List.{List, [], ◌++◌}
use lib.ListN.{length, get_or, drop, length-append, length-drop, drop_of_length-le}
use lib.Seq.{get_or-take, get_or-drop, length-take-le}
use Rattle.std.specs.Simd.{first_chunks}
use Rattle.quorums.specs.Sum.{sum}
use Rattle.quorums.proofs.Sums.{sum-le}
use Rattle.ledger.specs.declared.ledger.Ledger.{Ledger}
use Rattle.ledger.specs.Ledgers.{count_of, cell_of}
use Rattle.format.specs.Bytes.{bytes, series, stands, marks}
use Rattle.format.specs.Table.{cell_map, cells, row_mark, row, row_map}
use Rattle.format.proofs.Lengths.{bytes-length, series-next}
use Rattle.format.proofs.Sizes.{row-length}
use Rattle.format.proofs.Marks.{stands-none, stands-pos, stands-most, stands_same, marks-stand}
use Rattle.writer.specs.Outlines.{Counted}
use Rattle.writer.specs.declared.pen.Pen.{Pen}
use Rattle.writer.specs.Places.{onto, HasRoom, Puts}
use Rattle.writer.proofs.Places.{onto-length, onto-between}
use Rattle.writer.proofs.Puts.{number-present}

-- cell j of row i, where the cells are cut into n rows
in_chunk : (n : ℕ) (all : List ℕ) (i j : ℕ) → i < n → j < 16 → get_or (get_or (first_chunks 16 n all) i []) j 0 ≡ get_or all (i * 16 + j) 0
in_chunk zero all i j h l = absurd (omega arith)
in_chunk (suc n) all zero j h l = get_or-take 16 all j 0 l ∙ ap (λ k. get_or all k 0) (omega arith)
in_chunk (suc n) all (suc i) j h l =
    in_chunk n (drop 16 all) i j (omega arith) l ∙ get_or-drop 16 all (i * 16 + j) 0 ∙ ap (λ k. get_or all k 0) (omega arith)

chunk_length : (n : ℕ) (all : List ℕ) (i : ℕ) → i < n → n * 16 ≤ length all → length (get_or (first_chunks 16 n all) i []) ≡ 16
chunk_length zero all i h l = absurd (omega arith)
chunk_length (suc n) all zero h l = length-take-le 16 all (omega arith)
chunk_length (suc n) all (suc i) h l = chunk_length n (drop 16 all) i (omega arith) (omega (arith, length-drop 16 all))

-- what a loop over the counts and the rows is lent in turn i
pub lent_row : (all row : List ℕ) (cut : List (List ℕ)) (i : ℕ) → length all ≡ 256 → i < 16 → cut ≡ first_chunks 16 (length all / 16) all → row ≡ get_or cut i []
    → (length row ≡ 16) × ((j : ℕ) → j < 16 → get_or row j 0 ≡ get_or all (i * 16 + j) 0)
lent_row all row cut i e h c r =
    let is : row ≡ get_or (first_chunks 16 (length all / 16) all) i [] = r ∙ ap (λ rs. get_or rs i []) c in
    let l : i < length all / 16 = omega arith in
    (ap length is ∙ chunk_length _ all i l (omega arith), λ j k. ap (λ xs. get_or xs j 0) is ∙ in_chunk _ all i j l k)

-- the bytes of one part more
pub bytes_next : (f : ℕ → List ℕ) (i bytes n : ℕ) → bytes ≡ length (series i f) → n ≡ length (f i) → bytes + n ≡ length (series (i + 1) f)
bytes_next f i bytes n e d = rw (add-one, series-next) (omega (arith, length-append (series i f) (f i)))

-- the rows that stand are those whose counts do
pub counts-map : (l : Ledger) → Counted l → marks 16 (count_of l) ≡ row_map (count_of l) (cell_of l)
unfolding row_map row_mark
counts-map l empty = marks-stand 16 _ _ (λ i h. stands_same _ _ (λ e. omega (arith, empty i h e)) (λ e. omega arith))

module _ (count : ℕ) (cell : ℕ → ℕ) where
  -- an empty row whose count is 0 has no bytes
  pub row-absent : count ≡ 0 → sum 16 cell ≡ 0 → row count cell ≡ []
  unfolding row_mark
  row-absent none empty =
      let mark : stands (count + sum 16 cell) ≡ 0 = ap stands (omega arith) ∙ stands-none in
      drop_of_length-le (row count cell) {i = 0}
      (omega (arith, row-length count cell, mark, sum-le 16 (λ j. stands (cell j)) cell (λ j h. stands-most (cell j))))

  -- a row whose count isn't: count, cell map, cells
  module _ (some : count ≡ 0 → ⊥) where
    marked : row_mark count cell ≡ 0 → ⊥
    unfolding row_mark
    marked e = some (omega arith)

    row-present : bytes 2 count ++ bytes 2 (cell_map cell) ++ cells cell ≡ row count cell
    unfolding row
    row-present = rw (number-present (row_mark count cell) 2 count marked, number-present (row_mark count cell) 2 (cell_map cell) marked)

    pub present-cells : length (row count cell) ≡ 4 + length (cells cell)
    present-cells = sym (ap length row-present) ∙ simp (length-append, bytes-length)

    -- The cell map is put when the cells are: the pen that wrote the count, and is p₁ then, writes the cells from two places further on, and another
    -- writes the map where the first one stood.
    module _ {p₀ p₁ : Pen} (p₂ : Pen) (room : HasRoom (row count cell) p₀) (first : Puts (bytes 2 count) p₀ p₁)
        (skipped : (p₂.out.now ≡ p₁.out.now) × (p₂.at ≡ p₁.at + 2)) where
      at-cells : p₂.at ≡ p₀.at + 4
      at-cells = omega (arith, first.place, skipped.1, bytes-length 2 count)

      pub cells-room : HasRoom (cells cell) p₂
      cells-room =
          let long = onto-length (bytes 2 count) p₀.out.now p₀.at (omega (arith, room.room, present-cells, bytes-length 2 count)) in
          record { room = omega (arith, room.room, present-cells, at-cells, ap length (skipped.0 ∙ first.written), long) }

      pub row-place : {p₃ : Pen} → Puts (cells cell) p₂ p₃ → p₃.at ≡ p₀.at + length (row count cell)
      row-place second = omega (arith, second.place, at-cells, present-cells)

      module _ {p₃ : Pen} (q₀ : Pen) (second : Puts (cells cell) p₂ p₃) (back : (q₀.out.now ≡ p₃.out.now) × (q₀.at ≡ p₁.at)) where
        pub map-room : HasRoom (bytes 2 (cell_map cell)) q₀
        map-room =
            let long = onto-length (cells cell) p₂.out.now p₂.at cells-room.room in
            record { room = omega (arith, cells-room.room, at-cells, back.1, first.place, ap length (back.0 ∙ second.written), long, bytes-length 2 count, bytes-length 2 (cell_map cell)) }

        pub row-written : {q₁ : Pen} → Puts (bytes 2 (cell_map cell)) q₀ q₁ → q₁.out.now ≡ onto (row count cell) p₀.out.now p₀.at
        row-written last =
            let a = bytes-length 2 count in
            let b = bytes-length 2 (cell_map cell) in
            last.written
            ∙ rw (back.0, back.1, second.written, skipped.0, first.written)
            (onto-between (bytes 2 count) (bytes 2 (cell_map cell)) (cells cell) p₀.out.now p₀.at p₁.at p₂.at first.place (omega (arith, at-cells, first.place)) (omega (arith, at-cells, room.room, present-cells)))
            ∙ ap (λ x. onto x p₀.out.now p₀.at) row-present

    pub present-size : length (row count cell) ≡ 4 + 4 * sum 16 (λ j. stands (cell j))
    unfolding row_mark
    present-size = row-length count cell ∙ rw (stands-pos (count + sum 16 cell) (omega arith))
