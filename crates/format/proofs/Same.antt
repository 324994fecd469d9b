-- The bytes of a sheet rest on its counts and cells below 16 alone: whoever has the same ones, in whatever form, has the same bytes.
use Prim.Native.Nat.{ℕ, ◌<◌}
use mathlib.Core.Path.{◌≡◌, refl, ap}
use Rattle.quorums.proofs.Sums.{sum_same}
use Rattle.config.specs.declared.cluster.Config.{Config}
use Rattle.format.specs.Bytes.{number}
use Rattle.format.specs.Table.{cell_map, cells, row_mark, row, row_map, rows, sheet, Fields, field_map_of, encode_fields}
use Rattle.format.proofs.Lengths.{series-same}
use Rattle.format.proofs.Marks.{marks-same}

-- two rows with the same cells
abbrev pub SameCells : (ℕ → ℕ) → (ℕ → ℕ) → Type 0
SameCells f g = (j : ℕ) → j < 16 → f j ≡ g j

pub cell_map-same : (f g : ℕ → ℕ) → SameCells f g → cell_map f ≡ cell_map g
unfolding cell_map
cell_map-same f g h = marks-same 16 f g h

pub cells_same : (f g : ℕ → ℕ) → SameCells f g → cells f ≡ cells g
unfolding cells
cells_same f g h = series-same 16 _ _ (λ j l. ap (λ x. number x 4 x) (h j l))

pub row_mark-same : (m n : ℕ) (f g : ℕ → ℕ) → m ≡ n → SameCells f g → row_mark m f ≡ row_mark n g
unfolding row_mark
row_mark-same m n f g e h = rw (e, sum_same 16 f g h) refl

pub row_same : (m n : ℕ) (f g : ℕ → ℕ) → m ≡ n → SameCells f g → row m f ≡ row n g
unfolding row
row_same m n f g e h = rw (row_mark-same m n f g e h, cell_map-same f g h, cells_same f g h, e) refl

-- two sheets with the same counts and cells
pub record SameSheet (m n : ℕ → ℕ) (f g : ℕ → ℕ → ℕ) : Type 0 where
  pub same-counts : (i : ℕ) → i < 16 → m i ≡ n i
  pub same-cells : (i : ℕ) → i < 16 → SameCells (f i) (g i)

pub row_map-same : (m n : ℕ → ℕ) (f g : ℕ → ℕ → ℕ) → SameSheet m n f g → row_map m f ≡ row_map n g
unfolding row_map
row_map-same m n f g s = marks-same 16 _ _ (λ i l. row_mark-same (m i) (n i) (f i) (g i) (s.same-counts i l) (s.same-cells i l))

pub rows_same : (m n : ℕ → ℕ) (f g : ℕ → ℕ → ℕ) → SameSheet m n f g → rows m f ≡ rows n g
unfolding rows
rows_same m n f g s = series-same 16 _ _ (λ i l. row_same (m i) (n i) (f i) (g i) (s.same-counts i l) (s.same-cells i l))

pub sheet-same : (m n : ℕ → ℕ) (f g : ℕ → ℕ → ℕ) → SameSheet m n f g → sheet m f ≡ sheet n g
unfolding sheet
sheet-same m n f g s = rw (row_map-same m n f g s, rows_same m n f g s) refl

-- the fields x with other counts and cells
abbrev pub with_sheet : Fields → (ℕ → ℕ) → (ℕ → ℕ → ℕ) → Fields
with_sheet x m f =
    record {
      kind = x.kind;
      server = x.server;
      desk = x.desk;
      round = x.round;
      stamp = x.stamp;
      tag-desk = x.tag-desk;
      value = x.value;
      count = m;
      cell = f;
      note = x.note;
    }

pub encode_same : (c : Config) (x : Fields) (m : ℕ → ℕ) (f : ℕ → ℕ → ℕ) → SameSheet x.count m x.cell f
    → encode_fields c x ≡ encode_fields c (with_sheet x m f)
unfolding encode_fields field_map_of
encode_same c x m f s = rw (row_map-same x.count m x.cell f s, sheet-same x.count m x.cell f s) refl
