-- The byte table (paper 01, "Message bytes"): the fields of a message, and the bytes that they are. A field stands where its mark isn't 0.
use Rattle.std.specs.Prelude.{ℕ, ◌+◌, min, List, [], ◌∷◌, ◌++◌, length, get_or}
use Rattle.quorums.specs.Sum.{sum}
use Rattle.config.specs.Cluster.{stamp_bytes}
use Rattle.config.specs.declared.cluster.Config.{Config}
use Rattle.format.specs.Bytes.{number, series, marks}

-- ---- bit 4: the register, absent exactly at the start, tag (0, 0) and an empty value

unfoldable pub register_mark : ℕ → ℕ → ℕ → ℕ
register_mark stamp desk length = stamp + desk + length

-- a value longer than any length byte says has the length 255, which no reader takes
unfoldable pub register : Config → ℕ → ℕ → List ℕ → List ℕ
register c stamp desk value =
    let s = register_mark stamp desk (length value) in
    number s (stamp_bytes c) stamp ++ number s 2 desk ++ number s 1 (min (length value) 255) ++ value

-- ---- bit 5: the sheet, as a count for each giver and a cell for each giver and taker

-- the cells of a row that stand, and their bytes
unfoldable pub cell_map : (ℕ → ℕ) → ℕ
cell_map cell = marks 16 cell

unfoldable pub cells : (ℕ → ℕ) → List ℕ
cells cell = series 16 (λ j. number (cell j) 4 (cell j))

-- a row stands where its count or a cell of it isn't 0: count, cell map, cells
unfoldable pub row_mark : ℕ → (ℕ → ℕ) → ℕ
row_mark count cell = count + sum 16 cell

unfoldable pub row : ℕ → (ℕ → ℕ) → List ℕ
row count cell = number (row_mark count cell) 2 count ++ number (row_mark count cell) 2 (cell_map cell) ++ cells cell

-- the rows that stand, none on an empty sheet, and their bytes
unfoldable pub row_map : (ℕ → ℕ) → (ℕ → ℕ → ℕ) → ℕ
row_map count cell = marks 16 (λ i. row_mark (count i) (cell i))

unfoldable pub rows : (ℕ → ℕ) → (ℕ → ℕ → ℕ) → List ℕ
rows count cell = series 16 (λ i. row (count i) (cell i))

unfoldable pub sheet : (ℕ → ℕ) → (ℕ → ℕ → ℕ) → List ℕ
sheet count cell = number (row_map count cell) 2 (row_map count cell) ++ rows count cell

-- ---- the whole message

-- The fields of a message. Desk, round and note are absent where 0. Counts and cells are functions, so that whoever keeps transfers in another
-- form writes them by this table too.
pub record Fields : Type 0 where
  pub kind : ℕ
  pub server : ℕ
  pub desk : ℕ
  pub round : ℕ
  pub stamp : ℕ
  pub tag-desk : ℕ
  pub value : List ℕ
  pub count : ℕ → ℕ
  pub cell : ℕ → ℕ → ℕ
  pub note : ℕ

-- the map, whose bits 0 and 1, kind and server, always stand
unfoldable pub field_map : ℕ → ℕ → ℕ → ℕ → ℕ → ℕ
field_map desk round register rows note = marks 7 (λ k. get_or (1 ∷ 1 ∷ desk ∷ round ∷ register ∷ rows ∷ note ∷ []) k 0)

unfoldable pub field_map_of : Fields → ℕ
field_map_of x = field_map x.desk x.round (register_mark x.stamp x.tag-desk (length x.value)) (row_map x.count x.cell) x.note

-- the map, and bits 0 to 3: kind, server, desk, round
unfoldable pub head : ℕ → ℕ → ℕ → ℕ → ℕ → List ℕ
head map kind server desk round = number 1 2 map ++ number 1 1 kind ++ number 1 1 server ++ number desk 2 desk ++ number round 4 round

-- bit 6
unfoldable pub note : ℕ → List ℕ
note x = number x 4 x

unfoldable pub encode_fields : Config → Fields → List ℕ
encode_fields c x =
    head (field_map_of x) x.kind x.server x.desk x.round ++ register c x.stamp x.tag-desk x.value ++ sheet x.count x.cell
    ++ note x.note
