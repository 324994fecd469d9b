-- How many bytes a message takes, from what stands in it.
use Prim.Native.Nat.{ℕ, zero, suc, ◌+◌, ◌*◌, min}
use native.Mathlib.Omega.{arith}
use mathlib.Core.Path.{◌≡◌, refl, ◌∙◌}
use mathlib.Core.List.{List, ◌++◌}
use lib.ListN.{length, length-append}
use Rattle.quorums.specs.Sum.{sum}
use Rattle.config.specs.Cluster.{stamp_bytes}
use Rattle.config.specs.declared.cluster.Config.{Config}
use Rattle.format.specs.Bytes.{number, series, stands}
use Rattle.format.specs.Table.{register_mark, register, cell_map, cells, row_mark, row, row_map, rows, sheet, Fields, field_map_of, head, note, encode_fields}
use Rattle.format.proofs.Lengths.{number-length}

cells-length : (n : ℕ) (cell : ℕ → ℕ) → length (series n (λ j. number (cell j) 4 (cell j))) ≡ 4 * sum n (λ j. stands (cell j))
unfolding series sum
cells-length zero cell = refl
cells-length (suc n) cell =
    length-append (series n (λ j. number (cell j) 4 (cell j))) (number (cell n) 4 (cell n))
    ∙ omega (arith, cells-length n cell, number-length (cell n) 4 (cell n))

pub row-length : (count : ℕ) (cell : ℕ → ℕ) → length (row count cell) ≡ 4 * stands (row_mark count cell) + 4 * sum 16 (λ j. stands (cell j))
unfolding row cells
row-length count cell =
    let m = row_mark count cell in
    length-append (number m 2 count ++ number m 2 (cell_map cell)) (series 16 (λ j. number (cell j) 4 (cell j)))
    ∙ omega (arith, length-append (number m 2 count) (number m 2 (cell_map cell)), number-length m 2 count, number-length m 2 (cell_map cell), cells-length 16 cell)

head-length : (map kind server desk round : ℕ) → length (head map kind server desk round) ≡ 4 + 2 * stands desk + 4 * stands round
unfolding head stands
head-length map kind server desk round =
    omega (
      arith,
      length-append (number 1 2 map ++ number 1 1 kind ++ number 1 1 server ++ number desk 2 desk) (number round 4 round),
      length-append (number 1 2 map ++ number 1 1 kind ++ number 1 1 server) (number desk 2 desk),
      length-append (number 1 2 map ++ number 1 1 kind) (number 1 1 server),
      length-append (number 1 2 map) (number 1 1 kind),
      number-length 1 2 map,
      number-length 1 1 kind,
      number-length 1 1 server,
      number-length desk 2 desk,
      number-length round 4 round,
    )

register-length : (c : Config) (stamp desk : ℕ) (v : List ℕ) → length (register c stamp desk v) ≡ (stamp_bytes c + 3) * stands (register_mark stamp desk (length v)) + length v
unfolding register stamp_bytes
register-length c stamp desk v =
    let s : ℕ = register_mark stamp desk (length v) in
    omega (
      arith,
      length-append (number s 4 stamp ++ number s 2 desk ++ number s 1 (min (length v) 255)) v,
      length-append (number s 4 stamp ++ number s 2 desk) (number s 1 (min (length v) 255)),
      length-append (number s 4 stamp) (number s 2 desk),
      number-length s 4 stamp,
      number-length s 2 desk,
      number-length s 1 (min (length v) 255),
    )

-- the whole message, of which the rows are `length (rows ..)` bytes
pub fields-length : (c : Config) (x : Fields)
    → length (encode_fields c x)
    ≡ 4 + 2 * stands x.desk + 4 * stands x.round + (stamp_bytes c + 3) * stands (register_mark x.stamp x.tag-desk (length x.value))
    + length x.value
    + 2 * stands (row_map x.count x.cell)
    + length (rows x.count x.cell)
    + 4 * stands x.note
unfolding encode_fields sheet note
fields-length c x =
    let m : ℕ = row_map x.count x.cell in
    let a : List ℕ = head (field_map_of x) x.kind x.server x.desk x.round in
    let r : List ℕ = register c x.stamp x.tag-desk x.value in
    let s : List ℕ = rows x.count x.cell in
    omega (
      arith,
      length-append (a ++ r ++ (number m 2 m ++ s)) (number x.note 4 x.note),
      length-append (a ++ r) (number m 2 m ++ s),
      length-append (number m 2 m) s,
      length-append a r,
      head-length (field_map_of x) x.kind x.server x.desk x.round,
      register-length c x.stamp x.tag-desk x.value,
      number-length m 2 m,
      number-length x.note 4 x.note,
    )
