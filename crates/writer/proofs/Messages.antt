-- A head, a register and a whole message, field by field, and how long a message is.
use Prim.Native.Nat.{ℕ, ◌+◌, ◌*◌, ◌≤◌, min}
use native.Mathlib.Omega.{arith}
use mathlib.Core.Path.{◌≡◌, refl, ap, ◌∙◌}
use mathlib.Core.List.{List, ◌++◌, append_assoc}
use lib.ListN.{length, get_or, take}
use lib.Seq.{get_or-take}
use Rattle.config.specs.Cluster.{stamp_bytes}
use Rattle.config.specs.declared.cluster.Config.{Config}
use Rattle.ledger.specs.Ledgers.{count_of, cell_of}
use Rattle.format.specs.Bytes.{bytes, number, stands}
use Rattle.format.specs.Table.{head, register_mark, register, row_map, rows, sheet, note, field_map, field_map_of, encode_fields}
use Rattle.format.proofs.Sizes.{fields-length}
use Rattle.quorums.proofs.Tables.{is-table}
use Rattle.replica.specs.declared.value.Value.{Value}
use Rattle.replica.specs.declared.replica.Replica.{Replica}
use Rattle.replica.specs.Values.{bytes_of}
use Rattle.replica.proofs.Values.{bytes-length}
use Rattle.message.specs.declared.envelope.Envelope.{Envelope}
use Rattle.message.specs.Envelopes.{carried, fields_of, message_of}
use Rattle.writer.specs.Outlines.{size_of}

-- the head's fields
pub head-fields : (map kind server desk round : ℕ)
    → head map kind server desk round ≡ bytes 2 map ++ bytes 1 kind ++ bytes 1 server ++ number desk 2 desk ++ number round 4 round
unfolding head number
head-fields map kind server desk round = refl

-- the bytes of a value of at most 64, as they are lent
pub lent_value : (v : Value) (lent : List ℕ) → v.length ≤ 64 → (lent ≡ take (min v.length 64) v.bytes) × (length lent ≡ min v.length 64) → lent ≡ bytes_of v
unfolding bytes_of
lent_value v lent h e =
    is-table v.length _ lent (omega (arith, e.1)) (λ k l. ap (λ xs. get_or xs k 0) e.0 ∙ get_or-take (min v.length 64) v.bytes k 0 (omega arith))

-- a register whose value has at most 64 bytes
pub register-written : (c : Config) (stamp desk : ℕ) (v : Value) → v.length ≤ 64
    → number (stamp + desk + v.length) (stamp_bytes c) stamp ++ number (stamp + desk + v.length) 2 desk ++ number (stamp + desk + v.length) 1 v.length
    ++ bytes_of v
    ≡ register c stamp desk (bytes_of v)
unfolding register register_mark
register-written c stamp desk v h = let e : min v.length 255 ≡ v.length = omega arith in rw (bytes-length v, e)

module _ (c : Config) (e : Envelope) (r : Replica) where
  -- the map, from the length of the value
  map-length : field_map_of (fields_of e r)
      ≡ field_map e.desk e.round (register_mark r.register.stamp r.register.desk r.register.value.length)
      (row_map (count_of r.ledger) (cell_of r.ledger)) e.note
  unfolding field_map_of
  map-length =
      ap
      (λ n.
      field_map e.desk e.round (register_mark r.register.stamp r.register.desk n) (row_map (count_of r.ledger) (cell_of r.ledger)) e.note)
      (bytes-length r.register.value)

  pub message-written : (map rows_map : ℕ)
      → map ≡ field_map e.desk e.round (register_mark r.register.stamp r.register.desk r.register.value.length) rows_map e.note
      → rows_map ≡ row_map (count_of r.ledger) (cell_of r.ledger)
      → head map e.kind e.server e.desk e.round ++ register c r.register.stamp r.register.desk (carried r) ++ number rows_map 2 rows_map
      ++ rows (count_of r.ledger) (cell_of r.ledger)
      ++ number e.note 4 e.note
      ≡ message_of c e r
  unfolding message_of encode_fields sheet note
  message-written map rows_map m s =
      let all : ℕ = row_map (count_of r.ledger) (cell_of r.ledger) in
      rw (
        m,
        s,
        ← map-length,
        append_assoc
            (head (field_map_of (fields_of e r)) e.kind e.server e.desk e.round ++ register c r.register.stamp r.register.desk (carried r))
            (number all 2 all) (rows (count_of r.ledger) (cell_of r.ledger)),
      )

  pub message-length : length (message_of c e r)
      ≡ size_of c e r.register (row_map (count_of r.ledger) (cell_of r.ledger)) (length (rows (count_of r.ledger) (cell_of r.ledger)))
  unfolding message_of size_of
  message-length =
      fields-length c (fields_of e r)
      ∙ ap
      (λ n.
      4 + 2 * stands e.desk + 4 * stands e.round
      + (stamp_bytes c + 3) * stands (register_mark r.register.stamp r.register.desk n)
      + n
      + 2 * stands (row_map (count_of r.ledger) (cell_of r.ledger))
      + length (rows (count_of r.ledger) (cell_of r.ledger))
      + 4 * stands e.note)
      (bytes-length r.register.value)
