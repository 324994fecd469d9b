-- A reader that finds no fault in the head or the register has passed over the bytes of what it found.
use Prim.Native.Nat.{ℕ, zero, suc, ◌+◌, ◌-◌, ◌<◌, ◌≤◌, min}
use native.Mathlib.Omega.{arith}
use mathlib.Core.Path.{◌≡◌, refl, sym, ap, ap₂, ◌∙◌}
use mathlib.Core.Bool.{true}
use mathlib.Core.List.{List, [], ◌++◌, append_assoc}
use lib.ListN.{length, take, drop, length-drop}
use lib.Seq.{length-take-le}
use Rattle.config.specs.Cluster.{stamp_bytes, most_stamp}
use Rattle.config.specs.declared.cluster.Config.{Config}
use Rattle.format.specs.Bytes.{number, stands, bit}
use Rattle.format.specs.Table.{register_mark, register, head}
use Rattle.format.proofs.Lengths.{number_same}
use Rattle.format.proofs.Marks.{stands-none, stands-pos, stands-bit, bit_le}
use Rattle.message.specs.Cursors.{Cursor}
use Rattle.message.specs.Envelopes.{Bytes}
use Rattle.message.specs.Cursors.{start, read_number, skip}
use Rattle.message.specs.Scans.{map_lawful, read_map, read_kind, head_of, register_of}
use Rattle.message.proofs.Sticky.{read_number-open, skip-open}
use Rattle.message.proofs.Backs.{Passed, moved, Got, number-got, got-mark, own-mark, skip-got, require-got}

-- What a head without a fault is.
pub record HeadBack (c : Config) (msg : List ℕ) : Type 0 where
  pub map-lawful : map_lawful (head_of c msg).map ≡ true
  pub desk-mark : stands (head_of c msg).desk ≡ bit (head_of c msg).map 2
  pub round-mark : stands (head_of c msg).round ≡ bit (head_of c msg).map 3
  pub kind_fits : (head_of c msg).kind ≤ 3
  pub server-fits : (head_of c msg).server ≤ c.n - 1
  pub desk-fits : (head_of c msg).desk ≤ 65535
  pub round-fits : (head_of c msg).round ≤ 4294967295
  pub head_passed : Passed msg (head_of c msg).cursor (head (head_of c msg).map (head_of c msg).kind (head_of c msg).server (head_of c msg).desk (head_of c msg).round)

module _ (c : Config) (msg : List ℕ) (b : Bytes msg) (e : (head_of c msg).cursor.number ≡ 0) where
  map_number : Cursor
  map_number = read_number msg 1 2 0 65535 start

  map : Cursor
  map = read_map msg

  kind_number : Cursor
  kind_number = read_number msg 1 1 1 3 map

  kind : Cursor
  kind = read_kind msg map

  server : Cursor
  server = read_number msg 1 1 0 (c.n - 1) kind

  desk : Cursor
  desk = read_number msg (bit map.x 2) 2 1 65535 server

  round : Cursor
  round = read_number msg (bit map.x 3) 4 1 4294967295 desk

  round-clean : round.number ≡ 0
  unfolding head_of round desk server kind map
  round-clean = e

  desk-clean : desk.number ≡ 0
  unfolding round
  desk-clean = read_number-open msg _ _ _ _ _ round-clean

  server-clean : server.number ≡ 0
  unfolding desk
  server-clean = read_number-open msg _ _ _ _ _ desk-clean

  kind-clean : kind.number ≡ 0
  unfolding server
  kind-clean = read_number-open msg _ _ _ _ _ server-clean

  kind-is : kind ≡ kind_number
  unfolding kind read_kind kind_number
  kind-is = (require-got _ 2 _ kind-clean).1

  map-clean : map.number ≡ 0
  unfolding kind_number
  map-clean = read_number-open msg _ _ _ _ _ (sym (ap (λ (d : Cursor). d.number) kind-is) ∙ kind-clean)

  map_is : map ≡ map_number
  unfolding map read_map map_number
  map_is = (require-got _ 2 _ map-clean).1

  lawful : map_lawful map.x ≡ true
  unfolding map read_map
  lawful = ap (λ (d : Cursor). map_lawful d.x) map-is-read ∙ (require-got _ 2 _ map-clean).0
    where
      map-is-read : read_map msg ≡ read_number msg 1 2 0 65535 start
      map-is-read = (require-got _ 2 _ map-clean).1

  map-got : Got msg 1 2 0 65535 map []
  unfolding map_number
  map-got = rw map_is (number-got msg b 1 2 0 65535 start [] (record { none = refl; place = refl; there = omega arith; taken = refl }) (sym (ap (λ (d : Cursor). d.number) map_is) ∙ map-clean))

  kind-got : Got msg 1 1 1 3 kind (number 1 2 map.x)
  unfolding kind_number
  kind-got = rw kind-is (number-got msg b 1 1 1 3 map _ map-got.passed (sym (ap (λ (d : Cursor). d.number) kind-is) ∙ kind-clean))

  server-got : Got msg 1 1 0 (c.n - 1) server (number 1 2 map.x ++ number 1 1 kind.x)
  unfolding server
  server-got = number-got msg b 1 1 0 (c.n - 1) kind _ kind-got.passed server-clean

  desk-got : Got msg (bit map.x 2) 2 1 65535 desk (number 1 2 map.x ++ number 1 1 kind.x ++ number 1 1 server.x)
  unfolding desk
  desk-got = number-got msg b (bit map.x 2) 2 1 65535 server _ server-got.passed desk-clean

  round-got : Got msg (bit map.x 3) 4 1 4294967295 round
      (number 1 2 map.x ++ number 1 1 kind.x ++ number 1 1 server.x ++ number (bit map.x 2) 2 desk.x)
  unfolding round
  round-got = number-got msg b (bit map.x 3) 4 1 4294967295 desk _ desk-got.passed round-clean

  desk-marked : stands desk.x ≡ bit map.x 2
  desk-marked = got-mark msg (bit map.x 2) 2 65535 desk _ (bit_le map.x 2) desk-got

  round-marked : stands round.x ≡ bit map.x 3
  round-marked = got-mark msg (bit map.x 3) 4 4294967295 round _ (bit_le map.x 3) round-got

  bytes-of-head : number 1 2 map.x ++ number 1 1 kind.x ++ number 1 1 server.x ++ number (bit map.x 2) 2 desk.x ++ number (bit map.x 3) 4 round.x
      ≡ head map.x kind.x server.x desk.x round.x
  unfolding head
  bytes-of-head =
      ap₂ (λ x y. number 1 2 map.x ++ number 1 1 kind.x ++ number 1 1 server.x ++ x ++ y)
      (own-mark (bit map.x 2) 2 desk.x (bit_le map.x 2) desk-marked) (own-mark (bit map.x 3) 4 round.x (bit_le map.x 3) round-marked)

  pub head-back : HeadBack c msg
  unfolding head_of round desk server kind map
  head-back =
      record {
        map-lawful = lawful;
        desk-mark = desk-marked;
        round-mark = round-marked;
        kind_fits = kind-got.high-holds;
        server-fits = server-got.high-holds;
        desk-fits = desk-got.high-holds;
        round-fits = round-got.high-holds;
        head_passed = moved bytes-of-head round-got.passed;
      }

-- ---- the register

-- What a register without a fault is, with the value v.
pub record RegisterBack (c : Config) (msg : List ℕ) (s : ℕ) (from : Cursor) (pre v : List ℕ) : Type 0 where
  pub stamp-fits : (register_of c msg s from).stamp ≤ 4294967295
  pub desk-fits : (register_of c msg s from).desk ≤ 65535
  pub register-mark : stands (register_mark (register_of c msg s from).stamp (register_of c msg s from).desk (length v)) ≡ s
  pub register-passed : Passed msg (register_of c msg s from).cursor (pre ++ register c (register_of c msg s from).stamp (register_of c msg s from).desk v)

module _ (c : Config) (msg : List ℕ) (b : Bytes msg) (s : ℕ) (s-bit : s ≤ 1) (from : Cursor) (pre : List ℕ) (h : Passed msg from pre)
    (e : (register_of c msg s from).cursor.number ≡ 0) where
  stamp : Cursor
  stamp = read_number msg s (stamp_bytes c) 1 (most_stamp c) from

  tag_desk : Cursor
  tag_desk = read_number msg s 2 1 65535 stamp

  size : Cursor
  size = read_number msg s 1 0 64 tag_desk

  value : List ℕ
  value = take size.x (drop size.at msg)

  end_clean : (skip msg size.x size).number ≡ 0
  unfolding register_of size tag_desk stamp
  end_clean = e

  size-clean : size.number ≡ 0
  size-clean = skip-open msg _ _ end_clean

  desk-open : tag_desk.number ≡ 0
  unfolding size
  desk-open = read_number-open msg _ _ _ _ _ size-clean

  stamp-open : stamp.number ≡ 0
  unfolding tag_desk
  stamp-open = read_number-open msg _ _ _ _ _ desk-open

  stamp-got : Got msg s (stamp_bytes c) 1 (most_stamp c) stamp pre
  unfolding stamp
  stamp-got = number-got msg b s (stamp_bytes c) 1 (most_stamp c) from pre h stamp-open

  tag-desk-got : Got msg s 2 1 65535 tag_desk (pre ++ number s (stamp_bytes c) stamp.x)
  unfolding tag_desk
  tag-desk-got = number-got msg b s 2 1 65535 stamp _ stamp-got.passed desk-open

  size-got : Got msg s 1 0 64 size (pre ++ number s (stamp_bytes c) stamp.x ++ number s 2 tag_desk.x)
  unfolding size
  size-got = number-got msg b s 1 0 64 tag_desk _ tag-desk-got.passed size-clean

  value-got : (size.at + size.x ≤ length msg)
      × Passed msg (skip msg size.x size) (pre ++ number s (stamp_bytes c) stamp.x ++ number s 2 tag_desk.x ++ number s 1 size.x ++ value)
  unfolding value
  value-got = skip-got msg size.x size _ size-got.passed end_clean

  value-length : length value ≡ size.x
  unfolding value
  value-length = length-take-le size.x (drop size.at msg) (omega (arith, length-drop size.at msg, value-got.0))

  mark_of : (x y z : ℕ) (s : ℕ) → s ≤ 1 → (s ≡ 0 → (x ≡ 0) × (y ≡ 0) × (z ≡ 0)) → (0 < s → 1 ≤ x) → stands (register_mark x y z) ≡ s
  unfolding register_mark
  mark_of x y z zero l n p = let a = n refl in let t : x + y + z ≡ 0 = omega (arith, a.0, a.1, a.2) in rw t stands-none
  mark_of x y z (suc zero) l n p = stands-pos (x + y + z) (omega (arith, p (omega arith)))
  mark_of x y z (suc (suc k)) l n p = absurd (omega arith)

  mark-back : stands (register_mark stamp.x tag_desk.x (length value)) ≡ s
  mark-back =
      mark_of stamp.x tag_desk.x (length value) s s-bit
      (λ z. (stamp-got.absent z, tag-desk-got.absent z, value-length ∙ size-got.absent z))
      stamp-got.low-holds

  bytes-of-register : pre ++ number s (stamp_bytes c) stamp.x ++ number s 2 tag_desk.x ++ number s 1 size.x ++ value
      ≡ pre ++ register c stamp.x tag_desk.x value
  unfolding register
  bytes-of-register =
      let m : ℕ = register_mark stamp.x tag_desk.x (length value) in
      let same : stands s ≡ stands m = stands-bit s s-bit ∙ sym mark-back in
      let size_is : size.x ≡ min (length value) 255 = omega (arith, value-length, size-got.high-holds) in
      ap₂ (λ x y. pre ++ x ++ y ++ number s 1 size.x ++ value) (number_same s m (stamp_bytes c) stamp.x same) (number_same s m 2 tag_desk.x same)
      ∙ ap (λ x. pre ++ number m (stamp_bytes c) stamp.x ++ number m 2 tag_desk.x ++ x ++ value)
      (number_same s m 1 size.x same ∙ ap (number m 1) size_is)
      ∙ ap (λ l. l ++ number m 1 (min (length value) 255) ++ value) (append_assoc pre (number m (stamp_bytes c) stamp.x) (number m 2 tag_desk.x))
      ∙ ap (λ l. l ++ value) (append_assoc pre (number m (stamp_bytes c) stamp.x ++ number m 2 tag_desk.x) (number m 1 (min (length value) 255)))
      ∙ append_assoc pre (number m (stamp_bytes c) stamp.x ++ number m 2 tag_desk.x ++ number m 1 (min (length value) 255)) value

  stamp-small : stamp.x ≤ 4294967295
  unfolding most_stamp stamp_bytes
  stamp-small = stamp-got.high-holds

  pub register-back : RegisterBack c msg s from pre (take (register_of c msg s from).length (drop (register_of c msg s from).from msg))
  unfolding register_of value size tag_desk stamp
  register-back =
      record {
        stamp-fits = stamp-small;
        desk-fits = tag-desk-got.high-holds;
        register-mark = mark-back;
        register-passed = moved bytes-of-register value-got.1;
      }
