-- A reader at the front of a message's bytes finds the map, kind, server, desk and round, or refuses the kind by 4, the fields that stand by 3,
-- the server by 4.
use Prim.Native.Nat.{ℕ, zero, suc, ◌-◌, ◌%◌, ◌<◌, ◌≤◌}
use native.Mathlib.Omega.{arith}
use mathlib.Core.Path.{◌≡◌, refl, sym, ap, ◌∙◌}
use mathlib.Core.Bool.{Bool, true, false, cond, not}
use mathlib.Core.List.{List, [], ◌∷◌, ◌++◌}
use borrow.Author.Tests.{eq-eqb, lt-ltb}
use lib.Dec.{eqb, eqb-suc-zero}
use lib.Pow.{mod-pow-add}
use lib.ListN.{get_or}
use Rattle.config.specs.declared.cluster.Config.{Config}
use Rattle.format.specs.Bytes.{number, stands, bit}
use Rattle.format.specs.Table.{field_map, head}
use Rattle.format.proofs.Marks.{marks-lt, bit-marks}
use Rattle.message.specs.Cursors.{start, within, read_number}
use Rattle.message.specs.Scans.{map_lawful, kind_has, read_map, read_kind, head_of}
use Rattle.message.specs.Faults.{kind_number_fits}
use Rattle.message.proofs.Stuck.{Stuck, stuck_at, read_number-stuck, require-stuck}
use Rattle.message.proofs.Ahead.{back}
use Rattle.message.proofs.Moves.{in-range, above-range, behind, behind-stands, move, refuse, require-passes, require-refuses}

-- ---- the map

pub map-bit : (desk round register rows note k : ℕ) → k < 7
    → bit (field_map desk round register rows note) k ≡ stands (get_or (1 ∷ 1 ∷ desk ∷ round ∷ register ∷ rows ∷ note ∷ []) k 0)
unfolding field_map
map-bit desk round register rows note k h = bit-marks 7 (λ i. get_or (1 ∷ 1 ∷ desk ∷ round ∷ register ∷ rows ∷ note ∷ []) i 0) k h

pub map-lt : (desk round register rows note : ℕ) → field_map desk round register rows note < 128
unfolding field_map
map-lt desk round register rows note = marks-lt 7 (λ i. get_or (1 ∷ 1 ∷ desk ∷ round ∷ register ∷ rows ∷ note ∷ []) i 0)

two-bits : (m : ℕ) → bit m 0 ≡ stands 1 → bit m 1 ≡ stands 1 → m % 4 ≡ 3
unfolding bit stands
two-bits m a b = mod-pow-add m 1 1 ∙ omega (arith, a, b)

map-lawful : (desk round register rows note : ℕ) → map_lawful (field_map desk round register rows note) ≡ true
unfolding map_lawful
map-lawful desk round register rows note =
    simp (lt-ltb (field_map desk round register rows note) 128 (map-lt desk round register rows note))
    (eq-eqb (field_map desk round register rows note % 4) 3 (two-bits (field_map desk round register rows note) (map-bit desk round register rows note 0 (omega arith)) (map-bit desk round register rows note 1 (omega arith))))

-- ---- the fields of a kind

eqb-stands : (x : ℕ) → eqb (stands x) 0 ≡ eqb x 0
unfolding stands
eqb-stands zero = refl
eqb-stands (suc x) = sym (eqb-suc-zero x)

eqb-stands-one : (x : ℕ) → eqb (stands x) 1 ≡ not (eqb x 0)
unfolding stands
eqb-stands-one zero = refl
eqb-stands-one (suc x) = ap not (sym (eqb-suc-zero x))

kind-has : (kind desk round register rows note : ℕ) → kind_has kind (field_map desk round register rows note) ≡ kind_number_fits kind desk round note
unfolding kind_has kind_number_fits
kind-has kind desk round register rows note =
    simp (b 2 (omega arith), b 3 (omega arith), b 6 (omega arith), eqb-stands desk, eqb-stands round, eqb-stands note, eqb-stands-one desk, eqb-stands-one round)
    (flip (eqb kind 3) (eqb desk 0) (not (eqb round 0)) _)
  where
    b : (k : ℕ) → k < 7 → bit (field_map desk round register rows note) k ≡ stands (get_or (1 ∷ 1 ∷ desk ∷ round ∷ register ∷ rows ∷ note ∷ []) k 0)
    b = map-bit desk round register rows note

    flip : (k d r x : Bool) → cond k x (cond (not d) r false) ≡ cond k x (cond d false r)
    flip true d r x = refl
    flip false true r x = refl
    flip false false r x = refl

-- ---- the front of a message

-- A reader stands at the front of a message with these fields.
pub record AtHead (msg t : List ℕ) (kind server desk round register rows note : ℕ) : Type 0 where
  pub kind_fits : kind ≤ 255
  pub server-fits : server ≤ 255
  pub desk-fits : desk ≤ 65535
  pub round-fits : round ≤ 4294967295
  pub ahead : msg ≡ head (field_map desk round register rows note) kind server desk round ++ t

module _ (c : Config) (msg t : List ℕ) (kind server desk round register rows note : ℕ) (a : AtHead msg t kind server desk round register rows note) where
  map : ℕ
  map = field_map desk round register rows note

  behind_map : List ℕ
  behind_map = number 1 2 map

  behind_kind : List ℕ
  behind_kind = behind_map ++ number 1 1 kind

  behind_server : List ℕ
  behind_server = behind_kind ++ number 1 1 server

  behind_desk : List ℕ
  behind_desk = behind_server ++ number desk 2 desk

  ahead-round : msg ≡ behind_desk ++ (number round 4 round ++ t)
  unfolding head behind_desk behind_server behind_kind behind_map map
  ahead-round = back msg behind_desk (number round 4 round) t a.ahead

  ahead-desk : msg ≡ behind_server ++ (number desk 2 desk ++ (number round 4 round ++ t))
  unfolding behind_desk
  ahead-desk = back msg behind_server (number desk 2 desk) _ ahead-round

  ahead-server : msg ≡ behind_kind ++ (number 1 1 server ++ (number desk 2 desk ++ (number round 4 round ++ t)))
  unfolding behind_server
  ahead-server = back msg behind_kind (number 1 1 server) _ ahead-desk

  ahead-kind : msg ≡ behind_map ++ (number 1 1 kind ++ (number 1 1 server ++ (number desk 2 desk ++ (number round 4 round ++ t))))
  unfolding behind_kind
  ahead-kind = back msg behind_map (number 1 1 kind) _ ahead-server

  map-number : read_number msg 1 2 0 65535 start ≡ behind behind_map map
  unfolding behind_map stands map
  map-number =
      move msg [] _ start 1 2 0 65535 map (record { none = refl; place = refl }) ahead-kind (omega (arith, map-lt desk round register rows note))
      (λ e. absurd (omega arith)) (λ p. in-range 0 65535 map (omega arith) (omega (arith, map-lt desk round register rows note)))

  map_read_lem : read_map msg ≡ behind behind_map map
  unfolding read_map map
  map_read_lem = rw map-number (require-passes _ 3 (behind behind_map map) (map-lawful desk round register rows note))

  kind-number : within 1 3 kind ≡ true → read_number msg 1 1 1 3 (behind behind_map map) ≡ behind behind_kind kind
  unfolding behind_kind stands
  kind-number w =
      move msg behind_map _ (behind behind_map map) 1 1 1 3 kind (behind-stands behind_map map) ahead-kind (omega (arith, a.kind_fits))
      (λ e. absurd (omega arith)) (λ p. w)

  kind-read : within 1 3 kind ≡ true → kind_number_fits kind desk round note ≡ true → read_kind msg (behind behind_map map) ≡ behind behind_kind kind
  unfolding read_kind map
  kind-read w f = rw (kind-number w) (require-passes _ 3 (behind behind_kind kind) (kind-has kind desk round register rows note ∙ f))

  server-read : server < c.n → read_number msg 1 1 0 (c.n - 1) (behind behind_kind kind) ≡ behind behind_server server
  unfolding behind_server stands
  server-read l =
      move msg behind_kind _ (behind behind_kind kind) 1 1 0 (c.n - 1) server (behind-stands behind_kind kind) ahead-server (omega (arith, a.server-fits))
      (λ e. absurd (omega arith)) (λ p. in-range 0 (c.n - 1) server (omega arith) (omega arith))

  desk-read : read_number msg (bit map 2) 2 1 65535 (behind behind_server server) ≡ behind behind_desk desk
  unfolding behind_desk map
  desk-read =
      ap (λ s. read_number msg s 2 1 65535 (behind behind_server server)) (map-bit desk round register rows note 2 (omega arith))
      ∙ move msg behind_server _ (behind behind_server server) desk 2 1 65535 desk (behind-stands behind_server server) ahead-desk (omega (arith, a.desk-fits))
      (λ e. e) (λ p. in-range 1 65535 desk p a.desk-fits)

  round-read : read_number msg (bit map 3) 4 1 4294967295 (behind behind_desk desk) ≡ behind (head map kind server desk round) round
  unfolding head behind_desk behind_server behind_kind behind_map map
  round-read =
      ap (λ s. read_number msg s 4 1 4294967295 (behind behind_desk desk)) (map-bit desk round register rows note 3 (omega arith))
      ∙ move msg behind_desk _ (behind behind_desk desk) round 4 1 4294967295 round (behind-stands behind_desk desk) ahead-round
      (omega (arith, a.round-fits)) (λ e. e) (λ p. in-range 1 4294967295 round p a.round-fits)

  -- the head is found
  pub head-found : within 1 3 kind ≡ true → kind_number_fits kind desk round note ≡ true → server < c.n
      → head_of c msg
      ≡ record {
        map = field_map desk round register rows note;
        kind = kind;
        server = server;
        desk = desk;
        round = round;
        cursor = behind (head (field_map desk round register rows note) kind server desk round) round;
      }
  unfolding head_of map
  head-found w f l = rw (map_read_lem, kind-read w f, server-read l, desk-read, round-read) refl

  -- a kind that there isn't
  pub kind-refused : within 1 3 kind ≡ false → Stuck (head_of c msg).cursor 3
  unfolding head_of read_kind stands
  kind-refused w =
      read_number-stuck msg _ _ _ _ _ 3
      (read_number-stuck msg _ _ _ _ _ 3
      (read_number-stuck msg _ _ _ _ _ 3
      (require-stuck _ 3 _ 3
      (stuck_at (ap (read_number msg 1 1 1 3) map_read_lem)
      (refuse msg behind_map _ (behind behind_map map) 1 1 1 3 kind (behind-stands behind_map map) ahead-kind (omega (arith, a.kind_fits)) (omega arith) w)))))

  -- fields that the kind lacks or may not have
  pub fields-refused : within 1 3 kind ≡ true → kind_number_fits kind desk round note ≡ false → Stuck (head_of c msg).cursor 2
  unfolding head_of read_kind map
  fields-refused w f =
      read_number-stuck msg _ _ _ _ _ 2
      (read_number-stuck msg _ _ _ _ _ 2
      (read_number-stuck msg _ _ _ _ _ 2
      (rw (map_read_lem, kind-number w)
      (require-refuses _ 2 (behind behind_kind kind) refl (kind-has kind desk round register rows note ∙ f)))))

  -- a server that there isn't
  pub server-refused : 1 ≤ c.n → within 1 3 kind ≡ true → kind_number_fits kind desk round note ≡ true → c.n ≤ server → Stuck (head_of c msg).cursor 3
  unfolding head_of stands
  server-refused n w f l =
      read_number-stuck msg _ _ _ _ _ 3
      (read_number-stuck msg _ _ _ _ _ 3
      (rw (map_read_lem, kind-read w f)
      (refuse msg behind_kind _ (behind behind_kind kind) 1 1 0 (c.n - 1) server (behind-stands behind_kind kind) ahead-server (omega (arith, a.server-fits))
      (omega arith) (above-range 0 (c.n - 1) server (omega arith)))))
