-- Reading what was written, whether the reader takes it or not: its number is `fault_of`.
use Prim.Native.Nat.{ℕ, ◌<◌}
use native.Mathlib.Omega.{arith}
use mathlib.Core.Path.{◌≡◌, refl, sym, ap, ◌∙◌}
use mathlib.Core.Logic.{⊎_elim}
use mathlib.Core.Bool.{Bool, true, false, cond, false≢true}
use mathlib.Core.List.{List, [], ◌∷◌, ◌++◌, append_assoc, append-nil}
use borrow.Author.Tests.{ltb-true, ltb-false, eq-eqb}
use lib.Dec.{ltb}
use lib.ListN.{length, get_or}
use Rattle.config.specs.Cluster.{lawful_of, cluster_fault}
use Rattle.config.specs.declared.cluster.Config.{Config}
use Rattle.config.specs.Refusals.{granted}
use Rattle.config.proofs.Clusters.{lawful-bounds}
use Rattle.ledger.specs.declared.ledger.Ledger.{Ledger}
use Rattle.ledger.specs.Ledgers.{count_of, cell_of}
use Rattle.ledger.specs.Checks.{bounded, above_floor}
use Rattle.format.specs.Bytes.{stands, bit}
use Rattle.format.specs.Table.{register_mark, register, row_map, sheet, field_map, field_map_of, head, note, encode_fields}
use Rattle.replica.specs.declared.replica.Replica.{Replica}
use Rattle.replica.specs.Values.{value_of}
use Rattle.replica.specs.Registers.{register_fits}
use Rattle.replica.specs.Replicas.{Typed as TypedReplica}
use Rattle.replica.proofs.Values.{trimmed-is, fits-short}
use Rattle.replica.proofs.Registers.{fits-value}
use Rattle.message.specs.declared.envelope.Envelope.{Envelope}
use Rattle.message.specs.Answers.{Received}
use Rattle.message.specs.Cursors.{Cursor}
use Rattle.message.specs.Scans.{HeadRead}
use Rattle.message.specs.Scans.{RegisterRead}
use Rattle.message.specs.Scans.{SheetRead}
use Rattle.message.specs.Envelopes.{carried, message_of, trimmed_replica, Typed}
use Rattle.message.specs.Cursors.{within, read_number}
use Rattle.message.specs.Scans.{head_of, register_of, sheet_of, read_note, end_of, scan_of, Scan}
use Rattle.message.specs.Answers.{check, accepted_of}
use Rattle.message.specs.Faults.{kind_number_fits, test, fault_of}
use Rattle.message.proofs.Stuck.{Stuck, stuck_at, scan-stuck-head, scan-stuck-register, scan-stuck-sheet}
use Rattle.message.proofs.Moves.{in-range, Stands, behind, behind-stands, move, require-passes, require-refuses}
use Rattle.message.proofs.Heads as heads
use Rattle.message.proofs.Registers as registers
use Rattle.message.proofs.Sheets as sheets

module _ (c : Config) (e : Envelope) (p : Replica) (te : Typed e) (tp : TypedReplica p) (valid : lawful_of c ≡ true) where
  mark : ℕ
  mark = register_mark p.register.stamp p.register.desk (length (carried p))

  rows_map : ℕ
  rows_map = row_map (count_of p.ledger) (cell_of p.ledger)

  map : ℕ
  map = field_map e.desk e.round mark rows_map e.note

  head_bytes : List ℕ
  head_bytes = head map e.kind e.server e.desk e.round

  register_bytes : List ℕ
  register_bytes = register c p.register.stamp p.register.desk (carried p)

  sheet_bytes : List ℕ
  sheet_bytes = sheet (count_of p.ledger) (cell_of p.ledger)

  note_bytes : List ℕ
  note_bytes = note e.note

  shape : message_of c e p ≡ head_bytes ++ register_bytes ++ sheet_bytes ++ note_bytes
  unfolding message_of encode_fields field_map_of head_bytes register_bytes sheet_bytes note_bytes map rows_map mark
  shape = refl

  ahead-note : message_of c e p ≡ head_bytes ++ register_bytes ++ sheet_bytes ++ (note_bytes ++ [])
  ahead-note = shape ∙ ap (λ l. head_bytes ++ register_bytes ++ sheet_bytes ++ l) (sym (append-nil note_bytes))

  ahead-sheet : message_of c e p ≡ head_bytes ++ register_bytes ++ (sheet_bytes ++ note_bytes)
  ahead-sheet = shape ∙ append_assoc (head_bytes ++ register_bytes) sheet_bytes note_bytes

  ahead-register : message_of c e p ≡ head_bytes ++ (register_bytes ++ (sheet_bytes ++ note_bytes))
  ahead-register = ahead-sheet ∙ append_assoc head_bytes register_bytes (sheet_bytes ++ note_bytes)

  at_head : heads.AtHead (message_of c e p) (register_bytes ++ (sheet_bytes ++ note_bytes)) e.kind e.server e.desk e.round mark rows_map e.note
  unfolding head_bytes map
  at_head =
      record { kind_fits = te.kind_fits; server-fits = te.server-fits; desk-fits = te.desk-fits; round-fits = te.round-fits; ahead = ahead-register }

  -- the tests of the head are passed
  pub record HeadGood : Type 0 where
    pub kind-good : within 1 3 e.kind ≡ true
    pub fields-good : kind_number_fits e.kind e.desk e.round e.note ≡ true
    pub server-good : e.server < c.n

  head_cursor : Cursor
  head_cursor = behind head_bytes e.round

  head_is : HeadRead
  head_is = record { map = map; kind = e.kind; server = e.server; desk = e.desk; round = e.round; cursor = head_cursor }

  head-is : HeadGood → head_of c (message_of c e p) ≡ head_is
  unfolding head_is head_cursor head_bytes map
  head-is g = heads.head-found c _ _ _ _ _ _ _ _ _ at_head g.kind-good g.fields-good g.server-good

  bit-of : (k : ℕ) → k < 7 → bit map k ≡ stands (get_or (1 ∷ 1 ∷ e.desk ∷ e.round ∷ mark ∷ rows_map ∷ e.note ∷ []) k 0)
  unfolding map
  bit-of k l = heads.map-bit e.desk e.round mark rows_map e.note k l

  register-at : HeadGood
      → register_of c (message_of c e p) (bit (head_of c (message_of c e p)).map 4) (head_of c (message_of c e p)).cursor
      ≡ register_of c (message_of c e p) (stands mark) head_cursor
  unfolding head_is
  register-at g =
      ap (λ (x : HeadRead). register_of c (message_of c e p) (bit x.map 4) x.cursor) (head-is g)
      ∙ ap (λ s. register_of c (message_of c e p) s head_cursor) (bit-of 4 (omega arith))

  at_register : registers.AtRegister c (message_of c e p) head_bytes (sheet_bytes ++ note_bytes) head_cursor p.register.stamp p.register.desk (carried p)
  unfolding head_cursor register_bytes
  at_register =
      record {
        stamp-fits = tp.register-typed.stamp-fits;
        desk-fits = tp.register-typed.desk-fits;
        stands-there = behind-stands head_bytes e.round;
        ahead = ahead-register;
      }

  register_cursor : Cursor
  register_cursor = behind (head_bytes ++ register_bytes) 0

  value_place : ℕ
  value_place = length (registers.value_from c _ _ _ _ _ _ _ at_register)

  register_is : RegisterRead
  register_is = record { stamp = p.register.stamp; desk = p.register.desk; from = value_place; length = length (carried p); cursor = register_cursor }

  register-is : HeadGood → register_fits c p.register ≡ true
      → register_of c (message_of c e p) (bit (head_of c (message_of c e p)).map 4) (head_of c (message_of c e p)).cursor ≡ register_is
  unfolding register_is register_cursor register_bytes mark value_place
  register-is g r = register-at g ∙ registers.register-found c _ _ _ _ _ _ _ at_register (registers.fits-good c p.register r)

  at-sheet : sheets.AtSheet c (message_of c e p) (head_bytes ++ register_bytes) note_bytes register_cursor p.ledger
  unfolding register_cursor sheet_bytes
  at-sheet =
      record {
        small = (lawful-bounds c valid).most;
        typed = tp.ledger-typed;
        stands-there = behind-stands (head_bytes ++ register_bytes) 0;
        ahead = ahead-sheet;
      }

  -- the reader before the sheet
  sheet_is : SheetRead
  sheet_is = sheet_of c (message_of c e p) (stands rows_map) register_cursor

  sheet-is : HeadGood → register_fits c p.register ≡ true
      → sheet_of c (message_of c e p) (bit (head_of c (message_of c e p)).map 5) (register_of c (message_of c e p) (bit (head_of c (message_of c e p)).map 4) (head_of c (message_of c e p)).cursor).cursor
      ≡ sheet_is
  unfolding sheet_is register_is head_is
  sheet-is g r =
      ap (λ (x : RegisterRead). sheet_of c (message_of c e p) (bit (head_of c (message_of c e p)).map 5) x.cursor) (register-is g r)
      ∙ ap (λ (x : HeadRead). sheet_of c (message_of c e p) (bit x.map 5) register_cursor) (head-is g)
      ∙ ap (λ s. sheet_of c (message_of c e p) s register_cursor) (bit-of 5 (omega arith))

  ledger-is : bounded c p.ledger ≡ true → sheet_is.ledger ≡ p.ledger
  unfolding sheet_is rows_map
  ledger-is b = (sheets.sheet-found c _ _ _ _ p.ledger at-sheet b).0

  sheet-end : bounded c p.ledger ≡ true → Stands sheet_is.cursor (head_bytes ++ register_bytes ++ sheet_bytes)
  unfolding sheet_is rows_map sheet_bytes
  sheet-end b = (sheets.sheet-found c _ _ _ _ p.ledger at-sheet b).1

  note_is : Cursor
  note_is = behind (message_of c e p) e.note

  note-is : bounded c p.ledger ≡ true → read_note (message_of c e p) (bit map 6) sheet_is.cursor ≡ note_is
  unfolding read_note note_is note_bytes note
  note-is b =
      ap (λ s. read_number (message_of c e p) s 4 1 4294967295 sheet_is.cursor) (bit-of 6 (omega arith))
      ∙ move (message_of c e p) _ [] sheet_is.cursor e.note 4 1 4294967295 e.note (sheet-end b) ahead-note (omega (arith, te.note-fits)) (λ e. e)
      (λ p. in-range 1 4294967295 e.note p te.note-fits)
      ∙ ap (λ l. behind l e.note) (sym shape)

  -- ---- the end

  scan_from : HeadRead → RegisterRead → SheetRead → Cursor → Scan
  scan_from x r s n =
      record {
        number = (end_of c (message_of c e p) s.ledger n).number;
        envelope = record { kind = x.kind; server = x.server; desk = x.desk; round = x.round; note = n.x };
        register = r;
        ledger = s.ledger;
      }

  scan-from : (x : HeadRead) (r : RegisterRead) (s : SheetRead) (n : Cursor) → head_of c (message_of c e p) ≡ x
      → register_of c (message_of c e p) (bit (head_of c (message_of c e p)).map 4) (head_of c (message_of c e p)).cursor ≡ r
      → sheet_of c (message_of c e p) (bit (head_of c (message_of c e p)).map 5) (register_of c (message_of c e p) (bit (head_of c (message_of c e p)).map 4) (head_of c (message_of c e p)).cursor).cursor ≡ s
      → read_note (message_of c e p) (bit x.map 6) s.cursor ≡ n
      → scan_of c (message_of c e p) ≡ scan_from x r s n
  unfolding scan_of scan_from
  scan-from x r s n a b d e = rw (d, b, a, e) refl

  -- what is found where the tests are passed up to the weights
  scan_is : Scan
  scan_is =
      record {
        number = (end_of c (message_of c e p) p.ledger note_is).number;
        envelope = e;
        register = register_is;
        ledger = p.ledger;
      }

  scan-is : HeadGood → register_fits c p.register ≡ true → bounded c p.ledger ≡ true → scan_of c (message_of c e p) ≡ scan_is
  unfolding scan_from head_is note_is scan_is
  scan-is g r b =
      scan-from head_is register_is sheet_is note_is (head-is g) (register-is g r) (sheet-is g r) (note-is b)
      ∙ ap
      (λ (l : Ledger).
      record {
        number = (end_of c (message_of c e p) l note_is).number;
        envelope = e;
        register = register_is;
        ledger = l;
      })
      (ledger-is b)

  -- the envelope and the replica are found, but for what lies past the value's bytes
  pub message-found : HeadGood → register_fits c p.register ≡ true → bounded c p.ledger ≡ true
      → accepted_of (scan_of c (message_of c e p)) (message_of c e p) ≡ record { verdict = granted; envelope = e; replica = trimmed_replica p }
  unfolding scan_is register_is value_place
  message-found g r b =
      let value = registers.value_found c _ _ _ _ _ _ (carried p) at_register in
      let whole = trimmed-is p.register.value (fits-short p.register.value (fits-value c p.register r)) in
      ap (λ (s : Scan). accepted_of s (message_of c e p)) (scan-is g r b)
      ∙ ap {B = Received}
      (λ v.
      record {
        verdict = granted;
        envelope = e;
        replica = record { ledger = p.ledger; register = record { stamp = p.register.stamp; desk = p.register.desk; value = v } };
      })
      (ap value_of value ∙ sym whole)

  end-passes : above_floor c p.ledger ≡ true → (end_of c (message_of c e p) p.ledger note_is).number ≡ 0
  unfolding end_of note_is
  end-passes f = rw (require-passes _ 2 note_is (eq-eqb (length (message_of c e p)) (length (message_of c e p)) refl), require-passes _ 5 note_is f) refl

  end-refuses : above_floor c p.ledger ≡ false → (end_of c (message_of c e p) p.ledger note_is).number ≡ 5
  unfolding end_of note_is
  end-refuses f = rw (require-passes _ 2 note_is (eq-eqb (length (message_of c e p)) (length (message_of c e p)) refl)) (require-refuses _ 4 note_is refl f).has

  -- ---- the number of every envelope and replica

  kind_test : Bool
  kind_test = within 1 3 e.kind

  fields_test : Bool
  fields_test = kind_number_fits e.kind e.desk e.round e.note

  server_test : Bool
  server_test = ltb e.server c.n

  register_test : Bool
  register_test = register_fits c p.register

  bounds_test : Bool
  bounds_test = bounded c p.ledger

  floor_test : Bool
  floor_test = above_floor c p.ledger

  sheet-refused : HeadGood → register_fits c p.register ≡ true → bounded c p.ledger ≡ false
      → (scan_of c (message_of c e p)).number ≡ 4
  unfolding sheet_is rows_map
  sheet-refused g r b =
      ⊎_elim (λ (t : bounded c p.ledger ≡ true). let z : ◌≡◌ {A = ℕ} 0 1 = ap (λ x. cond x 0 1) (sym t ∙ b) in absurd (omega arith))
      (λ (s : Stuck (sheet_of c (message_of c e p) (stands (row_map (count_of p.ledger) (cell_of p.ledger))) register_cursor).cursor 3).
      scan-stuck-sheet c _ 3 (stuck_at (ap (λ (x : SheetRead). x.cursor) (sheet-is g r)) s))
      (sheets.sheet-decides c _ _ _ _ p.ledger at-sheet)

  register-refused : HeadGood → register_fits c p.register ≡ false → (scan_of c (message_of c e p)).number ≡ 4
  unfolding mark
  register-refused g r =
      scan-stuck-register c _ 3
      (stuck_at (ap (λ (x : RegisterRead). x.cursor) (register-at g)) (registers.register-refused c _ _ _ _ _ _ _ at_register (λ g. false≢true (sym r ∙ registers.good-fits c p.register tp.register-typed g))))

  number_is : (scan_of c (message_of c e p)).number
      ≡ test kind_test 4 (test fields_test 3 (test server_test 4 (test register_test 4 (test bounds_test 4 (test floor_test 5 0)))))
  unfolding kind_test fields_test server_test register_test bounds_test floor_test scan_is
  number_is = by_kind kind_test refl
    where
      by-floor : HeadGood → register_test ≡ true → bounds_test ≡ true → (f : Bool) → floor_test ≡ f → (scan_of c (message_of c e p)).number ≡ test f 5 0
      by-floor g r b true f = ap (λ (s : Scan). s.number) (scan-is g r b) ∙ end-passes f
      by-floor g r b false f = ap (λ (s : Scan). s.number) (scan-is g r b) ∙ end-refuses f

      by-bounds : HeadGood → register_test ≡ true → (b : Bool) → bounds_test ≡ b → (scan_of c (message_of c e p)).number ≡ test b 4 (test floor_test 5 0)
      by-bounds g r true b = by-floor g r b floor_test refl
      by-bounds g r false b = sheet-refused g r b

      by_register : HeadGood → (r : Bool) → register_test ≡ r → (scan_of c (message_of c e p)).number ≡ test r 4 (test bounds_test 4 (test floor_test 5 0))
      by_register g true r = by-bounds g r bounds_test refl
      by_register g false r = register-refused g r

      by-server : kind_test ≡ true → fields_test ≡ true → (s : Bool) → server_test ≡ s
          → (scan_of c (message_of c e p)).number ≡ test s 4 (test register_test 4 (test bounds_test 4 (test floor_test 5 0)))
      by-server w k true s = by_register (record { kind-good = w; fields-good = k; server-good = ltb-true _ _ s }) register_test refl
      by-server w k false s =
          scan-stuck-head c _ 3 (heads.server-refused c _ _ _ _ _ _ _ _ _ at_head (lawful-bounds c valid).some w k (ltb-false _ _ s))

      by-fields : kind_test ≡ true → (k : Bool) → fields_test ≡ k
          → (scan_of c (message_of c e p)).number ≡ test k 3 (test server_test 4 (test register_test 4 (test bounds_test 4 (test floor_test 5 0))))
      by-fields w true k = by-server w k server_test refl
      by-fields w false k = scan-stuck-head c _ 2 (heads.fields-refused c _ _ _ _ _ _ _ _ _ at_head w k)

      by_kind : (w : Bool) → kind_test ≡ w
          → (scan_of c (message_of c e p)).number
          ≡ test w 4 (test fields_test 3 (test server_test 4 (test register_test 4 (test bounds_test 4 (test floor_test 5 0)))))
      by_kind true w = by-fields w fields_test refl
      by_kind false w = scan-stuck-head c _ 3 (heads.kind-refused c _ _ _ _ _ _ _ _ _ at_head w)

-- the writer's number is the reader's
pub fault-is-check : (c : Config) (e : Envelope) (p : Replica) → Typed e → TypedReplica p → check c (message_of c e p) ≡ fault_of c e p
unfolding check fault_of kind_test fields_test server_test register_test bounds_test floor_test
fault-is-check c e p te tp = by-valid (lawful_of c) refl
  where
    by-valid : (b : Bool) → lawful_of c ≡ b
        → cond b (scan_of c (message_of c e p)).number (cluster_fault c)
        ≡ test b (cluster_fault c)
        (test (within 1 3 e.kind) 4
        (test (kind_number_fits e.kind e.desk e.round e.note) 3
        (test (ltb e.server c.n) 4
        (test (register_fits c p.register) 4 (test (bounded c p.ledger) 4 (test (above_floor c p.ledger) 5 0))))))
    by-valid true v = number_is c e p te tp v
    by-valid false v = refl
