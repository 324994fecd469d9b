-- Writing undoes reading: the bytes of what was found in a message that the reader takes are that message.
use Prim.Native.Nat.{ℕ, zero, suc, ◌+◌, ◌%◌, ◌<◌, ◌≤◌}
use native.Mathlib.Omega.{arith}
use mathlib.Core.Path.{◌≡◌, refl, sym, ap, ap₂, ◌∙◌}
use mathlib.Core.Logic.{⊎_elim}
use mathlib.Core.Bool.{Bool, true, false, cond}
use mathlib.Core.List.{List, [], ◌∷◌, ◌++◌}
use borrow.Author.Tests.{eqb-true, eq-eqb, ltb-true}
use lib.Dec.{eqb, ltb}
use lib.ListN.{length, get_or, take, drop, length-take, get_or-eq_default}
use lib.Seq.{take-length, get_or-take, get_or-drop}
use Rattle.quorums.proofs.Tests.{both, le-or-lt}
use Rattle.config.specs.Cluster.{lawful_of, cluster_fault}
use Rattle.config.specs.declared.cluster.Config.{Config}
use Rattle.config.proofs.Clusters.{lawful-bounds, fault-some}
use Rattle.ledger.specs.declared.ledger.Ledger.{Ledger}
use Rattle.ledger.specs.Ledgers.{count_of, cell_of}
use Rattle.format.specs.Bytes.{stands, bit}
use Rattle.format.specs.Table.{register_mark, register, row_map, sheet, field_map, field_map_of, head, note, encode_fields}
use Rattle.format.proofs.Marks.{stands-bit, bit_le, marks-bit, marks-stand}
use Rattle.replica.specs.declared.replica.Replica.{Replica}
use Rattle.replica.specs.Replicas.{Typed as TypedReplica}
use Rattle.replica.proofs.Values.{bytes-of-value, value-typed}
use Rattle.message.specs.declared.envelope.Envelope.{Envelope}
use Rattle.message.specs.Answers.{Received}
use Rattle.message.specs.Cursors.{Cursor}
use Rattle.message.specs.Envelopes.{carried, fields_with, message_of, Bytes, Typed}
use Rattle.message.specs.Scans.{map_lawful, head_of, register_of, sheet_of, read_note, end_of, scan_of}
use Rattle.message.specs.Answers.{check, value_part, kept_of, replica_of, accepted_of, receive_of}
use Rattle.message.proofs.Sticky.{require-open, register-open, sheet-open, note-open, end-open}
use Rattle.message.proofs.Backs.{Passed, Got, number-got, got-mark, own-mark, require-got}
use Rattle.message.proofs.FieldBacks.{HeadBack, head-back, RegisterBack, register-back}
use Rattle.message.proofs.SheetBacks.{SheetBack, sheet-back, ledger-typed}
use Rattle.message.proofs.Parts.{part-short}

-- a lawful map is that of fields that stand where its bits do
lawful-small : (m : ℕ) → map_lawful m ≡ true → m < 128
unfolding map_lawful
lawful-small m e = ltb-true _ _ (both (ltb m 128) _ e).0

lawful-ends : (m : ℕ) → map_lawful m ≡ true → (bit m 0 ≡ 1) × (bit m 1 ≡ 1)
unfolding map_lawful bit
lawful-ends m e = let l : m % 4 ≡ 3 = eqb-true _ _ (both (ltb m 128) _ e).1 in (omega (arith, l), omega (arith, l))

one-stands : stands 1 ≡ 1
unfolding stands
one-stands = refl

map_back : (m desk round register rows note : ℕ) → map_lawful m ≡ true → stands desk ≡ bit m 2 → stands round ≡ bit m 3 → stands register ≡ bit m 4
    → stands rows ≡ bit m 5
    → stands note ≡ bit m 6
    → field_map desk round register rows note ≡ m
unfolding field_map
map_back m desk round register rows note l d r g s n =
    marks-stand 7 _ (bit m) (λ k h. marked k h ∙ sym (stands-bit (bit m k) (bit_le m k))) ∙ marks-bit 7 m (lawful-small m l)
  where
    marked : (k : ℕ) → k < 7 → stands (get_or (1 ∷ 1 ∷ desk ∷ round ∷ register ∷ rows ∷ note ∷ []) k 0) ≡ bit m k
    marked zero h = one-stands ∙ sym (lawful-ends m l).0
    marked (suc zero) h = one-stands ∙ sym (lawful-ends m l).1
    marked (suc (suc zero)) h = d
    marked (suc (suc (suc zero))) h = r
    marked (suc (suc (suc (suc zero)))) h = g
    marked (suc (suc (suc (suc (suc zero))))) h = s
    marked (suc (suc (suc (suc (suc (suc zero)))))) h = n
    marked (suc (suc (suc (suc (suc (suc (suc k))))))) h = absurd (omega arith)

-- a part of a list of bytes
part_bytes : (msg : List ℕ) → Bytes msg → (w a : ℕ) → Bytes (take w (drop a msg))
part_bytes msg b w a =
    record {
      byte = λ k.
          ⊎_elim
          (λ (l : w ≤ k).
          let z : get_or (take w (drop a msg)) k 0 ≡ 0 =
          get_or-eq_default (take w (drop a msg)) 0 (omega (arith, length-take w (drop a msg))) in
          omega (arith, z))
          (λ (l : k < w). omega (arith, get_or-take w (drop a msg) k 0 l, get_or-drop a msg k 0, b.byte (a + k)))
          (le-or-lt w k);
    }

module _ (c : Config) (valid : lawful_of c ≡ true) (msg : List ℕ) (b : Bytes msg) (e : (scan_of c msg).number ≡ 0) where
  map : ℕ
  map = (head_of c msg).map

  head_end : Cursor
  head_end = (head_of c msg).cursor

  register_end : Cursor
  register_end = (register_of c msg (bit map 4) head_end).cursor

  sheet_end : Cursor
  sheet_end = (sheet_of c msg (bit map 5) register_end).cursor

  ledger : Ledger
  ledger = (sheet_of c msg (bit map 5) register_end).ledger

  note_read : Cursor
  note_read = read_note msg (bit map 6) sheet_end

  value : List ℕ
  value = value_part msg (register_of c msg (bit map 4) head_end)

  end_clean : (end_of c msg ledger note_read).number ≡ 0
  unfolding scan_of note_read ledger sheet_end register_end head_end map
  end_clean = e

  note-clean : note_read.number ≡ 0
  note-clean = end-open c msg ledger note_read end_clean

  sheet-clean : sheet_end.number ≡ 0
  unfolding note_read
  sheet-clean = note-open msg (bit map 6) sheet_end note-clean

  register-clean : register_end.number ≡ 0
  unfolding sheet_end
  register-clean = sheet-open c msg (bit map 5) register_end sheet-clean

  head-clean : head_end.number ≡ 0
  unfolding register_end
  head-clean = register-open c msg (bit map 4) head_end register-clean

  head-is : HeadBack c msg
  unfolding head_end
  head-is = head-back c msg b head-clean

  head_bytes : List ℕ
  head_bytes = head map (head_of c msg).kind (head_of c msg).server (head_of c msg).desk (head_of c msg).round

  head_passed : Passed msg head_end head_bytes
  unfolding head_end head_bytes map
  head_passed = head-is.head_passed

  register-is : RegisterBack c msg (bit map 4) head_end head_bytes value
  unfolding value register_end
  register-is = register-back c msg b (bit map 4) (bit_le map 4) head_end head_bytes head_passed register-clean

  register_bytes : List ℕ
  register_bytes = register c (register_of c msg (bit map 4) head_end).stamp (register_of c msg (bit map 4) head_end).desk value

  register-passed : Passed msg register_end (head_bytes ++ register_bytes)
  unfolding register_end register_bytes
  register-passed = register-is.register-passed

  sheet-is : SheetBack c msg (bit map 5) register_end (head_bytes ++ register_bytes) ledger
  unfolding ledger sheet_end
  sheet-is = sheet-back c (lawful-bounds c valid).most msg b (bit map 5) (bit_le map 5) register_end (head_bytes ++ register_bytes) register-passed sheet-clean

  sheet_bytes : List ℕ
  sheet_bytes = sheet (count_of ledger) (cell_of ledger)

  sheet-passed : Passed msg sheet_end (head_bytes ++ register_bytes ++ sheet_bytes)
  unfolding sheet_end sheet_bytes
  sheet-passed = sheet-is.sheet-passed

  note-got : Got msg (bit map 6) 4 1 4294967295 note_read (head_bytes ++ register_bytes ++ sheet_bytes)
  unfolding note_read read_note
  note-got = number-got msg b (bit map 6) 4 1 4294967295 sheet_end (head_bytes ++ register_bytes ++ sheet_bytes) sheet-passed note-clean

  note-mark : stands note_read.x ≡ bit map 6
  note-mark = got-mark msg (bit map 6) 4 4294967295 note_read _ (bit_le map 6) note-got

  -- the whole message was read
  all_read : note_read.at ≡ length msg
  unfolding end_of
  all_read = eqb-true _ _ (require-got (eqb note_read.at (length msg)) 1 note_read (require-open _ 5 _ end_clean)).0

  msg-is : msg ≡ head_bytes ++ register_bytes ++ sheet_bytes ++ note note_read.x
  unfolding note
  msg-is =
      sym (take-length msg)
      ∙ ap (λ n. take n msg) (sym all_read)
      ∙ note-got.passed.taken
      ∙ ap (λ l. head_bytes ++ register_bytes ++ sheet_bytes ++ l) (own-mark (bit map 6) 4 note_read.x (bit_le map 6) note-mark)

  field-map : field_map (head_of c msg).desk (head_of c msg).round
      (register_mark (register_of c msg (bit map 4) head_end).stamp (register_of c msg (bit map 4) head_end).desk (length value))
      (row_map (count_of ledger) (cell_of ledger)) note_read.x
      ≡ map
  unfolding map
  field-map =
      map_back (head_of c msg).map _ _ _ _ _ head-is.map-lawful head-is.desk-mark head-is.round-mark register-is.register-mark
      sheet-is.sheet-mark note-mark

  short : length value ≤ 64
  unfolding value
  short = part-short c msg (bit map 4) head_end

  envelope : Envelope
  envelope =
      record {
        kind = (head_of c msg).kind;
        server = (head_of c msg).server;
        desk = (head_of c msg).desk;
        round = (head_of c msg).round;
        note = note_read.x;
      }

  replica : Replica
  replica =
      record {
        ledger = ledger;
        register = kept_of msg (register_of c msg (bit map 4) head_end);
      }

  envelope-is : (scan_of c msg).envelope ≡ envelope
  unfolding scan_of envelope note_read sheet_end register_end head_end map
  envelope-is = refl

  replica-is : replica_of (scan_of c msg) msg ≡ replica
  unfolding scan_of replica value ledger register_end head_end map
  replica-is = refl

  carried-is : carried replica ≡ value
  unfolding replica value
  carried-is = bytes-of-value value short

  found-bytes : encode_fields c (fields_with envelope replica value) ≡ msg
  unfolding encode_fields field_map_of envelope replica head_bytes register_bytes sheet_bytes
  found-bytes =
      ap
      (λ m.
      head m (head_of c msg).kind (head_of c msg).server (head_of c msg).desk (head_of c msg).round ++ register_bytes ++ sheet_bytes ++ note note_read.x)
      field-map
      ∙ sym msg-is

  bytes_back : message_of c envelope replica ≡ msg
  unfolding message_of
  bytes_back = ap (λ v. encode_fields c (fields_with envelope replica v)) carried-is ∙ found-bytes

  scan-back : message_of c (scan_of c msg).envelope (replica_of (scan_of c msg) msg) ≡ msg
  scan-back = ap₂ (message_of c) envelope-is replica-is ∙ bytes_back

  found-typed : Typed envelope × TypedReplica replica
  unfolding envelope replica ledger value
  found-typed = (
    record {
      kind_fits = omega (arith, head-is.kind_fits);
      server-fits = omega (arith, head-is.server-fits, (lawful-bounds c valid).most);
      desk-fits = head-is.desk-fits;
      round-fits = head-is.round-fits;
      note-fits = note-got.high-holds;
    },
    record {
      ledger-typed = ledger-typed c msg _ _;
      register-typed =
          record {
            stamp-fits = register-is.stamp-fits;
            desk-fits = register-is.desk-fits;
            value-typed = value-typed _
                (part_bytes msg b (register_of c msg (bit map 4) head_end).length (register_of c msg (bit map 4) head_end).from).byte;
          };
    },
  )

  scan-typed : Typed (scan_of c msg).envelope × TypedReplica (replica_of (scan_of c msg) msg)
  scan-typed = rw (envelope-is, replica-is) found-typed

-- where the reader finds no fault, the cluster is lawful and the scan has passed
pub check-told : (c : Config) (msg : List ℕ) → check c msg ≡ 0 → (lawful_of c ≡ true) × ((scan_of c msg).number ≡ 0)
unfolding check
check-told c msg e = by-valid (lawful_of c) refl e
  where
    by-valid : (v : Bool) → lawful_of c ≡ v → cond v (scan_of c msg).number (cluster_fault c) ≡ 0 → (lawful_of c ≡ true) × ((scan_of c msg).number ≡ 0)
    by-valid true v d = (v, d)
    by-valid false v d = absurd (omega (arith, d, (fault-some c v).0))

-- what is then received is what the scan found
pub received : (c : Config) (msg : List ℕ) → check c msg ≡ 0 → receive_of c msg ≡ accepted_of (scan_of c msg) msg
unfolding receive_of
received c msg e = simp (eq-eqb (check c msg) 0 e)

module _ (c : Config) (msg : List ℕ) (b : Bytes msg) (e : check c msg ≡ 0) where
  -- writing undoes reading
  pub message-again : message_of c (receive_of c msg).envelope (receive_of c msg).replica ≡ msg
  message-again =
      let t = check-told c msg e in
      ap (λ (x : Received). message_of c x.envelope x.replica) (received c msg e) ∙ scan-back c t.0 msg b t.1

  -- what the reader takes is an envelope and a replica that a call can have
  pub received-typed : Typed (receive_of c msg).envelope × TypedReplica (receive_of c msg).replica
  received-typed = let t = check-told c msg e in rw (received c msg e) (scan-typed c t.0 msg b t.1)
