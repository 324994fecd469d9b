-- No message that the reader takes is longer than 1,111 bytes, and one is as long.
use Prim.Native.Nat.{ℕ, zero, suc, ◌+◌, ◌/◌, ◌%◌, ◌<◌, ◌≤◌}
use native.Mathlib.Omega.{arith}
use mathlib.Core.Path.{◌≡◌, refl, sym, ap, ◌∙◌}
use mathlib.Core.Logic.{⊎_elim}
use mathlib.Core.Bool.{Bool, true, false, cond}
use mathlib.Core.List.{List}
use lib.Dec.{eqb}
use lib.ListN.{length, get_or, replicate}
use Rattle.quorums.specs.Sum.{sum, all}
use Rattle.quorums.specs.Difference.{difference}
use Rattle.quorums.specs.Accounts.{weight, above}
use Rattle.quorums.proofs.Sums.{sum-le, sum-const, below_suc}
use Rattle.config.specs.Cluster.{level, lawful_of, start_of, total_of, above_of, stamp_bytes, most_stamp, config_of, valid_of, ends_of, starts_above, kept_of, keeps}
use Rattle.config.specs.declared.cluster.Config.{Config}
use Rattle.ledger.specs.declared.ledger.Ledger.{Ledger}
use Rattle.ledger.specs.Ledgers.{count_of, cell_of, given_of, received_of}
use Rattle.ledger.specs.Weights.{weight_of}
use Rattle.ledger.specs.Checks.{may_hold, total_fits, bounded, above_floor}
use Rattle.quorums.specs.Tables.{run, table}
use Rattle.quorums.proofs.Tables.{table-length}
use Rattle.format.specs.Bytes.{bytes, number, series, marks, stands}
use Rattle.format.specs.Table.{register_mark, register, cells, row_mark, cell_map, row, row_map, rows, sheet, field_map, field_map_of, head, note, encode_fields}
use Rattle.format.proofs.Lengths.{series-length}
use Rattle.format.proofs.Sizes.{row-length, fields-length}
use Rattle.format.proofs.Marks.{stands-le, stands-none}
use Rattle.replica.specs.declared.replica.Replica.{Replica}
use Rattle.replica.specs.Values.{value_fits, bytes_of}
use Rattle.replica.specs.Registers.{is_start, register_fits}
use Rattle.replica.specs.Replicas.{Typed as TypedReplica}
use Rattle.replica.proofs.Replicas.{fits_told}
use Rattle.message.specs.declared.envelope.Envelope.{Envelope}
use Rattle.message.specs.Envelopes.{carried, fields_of, message_of, Bytes, Typed}
use Rattle.message.specs.Answers.{check, receive_of}
use Rattle.message.specs.Faults.{kind_number_fits, fault_of}
use Rattle.message.specs.Cursors.{within}
use Rattle.message.proofs.Faults.{fault-is-check}
use Rattle.message.proofs.Found.{taken-told}
use Rattle.message.proofs.Registers.{fits-good}
use Rattle.message.proofs.GoodRows.{own-empty}
use Rattle.message.proofs.Sheets.{good-rows}
use Rattle.message.proofs.SheetBacks.{table-most}
use Rattle.message.proofs.Rounds.{message-again, received-typed}

-- ---- lengths

-- n marks, one of them 0
marks-room : (n : ℕ) (f : ℕ → ℕ) (i : ℕ) → i < n → f i ≡ 0 → sum n (λ j. stands (f j)) + 1 ≤ n
unfolding sum
marks-room zero f i l e = absurd (omega arith)
marks-room (suc n) f i l e =
    ⊎_elim
    (λ (d : i ≡ n).
    let z : stands (f n) ≡ 0 = ap (λ k. stands (f k)) (sym d) ∙ ap stands e ∙ stands-none in
    omega (arith, z, sum-le n (λ j. stands (f j)) (λ j. 1) (λ j k. stands-le (f j)), sum-const n 1))
    (λ (d : i < n). omega (arith, marks-room n f i d e, stands-le (f n)))
    (below_suc l)

-- a row without an own cell
row-short : (count i : ℕ) (cell : ℕ → ℕ) → i < 16 → cell i ≡ 0 → length (row count cell) ≤ 64
row-short count i cell l e = omega (arith, row-length count cell, marks-room 16 cell i l e, stands-le (row_mark count cell))

rows_short : (c : Config) (l : Ledger) → bounded c l ≡ true → length (rows (count_of l) (cell_of l)) ≤ 1024
unfolding rows
rows_short c l b =
    omega (
      arith,
      series-length 16 (λ i. row (count_of l i) (cell_of l i)),
      sum-le 16 (λ i. length (row (count_of l i) (cell_of l i))) (λ i. 64)
          (λ i h. row-short (count_of l i) i (cell_of l i) h (own-empty c.n i (count_of l i) (cell_of l i) h (good-rows c l b i h))),
      sum-const 16 64,
    )

-- what the writer takes has at most 1,111 bytes
pub written-short : (c : Config) (e : Envelope) (r : Replica) → Typed e → TypedReplica r → check c (message_of c e r) ≡ 0 → length (message_of c e r) ≤ 1111
unfolding message_of stamp_bytes
written-short c e r te tr clean =
    let t = fits_told c r ((taken-told c e r te tr).0 clean).1 in
    let x = fields_of e r in
    omega (
      arith,
      fields-length c x,
      stands-le e.desk,
      stands-le e.round,
      stands-le (register_mark r.register.stamp r.register.desk (length (carried r))),
      stands-le (row_map (count_of r.ledger) (cell_of r.ledger)),
      stands-le e.note,
      (fits-good c r.register t.register-fits).short,
      rows_short c r.ledger t.ledger-bounded,
    )

-- and so has what the reader takes
pub longest : (c : Config) (msg : List ℕ) → Bytes msg → check c msg ≡ 0 → length msg ≤ 1111
longest c msg b e =
    let same = message-again c msg b e in
    let typed = received-typed c msg b e in
    let taken : check c (message_of c (receive_of c msg).envelope (receive_of c msg).replica) ≡ 0 = ap (check c) same ∙ e in
    omega (arith, ap length same, written-short c (receive_of c msg).envelope (receive_of c msg).replica typed.0 typed.1 taken)

-- ---- a message of 1,111 bytes: 16 servers, each of which gave 1 to each other one; a request with every field, and a value of 64 bytes

pub crowd : Config
crowd = config_of (level 16 7)

exchanged : Ledger
exchanged = record { counts = table 16 (λ i. 15); cells = table 256 (λ k. cond (eqb (k / 16) (k % 16)) 0 1) }

pub full_envelope : Envelope
full_envelope = record { kind = 1; server = 15; desk = 1; round = 1; note = 1 }

pub full_replica : Replica
full_replica =
    record { ledger = exchanged; register = record { stamp = 1; desk = 1; value = record { length = 64; bytes = replicate 64 255 } } }

full-length : length (message_of crowd full_envelope full_replica) ≡ 1111
unfolding crowd full_envelope full_replica exchanged message_of bytes_of encode_fields field_map_of field_map head register register_mark sheet rows row cells cell_map row_mark row_map note
    number series marks stands bytes sum table run stamp_bytes
full-length = refl

full-envelope : Typed full_envelope
unfolding full_envelope
full-envelope =
    record { kind_fits = omega arith; server-fits = omega arith; desk-fits = omega arith; round-fits = omega arith; note-fits = omega arith }

full-replica : TypedReplica full_replica
unfolding full_replica exchanged
full-replica =
    record {
      ledger-typed =
          record {
            counts-length = table-length 16 _;
            cells-length = table-length 256 _;
            count_fits = table-most 16 _ 65535 (λ i. omega arith);
            cell-fits = table-most 256 _ 4294967295 (λ k. small (eqb (k / 16) (k % 16)));
          };
      register-typed =
          record {
            stamp-fits = omega arith;
            desk-fits = omega arith;
            value-typed = record { bytes-length = refl; length-fits = omega arith; byte_fits = replicate-most 64 255 };
          };
    }
  where
    small : (b : Bool) → cond b 0 1 ≤ 4294967295
    small true = omega arith
    small false = omega arith

    replicate-most : (n x k : ℕ) → get_or (replicate n x) k 0 ≤ x
    replicate-most zero x k = omega arith
    replicate-most (suc n) x zero = omega arith
    replicate-most (suc n) x (suc k) = replicate-most n x k

full-taken : fault_of crowd full_envelope full_replica ≡ 0
unfolding crowd full_envelope full_replica exchanged fault_of lawful_of valid_of ends_of starts_above kept_of keeps kind_number_fits register_fits is_start value_fits most_stamp stamp_bytes within bounded above_floor all may_hold total_fits given_of sum table
    run above_of above total_of start_of weight_of weight difference received_of
full-taken = refl

-- the reader takes it
pub one-as-long : (check crowd (message_of crowd full_envelope full_replica) ≡ 0) × (length (message_of crowd full_envelope full_replica) ≡ 1111)
one-as-long = (fault-is-check crowd full_envelope full_replica full-envelope full-replica ∙ full-taken, full-length)
