-- The sheet and the register of a message without a fault are such as a party may hold: within the paper's ranges, and not light. The scan tests this
-- itself, so it holds whether or not the numbers of the message are bytes.
use Prim.Native.Nat.{ℕ, suc, ◌-◌, ◌^◌, ◌<◌, ◌≤◌}
use native.Mathlib.Omega.{arith}
use mathlib.Core.Path.{◌≡◌, ap, ap₂, ◌∙◌}
use mathlib.Core.Logic.{inl, inr, ⊎_elim}
use mathlib.Core.Bool.{true}
use mathlib.Core.List.{List}
use borrow.Author.Tests.{eqb-true, le-leb}
use lib.ListN.{length, drop, length-take}
use lib.Pow.{pow_pos}
use Rattle.quorums.proofs.Sums.{sum_same}
use Rattle.quorums.proofs.Tests.{le-or-lt}
use Rattle.config.specs.declared.cluster.Config.{Config}
use Rattle.ledger.specs.Checks.{total_fits, bounded, above_floor}
use Rattle.ledger.proofs.Totals.{Placed}
use Rattle.format.specs.Bytes.{bit}
use Rattle.format.proofs.Marks.{bit-above, bit-none}
use Rattle.replica.specs.Registers.{is_start, register_fits}
use Rattle.replica.proofs.Values.{value-length, value-fits}
use Rattle.replica.proofs.Registers.{start-shown, start-passes, Tagged, tagged-fits}
use Rattle.message.specs.Answers.{Received}
use Rattle.message.specs.Cursors.{Cursor}
use Rattle.message.specs.Scans.{RegisterRead}
use Rattle.message.specs.Cursors.{read_number}
use Rattle.message.specs.Scans.{cells_after, cell_read, read_count, cell_map_of, row_cells, row_of, rows_after, count_read, cell_of_row, ledger_read, register_of, sheet_of, end_of, scan_of}
use Rattle.message.specs.Answers.{check, value_part, kept_of, replica_of, receive_of}
use Rattle.message.proofs.Sticky.{read_number-open, require-open, skip-open, cells_open, rows-sooner, sheet-open, note-open, end-open}
use Rattle.message.proofs.Parts.{part-short}
use Rattle.message.proofs.Backs.{number-absent, number-most, number-least, require-got}
use Rattle.message.proofs.GoodRows.{RowGood}
use Rattle.message.proofs.Sheets.{rows-good}
use Rattle.message.proofs.SheetBacks.{ledger-same}
use Rattle.message.proofs.Rounds.{check-told, received}

-- ---- a row

-- a number that doesn't stand is 0
unread : (msg : List ℕ) (s w low high : ℕ) (c : Cursor) → s ≡ 0 → (read_number msg s w low high c).x ≡ 0
unread msg s w low high c e = rw e (ap (λ (d : Cursor). d.x) (number-absent msg w low high c))

-- a number below 2 ^ n has its bits below n
bit_below : (m n k : ℕ) → m < 2 ^ n → 0 < bit m k → k < n
bit_below m n k small h = ⊎_elim (λ (z : n ≤ k). absurd (omega (arith, bit-above m n k small z))) (λ (p : k < n). p) (le-or-lt n k)

-- the takers that the cell map m of giver i names, where m stands if s isn't 0
map-placed : (n i s m j : ℕ) → m < 2 ^ n → bit m i ≡ 0 → (s ≡ 0 → m ≡ 0) → (0 < s → i < n) → 0 < bit m j → Placed n i j
map-placed n i s m j small own absent giver h = record {
  giver = ⊎_elim (λ (z : s ≤ 0). absurd (omega (arith, ap (λ x. bit x j) (absent (omega arith)), bit-none j))) (λ (p : 0 < s). giver p) (le-or-lt s 0);
  taker = bit_below m n j small h;
  apart = λ e. let same : bit m i ≡ bit m j = ap (bit m) e in omega (arith, same);
}

-- a row without a fault
row-good : (c : Config) (msg : List ℕ) (i s : ℕ) (from : Cursor) → (0 < s → i < c.n) → (row_of c msg i s from).cursor.number ≡ 0
    → RowGood c.n i (row_of c msg i s from).count (row_cells c msg i s from)
unfolding row_of row_cells cell_map_of cell_read cells_after
row-good c msg i s from giver e =
    let own = require-got _ 3 _ (cells_open msg _ _ 16 (require-open _ 4 _ e)) in
    let read = read_number msg s 2 1 (2 ^ c.n - 1) (read_count msg s from) in
    let map = (cell_map_of c msg i s (read_count msg s from)).x in
    let same : map ≡ read.x = ap (λ (d : Cursor). d.x) own.1 in
    record {
      fits = (require-got _ 3 _ e).0;
      placed = λ j l.
          ⊎_elim (λ (z : bit map j ≤ 0). inl (unread msg (bit map j) _ _ _ _ (omega arith)))
          (λ (p : 0 < bit map j).
          inr (map-placed c.n i s map j (omega (arith, same, number-most msg s 2 1 (2 ^ c.n - 1) (read_count msg s from), pow_pos c.n))
          (ap (λ x. bit x i) same ∙ eqb-true _ _ own.0) (λ z. same ∙ unread msg s _ _ _ _ z) giver p))
          (le-or-lt (bit map j) 0);
    }

-- ---- the sheet

-- of the same numbers
same_good : (n i m k : ℕ) (f g : ℕ → ℕ) → m ≡ k → ((j : ℕ) → j < 16 → f j ≡ g j) → RowGood n i k g → RowGood n i m f
same_good n i m k f g e h r = record { fits = ap₂ total_fits e (sum_same 16 f g h) ∙ r.fits; placed = λ j l. rw (h j l) (r.placed j l) }

-- all rows without a fault, where m is the row map
rows-bounded : (c : Config) (msg : List ℕ) (m : ℕ) (from : Cursor) → m < 2 ^ c.n → (rows_after c msg m from 16).number ≡ 0
    → bounded c (ledger_read c msg m from) ≡ true
unfolding count_read cell_of_row rows_after
rows-bounded c msg m from small e =
    let found = ledger-same c msg m from in
    rows-good c (ledger_read c msg m from)
    (λ i h. same_good c.n i _ _ _ _ (found.same-counts i h) (found.same-cells i h)
    (row-good c msg i (bit m i) (rows_after c msg m from i) (bit_below m c.n i small) (rows-sooner c msg m from (suc i) 16 h e)))

sheet-bounded : (c : Config) (msg : List ℕ) (s : ℕ) (from : Cursor) → (sheet_of c msg s from).cursor.number ≡ 0
    → bounded c (sheet_of c msg s from).ledger ≡ true
unfolding sheet_of
sheet-bounded c msg s from e = rows-bounded c msg _ _ (omega (arith, number-most msg s 2 1 (2 ^ c.n - 1) from, pow_pos c.n)) e

-- ---- the register

module _ (c : Config) (msg : List ℕ) (s : ℕ) (from : Cursor) (e : (register_of c msg s from).cursor.number ≡ 0) where
  read : RegisterRead
  read = register_of c msg s from

  short : length (value_part msg read) ≤ 64
  unfolding read
  short = part-short c msg s from

  none : s ≡ 0 → read.length ≡ 0
  unfolding read register_of
  none z = unread msg s _ _ _ _ z

  absent : s ≡ 0 → is_start (kept_of msg read) ≡ true
  unfolding read register_of
  absent z =
      let empty : length (value_part msg read) ≡ 0 = omega (arith, none z, length-take read.length (drop read.from msg)) in
      start-shown (kept_of msg read) (unread msg s _ _ _ _ z) (unread msg s _ _ _ _ z) (value-length (value_part msg read) short ∙ empty)

  present : 0 < s → Tagged c (kept_of msg read)
  unfolding read register_of
  present p =
      let length-open = skip-open msg _ _ e in
      let desk-open = read_number-open msg s _ _ _ _ length-open in
      record {
        stamp-stands = number-least msg s _ _ _ _ p (read_number-open msg s _ _ _ _ desk-open);
        stamp-most = number-most msg s _ _ _ _;
        desk-stands = number-least msg s _ _ _ _ p desk-open;
        value-fits = value-fits (value_part msg read) ∙ le-leb (length (value_part msg read)) 64 short;
      }

  register-passes : register_fits c (kept_of msg (register_of c msg s from)) ≡ true
  unfolding read
  register-passes =
      ⊎_elim (λ (z : s ≤ 0). start-passes c (kept_of msg read) (absent (omega arith))) (λ (p : 0 < s). tagged-fits c (kept_of msg read) (present p)) (le-or-lt s 0)

-- ---- a message without a fault

scan-register : (c : Config) (msg : List ℕ) → (scan_of c msg).number ≡ 0 → register_fits c (replica_of (scan_of c msg) msg).register ≡ true
unfolding scan_of
scan-register c msg e = register-passes c msg _ _ (sheet-open c msg _ _ (note-open msg _ _ (end-open c msg _ _ e)))

scan-bounded : (c : Config) (msg : List ℕ) → (scan_of c msg).number ≡ 0 → bounded c (scan_of c msg).ledger ≡ true
unfolding scan_of
scan-bounded c msg e = sheet-bounded c msg _ _ (note-open msg _ _ (end-open c msg _ _ e))

scan-above : (c : Config) (msg : List ℕ) → (scan_of c msg).number ≡ 0 → above_floor c (scan_of c msg).ledger ≡ true
unfolding scan_of end_of
scan-above c msg e = (require-got _ 4 _ e).0

-- every count and cell is within the paper's ranges
pub passed-bounded : (c : Config) (msg : List ℕ) → check c msg ≡ 0 → bounded c (receive_of c msg).replica.ledger ≡ true
passed-bounded c msg e = ap (λ (x : Received). bounded c x.replica.ledger) (received c msg e) ∙ scan-bounded c msg (check-told c msg e).1

-- every weight is above the floor
pub passed-above : (c : Config) (msg : List ℕ) → check c msg ≡ 0 → above_floor c (receive_of c msg).replica.ledger ≡ true
passed-above c msg e = ap (λ (x : Received). above_floor c x.replica.ledger) (received c msg e) ∙ scan-above c msg (check-told c msg e).1

-- and the register passes the one test of a register
pub passed-register : (c : Config) (msg : List ℕ) → check c msg ≡ 0 → register_fits c (receive_of c msg).replica.register ≡ true
passed-register c msg e = ap (λ (x : Received). register_fits c x.replica.register) (received c msg e) ∙ scan-register c msg (check-told c msg e).1
