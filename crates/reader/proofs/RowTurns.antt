-- The rows of a sheet: what holds after i steps, one step more, and the two ends, at a fault and where nothing is left of the map.
use Rattle.std.specs.Prelude.{Ok, Err}
use Prim.Native.Nat.{ℕ, ◌+◌, ◌-◌, ◌/◌, ◌%◌, ◌^◌, ◌≤◌, ◌<◌}
use native.Mathlib.Nat.{div-one}
use native.Mathlib.Numerals.{add-one}
use native.Mathlib.Omega.{arith}
use mathlib.Core.Path.{◌≡◌, refl, sym, ap, subst, fun_ext, ◌∙◌}
use mathlib.Core.Logic.{⊎_elim}
use mathlib.Core.List.{List}
use lib.ListN.{length, get_or, set, replicate, length-replicate}
use Rattle.quorums.specs.Sum.{sum}
use Rattle.quorums.proofs.Sums.{sum-next, sum-zero}
use Rattle.quorums.proofs.Tests.{le-or-lt}
use Rattle.quorums.specs.Tables.{table}
use Rattle.quorums.proofs.Tables.{table-length}
use Rattle.config.specs.Refusals.{refusal}
use Rattle.config.specs.declared.cluster.Config.{Config}
use Rattle.config.specs.declared.answer.Refusal.{Refusal}
use Rattle.ledger.specs.Ledgers.{received_of, given_of}
use Rattle.ledger.specs.Sums.{Sums}
use Rattle.ledger.proofs.Tallies.{Tallied, tally-none, tally-next, zeros-at, bounded, sum-most}
use Rattle.format.specs.Bytes.{bit}
use Rattle.message.specs.Cursors.{Cursor, stay, read_number}
use Rattle.message.specs.Scans.{row_of, row_cells, rows_after, count_read, cell_of_row, ledger_read, sheet_of}
use Rattle.message.proofs.Stuck.{rows-stuck, rows_none as rows_stuck-none}
use Rattle.reader.specs.Keeping.{put}
use Rattle.reader.specs.Sheets.{row_answer, no_counts, no_cells, sheet_end, sheet_ledger, sheet_counts, sheet_cells}
use Rattle.reader.specs.Steps.{at_place, read_at, place_answer}
use Rattle.reader.specs.declared.step.Read.{Read}
use Rattle.reader.proofs.Fronts.{front, front-none, front-left, front_next, front-all, front-skip}
use Rattle.reader.proofs.Outcomes.{Clean, Refused, clean-is, keeps-refused, outcome-ok, outcome-err, answer-ok, refused-answer}
use Rattle.reader.proofs.Rests.{rest-bit, rest-next, rest-inside, NoRows, rows-settle, rows-beyond, rows-fault, rows-after-fault, row-unset, count-unset, row-cells-unset}
use Rattle.reader.proofs.Weighed.{row-cursor, row-cells-are, row-count-is, row-received, row-given, cell-most, rows-received, rows-given}

-- ---- what is kept of them

module _ (c : Config) (msg : List ℕ) (m : ℕ) (from : Cursor) where
  -- the first i counts, and the first i rows
  abbrev pub counts_kept : ℕ → ℕ → ℕ
  counts_kept i = front 0 i (count_read c msg m from)

  abbrev pub rows_kept : ℕ → ℕ → ℕ → ℕ
  rows_kept i = front (λ j. 0) i (cell_of_row c msg m from)

  pub counts-none : counts_kept 0 ≡ no_counts
  counts-none = front-none 0 _

  pub rows-none : rows_kept 0 ≡ no_cells
  rows-none = front-none (λ j. 0) _

  -- neither has anything at i
  pub left-blank : (i : ℕ) → (counts_kept i i ≡ 0) × ((j : ℕ) → rows_kept i i j ≡ 0)
  left-blank i = (front-left 0 _ i, λ j. ap (λ (row : ℕ → ℕ). row j) (front-left (λ j. 0) (cell_of_row c msg m from) i))

  pub kept-whole : (i : ℕ) → NoRows c msg m from i → (counts_kept i ≡ count_read c msg m from) × (rows_kept i ≡ cell_of_row c msg m from)
  kept-whole i none = (front-all 0 _ i (λ k l. (none k l).0), front-all (λ j. 0) _ i (λ k l. fun_ext (λ j. (none k l).1 j)))

-- After i rows: the place, and what each server received and gave.
pub record RowsSoFar (c : Config) (msg : List ℕ) (m : ℕ) (from : Cursor) (received given : List ℕ) (at rest i : ℕ) : Type 0 where
  pub most : i ≤ 16
  pub left : rest ≡ m / 2 ^ i
  pub here : Clean (rows_after c msg m from i) at (rows_after c msg m from i).x
  pub within : at ≤ length msg
  pub size : length received ≡ 16
  pub takes : (k : ℕ) → k < 16 → get_or received k 0 ≡ sum i (λ r. cell_of_row c msg m from r k)
  pub gives : Tallied (λ r. sum 16 (cell_of_row c msg m from r)) (replicate 16 0) given i

pub rows_start : (c : Config) (msg : List ℕ) (m x at : ℕ) (received given : List ℕ) → at ≤ length msg → (received ≡ replicate 16 0) × (given ≡ replicate 16 0)
    → RowsSoFar c msg m (record { number = 0; at = at; x = x }) received given at m 0
unfolding rows_after sum
rows_start c msg m x at received given l e =
    record {
      most = omega arith;
      left = sym (div-one m);
      here = record { none = refl; here = refl; found = refl };
      within = l;
      size = ap length e.0 ∙ length-replicate {A = ℕ} 16 0;
      takes = zeros-at e.0;
      gives = rw e.1 (tally-none _ (replicate 16 0) (length-replicate {A = ℕ} 16 0));
    }

-- what rows add up to leaves room for a cell more
pub room : {l : List ℕ} → Sums 68719476720 l → Sums 18446744069414584320 l
room s = record { size = s.size; small = λ k. omega (arith, s.small k) }

-- nothing is added where nothing is to be added
tally-skip : (f : ℕ → ℕ) (xs ys : List ℕ) (j : ℕ) → Tallied f xs ys j → f j ≡ 0 → Tallied f xs ys (j + 1)
tally-skip f xs ys j h e =
    record {
      size = h.size;
      done = λ k l. ⊎_elim (λ (d : j ≤ k). let same : k ≡ j = omega arith in rw same (omega (arith, h.left j (omega arith), e))) (λ (d : k < j). h.done k d) (le-or-lt j k);
      left = λ k l. h.left k (omega arith);
    }

module _ {c : Config} {msg : List ℕ} {m : ℕ} {from : Cursor} {received given : List ℕ} {at rest i : ℕ} (h : RowsSoFar c msg m from received given at rest i) where
  pub rows_inside : m ≤ 65535 → (rest ≡ 0 → ⊥) → i < 16
  rows_inside l more = rest-inside m i rest l h.left more

  pub gives-small : Sums 68719476720 given
  gives-small =
      record {
        size = h.gives.size;
        small =
            bounded given 68719476720 h.gives.size
            (λ k g.
            ⊎_elim (λ (b : i ≤ k). omega (arith, h.gives.left k b, zeros-at {xs = replicate 16 0} refl k g))
            (λ (b : k < i).
            omega (arith, h.gives.done k b, zeros-at {xs = replicate 16 0} refl k g, sum-most 16 (cell_of_row c msg m from k) (λ j. cell-most c msg m from k j)))
            (le-or-lt i k));
      }

  pub stands-is : rest % 2 ≡ bit m i
  stands-is = rest-bit m i h.left

  -- ---- nothing is left of the map
  module _ (none : rest ≡ 0) where
    left-none : m / 2 ^ i ≡ 0
    left-none = sym h.left ∙ none

    pub rows_none : NoRows c msg m from i
    rows_none = rows-beyond c msg m from i left-none

    pub rows-done : Ok at ≡ place_answer (rows_after c msg m from 16)
    rows-done =
        let end = rows-settle c msg m from i h.most left-none in
        answer-ok _ _ at (end.same ∙ h.here.none) (sym h.here.here ∙ sym end.place)

    pub rows-summed : (received ≡ table 16 (received_of (ledger_read c msg m from))) × (given ≡ table 16 (given_of (ledger_read c msg m from)))
    rows-summed = (
      rows-received c msg m from i h.most rows_none received h.size h.takes,
      rows-given c msg m from i h.most rows_none (replicate 16 0) given refl h.gives,
    )

    pub kept-done : (counts_kept c msg m from i ≡ count_read c msg m from) × (rows_kept c msg m from i ≡ cell_of_row c msg m from)
    kept-done = kept-whole c msg m from i rows_none

  -- ---- a row that doesn't stand
  module _ (unset : bit m i ≡ 0) where
    pub rows-skip : i < 16 → RowsSoFar c msg m from received given at (rest / 2) (i + 1)
    rows-skip inside =
        let stays : rows_after c msg m from (i + 1) ≡ stay (rows_after c msg m from i).number (rows_after c msg m from i) = rw add-one (row-unset c msg m from i unset) in
        record {
          most = omega arith;
          left = rest-next m i h.left;
          here = record { none = ap (λ (d : Cursor). d.number) stays ∙ h.here.none; here = ap (λ (d : Cursor). d.at) stays ∙ h.here.here; found = refl };
          within = h.within;
          size = h.size;
          takes = λ k l. omega (arith, h.takes k l, row-cells-unset c msg m from i unset k, sum-next i (λ r. cell_of_row c msg m from r k));
          gives = tally-skip _ (replicate 16 0) given i h.gives (sum-zero 16 _ (λ j l. row-cells-unset c msg m from i unset j));
        }

    pub kept-skip : (counts_kept c msg m from i ≡ counts_kept c msg m from (i + 1)) × (rows_kept c msg m from i ≡ rows_kept c msg m from (i + 1))
    kept-skip = (
      front-skip 0 _ i (count-unset c msg m from i unset),
      front-skip (λ j. 0) _ i (fun_ext (λ j. row-cells-unset c msg m from i unset j)),
    )

  -- ---- a row that stands
  module _ (stands : 1 ≡ bit m i) (inside : i < 16) where
    pub rows-turn : (row : Read) (ys : List ℕ) → Ok row ≡ row_answer c msg i (at_place at) → row.at ≤ length msg
        → ys ≡ table 16 (λ j. get_or received j 0 + row_cells c msg i 1 (at_place at) j)
        → RowsSoFar c msg m from ys (set given i row.x) row.at (rest / 2) (i + 1)
    unfolding row_answer
    rows-turn row ys read within adds =
        let told = outcome-ok _ _ row read in
        let end = row-cursor c msg m from i h.here stands in
        let total : row.x ≡ sum 16 (cell_of_row c msg m from i) = ap (λ (r : Read). r.x) told.1 ∙ row-given c msg m from i h.here stands in
        record {
          most = omega arith;
          left = rest-next m i h.left;
          here =
              subst (λ (d : Cursor). Clean d row.at d.x) end
              (record { none = told.0; here = sym (ap (λ (r : Read). r.at) told.1); found = refl });
          within = within;
          size = ap length adds ∙ table-length 16 _;
          takes = row-received c msg m from i h.here stands received adds h.takes;
          gives = tally-next _ (replicate 16 0) given i _ inside h.gives (omega (arith, total, zeros-at {xs = replicate 16 0} refl i inside));
        }

    -- what was received stays small, whether or not the row has a fault
    pub takes-small : {ys : List ℕ} → ys ≡ table 16 (λ j. get_or received j 0 + row_cells c msg i 1 (at_place at) j) → Sums 68719476720 ys
    takes-small {ys} adds =
        let size : length ys ≡ 16 = ap length adds ∙ table-length 16 _ in
        record {
          size = size;
          small =
              bounded ys 68719476720 size
              (λ k g. omega (arith, row-received c msg m from i h.here stands received adds h.takes k g, sum-most (i + 1) (λ r. cell_of_row c msg m from r k) (λ r. cell-most c msg m from r k)));
        }

    -- or has a fault
    module _ (r : Refusal) (read : Err r ≡ row_answer c msg i (at_place at)) where
      fault : Refused (rows_after c msg m from (i + 1)) r
      unfolding row_answer
      fault =
          let told = outcome-err _ _ r read in
          subst (λ (d : Cursor). Refused d r) (row-cursor c msg m from i h.here stands) (record { some = told.0; is = told.1 })

      pub rows-stop : Err r ≡ place_answer (rows_after c msg m from 16)
      rows-stop =
          let end = rows-fault c msg m from (i + 1) fault.some (omega arith) in
          refused-answer (rows_after c msg m from 16) r _
          (record { some = λ z. fault.some (sym end.same ∙ z); is = fault.is ∙ ap refusal (sym end.same) })

      clean : NoRows c msg m from (i + 1)
      clean = rows-after-fault c msg m from (i + 1) fault.some

      pub kept-stop : (counts_kept c msg m from (i + 1) ≡ count_read c msg m from) × (rows_kept c msg m from (i + 1) ≡ cell_of_row c msg m from)
      kept-stop = kept-whole c msg m from (i + 1) clean

    -- what is kept of it
    pub kept-turn : (put (counts_kept c msg m from i) i (row_of c msg i 1 (at_place at)).count ≡ counts_kept c msg m from (i + 1))
        × (put (rows_kept c msg m from i) i (row_cells c msg i 1 (at_place at)) ≡ rows_kept c msg m from (i + 1))
    kept-turn = (
      front_next 0 _ i _ (row-count-is c msg m from i h.here stands),
      front_next (λ j. 0) _ i _ (fun_ext (λ j. row-cells-are c msg m from i h.here stands j)),
    )

-- ---- the sheet, by its row map

module _ (c : Config) (msg : List ℕ) (s : ℕ) (from : Cursor) where
  abbrev map_at : Cursor
  map_at = read_number msg s 2 1 (2 ^ c.n - 1) from

  -- one that is refused
  module _ (r : Refusal) (h : Refused map_at r) where
    pub sheet-refused : Err r ≡ place_answer (sheet_end c msg s from)
    unfolding sheet_of
    sheet-refused =
        refused-answer _ r _
        (keeps-refused (λ k t. rows-stuck c msg map_at.x map_at k 0 16 (omega arith) (rows_stuck-none c msg map_at.x map_at k t)) h)

    none : NoRows c msg map_at.x map_at 0
    unfolding rows_after
    none = rows-after-fault c msg map_at.x map_at 0 h.some

    pub sheet-blank : (sheet_counts c msg s from ≡ no_counts) × (sheet_cells c msg s from ≡ no_cells)
    unfolding sheet_counts sheet_cells
    sheet-blank =
        let whole = kept-whole c msg map_at.x map_at 0 none in
        (sym whole.0 ∙ counts-none c msg map_at.x map_at, sym whole.1 ∙ rows-none c msg map_at.x map_at)

  -- and one that is read
  module _ (map : Read) (h : Clean map_at map.at map.x) where
    pub sheet-ends : rows_after c msg map.x (read_at map) 16 ≡ sheet_end c msg s from
    unfolding sheet_of
    sheet-ends = ap (λ (m : Cursor). rows_after c msg m.x m 16) (sym (clean-is h))

    pub sheet-is : ledger_read c msg map.x (read_at map) ≡ sheet_ledger c msg s from
    unfolding sheet_of
    sheet-is = ap (λ (m : Cursor). ledger_read c msg m.x m) (sym (clean-is h))

    pub sheet-kept : (count_read c msg map.x (read_at map) ≡ sheet_counts c msg s from) × (cell_of_row c msg map.x (read_at map) ≡ sheet_cells c msg s from)
    unfolding sheet_counts sheet_cells
    sheet-kept = (ap (λ (m : Cursor). count_read c msg m.x m) (sym (clean-is h)), ap (λ (m : Cursor). cell_of_row c msg m.x m) (sym (clean-is h)))
