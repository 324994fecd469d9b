-- A row that stands, step by step: where a step is refused the row is, and its cells are those that were read before.
use Rattle.std.specs.Prelude.{Ok, Err}
use Prim.Native.Nat.{ℕ, ◌-◌, ◌^◌}
use mathlib.Core.Path.{◌≡◌, refl, sym, ap, ap₂, subst, fun_ext, ◌∙◌}
use mathlib.Core.Bool.{Bool, true, false}
use mathlib.Core.List.{List}
use borrow.Author.Tests.{eq-eqb, ne_eqb}
use Rattle.quorums.specs.Sum.{sum}
use Rattle.config.specs.Refusals.{refusal}
use Rattle.config.specs.declared.cluster.Config.{Config}
use Rattle.config.specs.declared.answer.Refusal.{Refusal}
use Rattle.ledger.specs.Checks.{total_fits}
use Rattle.format.specs.Bytes.{bit}
use Rattle.message.specs.Cursors.{Cursor, read_number}
use Rattle.message.specs.Scans.{cells_after, cell_read, read_count, cell_map_of, row_of, row_cells}
use Rattle.message.proofs.Stuck.{cells-stuck, row-stuck-map}
use Rattle.reader.specs.Sheets.{cells_answer, row_answer}
use Rattle.reader.specs.Steps.{at_place, read_at, read_answer}
use Rattle.reader.specs.declared.step.Read.{Read}
use Rattle.reader.proofs.Absent.{number-stays, number-clean}
use Rattle.reader.proofs.Outcomes.{Clean, Refused, clean-is, outcome-ok, outcome-err, answer-ok, refused-answer, read-clean, read-refused, next-clean, next-refused, test-clean, test-refused, keeps-refused, number-refused, require-refused}

abbrev made : ℕ → ℕ → Read
made x at = record { x = x; at = at }

-- after a fault no cell is read
cell-faulty : (msg : List ℕ) (m : ℕ) (from : Cursor) (r : Refusal) → Refused from r → (j : ℕ) → cell_read msg m from j ≡ 0
unfolding cell_read cells_after
cell-faulty msg m from r h j =
    ap (λ (c : Cursor). c.x) (number-stays msg _ _ _ _ (cells_after msg m from j) (keeps-refused (λ k s. cells-stuck msg m from k s j) h).some)

-- ---- the count

module _ (msg : List ℕ) (at : ℕ) where
  pub count-refused : (r : Refusal) → Err r ≡ read_answer (read_number msg 1 2 1 65535 (at_place at)) → Refused (read_count msg 1 (at_place at)) r
  unfolding read_count
  count-refused r e = read-refused _ r e

  pub count-clean : (count : Read) → Ok count ≡ read_answer (read_number msg 1 2 1 65535 (at_place at)) → Clean (read_count msg 1 (at_place at)) count.at count.x
  unfolding read_count
  count-clean count e = read-clean _ count e

module _ (c : Config) (msg : List ℕ) (i at : ℕ) where
  abbrev count_at : Cursor
  count_at = read_count msg 1 (at_place at)

  abbrev map_at : Cursor
  map_at = cell_map_of c msg i 1 count_at

  pub count-none : (r : Refusal) → Refused count_at r → (row_of c msg i 1 (at_place at)).count ≡ 0
  unfolding row_of read_count
  count-none r h = number-clean msg 1 2 1 65535 (at_place at) h.some

  pub count-is : {a x : ℕ} → Clean count_at a x → (row_of c msg i 1 (at_place at)).count ≡ x
  unfolding row_of
  count-is h = h.found

  -- ---- the cell map

  pub count-refuses : (r : Refusal) → Refused count_at r → Refused map_at r
  unfolding cell_map_of
  count-refuses r h = require-refused _ 4 (number-refused msg _ _ _ _ h)

  module _ {a x : ℕ} (count : Clean count_at a x) (most : ℕ) (is : most ≡ 2 ^ c.n - 1) where
    pub map-refused : (r : Refusal) → Err r ≡ read_answer (read_number msg 1 2 1 most (at_place a)) → Refused map_at r
    unfolding cell_map_of
    map-refused r e = require-refused _ 4 (next-refused count msg 1 2 1 _ r (rw is at e))

    module _ (map : Read) (read : Ok map ≡ read_answer (read_number msg 1 2 1 most (at_place a))) where
      pub map-clean : bit map.x i ≡ 0 → Clean map_at map.at map.x
      unfolding cell_map_of
      map-clean own = let h = next-clean count msg 1 2 1 _ map (rw is at read) in test-clean h _ 4 (rw h.found (eq-eqb _ 0 own))

      pub map-own : (bit map.x i ≡ 0 → ⊥) → Refused map_at (refusal 4)
      unfolding cell_map_of
      map-own own = let h = next-clean count msg 1 2 1 _ map (rw is at read) in test-refused h _ 3 (rw h.found (ne_eqb _ 0 own))

  -- a row whose cell map is refused
  module _ (r : Refusal) (h : Refused map_at r) where
    pub row-refused : Err r ≡ row_answer c msg i (at_place at)
    unfolding row_answer
    row-refused = refused-answer _ r _ (keeps-refused (λ k s. row-stuck-map c msg i 1 (at_place at) k s) h)

    pub row-none : row_cells c msg i 1 (at_place at) ≡ (λ j. 0)
    unfolding row_cells
    row-none = fun_ext (λ j. cell-faulty msg map_at.x map_at r h j)

  -- ---- the cells

  module _ (map : Read) (h : Clean map_at map.at map.x) where
    pub cells-are : row_cells c msg i 1 (at_place at) ≡ cell_read msg map.x (read_at map)
    unfolding row_cells
    cells-are = fun_ext (λ j. ap (λ (m : Cursor). cell_read msg m.x m j) (clean-is h))

    pub cells-refused : (r : Refusal) → Err r ≡ cells_answer msg map.x (read_at map) → Err r ≡ row_answer c msg i (at_place at)
    unfolding cells_answer row_answer row_of
    cells-refused r e =
        let told = outcome-err _ _ r e in
        let cells : Refused (cells_after msg map.x (read_at map) 16) r = record { some = told.0; is = told.1 } in
        refused-answer _ r _ (require-refused _ 4 (subst (λ (m : Cursor). Refused (cells_after msg m.x m 16) r) (sym (clean-is h)) cells))

    -- their total is tested
    module _ {a x : ℕ} (count : Clean count_at a x) (cells : Read) (read : Ok cells ≡ cells_answer msg map.x (read_at map)) where
      cells-clean : Clean (cells_after msg map_at.x map_at 16) cells.at (cells_after msg map_at.x map_at 16).x
      unfolding cells_answer
      cells-clean =
          let told = outcome-ok _ _ cells read in
          subst (λ (m : Cursor). Clean (cells_after msg m.x m 16) cells.at (cells_after msg m.x m 16).x) (sym (clean-is h))
          (record { none = told.0; here = sym (ap (λ (r : Read). r.at) told.1); found = refl })

      total-is : cells.x ≡ sum 16 (cell_read msg map_at.x map_at)
      unfolding cells_answer
      total-is =
          let told = outcome-ok _ _ cells read in
          ap (λ (r : Read). r.x) told.1 ∙ ap (λ (m : Cursor). sum 16 (cell_read msg m.x m)) (sym (clean-is h))

      tested : (ok : Bool) → ok ≡ total_fits x cells.x → total_fits count_at.x (sum 16 (cell_read msg map_at.x map_at)) ≡ ok
      tested ok is = ap₂ total_fits count.found (sym total-is) ∙ sym is

      pub total-refused : (ok : Bool) → ok ≡ total_fits x cells.x → ok ≡ false → Err (refusal 4) ≡ row_answer c msg i (at_place at)
      unfolding row_answer row_of
      total-refused ok is bad = refused-answer _ _ _ (test-refused cells-clean _ 3 (tested ok is ∙ bad))

      cells-again : cell_read msg map_at.x map_at ≡ row_cells c msg i 1 (at_place at)
      unfolding row_cells
      cells-again = refl

      pub row-is : (ok : Bool) → ok ≡ total_fits x cells.x → ok ≡ true → Ok cells ≡ row_answer c msg i (at_place at)
      unfolding row_answer row_of
      row-is ok is good =
          let end = test-clean cells-clean (total_fits count_at.x (sum 16 (cell_read msg map_at.x map_at))) 4 (tested ok is ∙ good) in
          let all : cells.x ≡ sum 16 (row_cells c msg i 1 (at_place at)) = total-is ∙ ap (sum 16) cells-again in
          answer-ok _ _ cells end.none (ap₂ made all (sym end.here))
