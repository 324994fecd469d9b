-- The cells of a row: what holds after j steps, one step more, and the two ends, at a fault and where nothing is left of the map.
use Rattle.std.specs.Prelude.{Ok, Err}
use Prim.Native.Nat.{ℕ, ◌+◌, ◌*◌, ◌/◌, ◌%◌, ◌^◌, ◌≤◌, ◌<◌}
use native.Mathlib.Nat.{div-one}
use native.Mathlib.Numerals.{add-one}
use native.Mathlib.Omega.{arith}
use mathlib.Core.Path.{◌≡◌, refl, sym, ap, fun_ext, ◌∙◌}
use mathlib.Core.List.{List}
use lib.ListN.{length, get_or, set}
use Rattle.quorums.specs.Sum.{sum}
use Rattle.quorums.proofs.Sums.{sum-next}
use Rattle.quorums.specs.Tables.{table}
use Rattle.quorums.proofs.Tables.{is-table}
use Rattle.config.specs.Refusals.{refusal}
use Rattle.config.specs.declared.answer.Refusal.{Refusal}
use Rattle.ledger.proofs.Tallies.{Tallied, tally-none, tally-next, tally-all, sum-all}
use Rattle.format.specs.Bytes.{bit}
use Rattle.message.specs.Cursors.{Cursor, read_number}
use Rattle.message.specs.Scans.{cells_after, cell_read}
use Rattle.reader.specs.Keeping.{put}
use Rattle.reader.specs.Sheets.{cells_answer}
use Rattle.reader.specs.Steps.{at_place, read_answer}
use Rattle.reader.specs.declared.step.Read.{Read}
use Rattle.reader.proofs.Fronts.{front, front-none, front_next, front-all, put-here, put_same, put-twice}
use Rattle.reader.proofs.Outcomes.{Clean, Refused, answer-ok, refused-answer, stood-clean, stood-refused}
use Rattle.reader.proofs.Rests.{rest-bit, rest-next, rest-inside, cells-settle, cell-beyond, cells-fault, cell-after-fault}

-- where nothing is to be added a list stays as it is
pub none-added : (xs : List ℕ) (f : ℕ → ℕ) → length xs ≡ 16 → f ≡ (λ j. 0) → xs ≡ table 16 (λ j. get_or xs j 0 + f j)
none-added xs f size e = is-table 16 _ xs size (λ k l. omega (arith, ap (λ (g : ℕ → ℕ). g k) e))

-- After j cells: the place and their total, and ys is xs with them added.
pub record CellsSoFar (msg : List ℕ) (m : ℕ) (from : Cursor) (xs ys : List ℕ) (at total rest j : ℕ) : Type 0 where
  pub most : j ≤ 16
  pub left : rest ≡ m / 2 ^ j
  pub here : Clean (cells_after msg m from j) at (cells_after msg m from j).x
  pub total-is : total ≡ sum j (cell_read msg m from)
  pub small : total ≤ j * 4294967295
  pub within : at ≤ length msg
  pub added : Tallied (cell_read msg m from) xs ys j

pub cells-start : (msg : List ℕ) (m x : ℕ) (at : ℕ) (xs : List ℕ) → at ≤ length msg → length xs ≡ 16
    → CellsSoFar msg m (record { number = 0; at = at; x = x }) xs xs at 0 m 0
unfolding cells_after sum
cells-start msg m x at xs l size =
    record {
      most = omega arith;
      left = sym (div-one m);
      here = record { none = refl; here = refl; found = refl };
      total-is = refl;
      small = omega arith;
      within = l;
      added = tally-none _ xs size;
    }

module _ {msg : List ℕ} {m : ℕ} {from : Cursor} {xs ys : List ℕ} {at total rest j : ℕ} (h : CellsSoFar msg m from xs ys at total rest j) where
  pub cells-inside : m ≤ 65535 → (rest ≡ 0 → ⊥) → j < 16
  cells-inside l more = rest-inside m j rest l h.left more

  -- nothing is left of the map
  module _ (none : rest ≡ 0) where
    gone : m / 2 ^ j ≡ 0
    gone = sym h.left ∙ none

    pub cells-none : (k : ℕ) → j ≤ k → cell_read msg m from k ≡ 0
    cells-none k g = cell-beyond msg m from j k gone g

    pub cells-done : Ok (record { x = total; at = at }) ≡ cells_answer msg m from
    unfolding cells_answer
    cells-done =
        let end = cells-settle msg m from j h.most gone in
        let total : total ≡ sum 16 (cell_read msg m from) = h.total-is ∙ sum-all _ j h.most cells-none in
        let place : at ≡ (cells_after msg m from 16).at = sym h.here.here ∙ sym end.place in
        answer-ok _ _ _ (end.same ∙ h.here.none) (rw (total, place) refl)

  -- the cells from j on add nothing
  pub cells-added : ((k : ℕ) → j ≤ k → cell_read msg m from k ≡ 0) → ys ≡ table 16 (λ j. get_or xs j 0 + cell_read msg m from j)
  cells-added none = tally-all _ xs ys j h.added none

  stands-is : rest % 2 ≡ bit m j
  stands-is = rest-bit m j h.left

  -- one cell more
  module _ (cell : Read) (read : Ok cell ≡ read_answer (read_number msg (rest % 2) 4 1 4294967295 (at_place at))) where
    next-is : Clean (cells_after msg m from (j + 1)) cell.at cell.x
    unfolding cells_after
    next-is = rw add-one (stood-clean h.here msg _ 4 1 4294967295 cell stands-is read)

    pub cell-is : cell.x ≡ cell_read msg m from j
    unfolding cell_read
    cell-is = sym (rw add-one at next-is.found)

    pub cells-turn : j < 16 → cell.at ≤ length msg → cell.x ≤ 4294967295
        → CellsSoFar msg m from xs (set ys j (get_or ys j 0 + cell.x)) cell.at (total + cell.x) (rest / 2) (j + 1)
    cells-turn inside within most =
        record {
          most = omega arith;
          left = rest-next m j h.left;
          here = record { none = next-is.none; here = next-is.here; found = refl };
          total-is = omega (arith, h.total-is, sum-next j (cell_read msg m from), cell-is);
          small = omega (arith, h.small, most);
          within = within;
          added = tally-next _ xs ys j _ inside h.added (omega (arith, h.added.left j (omega arith), cell-is));
        }

  -- or it has a fault
  module _ (r : Refusal) (read : Err r ≡ read_answer (read_number msg (rest % 2) 4 1 4294967295 (at_place at))) (inside : j < 16) where
    fault : Refused (cells_after msg m from (j + 1)) r
    unfolding cells_after
    fault = rw add-one (stood-refused h.here msg _ 4 1 4294967295 r stands-is read)

    pub cells-clean : (k : ℕ) → j ≤ k → cell_read msg m from k ≡ 0
    cells-clean k g = cell-after-fault msg m from j k fault.some g

    pub cells-stop : Err r ≡ cells_answer msg m from
    unfolding cells_answer
    cells-stop =
        let end = cells-fault msg m from j inside fault.some in
        refused-answer (cells_after msg m from 16) r _
        (record { some = λ z. fault.some (sym end.same ∙ z); is = fault.is ∙ ap refusal (sym end.same) })

-- ---- what is kept of them

-- the cells with those of giver i that were read
abbrev pub cells_kept : (ℕ → ℕ → ℕ) → ℕ → ℕ → (ℕ → ℕ) → ℕ → ℕ → ℕ
cells_kept cells i j f = put cells i (front 0 j f)

pub kept-none : (cells : ℕ → ℕ → ℕ) (i : ℕ) (f : ℕ → ℕ) → ((j : ℕ) → cells i j ≡ 0) → cells_kept cells i 0 f ≡ cells
kept-none cells i f blank = put_same cells i _ (front-none 0 f ∙ fun_ext (λ j. sym (blank j)))

pub kept_next : (cells : ℕ → ℕ → ℕ) (i j x : ℕ) (f : ℕ → ℕ) → x ≡ f j
    → put (cells_kept cells i j f) i (put (cells_kept cells i j f i) j x) ≡ cells_kept cells i (j + 1) f
kept_next cells i j x f e =
    ap (λ (row : ℕ → ℕ). put (cells_kept cells i j f) i (put row j x)) (put-here cells i (front 0 j f))
    ∙ put-twice cells i (front 0 j f) (put (front 0 j f) j x)
    ∙ ap (put cells i) (front_next 0 f j x e)

pub kept-all : (cells : ℕ → ℕ → ℕ) (i j : ℕ) (f : ℕ → ℕ) → ((k : ℕ) → j ≤ k → f k ≡ 0) → cells_kept cells i j f ≡ put cells i f
kept-all cells i j f none = ap (put cells i) (front-all 0 f j none)
