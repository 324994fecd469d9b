-- A reader at the bytes of a ledger finds that ledger where it is within bounds, and refuses it by 4 where it isn't.
use Prim.Native.Nat.{ℕ, zero, suc, ◌+◌, ◌-◌, ◌*◌, ◌/◌, ◌%◌, ◌^◌, ◌<◌, ◌≤◌}
use native.Mathlib.Omega.{arith}
use mathlib.Core.Path.{◌≡◌, refl, sym, ap, ap₂, ◌∙◌}
use mathlib.Core.Logic.{◌⊎◌, inl, inr, ⊎_elim}
use mathlib.Core.Bool.{true}
use mathlib.Core.List.{List, ◌++◌, append_assoc, append-nil}
use lib.Pow.{pow_pos}
use lib.ListN.{length, get_or}
use Rattle.quorums.specs.Sum.{sum}
use Rattle.quorums.proofs.Sums.{all-each, each_all, sum-zero, below_suc}
use Rattle.quorums.proofs.Tests.{le-or-lt}
use Rattle.config.specs.declared.cluster.Config.{Config}
use Rattle.ledger.specs.declared.ledger.Ledger.{Ledger}
use Rattle.ledger.specs.Ledgers.{count_of, cell_of, given_of, Typed}
use Rattle.ledger.specs.Checks.{may_hold, cell_fits, row_fits, bounded}
use Rattle.ledger.proofs.Totals.{Placed, bounded-told, told-bounded, may-hold-told, total-fits-told}
use Rattle.ledger.proofs.Added.{may-hold-placed}
use Rattle.quorums.proofs.Tables.{is-table}
use Rattle.format.specs.Bytes.{number, series, stands, marks, bit}
use Rattle.format.specs.Table.{row_mark, row, row_map, rows, sheet}
use Rattle.format.proofs.Marks.{stands-pos, marks-lt, marks-cut, bit-marks, bit-above}
use Rattle.message.specs.Cursors.{Cursor}
use Rattle.message.specs.Scans.{SheetRead}
use Rattle.message.specs.Cursors.{read_number}
use Rattle.message.specs.Scans.{row_cells, row_of, rows_after, count_read, cell_of_row, ledger_read, sheet_of}
use Rattle.message.proofs.Stuck.{Stuck, stuck_at, row-stuck, rows_none, rows-stuck}
use Rattle.message.proofs.Ahead.{apart, past, further}
use Rattle.message.proofs.Moves.{in-range, above-range, Stands, behind, stands_at, move, refuse}
use Rattle.message.proofs.Rows.{AtRow, RowFound, row-found, row-decides}
use Rattle.message.proofs.GoodRows.{RowGood}

-- ---- a ledger is within bounds exactly where its rows are good

may-hold-none : (n k x : ℕ) → x ≡ 0 → may_hold n k x ≡ true
unfolding may_hold
may-hold-none n k x e = rw e refl

placed-told : (n i j x : ℕ) → j < 16 → may_hold n (i * 16 + j) x ≡ true → (x ≡ 0) ⊎ Placed n i j
placed-told n i j x h e =
    ⊎_elim (λ (z : x ≡ 0). inl z)
    (λ (p : Placed n ((i * 16 + j) / 16) ((i * 16 + j) % 16)).
    inr (record { giver = omega (arith, p.giver); taker = omega (arith, p.taker); apart = λ d. p.apart (omega arith) }))
    (may-hold-told n (i * 16 + j) x e)

pub good-rows : (c : Config) (l : Ledger) → bounded c l ≡ true → (i : ℕ) → i < 16 → RowGood c.n i (count_of l i) (cell_of l i)
unfolding given_of
good-rows c l b i h =
    let t = bounded-told c l b in
    record {
      fits = all-each 16 (row_fits l) t.1 i h;
      placed = λ j k. placed-told c.n i j (cell_of l i j) k (all-each 256 (cell_fits c.n l) t.0 (i * 16 + j) (omega arith));
    }

pub rows-good : (c : Config) (l : Ledger) → ((i : ℕ) → i < 16 → RowGood c.n i (count_of l i) (cell_of l i)) → bounded c l ≡ true
unfolding given_of
rows-good c l g =
    told-bounded c l (each_all 256 (cell_fits c.n l) (λ k h. held k (omega arith) (omega arith))) (each_all 16 (row_fits l) (λ i h. (g i h).fits))
  where
    held : (k : ℕ) → k / 16 < 16 → k % 16 < 16 → cell_fits c.n l k ≡ true
    held k a b =
        let e : k / 16 * 16 + k % 16 ≡ k = omega arith in
        ⊎_elim (λ (z : cell_of l (k / 16) (k % 16) ≡ 0). may-hold-none c.n k _ (ap (λ m. get_or l.cells m 0) (sym e) ∙ z))
        (λ (p : Placed c.n (k / 16) (k % 16)). may-hold-placed c.n k _ p.giver p.taker p.apart)
        ((g (k / 16) a).placed (k % 16) b)

-- ---- a reader before a ledger

pub record AtSheet (c : Config) (msg pre t : List ℕ) (from : Cursor) (l : Ledger) : Type 0 where
  pub small : c.n ≤ 16
  pub typed : Typed l
  pub stands-there : Stands from pre
  pub ahead : msg ≡ pre ++ (sheet (count_of l) (cell_of l) ++ t)

row_bytes : Ledger → ℕ → List ℕ
row_bytes l i = row (count_of l i) (cell_of l i)

mark_of : Ledger → ℕ → ℕ
mark_of l i = row_mark (count_of l i) (cell_of l i)

map_of : Ledger → ℕ
map_of l = row_map (count_of l) (cell_of l)

map_bytes : Ledger → List ℕ
map_bytes l = number (map_of l) 2 (map_of l)

sheet-bytes : (l : Ledger) → sheet (count_of l) (cell_of l) ≡ map_bytes l ++ series 16 (row_bytes l)
unfolding sheet rows map_bytes map_of row_bytes
sheet-bytes l = refl

map-bit : (l : Ledger) (i : ℕ) → i < 16 → bit (map_of l) i ≡ stands (mark_of l i)
unfolding map_of row_map mark_of
map-bit l i h = bit-marks 16 (λ k. row_mark (count_of l k) (cell_of l k)) i h

map-lt : (l : Ledger) → map_of l < 65536
unfolding map_of row_map
map-lt l = marks-lt 16 (λ k. row_mark (count_of l k) (cell_of l k))

-- a row from n on is empty in a ledger within bounds
beyond-empty : (n i count : ℕ) (cell : ℕ → ℕ) → n ≤ i → RowGood n i count cell → row_mark count cell ≡ 0
unfolding row_mark
beyond-empty n i count cell h g =
    let z : sum 16 cell ≡ 0 =
    sum-zero 16 cell (λ j k. ⊎_elim (λ (e : cell j ≡ 0). e) (λ (p : Placed n i j). absurd (omega (arith, p.giver))) (g.placed j k)) in
    omega (arith, z, total-fits-told count (sum 16 cell) g.fits)

map_below : (c : Config) (l : Ledger) → c.n ≤ 16 → bounded c l ≡ true → map_of l < 2 ^ c.n
unfolding map_of row_map
map_below c l s b =
    let e : marks 16 (λ i. row_mark (count_of l i) (cell_of l i)) ≡ marks c.n (λ i. row_mark (count_of l i) (cell_of l i)) =
    marks-cut 16 c.n (λ i. row_mark (count_of l i) (cell_of l i)) s (λ i p q. beyond-empty c.n i _ _ p (good-rows c l b i q)) in
    rw e (marks-lt c.n (λ i. row_mark (count_of l i) (cell_of l i)))

module _ (c : Config) (msg pre t : List ℕ) (from : Cursor) (l : Ledger) (a : AtSheet c msg pre t from l) where
  front : List ℕ
  front = pre ++ map_bytes l

  ahead-map : msg ≡ pre ++ (map_bytes l ++ (series 16 (row_bytes l) ++ t))
  ahead-map = apart msg pre (map_bytes l) (series 16 (row_bytes l)) t (a.ahead ∙ ap (λ e. pre ++ (e ++ t)) (sheet-bytes l))

  ahead-rows : msg ≡ front ++ (series 16 (row_bytes l) ++ t)
  unfolding front
  ahead-rows = past msg pre (map_bytes l) _ ahead-map

  front-is : front ++ series 16 (row_bytes l) ≡ pre ++ map_bytes l ++ series 16 (row_bytes l)
  unfolding front
  front-is = refl

  map-refused : 2 ^ c.n ≤ map_of l → Stuck (sheet_of c msg (stands (map_of l)) from).cursor 3
  unfolding sheet_of map_bytes
  map-refused h =
      rows-stuck c msg _ _ 3 0 16 (omega arith)
      (rows_none c msg _ _ 3
      (refuse msg pre _ from (map_of l) 2 1 (2 ^ c.n - 1) (map_of l) a.stands-there ahead-map (omega (arith, map-lt l))
      (omega (arith, pow_pos c.n)) (above-range 1 (2 ^ c.n - 1) (map_of l) (omega (arith, pow_pos c.n)))))

  map_read_lem : map_of l < 2 ^ c.n → read_number msg (stands (map_of l)) 2 1 (2 ^ c.n - 1) from ≡ behind front (map_of l)
  unfolding front map_bytes
  map_read_lem b =
      move msg pre _ from (map_of l) 2 1 (2 ^ c.n - 1) (map_of l) a.stands-there ahead-map (omega (arith, map-lt l)) (λ e. e)
      (λ p. in-range 1 (2 ^ c.n - 1) (map_of l) p (omega (arith, b)))

  -- after i rows
  rows_to : ℕ → Cursor
  rows_to i = rows_after c msg (map_of l) (behind front (map_of l)) i

  at_row : map_of l < 2 ^ c.n → (i : ℕ) → i < 16 → Stands (rows_to i) (front ++ series i (row_bytes l))
      → (r : List ℕ) × AtRow c msg (front ++ series i (row_bytes l)) r (rows_to i) i (count_of l i) (cell_of l i)
  unfolding row_bytes mark_of
  at_row b i h s =
      let f = further msg front t (row_bytes l) 16 i h ahead-rows in (
        f.0,
        record {
          small = a.small;
          index = h;
          giver = below;
          count_fits = a.typed.count_fits i;
          cell-fits = λ j. a.typed.cell-fits (i * 16 + j);
          stands-there = s;
          ahead = f.1;
        },
      )
    where
      below : 0 < mark_of l i → i < c.n
      below p =
          ⊎_elim (λ (k : c.n ≤ i). absurd (omega (arith, map-bit l i h, bit-above (map_of l) c.n i b k, stands-pos (mark_of l i) p)))
          (λ (k : i < c.n). k)
          (le-or-lt c.n i)

  row_next : (i : ℕ) → i < 16 → rows_to (suc i) ≡ (row_of c msg i (stands (mark_of l i)) (rows_to i)).cursor
  unfolding rows_to rows_after
  row_next i h = ap (λ s. (row_of c msg i s (rows_after c msg (map_of l) (behind front (map_of l)) i)).cursor) (map-bit l i h)

  -- one row more is behind the reader
  behind-row : (i : ℕ) → i < 16 → RowFound c msg (front ++ series i (row_bytes l)) (rows_to i) i (count_of l i) (cell_of l i)
      → Stands (rows_to (suc i)) (front ++ series (suc i) (row_bytes l))
  unfolding series row_bytes mark_of
  behind-row i h f =
      let s = f.found-end in
      stands_at (row_next i h) (record { none = s.none; place = s.place ∙ ap length (append_assoc front (series i (row_bytes l)) (row_bytes l i)) })

  rows-begin : Stands (rows_to 0) (front ++ series 0 (row_bytes l))
  unfolding rows_to rows_after series
  rows-begin = record { none = refl; place = ap length (sym (append-nil front)) }

  -- ---- a ledger within bounds

  rows-stand : bounded c l ≡ true → map_of l < 2 ^ c.n → (i : ℕ) → i ≤ 16 → Stands (rows_to i) (front ++ series i (row_bytes l))
  rows-stand g b zero h = rows-begin
  rows-stand g b (suc i) h =
      let r = at_row b i h (rows-stand g b i (omega arith)) in
      behind-row i h (row-found c msg _ r.0 _ i _ _ r.1 (good-rows c l g i h))

  row-of : bounded c l ≡ true → map_of l < 2 ^ c.n → (i : ℕ) → i < 16
      → RowFound c msg (front ++ series i (row_bytes l)) (rows_to i) i (count_of l i) (cell_of l i)
  row-of g b i h = let r = at_row b i h (rows-stand g b i (omega arith)) in row-found c msg _ r.0 _ i _ _ r.1 (good-rows c l g i h)

  count-found : bounded c l ≡ true → map_of l < 2 ^ c.n → (i : ℕ) → i < 16
      → count_read c msg (map_of l) (behind front (map_of l)) i ≡ count_of l i
  unfolding count_read rows_to mark_of
  count-found g b i h =
      ap (λ s. (row_of c msg i s (rows_after c msg (map_of l) (behind front (map_of l)) i)).count) (map-bit l i h) ∙ (row-of g b i h).found-count

  cell-found : bounded c l ≡ true → map_of l < 2 ^ c.n → (i j : ℕ) → i < 16 → j < 16
      → cell_of_row c msg (map_of l) (behind front (map_of l)) i j ≡ cell_of l i j
  unfolding cell_of_row rows_to mark_of
  cell-found g b i j h k =
      ap (λ s. row_cells c msg i s (rows_after c msg (map_of l) (behind front (map_of l)) i) j) (map-bit l i h) ∙ (row-of g b i h).found-cells j k

  ledger-found : bounded c l ≡ true → map_of l < 2 ^ c.n → ledger_read c msg (map_of l) (behind front (map_of l)) ≡ l
  unfolding ledger_read
  ledger-found g b =
      ap₂ {C = Ledger} (λ x y. record { counts = x; cells = y })
      (sym (is-table 16 _ l.counts a.typed.counts-length (λ i h. sym (count-found g b i h))))
      (sym (is-table 256 _ l.cells a.typed.cells-length (λ k h.
      let e : k ≡ k / 16 * 16 + k % 16 = omega arith in
      ap (λ m. get_or l.cells m 0) e ∙ sym (cell-found g b (k / 16) (k % 16) (omega arith) (omega arith)))))

  sheet-at : map_of l < 2 ^ c.n → sheet_of c msg (stands (map_of l)) from ≡ record { ledger = ledger_read c msg (map_of l) (behind front (map_of l)); cursor = rows_to 16 }
  unfolding sheet_of rows_to
  sheet-at b = rw (map_read_lem b) refl

  -- a ledger within bounds is found
  pub sheet-found : bounded c l ≡ true
      → ((sheet_of c msg (stands (row_map (count_of l) (cell_of l))) from).ledger ≡ l)
      × Stands (sheet_of c msg (stands (row_map (count_of l) (cell_of l))) from).cursor (pre ++ sheet (count_of l) (cell_of l))
  unfolding map_of
  sheet-found g = (
    ap (λ (s : SheetRead). s.ledger) (sheet-at b) ∙ ledger-found g b,
    stands_at (ap (λ (s : SheetRead). s.cursor) (sheet-at b)) (record { none = s.none; place = s.place ∙ ap length together }),
  )
    where
      b : map_of l < 2 ^ c.n
      b = map_below c l a.small g

      s : Stands (rows_to 16) (front ++ series 16 (row_bytes l))
      s = rows-stand g b 16 (omega arith)

      together : front ++ series 16 (row_bytes l) ≡ pre ++ sheet (count_of l) (cell_of l)
      together = front-is ∙ append_assoc pre (map_bytes l) (series 16 (row_bytes l)) ∙ ap (λ e. pre ++ e) (sym (sheet-bytes l))

  -- ---- a ledger out of bounds

  rows-decide : map_of l < 2 ^ c.n → (i : ℕ) → i ≤ 16
      → (Stands (rows_to i) (front ++ series i (row_bytes l)) × ((k : ℕ) → k < i → RowGood c.n k (count_of l k) (cell_of l k))) ⊎ Stuck (rows_to i) 3
  unfolding mark_of
  rows-decide b zero h = inl (rows-begin, λ k z. absurd (omega arith))
  rows-decide b (suc i) h =
      ⊎_elim
      (λ (p : Stands (rows_to i) (front ++ series i (row_bytes l)) × ((k : ℕ) → k < i → RowGood c.n k (count_of l k) (cell_of l k))).
      let r = at_row b i h p.0 in
      ⊎_elim
      (λ (g : RowGood c.n i (count_of l i) (cell_of l i)).
      inl (behind-row i h (row-found c msg _ r.0 _ i _ _ r.1 g), λ k z. ⊎_elim (λ (d : k ≡ i). rw d g) (λ (d : k < i). p.1 k d) (below_suc z)))
      (λ (q : Stuck (row_of c msg i (stands (mark_of l i)) (rows_to i)).cursor 3). inr (stuck_at (row_next i h) q))
      (row-decides c msg _ r.0 _ i _ _ r.1))
      (λ (q : Stuck (rows_to i) 3). inr (stuck_at (row_next i h) (row-stuck c msg i _ _ 3 q)))
      (rows-decide b i (omega arith))

  pub sheet-decides : (bounded c l ≡ true) ⊎ Stuck (sheet_of c msg (stands (row_map (count_of l) (cell_of l))) from).cursor 3
  unfolding map_of
  sheet-decides =
      ⊎_elim (λ (h : 2 ^ c.n ≤ map_of l). inr (map-refused h))
      (λ (b : map_of l < 2 ^ c.n).
      ⊎_elim
      (λ (p : Stands (rows_to 16) (front ++ series 16 (row_bytes l)) × ((k : ℕ) → k < 16 → RowGood c.n k (count_of l k) (cell_of l k))).
      inl (rows-good c l p.1))
      (λ (q : Stuck (rows_to 16) 3). inr (stuck_at (ap (λ (s : SheetRead). s.cursor) (sheet-at b)) q))
      (rows-decide b 16 (omega arith)))
      (le-or-lt (2 ^ c.n) (map_of l))
