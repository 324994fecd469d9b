-- `rows_bytes` meets its contract: after i turns it has the bytes of the first i rows.
use Prim.Native.Nat.{ℕ, ◌<◌}
use native.Mathlib.Omega.{arith}
use mathlib.Core.Path.{◌≡◌, refl, sym, ap, ◌∙◌}
use mathlib.Core.List.{[]}
use borrow.Author.Rules.{rules}
use lib.ListN.{length, get_or, length-append}
use Rattle.std.proofs.lemmas.Slice.Zip.{zip_turn, zip_end}
use Rattle.quorums.proofs.Sums.{sum_same}
use Rattle.ledger.specs.Ledgers.{count_of, cell_of}
use Rattle.format.specs.Bytes.{series}
use Rattle.format.specs.Table.{rows}
use Rattle.format.proofs.Same.{row_same}
use Rattle.writer.proofs.Rows.{lent_row, bytes_next}
use Rattle.writer.proofs.outline.rows_bytes.Goals.{In-Some}
use Rattle.writer.proofs.outline.rows_bytes.Goals as goal

-- the count and the cells of row i, as they are lent
lent : (c : In-Some) →
    let l = c.args.ledger.now in
    let i = length c.loop-count.yielded in
    (i < 16) × (c.in-Some.field-0-0.now ≡ count_of l i) × (length c.in-Some.row.now ≡ 16)
    × ((j : ℕ) → j < 16 → get_or c.in-Some.row.now j 0 ≡ cell_of l i j)
lent c =
    let l = c.args.ledger.now in
    let i = length c.loop-count.yielded in
    let all : length l.cells ≡ 256 = search rules in
    let counts : length l.counts ≡ 16 = search rules in
    let t = zip_turn l.counts c.as_chunks.result.0.now c.loop-count.yielded c.into_iter-count-iterator.result c.loop-count.count-iterator c.next.new.self _ (search rules) (search rules) c.loop-count.yielded_by _ c.in-Some.is c.next.ensures.steps in
    let h : i < 16 = omega (arith, t.0) in
    let r = lent_row l.cells _ _ i all h c.as_chunks.ensures.front (t.3 []) in
    (h, t.2 0, r.0, r.1)

pub loop-count-init : goal.loop-count-init
unfolding series
loop-count-init c = (refl, omega arith, omega arith)

pub row_bytes-bytes-requires : goal.row_bytes-bytes-requires
row_bytes-bytes-requires c =
    let r = lent (goal.at.row_bytes-bytes-requires c).In-Some in
    (r.2, λ e. sum_same 16 _ _ r.3 ∙ c.requires _ r.0 (sym r.1 ∙ e))

pub loop-count-preserved : goal.loop-count-preserved
loop-count-preserved c =
    let l = c.loop-count in
    let r = lent (goal.at.loop-count-preserved c).In-Some in
    let size = c.row_bytes-bytes.ensures.0 ∙ ap length (row_same _ _ _ _ r.1 r.3) in
    rw length-append (bytes_next _ _ _ _ l.invariant.0 size, omega (arith, l.invariant.1, c.row_bytes-bytes.ensures.1), omega (arith, r.0))

pub returns : goal.returns
unfolding rows
returns c =
    let l = c.loop-count in
    let g = c.args.ledger.now in
    let end = zip_end g.counts c.as_chunks.result.0.now l.yielded c.into_iter-count-iterator.result l.count-iterator c.next.new.self _ (search rules) (search rules) l.yielded_by c.in-None.is c.next.ensures.steps in
    let all : length g.cells ≡ 256 = search rules in
    let counts : length g.counts ≡ 16 = search rules in
    let e : length l.yielded ≡ 16 = omega (arith, end, c.as_chunks.ensures.front_len) in
    (l.invariant.0 ∙ rw e, omega (arith, l.invariant.1))
