-- `rows` meets its contract: after i turns the first i rows are written, and those from n on have no bytes.
use Prim.Native.Nat.{ℕ, ◌≤◌, ◌<◌}
use borrow.Author.Rules.{rules}
use Rattle.std.proofs.lemmas.Slice.Zip.{zip_turn, zip_end}
use Rattle.quorums.specs.Sum.{sum}
use Rattle.quorums.proofs.Sums.{sum_same}
use Rattle.format.proofs.Same.{row_same}
use native.Mathlib.Omega.{arith}
use mathlib.Core.Path.{◌≡◌, refl, sym, ◌∙◌}
use mathlib.Core.List.{[]}
use lib.ListN.{length, get_or, take, length-append}
use lib.Seq.{get_or-take, length-take-le}
use Rattle.ledger.specs.Ledgers.{count_of, cell_of}
use Rattle.format.specs.Table.{row, rows}
use Rattle.writer.proofs.Places.{written_none, written-room, written_next, written-rest, written_all}
use Rattle.writer.proofs.Rows.{lent_row, row-absent}
use Rattle.writer.proofs.pen.Pen.rows.Goals.{In-Some, Start}
use Rattle.writer.proofs.pen.Pen.rows.Goals as goal
use Rattle.writer.proofs.pen.Pen.rows.Invariants.{row_at}

-- the first n counts, as they are lent
counts : (s : Start) → length (take s.args.n s.args.ledger.now.counts) ≡ s.args.n
counts s = length-take-le s.args.n s.args.ledger.now.counts (omega (arith, s.requires.most))

-- a row from n on has no bytes
row-none : (s : Start) (k : ℕ) → s.args.n ≤ k → k < 16 → row_at s.args.ledger.now k ≡ []
row-none s k l h = let none = s.requires.below k l h in row-absent _ _ none (s.requires.counted k h none)

-- the count and the cells of row i, as they are lent
lent : (c : In-Some) →
    let l = c.args.ledger.now in
    let i = length c.loop-count.yielded in
    (i < c.args.n) × (c.in-Some.field-0-0.now ≡ count_of l i) × (length c.in-Some.row.now ≡ 16)
    × (row c.in-Some.field-0-0.now (λ j. get_or c.in-Some.row.now j 0) ≡ row_at l i)
    × (sum 16 (λ j. get_or c.in-Some.row.now j 0) ≡ sum 16 (cell_of l i))
lent c =
    let l = c.args.ledger.now in
    let i = length c.loop-count.yielded in
    let s = (goal.at.In-Some c).Start in
    let all : length l.cells ≡ 256 = search rules in
    let t = zip_turn (take c.args.n l.counts) c.as_chunks.result.0.now c.loop-count.yielded c.into_iter-count-iterator.result c.loop-count.count-iterator c.next.new.self _ (search rules) (search rules) c.loop-count.yielded_by _ c.in-Some.is c.next.ensures.steps in
    let h : i < c.args.n = omega (arith, t.0, counts s) in
    let r = lent_row l.cells _ _ i all (omega (arith, h, s.requires.most)) c.as_chunks.ensures.front (t.3 []) in
    let e : c.in-Some.field-0-0.now ≡ count_of l i = t.2 0 ∙ get_or-take c.args.n l.counts i 0 h in
    (h, e, r.0, row_same _ _ _ _ e r.1, sum_same 16 _ _ r.1)

pub loop-count-init : goal.loop-count-init
unfolding rows
loop-count-init c = written_none 16 _ _ c.requires.room

pub returns : goal.returns
unfolding rows
returns c =
    let s = (goal.at.returns c).Start in
    let l = c.args.ledger.now in
    let all : length l.cells ≡ 256 = search rules in
    let end = zip_end (take c.args.n l.counts) c.as_chunks.result.0.now c.loop-count.yielded c.into_iter-count-iterator.result c.loop-count.count-iterator c.next.new.self _ (search rules) (search rules) c.loop-count.yielded_by c.in-None.is c.next.ensures.steps in
    let n : length c.loop-count.yielded ≡ c.args.n = omega (arith, end, counts s, c.as_chunks.ensures.front_len, c.requires.most) in
    written_all (written-rest c.loop-count.invariant (omega (arith, n, c.requires.most)) (λ k l h. row-none s k (omega (arith, n)) h)) refl refl

pub row-requires-clause-sixteen : goal.row-requires-clause-sixteen
row-requires-clause-sixteen c = (lent (goal.at.row-requires-clause-sixteen c).In-Some).2

pub row-requires-clause-counted : goal.row-requires-clause-counted
row-requires-clause-counted c =
    let r = lent (goal.at.row-requires-clause-counted c).In-Some in
    λ z. r.4 ∙ c.requires.counted _ (omega (arith, c.requires.most, r.0)) (sym r.1 ∙ z)

pub row-requires-clause-room : goal.row-requires-clause-room
row-requires-clause-room c =
    let r = lent (goal.at.row-requires-clause-room c).In-Some in
    rw r.3 (written-room c.loop-count.invariant (omega (arith, c.requires.most, r.0)))

pub loop-count-preserved : goal.loop-count-preserved
loop-count-preserved c =
    let r = lent (goal.at.loop-count-preserved c).In-Some in
    rw length-append (written_next c.loop-count.invariant (rw r.3 at c.row.ensures))
