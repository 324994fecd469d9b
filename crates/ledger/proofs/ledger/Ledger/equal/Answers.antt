-- `equal` meets its contract: two arrays are equal where they are at each index.
use mathlib.Core.Path.{◌≡◌, refl, ◌∙◌}
use mathlib.Core.Bool.{Bool, true, false, cond, ◌&&◌}
use borrow.Author.Rules.{rules}
use Rattle.ledger.specs.Joins.{same_count_at, same_cell_at, equal}
use Rattle.ledger.proofs.Rows.{lists-same}
use Rattle.quorums.specs.Sum.{all}
use Rattle.ledger.proofs.ledger.Ledger.equal.Goals as goal

both : (a b : Bool) → a && b ≡ cond a b false
both true b = refl
both false b = refl

pub returns : goal.returns
unfolding equal
returns c =
    let a = c.args.self in
    let b = c.args.other in
    c.eq.ensures
    ∙ simp (lists-same 16 a.counts b.counts (search rules) (search rules), lists-same 256 a.cells b.cells (search rules) (search rules))
    (both (all 16 (same_count_at a b)) (all 256 (same_cell_at a b)))
