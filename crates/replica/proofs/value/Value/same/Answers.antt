-- `same` meets its contract: at one length the bytes of both are compared as slices.
use mathlib.Core.Path.{◌≡◌, ap₂, ◌∙◌}
use borrow.Author.Tests.{eq-eqb, ne_eqb}
use borrow.Author.Rules.{rules}
use lib.Dec.{eqb}
use lib.ListN.{length}
use lib.Pointwise.{pointwise}
use Rattle.replica.specs.Values.{same}
use Rattle.replica.proofs.Values.{same_slices}
use Rattle.replica.proofs.value.Value.same.Goals as goal

pub returns-then-self-other : goal.returns-then-self-other
unfolding same
returns-then-self-other c =
    let a = c.args.self.now in
    let b = c.args.other.now in
    let e : length a.bytes ≡ 64 = search rules in
    let f : length b.bytes ≡ 64 = search rules in
    rw (eq-eqb a.length b.length c.if-self-other.true)
    (c.eq.ensures ∙ ap₂ (pointwise eqb) c.bytes.ensures.0 c.bytes-then-self-other.ensures.0
    ∙ same_slices a b e f c.if-self-other.true)

pub returns-else-self-other : goal.returns-else-self-other
unfolding same
returns-else-self-other c = let e = ne_eqb c.args.self.now.length c.args.other.now.length c.if-self-other.false in simp e
