-- `on_offer` meets its contract: the seats sold and those on offer are all that the bytes that were passed have.
use Rattle.std.specs.Prelude.{Ok}
use native.Mathlib.Omega.{arith}
use mathlib.Core.Path.{◌≡◌, ap}
use mathlib.Core.Bool.{false}
use borrow.Author.Tests.{le-leb, lt-leb}
use lib.Dec.{leb}
use lib.ListN.{length, get_or}
use Rattle.quorums.specs.Sum.{sum}
use Rattle.quorums.proofs.Sums.{sum-next}
use Rattle.seats.specs.Offers.{free_in, offered, offer_answer}
use Rattle.seats.proofs.on_offer.Goals as goal

pub returns-then-block-gt-MOST_BLOCK : goal.returns-then-block-gt-MOST_BLOCK
unfolding offer_answer
returns-then-block-gt-MOST_BLOCK c = let over : leb (length c.args.block.now) 64 ≡ false = lt-leb _ _ c.if-block-gt-MOST_BLOCK.true in simp over

pub loop-byte-init : goal.loop-byte-init
unfolding sum
loop-byte-init c = (omega arith, omega arith)

pub loop-byte-preserved : goal.loop-byte-preserved
loop-byte-preserved c =
    let turn = c.loop-byte in
    let block = c.args.block.now in
    (turn.invariant.0, omega (arith, turn.invariant.1, c.sold_in-sold.ensures.0, sum-next turn.byte-index (λ i. free_in (get_or block i 0))))

pub returns : goal.returns
unfolding offer_answer offered
returns c =
    let l = c.loop-byte in
    let block = c.args.block.now in
    let e : l.byte-index ≡ length block = omega arith in
    let free = rw e at l.invariant.1 in
    simp (le-leb _ _ l.invariant.0) (ap Ok (omega (arith, free, c.from.ensures)))
