-- `on_offer` meets its contract: the seats sold and those on offer are all that the bytes that were passed have.
use Prim.Native.Nat.{◌+◌, ◌*◌, ◌≤◌}
use mathlib.Core.Path.{◌≡◌}
use lib.ListN.{length, get_or}
use Rattle.quorums.specs.Sum.{sum}
use Rattle.seats.specs.Offers.{free_in}
use Rattle.seats.proofs.on_offer.Given as goal

abbrev pub invariant-loop-byte : goal.invariant-loop-byte
invariant-loop-byte l = (length l.block ≤ 64) × (l.sold + sum l.byte-index (λ i. free_in (get_or l.block i 0)) ≡ 8 * l.byte-index)
