-- `sold_in` meets its contract: the ones of a byte and its zero bits are its 8 bits.
use native.Mathlib.Omega.{arith}
use lib.Count.{ones-le}
use Rattle.seats.proofs.Bits.{ones-and-free}
use Rattle.seats.proofs.sold_in.Goals as goal

pub overflow_cast-result : goal.overflow_cast-result
overflow_cast-result c = omega (arith, ones-le 8 c.args.byte c.ranges.byte.fits)

pub returns : goal.returns
returns c = let e = ones-and-free c.args.byte c.ranges.byte.fits in (omega (arith, e), omega (arith, e))
