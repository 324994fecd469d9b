-- `number_in` meets its contract: after k bytes x is the number in them, below 256 ^ k.
use Rattle.std.proofs.Common.{◌≡◌, ◌+◌, ◌*◌, refl, arith}
use Rattle.message.specs.Cursors.{number_at}
use Rattle.reader.proofs.Numbers.{number-first, byte_more, byte-room}
use Rattle.reader.proofs.step.number_in.Goals as goal

pub loop-byte-init : goal.loop-byte-init
unfolding number_at
loop-byte-init c = (omega arith, refl, omega arith)

pub overflow_mul-x : goal.overflow_mul-x
overflow_mul-x c = let l = c.loop-byte in omega (arith, byte-room l.byte-index l.x (omega arith) l.invariant.2)

pub overflow_add-x : goal.overflow_add-x
overflow_add-x c = let l = c.loop-byte in omega (arith, byte-room l.byte-index l.x (omega arith) l.invariant.2, c.from.ensures)

pub loop-byte-preserved : goal.loop-byte-preserved
loop-byte-preserved c =
    let l = c.loop-byte in
    let next : l.x * 256 + c.from.result ≡ number_at c.args.bytes.now 0 (l.byte-index + 1) = omega (arith, number-first c.args.bytes.now l.byte-index) in
    (omega arith, next, byte_more l.byte-index l.x _ l.invariant.2 (omega arith))
