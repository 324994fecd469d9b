-- `number_in` meets its contract: after k bytes x is the number in them, below 256 ^ k.
use Rattle.std.proofs.Common.{◌≡◌, ◌^◌, ◌≤◌, ◌<◌, length}
use Rattle.message.specs.Cursors.{number_at}
use Rattle.reader.proofs.step.number_in.Given as goal

abbrev pub invariant-loop-byte : goal.invariant-loop-byte
invariant-loop-byte l = (l.byte-index ≤ length l.bytes) × (l.x ≡ number_at l.bytes 0 l.byte-index) × (l.x < 256 ^ l.byte-index)
