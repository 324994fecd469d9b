-- `put` meets its contract: whether there is room is found before the first byte, and the part from the place on is lent to `fill`.
use Prim.Native.Nat.{◌+◌, ◌≤◌}
use native.Mathlib.Omega.{arith}
use mathlib.Core.Path.{sym}
use borrow.Author.Tests.{ltb-true, ltb-false}
use lib.ListN.{length}
use Rattle.message.specs.Envelopes.{message_of}
use Rattle.writer.proofs.Taken.{Taken, is-taken}
use Rattle.writer.proofs.Writes.{lent_length, place-narrow, place-done}
use Rattle.writer.proofs.outgoing.Outgoing.put.Goals.{After-known, Else-narrow, then-out-at-via-then-out-at, then-out-at-via-else-out-at+then-narrow}
use Rattle.writer.proofs.outgoing.Outgoing.put.Goals as goal

taken : (c : After-known) → let a = c.args in Taken a.self.now.config.now a.self.now.envelope.now a.self.now.replica.now
taken c = let t = c.known.ensures in is-taken _ _ _ t.0 t.1 c.requires

-- the message has room
room : (c : Else-narrow) → let a = c.args in a.at + length (message_of a.self.now.config.now a.self.now.envelope.now a.self.now.replica.now) ≤ length a.out.now
room c = omega (arith, ltb-false _ _ (sym c.if-narrow.ensures), c.if-out-at.false)

pub narrow-requires : goal.narrow-requires
narrow-requires c = let t = taken (goal.at.narrow-requires c).After-known in (t.counted, t.not-long)

pub returns-then-out-at : goal.returns-then-out-at
returns-then-out-at c =
    elim c.then-out-at.branch [
      | then-out-at-via-then-out-at w ↦ place-narrow _ _ _ (omega arith)
      | then-out-at-via-else-out-at+then-narrow w ↦ place-narrow _ _ _ (omega (arith, ltb-true _ _ (sym w.if-narrow.ensures)))
    ]

pub fill-written-requires : goal.fill-written-requires
fill-written-requires c =
    let t = taken (goal.at.fill-written-requires c).After-known in
    (t.short, t.counted, t.servers, t.below, omega (arith, room (goal.at.fill-written-requires c).Else-narrow, lent_length c.args.at c.args.out.now))

pub overflow_add-result : goal.overflow_add-result
overflow_add-result c = omega (arith, room (goal.at.overflow_add-result c).Else-narrow)

pub returns : goal.returns
returns c =
    let f = c.fill-written.ensures in
    place-done _ _ _ _ _ (room (goal.at.returns c).Else-narrow) f.0 f.1
