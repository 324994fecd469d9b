-- `head` meets its contract: its five fields one after the other. Each call writes one field more, so each field has room, and at the end all are written.
use Prim.Native.Nat.{ℕ}
use native.Mathlib.Omega.{arith}
use mathlib.Core.Path.{◌≡◌, refl}
use mathlib.Core.List.{List, [], ◌∷◌}
use lib.ListN.{get_or}
use Rattle.format.specs.Bytes.{bytes, number, series}
use Rattle.format.specs.Table.{head}
use Rattle.message.specs.declared.envelope.Envelope.{Envelope}
use Rattle.writer.proofs.Places.{Written, written_none, written-room, written_next, written_all}
use Rattle.writer.proofs.pen.Pen.head.Goals.{Start}
use Rattle.writer.proofs.pen.Pen.head.Goals as goal

-- the fields in order
abbrev fields : ℕ → Envelope → ℕ → List ℕ
fields map e k =
    get_or (bytes 2 map ∷ bytes 1 e.kind ∷ bytes 1 e.server ∷ number e.desk 2 e.desk ∷ number e.round 4 e.round ∷ []) k []

whole : (map : ℕ) (e : Envelope) → series 5 (fields map e) ≡ head map e.kind e.server e.desk e.round
unfolding series head number
whole map e = refl

none : (s : Start) → Written 0 5 (fields s.args.map s.args.envelope.now) s.args.self.now s.args.self.now
none s = written_none 5 (fields s.args.map s.args.envelope.now) s.args.self.now (rw (whole s.args.map s.args.envelope.now) s.requires)

pub bytes-requires-clause-room : goal.bytes-requires-clause-room
bytes-requires-clause-room c = written-room (none (goal.at.bytes-requires-clause-room c).Start) (omega arith)

pub bytes-requires-2-clause-room : goal.bytes-requires-2-clause-room
bytes-requires-2-clause-room c =
    let map-put = written_next (none (goal.at.bytes-requires-2-clause-room c).Start) c.bytes.ensures in
    rw c.from.ensures (written-room map-put (omega arith))

pub bytes-requires-3-clause-room : goal.bytes-requires-3-clause-room
bytes-requires-3-clause-room c =
    let map-put = written_next (none (goal.at.bytes-requires-3-clause-room c).Start) c.bytes.ensures in
    let kind-put = written_next map-put (rw c.from.ensures at c.bytes-2.ensures) in
    rw c.from-2.ensures (written-room kind-put (omega arith))

pub number-requires-clause-room : goal.number-requires-clause-room
number-requires-clause-room c =
    let map-put = written_next (none (goal.at.number-requires-clause-room c).Start) c.bytes.ensures in
    let kind-put = written_next map-put (rw c.from.ensures at c.bytes-2.ensures) in
    let server-put = written_next kind-put (rw c.from-2.ensures at c.bytes-3.ensures) in
    rw c.from-desk.ensures (written-room server-put (omega arith))

pub number-requires-2-clause-room : goal.number-requires-2-clause-room
number-requires-2-clause-room c =
    let map-put = written_next (none (goal.at.number-requires-2-clause-room c).Start) c.bytes.ensures in
    let kind-put = written_next map-put (rw c.from.ensures at c.bytes-2.ensures) in
    let server-put = written_next kind-put (rw c.from-2.ensures at c.bytes-3.ensures) in
    let desk-put = written_next server-put (rw c.from-desk.ensures at c.number.ensures) in
    rw c.from-round.ensures (written-room desk-put (omega arith))

pub returns : goal.returns
returns c =
    let map-put = written_next (none (goal.at.returns c).Start) c.bytes.ensures in
    let kind-put = written_next map-put (rw c.from.ensures at c.bytes-2.ensures) in
    let server-put = written_next kind-put (rw c.from-2.ensures at c.bytes-3.ensures) in
    let desk-put = written_next server-put (rw c.from-desk.ensures at c.number.ensures) in
    let round-put = written_next desk-put (rw c.from-round.ensures at c.number-2.ensures) in
    written_all round-put refl (whole c.args.map c.args.envelope.now)
