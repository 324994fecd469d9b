-- `message` meets its contract: the table's fields one after the other. Each call writes one field more, so each field has room, and at the end all are written.
use Prim.Native.Nat.{ℕ}
use native.Mathlib.Omega.{arith}
use mathlib.Core.Path.{◌≡◌, refl, ◌∙◌}
use mathlib.Core.List.{List, [], ◌∷◌}
use lib.ListN.{get_or}
use Rattle.config.specs.declared.cluster.Config.{Config}
use Rattle.ledger.specs.Ledgers.{count_of, cell_of}
use Rattle.format.specs.Bytes.{number, series}
use Rattle.format.specs.Table.{head, register, rows}
use Rattle.replica.specs.declared.replica.Replica.{Replica}
use Rattle.replica.specs.Values.{bytes_of}
use Rattle.message.specs.declared.envelope.Envelope.{Envelope}
use Rattle.message.specs.Envelopes.{message_of}
use Rattle.writer.proofs.Places.{Written, written_none, written-room, written_next, written_all}
use Rattle.writer.proofs.Rows.{counts-map}
use Rattle.writer.proofs.Messages.{message-written}
use Rattle.writer.proofs.pen.Pen.message.Goals.{After-field_map-map}
use Rattle.writer.proofs.pen.Pen.message.Goals as goal

-- the fields in order, and that together they are the message

abbrev fields : ℕ → ℕ → Config → Envelope → Replica → ℕ → List ℕ
fields map rows_map config e r k =
    get_or
    (head map e.kind e.server e.desk e.round
    ∷ register config r.register.stamp r.register.desk (bytes_of r.register.value)
    ∷ number rows_map 2 rows_map
    ∷ rows (count_of r.ledger) (cell_of r.ledger)
    ∷ number e.note 4 e.note
    ∷ []) k []

abbrev fields_of : After-field_map-map → ℕ → List ℕ
fields_of c = fields c.field_map-map.result c.row_map-rows.result c.args.outgoing.now.config.now c.args.outgoing.now.envelope.now c.args.outgoing.now.replica.now

whole : (c : After-field_map-map) → let a = c.args in series 5 (fields_of c) ≡ message_of a.outgoing.now.config.now a.outgoing.now.envelope.now a.outgoing.now.replica.now
unfolding series
whole c =
    let a = c.args in
    message-written a.outgoing.now.config.now a.outgoing.now.envelope.now a.outgoing.now.replica.now c.field_map-map.result c.row_map-rows.result c.field_map-map.ensures
    (c.row_map-rows.ensures ∙ counts-map a.outgoing.now.replica.now.ledger c.requires.counted)

-- no field is written yet
none : (c : After-field_map-map) → Written 0 5 (fields_of c) c.args.self.now c.args.self.now
none c = written_none 5 (fields_of c) c.args.self.now (rw (whole c) c.requires.room)

pub head-requires : goal.head-requires
head-requires c = written-room (none (goal.at.head-requires c).After-field_map-map) (omega arith)

pub register-requires-clause-room : goal.register-requires-clause-room
register-requires-clause-room c =
    let head-put = written_next (none (goal.at.register-requires-clause-room c).After-field_map-map) c.head.ensures in
    written-room head-put (omega arith)

pub number-requires-clause-room : goal.number-requires-clause-room
number-requires-clause-room c =
    let head-put = written_next (none (goal.at.number-requires-clause-room c).After-field_map-map) c.head.ensures in
    let register-put = written_next head-put c.register.ensures in
    written-room register-put (omega arith)

pub rows-requires-clause-room : goal.rows-requires-clause-room
rows-requires-clause-room c =
    let head-put = written_next (none (goal.at.rows-requires-clause-room c).After-field_map-map) c.head.ensures in
    let register-put = written_next head-put c.register.ensures in
    let map-put = written_next register-put c.number.ensures in
    written-room map-put (omega arith)

pub number-requires-2-clause-room : goal.number-requires-2-clause-room
number-requires-2-clause-room c =
    let head-put = written_next (none (goal.at.number-requires-2-clause-room c).After-field_map-map) c.head.ensures in
    let register-put = written_next head-put c.register.ensures in
    let map-put = written_next register-put c.number.ensures in
    let rows-put = written_next map-put c.rows.ensures in
    rw c.from-note.ensures (written-room rows-put (omega arith))

pub returns : goal.returns
returns c =
    let maps = (goal.at.returns c).After-field_map-map in
    let head-put = written_next (none maps) c.head.ensures in
    let register-put = written_next head-put c.register.ensures in
    let map-put = written_next register-put c.number.ensures in
    let rows-put = written_next map-put c.rows.ensures in
    written_all (written_next rows-put (rw c.from-note.ensures at c.number-2.ensures)) refl (whole maps)
