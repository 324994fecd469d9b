-- `narrow` meets its contract: there is room for the longest message, or the size is the message's.
use mathlib.Core.Path.{sym, ap, ap₂, ◌∙◌}
use lib.Dec.{ltb}
use Rattle.writer.specs.Outlines.{size_of}
use Rattle.writer.proofs.Rows.{counts-map}
use Rattle.writer.proofs.Messages.{message-length}
use Rattle.writer.proofs.outgoing.Outgoing.narrow.Goals as goal

pub returns : goal.returns
returns c =
    let e = c.args.self.now.envelope.now in
    let r = c.args.self.now.replica.now in
    let map = c.row_map-rows.ensures ∙ counts-map r.ledger c.requires.0 in
    ap (ltb c.args.room)
    (c.measure.ensures ∙ ap₂ (λ x y. size_of c.args.self.now.config.now e r.register x y) map c.rows_bytes-bytes.ensures.0
    ∙ sym (message-length c.args.self.now.config.now e r))
