-- What reading the head of a message answers.
use Rattle.std.specs.Prelude.{ℕ, List, Result}
use Rattle.config.specs.declared.cluster.Config.{Config}
use Rattle.config.specs.declared.answer.Refusal.{Refusal}
use Rattle.message.specs.Scans.{HeadRead, head_of}
use Rattle.reader.specs.declared.head.Head.{Head}
use Rattle.reader.specs.Steps.{outcome}

-- its fields, the note being 0, and the place behind them
abbrev pub head_at : HeadRead → Head
head_at h =
    record { map = h.map; envelope = record { kind = h.kind; server = h.server; desk = h.desk; round = h.round; note = 0 }; at = h.cursor.at }

unfoldable pub head_answer : Config → List ℕ → Result Head Refusal
head_answer c msg = let h = head_of c msg in outcome h.cursor.number (head_at h)
