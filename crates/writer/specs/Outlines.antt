-- What a ledger's counts tell of its cells, and the size of a message, from what its fields come to.
use Rattle.std.specs.Prelude.{ℕ, ◌+◌, ◌*◌, ◌≤◌, ◌<◌, ◌≡◌}
use Rattle.quorums.specs.Sum.{sum}
use Rattle.config.specs.Cluster.{stamp_bytes}
use Rattle.config.specs.declared.cluster.Config.{Config}
use Rattle.format.specs.Bytes.{stands}
use Rattle.format.specs.Table.{register_mark}
use Rattle.ledger.specs.declared.ledger.Ledger.{Ledger}
use Rattle.ledger.specs.Ledgers.{count_of, cell_of}
use Rattle.replica.specs.declared.register.Register.{Register}
use Rattle.message.specs.declared.envelope.Envelope.{Envelope}
use Rattle.writer.specs.declared.outline.Marks.{Marks}

-- every row whose count is 0 is empty, as in a ledger within bounds
abbrev pub Counted : Ledger → Type 0
Counted l = (i : ℕ) → i < 16 → count_of l i ≡ 0 → sum 16 (cell_of l i) ≡ 0

-- every count from n on is 0, as in a ledger of n servers
abbrev pub CountsBelow : ℕ → Ledger → Type 0
CountsBelow n l = (i : ℕ) → n ≤ i → i < 16 → count_of l i ≡ 0

-- which fields stand, where `rows` is the row map
abbrev pub marks_of : Envelope → Register → ℕ → Marks
marks_of e g rows =
    record {
      desk = stands e.desk;
      round = stands e.round;
      register = stands (register_mark g.stamp g.desk g.value.length);
      sheet = stands rows;
      note = stands e.note;
    }

-- each is 0 or 1
abbrev pub Small : Marks → Type 0
Small m = (m.desk ≤ 1) × (m.round ≤ 1) × (m.register ≤ 1) × (m.sheet ≤ 1) × (m.note ≤ 1)

-- the size, where `rows` is the row map, and the rows have `bytes` bytes
unfoldable pub size_of : Config → Envelope → Register → ℕ → ℕ → ℕ
size_of c e g rows bytes =
    4 + 2 * stands e.desk + 4 * stands e.round
    + (stamp_bytes c + 3) * stands (register_mark g.stamp g.desk g.value.length)
    + g.value.length
    + 2 * stands rows
    + bytes
    + 4 * stands e.note
