-- A message is an envelope and a replica, and its bytes (paper 01, "Message bytes") are the byte table at their fields, where a value is a list.
use Rattle.std.specs.Prelude.{ℕ, ◌<◌, ◌≤◌, List, get_or}
use Rattle.config.specs.declared.cluster.Config.{Config}
use Rattle.ledger.specs.Ledgers.{count_of, cell_of}
use Rattle.format.specs.Table.{Fields, encode_fields}
use Rattle.replica.specs.declared.replica.Replica.{Replica}
use Rattle.replica.specs.Values.{bytes_of}
use Rattle.replica.specs.Registers.{trimmed}
use Rattle.message.specs.declared.envelope.Envelope.{Envelope}

-- the kinds of message
abbrev pub request : ℕ
request = 1

abbrev pub reply : ℕ
reply = 2

abbrev pub share : ℕ
share = 3

abbrev pub blank_envelope : Envelope
blank_envelope = record { kind = 0; server = 0; desk = 0; round = 0; note = 0 }

-- the bytes of the value that a message carries
abbrev pub carried : Replica → List ℕ
carried r = bytes_of r.register.value

-- the fields of a message whose value has the bytes v
abbrev pub fields_with : Envelope → Replica → List ℕ → Fields
fields_with e r v =
    record {
      kind = e.kind;
      server = e.server;
      desk = e.desk;
      round = e.round;
      stamp = r.register.stamp;
      tag-desk = r.register.desk;
      value = v;
      count = count_of r.ledger;
      cell = cell_of r.ledger;
      note = e.note;
    }

-- the fields of a message
abbrev pub fields_of : Envelope → Replica → Fields
fields_of e r = fields_with e r (carried r)

-- its bytes
unfoldable pub message_of : Config → Envelope → Replica → List ℕ
message_of c e r = encode_fields c (fields_of e r)

-- a replica whose value has zeros after its bytes, as reading and every call make it
abbrev pub trimmed_replica : Replica → Replica
trimmed_replica r = record { ledger = r.ledger; register = trimmed r.register }

-- An envelope that a call can have: each number fits its type.
pub record Typed (e : Envelope) : Type 0 where
  pub kind_fits : e.kind ≤ 255
  pub server-fits : e.server ≤ 255
  pub desk-fits : e.desk ≤ 65535
  pub round-fits : e.round ≤ 4294967295
  pub note-fits : e.note ≤ 4294967295

-- a list of bytes
pub record Bytes (l : List ℕ) : Type 0 where
  pub byte : (k : ℕ) → get_or l k 0 < 256
