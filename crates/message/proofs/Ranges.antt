-- What a call knows of an argument that is an envelope: each number fits its type.
use native.Mathlib.Omega.{arith}
use mathlib.Core.List.{List}
use mir.Val.{Val}
use denote.Laws.{Is}
use denote.Struct.Declared.{row as row_of}
use Rattle.message.specs.declared.envelope.Envelope.{Envelope}
use Rattle.message.specs.Envelopes.{Typed}
use Rattle.message.specs.contracts.envelope.Envelope as EnvelopeStruct

pub envelope-is-typed : (e : Envelope) (vs : List Val) → Is (row_of EnvelopeStruct.the_type) e vs → Typed e
envelope-is-typed e vs is =
    let f = is.1.1 in
    record {
      kind_fits = omega (arith, f.0.1);
      server-fits = omega (arith, f.1.0.1);
      desk-fits = omega (arith, f.1.1.0.1);
      round-fits = omega (arith, f.1.1.1.0.1);
      note-fits = omega (arith, f.1.1.1.1.0.1);
    }
