-- What a call knows of an argument that is a value or a register: arrays have their lengths, and each number fits its type.
use native.Mathlib.Omega.{arith}
use mathlib.Core.List.{List}
use mir.Syntax.{w8}
use mir.Val.{Val}
use denote.Laws.{Is}
use denote.Struct.Declared.{row as row_of}
use Rattle.ledger.proofs.Ranges.{array-length, array-fits}
use Rattle.replica.specs.declared.value.Value.{Value}
use Rattle.replica.specs.declared.register.Register.{Register}
use Rattle.replica.specs.Values.{Typed as TypedValue}
use Rattle.replica.specs.Registers.{Typed as TypedRegister}
use Rattle.replica.specs.contracts.value.Value as ValueStruct
use Rattle.replica.specs.contracts.register.Register as RegisterStruct

pub value-is-typed : (v : Value) (vs : List Val) → Is (row_of ValueStruct.the_type) v vs → TypedValue v
value-is-typed v vs is =
    let f = is.1.1 in
    record {
      bytes-length = array-length w8 64 v.bytes _ f.1.0;
      length-fits = omega (arith, f.0.1);
      byte_fits = λ k. omega (arith, array-fits w8 64 v.bytes _ f.1.0 k);
    }

pub register-is-typed : (r : Register) (vs : List Val) → Is (row_of RegisterStruct.the_type) r vs → TypedRegister r
register-is-typed r vs is =
    let f = is.1.1 in
    record {
      stamp-fits = omega (arith, f.0.1);
      desk-fits = omega (arith, f.1.0.1);
      value-typed = value-is-typed r.value _ f.1.1.0;
    }
