-- The operation of a desk (paper 01, "Desk": read or write, phase 1 or 2, answered servers, restarts, chosen register), and what of the record test
-- (1) is about it.
use Rattle.std.specs.Prelude.{ℕ, ◌≤◌, Bool, true, false, cond, eqb, leb}
use Rattle.config.specs.declared.cluster.Config.{Config}
use Rattle.ledger.specs.Maps.{map_of}
use Rattle.replica.specs.declared.value.Value.{Value}
use Rattle.replica.specs.Values.{empty_value, value_fits, Typed as TypedValue}
use Rattle.replica.specs.Registers.{start_register, register_fits, Typed as TypedRegister}
use Rattle.desk.specs.declared.operation.Operation.{Operation}

-- the modes: no operation, one that runs, one that has ended and whose result is kept
abbrev pub none : ℕ
none = 0

abbrev pub running : ℕ
running = 1

abbrev pub ended : ℕ
ended = 2

-- the kinds
abbrev pub reading : ℕ
reading = 1

abbrev pub writing : ℕ
writing = 2

-- every field of no operation is 0
abbrev pub no_operation : Operation
no_operation =
    record { mode = none; note = 0; restarts = 0; kind = 0; phase = 0; answered = 0; value = empty_value; chosen = start_register }

-- one that begins: phase 1, nobody answered, restarts 0
abbrev pub begun_operation : ℕ → Value → ℕ → Operation
begun_operation kind value note =
    record { mode = running; note = note; restarts = 0; kind = kind; phase = 1; answered = 0; value = value; chosen = start_register }

-- a mode is one of the three, and none at round 0
unfoldable pub mode_lawful : ℕ → ℕ → Bool
mode_lawful mode round = cond (eqb round 0) (eqb mode none) (leb mode ended)

-- a kind is at most 2 in every mode, and read or write where there is an operation
unfoldable pub kind_lawful : ℕ → ℕ → Bool
kind_lawful mode kind = cond (leb kind writing) (cond (eqb mode none) true (leb reading kind)) false

-- a phase is at most 2 in every mode, and 1 or 2 where one runs
unfoldable pub phase_lawful : ℕ → ℕ → Bool
phase_lawful mode phase = cond (leb phase 2) (cond (eqb mode running) (leb 1 phase) true) false

-- The record test of the operation: mode, kind and phase; answered bits below n; restarts at most the round; the value to be written and the chosen
-- register in their ranges.
unfoldable pub fits : Config → ℕ → Operation → Bool
fits c round o =
    cond (mode_lawful o.mode round)
    (cond (kind_lawful o.mode o.kind)
    (cond (phase_lawful o.mode o.phase)
    (cond (map_of c o.answered)
    (cond (leb o.restarts round) (cond (value_fits o.value) (register_fits c o.chosen) false) false)
    false)
    false)
    false)
    false

-- An operation that a call can have: each number fits its type.
pub record Typed (o : Operation) : Type 0 where
  pub mode-fits : o.mode ≤ 4294967295
  pub note-fits : o.note ≤ 4294967295
  pub restarts-fits : o.restarts ≤ 4294967295
  pub kind_fits : o.kind ≤ 65535
  pub phase-fits : o.phase ≤ 65535
  pub answered-fits : o.answered ≤ 65535
  pub value-typed : TypedValue o.value
  pub chosen-typed : TypedRegister o.chosen
