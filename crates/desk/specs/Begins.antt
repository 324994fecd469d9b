-- Begin and drop (paper 01, "Desk").
use Rattle.std.specs.Prelude.{ℕ, suc, cond, List, eqb, ltb}
use Rattle.config.specs.Refusals.{refusal}
use Rattle.replica.specs.declared.value.Value.{Value}
use Rattle.replica.specs.Values.{value_fits, value_of}
use Rattle.desk.specs.declared.record.Desk.{Desk}
use Rattle.desk.specs.declared.record.DeskAnswer.{DeskAnswer}
use Rattle.desk.specs.Operations.{running, no_operation, begun_operation}
use Rattle.desk.specs.Desks.{most_round, fits, accepted, refused, turned}

-- round + 1, phase 1, nobody answered, restarts 0
abbrev pub begun : Desk → ℕ → Value → ℕ → Desk
begun x kind value note = turned x (suc x.round) (begun_operation kind value note)

-- 8, then 12
unfoldable pub start_of : Desk → ℕ → Value → ℕ → DeskAnswer
start_of x kind value note =
    cond (eqb x.operation.mode running) (refused (refusal 8) x)
    (cond (ltb x.round most_round) (accepted (begun x kind value note)) (refused (refusal 12) x))

-- Begin of a kind, with a note, 0 for none, and the value to be written, which for a read is empty: 14, 8, 12.
unfoldable pub begin_of : Desk → ℕ → List ℕ → ℕ → DeskAnswer
begin_of x kind v note =
    cond (fits x) (cond (value_fits (value_of v)) (start_of x kind (value_of v) note) (refused (refusal 14) x)) (refused (refusal 1) x)

-- no operation any more
abbrev pub dropped : Desk → Desk
dropped x = turned x x.round no_operation

-- Drop: 9 if no operation runs, else it is gone.
unfoldable pub drop_of : Desk → DeskAnswer
drop_of x =
    cond (fits x) (cond (eqb x.operation.mode running) (accepted (dropped x)) (refused (refusal 9) x)) (refused (refusal 1) x)
