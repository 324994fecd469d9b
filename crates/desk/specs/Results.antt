-- Result (paper 01, "Desk"): kind, tag, value, restarts; 9 if none has ended since the last accepted begin.
use Rattle.std.specs.Prelude.{cond, eqb, Result, Ok, Err}
use Rattle.config.specs.declared.answer.Refusal.{Refusal}
use Rattle.config.specs.Refusals.{refusal}
use Rattle.replica.specs.Registers.{trimmed}
use Rattle.desk.specs.declared.operation.Operation.{Operation}
use Rattle.desk.specs.declared.record.Desk.{Desk}
use Rattle.desk.specs.declared.result.Told.{Told}
use Rattle.desk.specs.Operations.{ended}
use Rattle.desk.specs.Desks.{fits}

-- what an operation that has ended tells; bytes after the value's own mean nothing and are 0
abbrev pub told : Operation → Told
told o = record { kind = o.kind; register = trimmed o.chosen; restarts = o.restarts }

unfoldable pub result_of : Desk → Result Told Refusal
result_of x = cond (fits x) (cond (eqb x.operation.mode ended) (Ok (told x.operation)) (Err (refusal 9))) (Err (refusal 1))
