-- `Refusal::of` meets its contract: the table has the refusals in their order, and no other number has one.
use native.Mathlib.Omega.{arith}
use mathlib.Core.Path.{sym}
use mathlib.Core.Logic.{inl, inr}
use Rattle.config.proofs.Refusals.{meaning-refusal, meaning-none}
use Rattle.config.proofs.answer.Refusal.of.Goals as goal

pub returns-in-1-to-15 : goal.returns-in-1-to-15
returns-in-1-to-15 c = sym (meaning-refusal c.args.number (omega arith) (omega arith))

pub returns-in_default : goal.returns-in_default
returns-in_default c = sym ((meaning-none c.args.number).1 (inl (omega arith)))

pub returns-in_default-2 : goal.returns-in_default-2
returns-in_default-2 c = sym ((meaning-none c.args.number).1 (inr (omega arith)))
