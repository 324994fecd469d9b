-- `of_refusal` meets its contract: the number is small, so that its signed reading, and the difference, are themselves.
use Prim.Native.Nat.{◌+◌, ◌≤◌}
use native.Mathlib.Omega.{arith}
use mathlib.Core.Path.{sym, ap, ◌∙◌, subst}
use mir.Facts.{to_z-of_z}
use Rattle.quorums.specs.Difference.{difference}
use Rattle.ledger.proofs.Answers.{gap_is, gap-fits}
use Rattle.host.specs.Codes.{refusal_code}
use Rattle.host.proofs.Small.{number-most}
use Rattle.host.proofs.code.of_refusal.Goals.{After-number-code}
use Rattle.host.proofs.code.of_refusal.Goals as goal

most : (c : After-number-code) → c.number-code.result ≤ 15
most c = subst (λ k. k ≤ 15) (sym c.number-code.ensures) (number-most c.args.refusal)

pub overflow_add-code : goal.overflow_add-code
overflow_add-code c = omega (arith, most c)

pub overflow_cast-result : goal.overflow_cast-result
overflow_cast-result c = omega (arith, most c)

pub overflow_sub-result : goal.overflow_sub-result
overflow_sub-result c = gap-fits 0 (1000000 + c.number-code.result) (omega arith) (omega (arith, most c))

pub returns : goal.returns
unfolding refusal_code
returns c =
    to_z-of_z (overflow_sub-result c)
    ∙ gap_is 0 (1000000 + c.number-code.result) (omega arith) (omega (arith, most c))
    ∙ ap (λ k. difference 0 (1000000 + k)) c.number-code.ensures
