-- `consider` meets its contract: what does not join is refused as the comparison refuses it.
use Rattle.std.specs.Prelude.{Err}
use borrow.Author.Rules.{rules}
use mathlib.Core.Path.{◌≡◌, sym, ◌∙◌}
use native.Mathlib.Omega.{arith}
use Rattle.server.proofs.Considered.{refusal-told, taken-apart}
use Rattle.server.proofs.record.Server.consider.Goals as goal

pub returns-in_err-compared : goal.returns-in_err-compared
returns-in_err-compared c =
    let e : c.from_residual-in_err-compared.result ≡ Err c.in_err-compared.field-0.0 = search rules in
    refusal-told _ _ _ _ e
    (taken-apart _ _ c.in_ok-taken.taken c.receive_into.new.ledger (sym c.receive_into.ensures.0 ∙ c.in_ok-taken.was) c.receive_into.ensures.1
    (sym c.stray.ensures ∙ c.if-stray.false) (omega (arith, c.if-self-own.false)) _ (sym c.compare.ensures.0 ∙ c.in_err-compared.was))
