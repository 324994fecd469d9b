-- `give` meets its contract: a transfer that passes the tests has room in its count and its cell.
use native.Mathlib.Omega.{arith}
use mathlib.Core.Path.{sym, ◌∙◌}
use Rattle.std.proofs.lemmas.Result.{err_from_is_err_and}
use Rattle.ledger.proofs.Spared.{adds-room, add-told, add_left}
use Rattle.ledger.proofs.ledger.Ledger.give.Goals as goal

pub returns-in_err-may_give : goal.returns-in_err-may_give
returns-in_err-may_give c =
    let p = err_from_is_err_and c.from_residual.result c.from_residual.ensures.1 in
    rw (p.1, p.2) (c.in_err-may_give.ensures, sym (add_left _ _ _ _ _ _ (sym c.in_err-may_give.ensures)))

pub overflow_cast-amount : goal.overflow_cast-amount
overflow_cast-amount c = omega (arith, adds-room _ _ _ _ _ (add-told _ _ _ _ _ (sym c.in_ok-may_give.ensures)).0)

pub put-requires : goal.put-requires
put-requires c =
    let t = (add-told _ _ _ _ _ (sym c.in_ok-may_give.ensures)).0 in
    let r = adds-room _ _ _ _ _ t in
    (r.0, r.1, t.counted, r.3)

pub returns : goal.returns
returns c = (c.in_ok-may_give.ensures, c.put.ensures ∙ sym (add-told _ _ _ _ _ (sym c.in_ok-may_give.ensures)).1)
