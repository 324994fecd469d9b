-- `add` meets its contract: the cluster's tests, and then those of the ledger and the transfer.
use mathlib.Core.Path.{sym, ◌∙◌}
use Rattle.ledger.specs.Changes.{add_answer}
use Rattle.ledger.specs.Ledgers.{refused}
use Rattle.ledger.proofs.Changes.{changed-of}
use Rattle.ledger.proofs.Judged.{start-judged, start-told}
use Rattle.ledger.proofs.ledger.Ledger.add.Goals as goal

pub returns-in-Err : goal.returns-in-Err
unfolding add_answer
returns-in-Err c = c.refused.ensures ∙ sym (start-judged _ _ _ (λ k. refused k c.args.self) c.args.giver (sym c.in-Err.ensures))

pub returns : goal.returns
unfolding add_answer
returns c =
    let e = start-told _ _ _ (sym c.in_default.ensures) in
    simp (e.0, e.1) (changed-of _ _ _ c.give-verdict.ensures.0 c.give-verdict.ensures.1)
