-- `margin` meets its contract.
use mathlib.Core.Path.{◌∙◌}
use Rattle.ledger.proofs.Answers.{read_back}
use Rattle.ledger.proofs.Balances.{sides-margin}
use Rattle.ledger.proofs.tally.Tally.margin.Goals as goal

pub returns : goal.returns
returns c = read_back c.difference.result c.difference.type_inv ∙ c.difference.ensures ∙ sides-margin c.balance-b.ensures
