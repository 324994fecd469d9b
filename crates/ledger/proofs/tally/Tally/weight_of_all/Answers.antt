-- `weight_of_all` meets its contract: the map of all ones names every server.
use mathlib.Core.Path.{◌∙◌}
use Rattle.config.proofs.Clusters.{valid-bounds}
use Rattle.ledger.proofs.Answers.{read_back, all-weight}
use Rattle.ledger.proofs.Balances.{sides-weight}
use Rattle.ledger.proofs.tally.Tally.weight_of_all.Goals as goal

pub returns : goal.returns
returns c =
    read_back c.difference.result c.difference.type_inv
    ∙ c.difference.ensures
    ∙ sides-weight c.balance-b.ensures
    ∙ all-weight c.args.config.now.n _ (valid-bounds _ c.requires).most
