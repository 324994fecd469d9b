-- `weight` meets its contract: the difference of both sides of the balance.
use native.Mathlib.Omega.{arith}
use mathlib.Core.Path.{◌∙◌}
use Rattle.config.proofs.Clusters.{server-small}
use Rattle.ledger.proofs.Answers.{read_back}
use Rattle.ledger.proofs.Weights.{weight-at}
use Rattle.reader.proofs.tally.Tally.weight.Goals as goal

pub offset_bounds-self-i : goal.offset_bounds-self-i
offset_bounds-self-i c = omega (arith, server-small _ _ c.requires)

pub bounds-self-i : goal.bounds-self-i
bounds-self-i c = server-small _ _ c.requires

pub overflow_add-start_at : goal.overflow_add-start_at
overflow_add-start_at c = omega (arith, c.args.self.now.takes_small.small c.args.server, c.start_at.ensures.1)

pub offset_bounds-self-i-2 : goal.offset_bounds-self-i-2
offset_bounds-self-i-2 c = omega (arith, server-small _ _ c.requires)

pub bounds-self-i-2 : goal.bounds-self-i-2
bounds-self-i-2 c = server-small _ _ c.requires

pub difference-requires : goal.difference-requires
difference-requires c = (omega (arith, c.args.self.now.takes_small.small c.args.server, c.start_at.ensures.1), omega (arith, c.args.self.now.gives_small.small c.args.server))

pub returns : goal.returns
returns c =
    let a = c.args in
    read_back c.difference.result c.difference.type_inv ∙ c.difference.ensures ∙ weight-at a.config.now a.self.now.received a.self.now.given a.server _ c.start_at.ensures.0
