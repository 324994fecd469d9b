-- `lawful` meets its contract: the least weight is there exactly for the lawful ones.
use Rattle.std.specs.Prelude.{is_ok}
use mathlib.Core.Path.{ap, ◌∙◌}
use Rattle.config.proofs.Clusters.{least-ok}
use Rattle.config.proofs.cluster.Config.lawful.Goals as goal

pub returns : goal.returns
returns c = c.is_ok.ensures.value ∙ ap is_ok c.least.ensures ∙ least-ok _
