-- A store in which a majority of the servers is a quorum, whatever they weigh.
use Rattle.std.specs.Prelude.{◌*◌, Bool, List, ltb}
use Rattle.quorums.specs.Sum.{size}
use Rattle.config.specs.declared.cluster.Config.{Config}
use Rattle.machine.specs.Sets.{Transfers}
use Rattle.machine.specs.Parties.{Message, answered}
use Rattle.machine.specs.Calls.{restart, choose, finished}
use Rattle.machine.specs.Steps.{Store}
use Rattle.nearmiss.specs.Parts.{with_hear, hear_with, mark_with}

unfoldable pub enough_heads : Config → Transfers → List Message → Bool
enough_heads c a l = ltb c.n (2 * size c.n (answered l))

abbrev pub head_count : Store
head_count = with_hear (hear_with (mark_with enough_heads choose finished) (λ c d. restart))
