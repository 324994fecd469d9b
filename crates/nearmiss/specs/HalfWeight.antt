-- A store whose desk takes 0 for a quorum: half of the weight is enough (paper 02, N1: "Above zero is a quorum; zero and below are not").
use Rattle.std.specs.Prelude.{Bool, not, List, pos}
use Rattle.std.specs.Int.Signed.{lt_z}
use Rattle.quorums.specs.Accounts.{margin}
use Rattle.config.specs.declared.cluster.Config.{Config}
use Rattle.machine.specs.Sets.{Transfers, accounts}
use Rattle.machine.specs.Parties.{Message, answered}
use Rattle.machine.specs.Calls.{restart, choose, finished}
use Rattle.machine.specs.Steps.{Store}
use Rattle.nearmiss.specs.Parts.{with_hear, hear_with, mark_with}

unfoldable pub half : Config → Transfers → List Message → Bool
half c a l = not (lt_z (margin c.n (accounts c a) (answered l)) (pos 0))

abbrev pub half_weight : Store
half_weight = with_hear (hear_with (mark_with half choose finished) (λ c d. restart))
