-- A store whose desk takes 1,000 × n for W when it asks whether servers are a quorum (paper 02, N2: "the total in the runs is W instead of 1,000 for each
-- server").
use Rattle.std.specs.Prelude.{◌*◌, Bool, List, pos, ◌+ℤ◌, ◌-ℤ◌}
use Rattle.std.specs.Int.Signed.{lt_z}
use Rattle.quorums.specs.Accounts.{weight_in}
use Rattle.config.specs.declared.cluster.Config.{Config}
use Rattle.machine.specs.Sets.{Transfers, accounts}
use Rattle.machine.specs.Parties.{Message, answered}
use Rattle.machine.specs.Calls.{restart, choose, finished}
use Rattle.machine.specs.Steps.{Store}
use Rattle.nearmiss.specs.Parts.{with_hear, hear_with, mark_with}

-- twice the weight, less 1,000 × n, is above zero
unfoldable pub enough_of_level : Config → Transfers → List Message → Bool
enough_of_level c a l = let w = weight_in c.n (accounts c a) (answered l) in lt_z (pos 0) (w +ℤ w -ℤ pos (c.n * 1000))

abbrev pub level_total : Store
level_total = with_hear (hear_with (mark_with enough_of_level choose finished) (λ c d. restart))
