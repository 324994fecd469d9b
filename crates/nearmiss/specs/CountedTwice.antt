-- A store in which a server weighs as often as it replied.
use Rattle.std.specs.Prelude.{Bool, List, [], ◌∷◌, ℤ, pos, ◌+ℤ◌}
use Rattle.std.specs.Int.Signed.{lt_z}
use Rattle.config.specs.Cluster.{total_of}
use Rattle.config.specs.declared.cluster.Config.{Config}
use Rattle.machine.specs.Sets.{Transfers, weight_of}
use Rattle.machine.specs.Parties.{Message}
use Rattle.machine.specs.Calls.{restart, choose, finished}
use Rattle.machine.specs.Steps.{Store}
use Rattle.nearmiss.specs.Parts.{with_hear, hear_with, mark_with}

-- the weight of each reply's server, added up
unfoldable pub weight_heard : Config → Transfers → List Message → ℤ
weight_heard c a [] = pos 0
weight_heard c a (m ∷ l) = weight_heard c a l +ℤ weight_of c a m.server

-- twice that weight is above W
unfoldable pub enough_replies : Config → Transfers → List Message → Bool
enough_replies c a l = lt_z (pos (total_of c)) (weight_heard c a l +ℤ weight_heard c a l)

abbrev pub counted_twice : Store
counted_twice = with_hear (hear_with (mark_with enough_replies choose finished) (λ c d. restart))
