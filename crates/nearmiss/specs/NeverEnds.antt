-- A store whose desk never ends an operation: a quorum in phase 2 changes nothing.
use Rattle.machine.specs.Parties.{Register, Replica, Operation, running, Desk}
use Rattle.machine.specs.Calls.{restart, choose}
use Rattle.machine.specs.Steps.{Store}
use Rattle.nearmiss.specs.Parts.{with_hear, hear_with, enough_weight, mark_with}

unfoldable pub go_on : Desk → Operation → Replica → Register → Desk
go_on x o p g = record { replica = p; round = x.round; activity = running o }

abbrev pub never_ends : Store
never_ends = with_hear (hear_with (mark_with enough_weight choose go_on) (λ c d. restart))
