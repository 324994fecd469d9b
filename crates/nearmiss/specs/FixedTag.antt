-- A store in which every write chooses the tag (1, 1).
use Rattle.std.specs.Prelude.{ℕ}
use Rattle.config.specs.declared.cluster.Config.{Config}
use Rattle.machine.specs.Parties.{start, Replica, Message, by-task, Operation, Desk}
use Rattle.machine.specs.Runs.{Outcome}
use Rattle.machine.specs.Calls.{restart, choose, finished}
use Rattle.machine.specs.Steps.{Store}
use Rattle.nearmiss.specs.Parts.{with_hear, hear_with, enough_weight, mark_with}

-- a write chooses as desk 1 would where it held the start
unfoldable pub choose_fixed : Config → ℕ → Desk → Operation → Replica → Outcome Message Desk
choose_fixed c d x o p = by-task o.task (choose c d x o p) (λ v. choose c 1 x o (record { set = p.set; register = start }))

abbrev pub fixed_tag : Store
fixed_tag = with_hear (hear_with (mark_with enough_weight choose_fixed finished) (λ c d. restart))
