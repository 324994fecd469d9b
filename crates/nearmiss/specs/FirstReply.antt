-- A store whose desk ends an operation at its first reply, in whatever phase and on whatever sheet, and idles after.
use Rattle.machine.specs.Parties.{join, by-phase}
use Rattle.machine.specs.Runs.{done}
use Rattle.machine.specs.Calls.{accept, chosen, finished}
use Rattle.machine.specs.Steps.{Store}
use Rattle.nearmiss.specs.Parts.{with_hear, OnReply, hear_with}

unfoldable pub end_at_once : OnReply
end_at_once c d x o m =
    let p = join x.replica m.replica in
    accept done (finished x o p (by-phase o.phase (chosen d o.task p.register) (λ g. g)))

abbrev pub first_reply : Store
first_reply = with_hear (hear_with end_at_once end_at_once)
