-- A store that reports no restarts.
use Rattle.machine.specs.Parties.{Message, if-ended, Desk}
use Rattle.machine.specs.Runs.{told, Outcome}
use Rattle.machine.specs.Calls.{accept, refuse}
use Rattle.machine.specs.Steps.{Store}
use Rattle.nearmiss.specs.Parts.{with_result}

unfoldable pub result_without : Desk → Outcome Message Desk
result_without x =
    if-ended x.activity (λ r. accept (told (record { is-write = r.is-write; register = r.register; restarts = 0 })) x) (refuse 9 x)

abbrev pub no_restarts : Store
no_restarts = with_result result_without
