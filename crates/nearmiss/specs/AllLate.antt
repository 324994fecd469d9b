-- A store whose desk calls everything that it hears late.
use Rattle.machine.specs.Runs.{late}
use Rattle.machine.specs.Calls.{accept}
use Rattle.machine.specs.Steps.{Store}
use Rattle.nearmiss.specs.Parts.{with_hear}

abbrev pub all_late : Store
all_late = with_hear (λ c d x m. accept late x)
