-- A store whose desk begins nothing from some round on, as spent.
use Rattle.std.specs.Prelude.{ℕ, cond, leb}
use Rattle.config.specs.declared.cluster.Config.{Config}
use Rattle.machine.specs.Parties.{Message, Task, Desk}
use Rattle.machine.specs.Runs.{Outcome}
use Rattle.machine.specs.Calls.{refuse, begin_by}
use Rattle.machine.specs.Steps.{Store}
use Rattle.machine.specs.Seen.{accepted}
use Rattle.nearmiss.specs.Parts.{with_begin}

-- where the plain machine would accept
unfoldable pub begin_until : ℕ → Config → Desk → Task → ℕ → Outcome Message Desk
begin_until last c x t note =
    let o = begin_by c x t note in
    cond (accepted o.answer) (cond (leb last x.round) (refuse 12 x) o) o

abbrev pub spent_early : ℕ → Store
spent_early last = with_begin (begin_until last)
