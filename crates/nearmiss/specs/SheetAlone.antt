-- A store in which a share's sheet is joined and its register is not. Requests are joined whole, since otherwise no write would reach a server, and
-- desks join whole: the register is lost on one way only.
use Rattle.std.specs.Prelude.{ℕ}
use Rattle.config.specs.declared.cluster.Config.{Config}
use Rattle.machine.specs.Sets.{union}
use Rattle.machine.specs.Parties.{Replica, Message, by_kind}
use Rattle.machine.specs.Runs.{wrote, Outcome}
use Rattle.machine.specs.Calls.{accept, serve_by}
use Rattle.machine.specs.Steps.{Store}
use Rattle.nearmiss.specs.Parts.{with_serve}

unfoldable pub serve_sheet : Config → ℕ → Replica → Message → ℕ → ℕ → Outcome Message Replica
serve_sheet c i r m place size =
    by_kind m.kind (serve_by c i r m place size) (serve_by c i r m place size)
    (accept (wrote place) (record { set = union r.set m.replica.set; register = r.register }))

abbrev pub sheet_alone : Store
sheet_alone = with_serve serve_sheet
