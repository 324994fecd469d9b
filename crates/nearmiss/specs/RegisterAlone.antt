-- A store in which a share's register is joined and its sheet is not.
use Rattle.std.specs.Prelude.{ℕ}
use Rattle.config.specs.declared.cluster.Config.{Config}
use Rattle.machine.specs.Parties.{Replica, higher, Message, by_kind}
use Rattle.machine.specs.Runs.{wrote, Outcome}
use Rattle.machine.specs.Calls.{accept, serve_by}
use Rattle.machine.specs.Steps.{Store}
use Rattle.nearmiss.specs.Parts.{with_serve}

unfoldable pub serve_register : Config → ℕ → Replica → Message → ℕ → ℕ → Outcome Message Replica
serve_register c i r m place size =
    by_kind m.kind (serve_by c i r m place size) (serve_by c i r m place size)
    (accept (wrote place) (record { set = r.set; register = higher r.register m.replica.register }))

abbrev pub register_alone : Store
register_alone = with_serve serve_register
