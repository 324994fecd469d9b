-- A store in which a giver is weighed by gifts that it has not heard: by its own set and by gifts made to it of which it is told in some other way than by
-- a message.
use Rattle.std.specs.Prelude.{ℕ, cond, [], ◌∷◌, eqb}
use Rattle.config.specs.declared.cluster.Config.{Config}
use Rattle.machine.specs.Sets.{Transfers, union}
use Rattle.machine.specs.Parties.{Replica, Message}
use Rattle.machine.specs.Runs.{Outcome}
use Rattle.machine.specs.Calls.{given-away, transfer_by}
use Rattle.machine.specs.Steps.{Store}
use Rattle.machine.specs.Seen.{accepted}
use Rattle.nearmiss.specs.Parts.{with_transfer}

-- the gifts that server i takes
unfoldable pub gifts_to : ℕ → Transfers → Transfers
gifts_to i [] = []
gifts_to i (t ∷ a) = cond (eqb t.taker i) (t ∷ gifts_to i a) (gifts_to i a)

-- the transfer's answer is that of a server which had heard the gifts, and the transfer is put into its own set, which lacks them
unfoldable pub transfer_unheard : Transfers → Config → ℕ → Replica → ℕ → ℕ → Outcome Message Replica
transfer_unheard gifts c i r j d =
    let answer = (transfer_by c i (record { set = union r.set (gifts_to i gifts); register = r.register }) j d).answer in
    record { answer = answer; party = cond (accepted answer) (given-away r i j d) r; sent = [] }

abbrev pub unheard : Transfers → Store
unheard gifts = with_transfer (transfer_unheard gifts)
