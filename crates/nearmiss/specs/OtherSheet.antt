-- A store in which phase 2 counts a reply that was made on another sheet: a reply with a transfer that the desk lacks marks its server as if it were
-- on the desk's own sheet, and is not joined. In phase 1 such a reply restarts, as it should.
use Rattle.machine.specs.Parties.{Replica, Message, by-phase}
use Rattle.machine.specs.Calls.{restart, mark}
use Rattle.machine.specs.Steps.{Store}
use Rattle.nearmiss.specs.Parts.{with_hear, OnReply, hear_with}

-- the reply m as if it were made on the replica p
abbrev pub made_on : Replica → Message → Message
made_on p m = record { kind = m.kind; server = m.server; desk = m.desk; round = m.round; note = m.note; replica = p }

unfoldable pub count_other : OnReply
count_other c d x o m = by-phase o.phase (restart x o m) (λ r. mark c d x o (made_on x.replica m))

abbrev pub other_sheet : Store
other_sheet = with_hear (hear_with mark count_other)
