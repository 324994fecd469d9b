-- What each server received and gave: nothing, and by a ledger.
use Rattle.std.specs.Prelude.{◌≡◌}
use Rattle.quorums.specs.Tables.{table}
use Rattle.ledger.specs.declared.ledger.Ledger.{Ledger}
use Rattle.ledger.specs.Ledgers.{received_of, given_of}
use Rattle.ledger.specs.Sums.{no_sums}
use Rattle.reader.specs.declared.tally.Tally.{Tally}

abbrev pub NoSums : Tally → Type 0
NoSums t = (t.received ≡ no_sums) × (t.given ≡ no_sums)

abbrev pub SumsOf : Ledger → Tally → Type 0
SumsOf l t = (t.received ≡ table 16 (received_of l)) × (t.given ≡ table 16 (given_of l))
