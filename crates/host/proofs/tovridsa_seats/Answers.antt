-- `tovridsa_seats` meets its contract: the seats of a block are few.
use mathlib.Core.Path.{sym, subst}
use Rattle.host.specs.Codes.{Within}
use Rattle.host.proofs.Small.{seats-within}
use Rattle.host.proofs.tovridsa_seats.Goals as goal

pub of_answer-requires : goal.of_answer-requires
of_answer-requires c = subst (Within 9223372036854775808) (sym c.on_offer.ensures) (seats-within _)
