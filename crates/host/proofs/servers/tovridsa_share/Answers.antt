-- `tovridsa_share` meets its contract: the place that is written to ends within the buffer.
use Rattle.host.specs.Codes.{Within}
use Rattle.host.proofs.Places.{share-ends}
use native.Mathlib.Omega.{arith}
use mathlib.Core.Path.{sym, subst}
use Rattle.host.proofs.servers.tovridsa_share.Goals as goal

pub of_answer-requires : goal.of_answer-requires
of_answer-requires c =
    let g = c.well_formed in
    subst (Within 9223372036854775808) (sym c.share.ensures.0) (share-ends _ _ _ _ (omega arith)).ends
