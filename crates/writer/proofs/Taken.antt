-- What is known of a message that the reader takes.
use Prim.Native.Nat.{◌≤◌}
use mathlib.Core.Path.{◌≡◌, ◌∙◌}
use mathlib.Core.Logic.{inl}
use lib.ListN.{length}
use Rattle.quorums.proofs.Sums.{sum-zero}
use Rattle.config.specs.declared.cluster.Config.{Config}
use Rattle.config.proofs.Clusters.{lawful-bounds}
use Rattle.ledger.specs.Ledgers.{given_of}
use Rattle.ledger.proofs.Totals.{cell-outside, count-empty}
use Rattle.replica.specs.declared.replica.Replica.{Replica}
use Rattle.replica.specs.Replicas.{Typed as TypedReplica}
use Rattle.replica.proofs.Values.{fits-short}
use Rattle.replica.proofs.Registers.{fits-value}
use Rattle.replica.proofs.Replicas.{fits_told}
use Rattle.message.specs.declared.envelope.Envelope.{Envelope}
use Rattle.message.specs.Envelopes.{Typed, message_of}
use Rattle.message.specs.Faults.{fault_of}
use Rattle.message.proofs.Faults.{fault-is-check}
use Rattle.message.proofs.Found.{taken-told}
use Rattle.message.proofs.Longest.{written-short}
use Rattle.writer.specs.Outlines.{Counted, CountsBelow}

-- it has at most 1,111 bytes and its value at most 64; there are at most 16 servers, no other has a count, and a row whose count is 0 is empty
pub record Taken (c : Config) (e : Envelope) (r : Replica) : Type 0 where
  pub not-long : length (message_of c e r) ≤ 1111
  pub short : r.register.value.length ≤ 64
  pub servers : c.n ≤ 16
  pub counted : Counted r.ledger
  pub below : CountsBelow c.n r.ledger

pub is-taken : (c : Config) (e : Envelope) (r : Replica) → Typed e → TypedReplica r → fault_of c e r ≡ 0 → Taken c e r
unfolding given_of
is-taken c e r te tr none =
    let clean = fault-is-check c e r te tr ∙ none in
    let told = fits_told c r ((taken-told c e r te tr).0 clean).1 in
    let given = count-empty c r.ledger in
    record {
      not-long = written-short c e r te tr clean;
      short = fits-short r.register.value (fits-value c r.register told.register-fits);
      servers = (lawful-bounds c told.lawful).most;
      counted = λ i h. (given i told.ledger-bounded h).0;
      below = λ i l h. (given i told.ledger-bounded h).1 (sum-zero 16 _ (λ j k. cell-outside c r.ledger i j told.ledger-bounded h k (inl l)));
    }
