-- What the test of an envelope says.
use mathlib.Core.Path.{◌≡◌}
use mathlib.Core.Bool.{true}
use lib.Dec.{ltb}
use Rattle.quorums.proofs.Tests.{both}
use Rattle.config.specs.declared.cluster.Config.{Config}
use Rattle.message.specs.declared.envelope.Envelope.{Envelope}
use Rattle.message.specs.Cursors.{within}
use Rattle.message.specs.Faults.{kind_number_fits, lawful}

-- An envelope that is lawful: the kind is one and has the fields that stand, and the server is one of the cluster.
pub record Lawful (c : Config) (e : Envelope) : Type 0 where
  pub kind-good : within 1 3 e.kind ≡ true
  pub fields-good : kind_number_fits e.kind e.desk e.round e.note ≡ true
  pub server-good : ltb e.server c.n ≡ true

pub lawful-told : (c : Config) (e : Envelope) → lawful c e ≡ true → Lawful c e
unfolding lawful
lawful-told c e l =
    let k = both (within 1 3 e.kind) _ l in
    let f = both (kind_number_fits e.kind e.desk e.round e.note) _ k.1 in
    record { kind-good = k.0; fields-good = f.0; server-good = f.1 }

pub told-lawful : (c : Config) (e : Envelope) → Lawful c e → lawful c e ≡ true
unfolding lawful
told-lawful c e l = simp (l.kind-good, l.fields-good, l.server-good)
