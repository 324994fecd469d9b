-- What the ledger's answer tells of a replica.
use Rattle.std.specs.Prelude.{Err}
use mathlib.Core.Path.{◌≡◌, refl}
use mathlib.Core.Bool.{Bool, true, false, cond}
use Rattle.config.specs.Cluster.{lawful_of}
use Rattle.config.specs.declared.cluster.Config.{Config}
use Rattle.config.specs.declared.answer.Refusal.{Refusal}
use Rattle.config.specs.Refusals.{granted}
use Rattle.ledger.specs.Checks.{bounded, above_floor, fits as ledger_fits, check_answer}
use Rattle.ledger.proofs.Checks.{check-told, check-refused, ledger-told}
use Rattle.replica.specs.declared.replica.Replica.{Replica}
use Rattle.replica.specs.Registers.{register_fits}
use Rattle.replica.specs.Replicas.{fits}

-- a replica whose ledger passes the check fits where its register does
pub passed-fits : (c : Config) (r : Replica) → check_answer c r.ledger ≡ granted → register_fits c r.register ≡ fits c r
unfolding fits
passed-fits c r e =
    let t = check-told c r.ledger e in
    let l = ledger-told c r.ledger t.1 in
    rw (t.0, l.0, l.1) refl

-- and one whose ledger does not pass it does not fit
pub refused-fits : (c : Config) (r : Replica) (k : Refusal) → check_answer c r.ledger ≡ Err k → false ≡ fits c r
unfolding fits ledger_fits
refused-fits c r k e = by_lawful (lawful_of c) refl
  where
    by_tests : (b f : Bool) → cond b f false ≡ false → false ≡ cond b (cond f (register_fits c r.register) false) false
    by_tests true f d = rw d refl
    by_tests false f d = refl

    by_lawful : (t : Bool) → lawful_of c ≡ t → false ≡ cond t (cond (bounded c r.ledger) (cond (above_floor c r.ledger) (register_fits c r.register) false) false) false
    by_lawful true v = by_tests (bounded c r.ledger) (above_floor c r.ledger) (check-refused c r.ledger k v e)
    by_lawful false v = refl
