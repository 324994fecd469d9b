-- Operations: what their test says, and those that pass it.
use Prim.Native.Nat.{ℕ, ◌^◌, ◌≤◌, ◌<◌}
use native.Mathlib.Omega.{arith}
use mathlib.Core.Path.{◌≡◌, refl}
use mathlib.Core.Logic.{⊎_elim}
use mathlib.Core.Bool.{Bool, true, false, cond}
use borrow.Author.Tests.{eq-eqb, ne_eqb, eqb-true, le-leb, leb-true, lt-ltb}
use lib.Dec.{eqb, leb}
use lib.Pow.{pow_pos}
use Rattle.quorums.proofs.Tests.{le-or-lt, both}
use Rattle.config.specs.Cluster.{valid_of}
use Rattle.config.specs.declared.cluster.Config.{Config}
use Rattle.ledger.specs.Maps.{map_of}
use Rattle.message.specs.Cursors.{within}
use Rattle.replica.specs.Values.{value_fits}
use Rattle.replica.specs.Registers.{register_fits}
use Rattle.replica.proofs.Values.{empty-typed, empty-fits}
use Rattle.replica.proofs.Registers.{start-typed, start_fits}
use Rattle.desk.specs.declared.operation.Operation.{Operation}
use Rattle.desk.specs.Operations.{none, running, ended, reading, writing, no_operation, mode_lawful, kind_lawful, phase_lawful, fits as fits_operation, Typed}

-- An operation that passes the test, in a round.
pub record FitsOperation (c : Config) (round : ℕ) (o : Operation) : Type 0 where
  pub mode-in : mode_lawful o.mode round ≡ true
  pub kind-in : kind_lawful o.mode o.kind ≡ true
  pub phase-in : phase_lawful o.mode o.phase ≡ true
  pub answered-in : map_of c o.answered ≡ true
  pub restarts-in : o.restarts ≤ round
  pub value-fits : value_fits o.value ≡ true
  pub chosen-fits : register_fits c o.chosen ≡ true

pub operation-told : (c : Config) (round : ℕ) (o : Operation) → fits_operation c round o ≡ true → FitsOperation c round o
unfolding fits_operation
operation-told c round o e =
    let m = both (mode_lawful o.mode round) _ e in
    let k = both (kind_lawful o.mode o.kind) _ m.1 in
    let p = both (phase_lawful o.mode o.phase) _ k.1 in
    let a = both (map_of c o.answered) _ p.1 in
    let r = both (leb o.restarts round) _ a.1 in
    let v = both (value_fits o.value) _ r.1 in
    record {
      mode-in = m.0;
      kind-in = k.0;
      phase-in = p.0;
      answered-in = a.0;
      restarts-in = leb-true o.restarts round r.0;
      value-fits = v.0;
      chosen-fits = v.1;
    }

pub told-operation : (c : Config) (round : ℕ) (o : Operation) → FitsOperation c round o → fits_operation c round o ≡ true
unfolding fits_operation
told-operation c round o t =
    simp (
      t.mode-in,
      t.kind-in,
      t.phase-in,
      t.answered-in,
      le-leb o.restarts round t.restarts-in,
      t.value-fits,
      t.chosen-fits,
    )

-- ---- modes

pub mode-none : (round : ℕ) → mode_lawful none round ≡ true
unfolding mode_lawful
mode-none round = by-test (eqb round 0)
  where
    by-test : (b : Bool) → cond b (eqb none none) (leb none ended) ≡ true
    by-test true = refl
    by-test false = refl

-- every mode is lawful from round 1 on
pub mode-later : (mode round : ℕ) → mode ≤ ended → 1 ≤ round → mode_lawful mode round ≡ true
unfolding mode_lawful
mode-later mode round h l = rw (ne_eqb round 0 (λ e. omega arith)) (le-leb mode ended h)

-- and one runs only there
pub running-later : (mode round : ℕ) → mode_lawful mode round ≡ true → mode ≡ running → 1 ≤ round
unfolding mode_lawful
running-later mode round e m =
    ⊎_elim (λ (z : round ≤ 0). absurd (omega (arith, eqb-true mode none (rw (eq-eqb round 0 (omega arith)) at e)))) (λ (p : 0 < round). p)
    (le-or-lt round 0)

-- ---- kinds

-- the kind of an operation that runs is one
pub kind-told : (mode kind : ℕ) → kind_lawful mode kind ≡ true → mode ≡ running → within reading writing kind ≡ true
unfolding kind_lawful within
kind-told mode kind e m =
    let k = both (leb kind writing) _ e in
    let least : leb reading kind ≡ true = rw (ne_eqb mode none (λ z. omega arith)) at k.1 in
    rw least k.0

-- and one that is one is lawful with every mode
pub kind_fits : (mode kind : ℕ) → within reading writing kind ≡ true → kind_lawful mode kind ≡ true
unfolding kind_lawful within
kind_fits mode kind w =
    let k = both (leb reading kind) _ w in
    rw (k.1, k.0) (by-test (eqb mode none))
  where
    by-test : (b : Bool) → cond b true true ≡ true
    by-test true = refl
    by-test false = refl

-- in every mode, kind and phase are at most 2

pub kind-most : (mode kind : ℕ) → kind_lawful mode kind ≡ true → kind ≤ writing
unfolding kind_lawful
kind-most mode kind e = leb-true kind writing (both (leb kind writing) _ e).0

pub phase-most : (mode phase : ℕ) → phase_lawful mode phase ≡ true → phase ≤ 2
unfolding phase_lawful
phase-most mode phase e = leb-true phase 2 (both (leb phase 2) _ e).0

-- ---- answered servers

-- a map of a cluster may name no server
pub none-answered : (c : Config) → valid_of c ≡ true → map_of c 0 ≡ true
unfolding map_of
none-answered c v = rw v (lt-ltb 0 (2 ^ c.n) (pow_pos c.n))

-- ---- no operation, and one that begins

pub none-fits : (c : Config) (round : ℕ) → valid_of c ≡ true → fits_operation c round no_operation ≡ true
unfolding kind_lawful phase_lawful
none-fits c round v =
    told-operation c round no_operation (record {
      mode-in = mode-none round;
      kind-in = refl;
      phase-in = refl;
      answered-in = none-answered c v;
      restarts-in = omega arith;
      value-fits = empty-fits;
      chosen-fits = start_fits c;
    })

pub none-typed : Typed no_operation
none-typed = record {
  mode-fits = omega arith;
  note-fits = omega arith;
  restarts-fits = omega arith;
  kind_fits = omega arith;
  phase-fits = omega arith;
  answered-fits = omega arith;
  value-typed = empty-typed;
  chosen-typed = start-typed;
}
