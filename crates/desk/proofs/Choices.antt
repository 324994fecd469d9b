-- The register that phase 1 chooses: one that a desk may hold, with a tag that is not below the one that was held.
use Prim.Native.Nat.{suc, ◌≤◌, ◌<◌}
use native.Mathlib.Omega.{arith}
use mathlib.Core.Path.{◌≡◌, refl}
use mathlib.Core.Bool.{Bool, true, false, cond, true≢false}
use borrow.Author.Tests.{eq-eqb, ne_eqb, eqb-true, lt-ltb, le-ltb, ltb-true, ltb-false, not-false}
use lib.Dec.{eqb}
use Rattle.quorums.proofs.Tests.{chosen-second}
use Rattle.config.specs.Cluster.{stamp_bytes, most_stamp}
use Rattle.replica.specs.declared.register.Register.{Register}
use Rattle.replica.specs.Registers.{below, register_fits, Typed as TypedRegister}
use Rattle.replica.proofs.Registers.{tagged-fits}
use Rattle.desk.specs.declared.record.Desk.{Desk}
use Rattle.desk.specs.Operations.{writing}
use Rattle.desk.specs.Desks.{fits, Typed}
use Rattle.desk.specs.Hears.{no_stamp, chosen_of}
use Rattle.desk.proofs.Operations.{operation-told}
use Rattle.desk.proofs.Desks.{fits_told, number-told}

-- that of a write, where r is held
abbrev written : Desk → Register → Register
written x r = record { stamp = suc r.stamp; desk = x.number; value = x.operation.value }

chosen-either : (P : Register → Type 0) (x : Desk) (r : Register) → (x.operation.kind ≡ writing → P (written x r)) → P r → P (chosen_of x r)
unfolding chosen_of
chosen-either P x r w h = by-test (eqb x.operation.kind writing) refl
  where
    by-test : (b : Bool) → eqb x.operation.kind writing ≡ b → P (cond b (written x r) r)
    by-test true e = w (eqb-true x.operation.kind writing e)
    by-test false e = h

-- a write has a stamp left
has-stamp : (x : Desk) (r : Register) → no_stamp x r ≡ false → x.operation.kind ≡ writing → r.stamp < most_stamp x.config
unfolding no_stamp
has-stamp x r e w = ltb-true r.stamp (most_stamp x.config) (not-false _ (rw (eq-eqb x.operation.kind writing w) at e))

pub stamp-left : (x : Desk) (r : Register) → no_stamp x r ≡ false → x.operation.kind ≡ writing → r.stamp < 4294967295
unfolding most_stamp stamp_bytes
stamp-left x r e w = has-stamp x r e w

written-fits : (x : Desk) (r : Register) → fits x ≡ true → r.stamp < most_stamp x.config → register_fits x.config (written x r) ≡ true
written-fits x r e left =
    let t = fits_told x e in
    tagged-fits x.config (written x r) (record {
      stamp-stands = omega arith;
      stamp-most = omega arith;
      desk-stands = (number-told x.number t.number_in).0;
      value-fits = (operation-told x.config x.round x.operation t.operation-fits).value-fits;
    })

pub chosen-fits : (x : Desk) (r : Register) → fits x ≡ true → no_stamp x r ≡ false → register_fits x.config r ≡ true
    → register_fits x.config (chosen_of x r) ≡ true
chosen-fits x r e s h =
    chosen-either (λ g. register_fits x.config g ≡ true) x r (λ w. written-fits x r e (has-stamp x r s w)) h

pub chosen-typed : (x : Desk) (r : Register) → Typed x → fits x ≡ true → no_stamp x r ≡ false → TypedRegister r → TypedRegister (chosen_of x r)
chosen-typed x r t e s h =
    chosen-either TypedRegister x r
    (λ w. record {
      stamp-fits = stamp-left x r s w;
      desk-fits = (number-told x.number (fits_told x e).number_in).1;
      value-typed = t.operation-typed.value-typed;
    })
    h

-- its tag is not below what that of r isn't below
pub chosen-above : (x : Desk) (r a : Register) → below r a ≡ false → below (chosen_of x r) a ≡ false
unfolding below
chosen-above x r a e = chosen-either (λ g. below g a ≡ false) x r (λ w. higher (ltb-false r.stamp a.stamp (chosen-second _ _ _ _ true≢false e))) e
  where
    higher : a.stamp ≤ r.stamp → below (written x r) a ≡ false
    higher h = simp (le-ltb (suc r.stamp) a.stamp (omega arith), ne_eqb (suc r.stamp) a.stamp (λ z. omega arith))

-- and that of a write is above what was held
pub chosen-raises : (x : Desk) (r : Register) → x.operation.kind ≡ writing → below r (chosen_of x r) ≡ true
unfolding chosen_of below
chosen-raises x r w = simp (eq-eqb x.operation.kind writing w, lt-ltb r.stamp (suc r.stamp) (omega arith))
