-- The register for one of the machine's: it passes the record test, is compared as the machine's is, and is found again by reading it.
use Prim.Native.Nat.{◌≤◌}
use native.Mathlib.Omega.{arith}
use mathlib.Core.Path.{◌≡◌, refl, sym, ap, ◌∙◌}
use mathlib.Core.Logic.{⊎_elim}
use mathlib.Core.Bool.{Bool, true, false, cond}
use borrow.Author.Tests.{eqb-true, le-leb}
use lib.Dec.{eqb}
use lib.ListN.{length}
use Rattle.config.specs.Cluster.{most_stamp}
use Rattle.config.specs.declared.cluster.Config.{Config}
use Rattle.replica.specs.declared.register.Register.{Register as Kept}
use Rattle.replica.specs.Values.{bytes_of, value_of, same}
use Rattle.replica.specs.Registers.{start_register, register_fits, below, higher, agree, trimmed, Typed}
use Rattle.replica.proofs.Values.{bytes-of-value, value-of-none, value-fits, value-typed, trimmed-value}
use Rattle.replica.proofs.Registers.{start_fits, tagged-fits, agree-self, agree-told}
use Rattle.machine.specs.Parties.{Register, start, below as plain_below, higher as plain_higher}
use Rattle.machine.specs.Views.{SameTag}
use Rattle.machine.proofs.Moves.{Seated}
use Rattle.machine.proofs.Ranges.{RegisterRange, stamp-fits}
use Rattle.runs.specs.Calls.{plain_register}
use Rattle.runs.proofs.Records.{register_for}

pub start-for : register_for start ≡ start_register
start-for = ap {B = Kept} (λ v. record { stamp = 0; desk = 0; value = v }) value-of-none

-- ---- tags

pub below-for : (a b : Register) → below (register_for a) (register_for b) ≡ plain_below a b
unfolding below plain_below
below-for a b = refl

pub higher-for : (a b : Register) → higher (register_for a) (register_for b) ≡ register_for (plain_higher a b)
unfolding higher plain_higher
higher-for a b = rw (below-for a b) (by-test (plain_below a b))
  where
    by-test : (t : Bool) → cond t (register_for b) (register_for a) ≡ register_for (cond t b a)
    by-test true = refl
    by-test false = refl

-- equal tags have equal values
pub agree-for : (a b : Register) → (SameTag a b → a ≡ b) → agree (register_for a) (register_for b) ≡ true
unfolding agree
agree-for a b e = by_tests (eqb a.stamp b.stamp) (eqb a.desk b.desk) refl refl
  where
    by_tests : (s d : Bool) → eqb a.stamp b.stamp ≡ s → eqb a.desk b.desk ≡ d
        → cond s (cond d (same (value_of a.value) (value_of b.value)) true) true ≡ true
    by_tests true true s d =
        let is : a ≡ b = e (eqb-true _ _ s, eqb-true _ _ d) in
        ap (λ x. same (value_of a.value) (value_of x.value)) (sym is) ∙ agree-told (register_for a) (register_for a) (agree-self (register_for a)) refl refl
    by_tests true false s d = refl
    by_tests false d s k = refl

-- ---- within the ranges

module _ (c : Config) (g : Register) (w : RegisterRange c g) where
  -- its value is found again
  pub value-back : bytes_of (register_for g).value ≡ g.value
  value-back = bytes-of-value g.value w.short

  pub register-back : plain_register (register_for g) ≡ g
  register-back = ap {B = Register} (λ v. record { stamp = g.stamp; desk = g.desk; value = v }) value-back

  pub trimmed-for : trimmed (register_for g) ≡ register_for g
  trimmed-for = ap {B = Kept} (λ v. record { stamp = g.stamp; desk = g.desk; value = v }) (trimmed-value g.value w.short)

  pub register-fits : register_fits c (register_for g) ≡ true
  register-fits =
      ⊎_elim (λ (e : g ≡ start). ap (λ x. register_fits c (register_for x)) e ∙ ap (register_fits c) start-for ∙ start_fits c)
      (λ (t : (1 ≤ g.stamp) × (g.stamp ≤ most_stamp c) × Seated g.desk).
      tagged-fits c (register_for g) (record {
        stamp-stands = t.0;
        stamp-most = t.1;
        desk-stands = t.2.some;
        value-fits = value-fits g.value ∙ le-leb (length g.value) 64 w.short;
      }))
      w.tag

  pub register-typed : Typed (register_for g)
  register-typed =
      record {
        stamp-fits = omega (arith, stamp-fits c g w);
        desk-fits = ⊎_elim (λ (e : g ≡ start). omega (arith, ap (λ (x : Register). x.desk) e))
            (λ (t : (1 ≤ g.stamp) × (g.stamp ≤ most_stamp c) × Seated g.desk). t.2.most)
            w.tag;
        value-typed = value-typed g.value w.bytes;
      }
