-- Registers: what their test says, the start is one that fits, the higher of two is one of them and below neither, and a register agrees with itself.
use Prim.Native.Nat.{ℕ, ◌+◌, ◌≤◌, ◌<◌}
use native.Mathlib.Omega.{arith}
use mathlib.Core.Path.{◌≡◌, refl}
use mathlib.Core.Bool.{Bool, true, false, cond}
use borrow.Author.Tests.{le-ltb, ltb-true, eq-eqb, ne_eqb, eqb-true, leb-true, le-leb}
use lib.Dec.{eqb, ltb, leb}
use lib.ListN.{get_or}
use Rattle.quorums.proofs.Tests.{both, test-false}
use Rattle.quorums.proofs.Sums.{each_all}
use Rattle.config.specs.Cluster.{stamp_bytes, most_stamp}
use Rattle.config.specs.declared.cluster.Config.{Config}
use Rattle.replica.specs.declared.value.Value.{Value}
use Rattle.replica.specs.declared.register.Register.{Register}
use Rattle.replica.specs.Values.{value_fits, same_byte, same_at, same}
use Rattle.replica.specs.Registers.{start_register, is_start, register_fits, below, higher, agree, Typed}
use Rattle.replica.proofs.Values.{empty-typed, short-fits}

-- ---- the start

pub start-typed : Typed start_register
start-typed = record { stamp-fits = omega arith; desk-fits = omega arith; value-typed = empty-typed }

pub start_fits : (c : Config) → register_fits c start_register ≡ true
unfolding register_fits is_start
start_fits c = refl

-- ---- the test

-- the start has no stamp, no desk and no byte
pub start-told : (r : Register) → is_start r ≡ true → (r.stamp ≡ 0) × (r.desk ≡ 0) × (r.value.length ≡ 0)
unfolding is_start
start-told r e =
    let s = both (eqb r.stamp 0) _ e in
    let d = both (eqb r.desk 0) _ s.1 in
    (eqb-true _ _ s.0, eqb-true _ _ d.0, eqb-true _ _ d.1)

pub start-shown : (r : Register) → r.stamp ≡ 0 → r.desk ≡ 0 → r.value.length ≡ 0 → is_start r ≡ true
unfolding is_start
start-shown r s d l = simp (eq-eqb _ _ s, eq-eqb _ _ d, eq-eqb _ _ l)

-- it fits
pub start-passes : (c : Config) (r : Register) → is_start r ≡ true → register_fits c r ≡ true
unfolding register_fits
start-passes c r e = simp e

-- a register that has a stamp or a desk is not the start
pub not_start : (r : Register) → (r.stamp + r.desk ≡ 0 → ⊥) → is_start r ≡ false
not_start r ne = test-false (is_start r) (λ e. let t = start-told r e in ne (omega (arith, t.0, t.1)))

-- What a register that fits has, unless it is the start: a tag, whose stamp the cluster has, and a value that fits.
pub record Tagged (c : Config) (r : Register) : Type 0 where
  pub stamp-stands : 1 ≤ r.stamp
  pub stamp-most : r.stamp ≤ most_stamp c
  pub desk-stands : 1 ≤ r.desk
  pub value-fits : value_fits r.value ≡ true

pub fits-tagged : (c : Config) (r : Register) → register_fits c r ≡ true → is_start r ≡ false → Tagged c r
unfolding register_fits
fits-tagged c r e n =
    let s = both (leb 1 r.stamp) _ (rw n at e) in
    let m = both (leb r.stamp (most_stamp c)) _ s.1 in
    let d = both (leb 1 r.desk) _ m.1 in
    record { stamp-stands = leb-true _ _ s.0; stamp-most = leb-true _ _ m.0; desk-stands = leb-true _ _ d.0; value-fits = d.1 }

pub tagged-fits : (c : Config) (r : Register) → Tagged c r → register_fits c r ≡ true
unfolding register_fits
tagged-fits c r t =
    simp (
      not_start r (λ z. omega (arith, t.stamp-stands)),
      le-leb 1 r.stamp t.stamp-stands,
      le-leb r.stamp (most_stamp c) t.stamp-most,
      le-leb 1 r.desk t.desk-stands,
      t.value-fits,
    )

-- every stamp that a register can have is one of the cluster's
pub typed-stamp : (c : Config) (r : Register) → Typed r → r.stamp ≤ most_stamp c
unfolding most_stamp stamp_bytes
typed-stamp c r t = t.stamp-fits

-- a register that fits has a value that does
pub fits-value : (c : Config) (r : Register) → register_fits c r ≡ true → value_fits r.value ≡ true
fits-value c r e = by-start (is_start r) refl
  where
    by-start : (b : Bool) → is_start r ≡ b → value_fits r.value ≡ true
    by-start true s = short-fits r.value (omega (arith, (start-told r s).2))
    by-start false s = (fits-tagged c r e s).value-fits

-- ---- the order of tags

pub below_self : (a : Register) → below a a ≡ false
unfolding below
below_self a = simp (le-ltb a.stamp a.stamp (omega arith), eq-eqb a.stamp a.stamp refl, le-ltb a.desk a.desk (omega arith))

-- a tag that another is below is not below it
pub below-back : (a b : Register) → below a b ≡ true → below b a ≡ false
unfolding below
below-back a b e = by-stamp (ltb a.stamp b.stamp) refl e
  where
    by-stamp : (t : Bool) → ltb a.stamp b.stamp ≡ t → cond t true (cond (eqb a.stamp b.stamp) (ltb a.desk b.desk) false) ≡ true
        → cond (ltb b.stamp a.stamp) true (cond (eqb b.stamp a.stamp) (ltb b.desk a.desk) false) ≡ false
    by-stamp true l d =
        let h : a.stamp < b.stamp = ltb-true _ _ l in
        simp (le-ltb b.stamp a.stamp (omega arith), ne_eqb b.stamp a.stamp (λ q. omega arith))
    by-stamp false l d =
        let p = both (eqb a.stamp b.stamp) (ltb a.desk b.desk) d in
        let s : a.stamp ≡ b.stamp = eqb-true _ _ p.0 in
        let h : a.desk < b.desk = ltb-true _ _ p.1 in
        simp (le-ltb b.stamp a.stamp (omega arith), eq-eqb b.stamp a.stamp (omega arith), le-ltb b.desk a.desk (omega arith))

-- ---- the higher of two

pub higher-either : (P : Register → Type 0) (a b : Register) → P a → P b → P (higher a b)
unfolding higher
higher-either P a b p q = by-test (below a b)
  where
    by-test : (t : Bool) → P (cond t b a)
    by-test true = q
    by-test false = p

-- it is below neither
pub higher-left : (a b : Register) → below (higher a b) a ≡ false
unfolding higher
higher-left a b = by-test (below a b) refl
  where
    by-test : (t : Bool) → below a b ≡ t → below (cond t b a) a ≡ false
    by-test true e = below-back a b e
    by-test false e = below_self a

pub higher-right : (a b : Register) → below (higher a b) b ≡ false
unfolding higher
higher-right a b = by-test (below a b) refl
  where
    by-test : (t : Bool) → below a b ≡ t → below (cond t b a) b ≡ false
    by-test true e = below_self b
    by-test false e = e

-- ---- equal tags have equal values

same_self : (v : Value) → same v v ≡ true
unfolding same same_byte
same_self v = rw (eq-eqb v.length v.length refl) (each_all 64 (same_at v v) (λ k h. own (ltb k v.length) (get_or v.bytes k 0)))
  where
    own : (b : Bool) (x : ℕ) → cond b (eqb x x) true ≡ true
    own true x = eq-eqb x x refl
    own false x = refl

pub agree-self : (a : Register) → agree a a ≡ true
unfolding agree
agree-self a = rw (eq-eqb a.stamp a.stamp refl, eq-eqb a.desk a.desk refl) (same_self a.value)

-- equal tags that agree have equal values
pub agree-told : (a b : Register) → agree a b ≡ true → a.stamp ≡ b.stamp → a.desk ≡ b.desk → same a.value b.value ≡ true
unfolding agree
agree-told a b e s d = rw (eq-eqb a.stamp b.stamp s, eq-eqb a.desk b.desk d) at e
