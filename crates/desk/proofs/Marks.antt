-- A map with one server more names that server and those that it named, and stays a map of the cluster.
use Rattle.std.specs.Int.Bits.{bit_or, bit_and, or_add_and}
use Rattle.std.proofs.lemmas.Nat.{or_disjoint}
use Rattle.std.proofs.lemmas.Nat.Bits.{and_pow}
use Rattle.std.specs.Int.{bit_at}
use Prim.Native.Nat.{ℕ, zero, suc, ◌+◌, ◌/◌, ◌%◌, ◌^◌, ◌≤◌, ◌<◌}
use native.Mathlib.Omega.{arith}
use mathlib.Core.Path.{◌≡◌, refl, sym, ap, ◌∙◌}
use mathlib.Core.Logic.{⊎_elim}
use mathlib.Core.Bool.{Bool, true, false, cond}
use borrow.Author.Tests.{eq-eqb, eqb-true, eqb-false, lt-ltb}
use lib.Dec.{eqb}
use Rattle.quorums.proofs.Tests.{le-or-lt}
use Rattle.format.specs.Bytes.{bit}
use Rattle.format.proofs.Marks.{bit-first}
use Rattle.config.specs.declared.cluster.Config.{Config}
use Rattle.ledger.specs.Maps.{named, map_of}
use Rattle.ledger.proofs.Maps.{map-valid, named-next}
use Rattle.desk.specs.Hears.{marked}

-- ---- bits, from the lowest on

named-first : (m : ℕ) → named m 0 ≡ eqb (m % 2) 1
unfolding named bit
named-first m = ap (λ x. eqb x 1) (bit-first m)

-- a map that does not name server 0 is even
even : (m : ℕ) → named m 0 ≡ false → m % 2 ≡ 0
even m e =
    let odd = eqb-false (m % 2) 1 (sym (named-first m) ∙ e) in
    ⊎_elim (λ (h : m % 2 ≤ 0). omega arith) (λ (h : 0 < m % 2). absurd (odd (omega arith))) (le-or-lt (m % 2) 0)

-- ---- 2 ^ i more

added-own : (m i : ℕ) → named m i ≡ false → named (m + 2 ^ i) i ≡ true
added-own m zero e = named-first (m + 1) ∙ eq-eqb ((m + 1) % 2) 1 (omega (arith, even m e))
added-own m (suc i) e =
    named-next (m + 2 ^ suc i) i ∙ ap (λ x. named x i) (omega arith) ∙ added-own (m / 2) i (sym (named-next m i) ∙ e)

added-other : (m i k : ℕ) → (k ≡ i → ⊥) → named m i ≡ false → named (m + 2 ^ i) k ≡ named m k
added-other m zero zero d e = absurd (d refl)
added-other m zero (suc k) d e = named-next (m + 1) k ∙ ap (λ x. named x k) (omega (arith, even m e)) ∙ sym (named-next m k)
added-other m (suc i) zero d e =
    let same : (m + 2 ^ suc i) % 2 ≡ m % 2 = omega arith in
    named-first (m + 2 ^ suc i) ∙ ap (λ x. eqb x 1) same ∙ sym (named-first m)
added-other m (suc i) (suc k) d e =
    named-next (m + 2 ^ suc i) k
    ∙ ap (λ x. named x k) (omega arith)
    ∙ added-other (m / 2) i k (λ z. d (ap suc z)) (sym (named-next m i) ∙ e)
    ∙ sym (named-next m k)

added-small : (n m i : ℕ) → i < n → m < 2 ^ n → named m i ≡ false → m + 2 ^ i < 2 ^ n
added-small zero m i l h e = absurd (omega arith)
added-small (suc n) m zero l h e = omega (arith, even m e)
added-small (suc n) m (suc i) l h e = omega (arith, added-small n (m / 2) i (omega arith) (omega arith) (sym (named-next m i) ∙ e))

-- ---- a server marked

marked-own : (m i : ℕ) → named (marked m i) i ≡ true
unfolding marked
marked-own m i = by-test (named m i) refl
  where
    by-test : (b : Bool) → named m i ≡ b → named (cond b m (m + 2 ^ i)) i ≡ true
    by-test true e = e
    by-test false e = added-own m i e

marked_other : (m i k : ℕ) → (k ≡ i → ⊥) → named (marked m i) k ≡ named m k
unfolding marked
marked_other m i k d = by-test (named m i) refl
  where
    by-test : (b : Bool) → named m i ≡ b → named (cond b m (m + 2 ^ i)) k ≡ named m k
    by-test true e = refl
    by-test false e = added-other m i k d e

-- it names server i, and of the others those that it named
pub marked-names : (m i k : ℕ) → named (marked m i) k ≡ cond (eqb k i) true (named m k)
marked-names m i k = by-test (eqb k i) refl
  where
    by-test : (b : Bool) → eqb k i ≡ b → named (marked m i) k ≡ cond b true (named m k)
    by-test true e = ap (named (marked m i)) (eqb-true k i e) ∙ marked-own m i
    by-test false e = marked_other m i k (eqb-false k i e)

pub marked-small : (n m i : ℕ) → i < n → m < 2 ^ n → marked m i < 2 ^ n
unfolding marked
marked-small n m i l h = by-test (named m i) refl
  where
    by-test : (b : Bool) → named m i ≡ b → cond b m (m + 2 ^ i) < 2 ^ n
    by-test true e = h
    by-test false e = added-small n m i l h e

pub marked-map : (c : Config) (m i : ℕ) → i < c.n → map_of c m ≡ true → map_of c (marked m i) ≡ true
unfolding map_of
marked-map c m i l e = let v = map-valid c m e in rw v.0 (lt-ltb (marked m i) (2 ^ c.n) (marked-small c.n m i l v.1))

-- the bit of server i or-ed in
pub marked-or : (m i : ℕ) → bit_or m (2 ^ i) ≡ marked m i
unfolding marked named
marked-or m i = by-test (eqb (m / 2 ^ i % 2) 1) refl
  where
    by-test : (b : Bool) → eqb (m / 2 ^ i % 2) 1 ≡ b → bit_or m (2 ^ i) ≡ cond b m (m + 2 ^ i)
    by-test true e =
        let own : bit_at m i ≡ 1 = eqb-true (m / 2 ^ i % 2) 1 e in
        let both : bit_and m (2 ^ i) ≡ 2 ^ i = rw (and_pow, own) (omega arith) in
        omega (arith, both, or_add_and m (2 ^ i))
    by-test false e =
        let none : bit_at m i ≡ 0 = omega (arith, eqb-false (m / 2 ^ i % 2) 1 e) in
        let both : bit_and m (2 ^ i) ≡ 0 = rw (and_pow, none) (omega arith) in
        or_disjoint m (2 ^ i) both
