-- What a step answers says of the cursor that its definition leaves: it is clean, or it has the number of the refusal. A step from a clean cursor is one from
-- its place, and every step keeps a number that isn't 0.
use Rattle.std.specs.Prelude.{Result, Ok, Err, IfOk, IsErr, IsErrAnd}
use Prim.Native.Nat.{ℕ, zero, suc}
use native.Mathlib.Omega.{arith}
use mathlib.Core.Path.{◌≡◌, refl, sym, ap, ◌∙◌}
use mathlib.Core.Bool.{Bool, true, false, cond}
use mathlib.Core.List.{List}
use borrow.Author.Tests.{eq-eqb, ne_eqb, eqb-true}
use lib.Dec.{eqb}
use Rattle.config.specs.Refusals.{refusal}
use Rattle.config.specs.declared.answer.Refusal.{Refusal}
use Rattle.message.specs.Cursors.{Cursor, read_bytes, read_number, skip, require}
use Rattle.message.proofs.Stuck.{Stuck, read_number-stuck, require-stuck}
use Rattle.reader.specs.Steps.{outcome, at_place, read_answer, place_answer, on_ok}
use Rattle.reader.specs.declared.step.Read.{Read}

-- A test keeps a number that is there already.
pub require-stays : (ok : Bool) (k : ℕ) (c : Cursor) → (c.number ≡ 0 → ⊥) → require ok k c ≡ c
unfolding require
require-stays ok k c h = simp (ne_eqb _ _ h)

-- The cursor has a number, which is that of a refusal.
pub record Refused (c : Cursor) (r : Refusal) : Type 0 where
  pub some : c.number ≡ 0 → ⊥
  pub is : r ≡ refusal c.number

-- The cursor has no number. It stands at a place, after a number x.
pub record Clean (c : Cursor) (at x : ℕ) : Type 0 where
  pub none : c.number ≡ 0
  pub here : c.at ≡ at
  pub found : c.x ≡ x

pub clean-is : {c : Cursor} {at x : ℕ} → Clean c at x → c ≡ record { number = 0; at = at; x = x }
clean-is h = rw (← h.none, ← h.here, ← h.found) refl

-- ---- answers

module _ {A : Type 0} (k : ℕ) (y : A) where
  by_test : (b : Bool) → eqb k 0 ≡ b → (x : A) → Ok x ≡ cond b (Ok y) (Err (refusal k)) → (k ≡ 0) × (x ≡ y)
  by_test true t x e = (eqb-true k 0 t, cc)
  by_test false t x e = cc

  no-test : (b : Bool) → eqb k 0 ≡ b → (r : Refusal) → Err r ≡ cond b (Ok y) (Err (refusal k)) → (k ≡ 0 → ⊥) × (r ≡ refusal k)
  no-test true t r e = cc
  no-test false t r e = (λ z. let d : true ≡ false = sym (eq-eqb k 0 z) ∙ t in cc, cc)

  pub outcome-ok : (x : A) → Ok x ≡ outcome k y → (k ≡ 0) × (x ≡ y)
  unfolding outcome
  outcome-ok x e = by_test (eqb k 0) refl x e

  pub outcome-err : (r : Refusal) → Err r ≡ outcome k y → (k ≡ 0 → ⊥) × (r ≡ refusal k)
  unfolding outcome
  outcome-err r e = no-test (eqb k 0) refl r e

  pub answer-ok : (x : A) → k ≡ 0 → x ≡ y → Ok x ≡ outcome k y
  unfolding outcome
  answer-ok x z e = rw (z, e) refl

  pub answer-err : (r : Refusal) → (k ≡ 0 → ⊥) → r ≡ refusal k → Err r ≡ outcome k y
  unfolding outcome
  answer-err r n e = rw (ne_eqb k 0 n, e) refl

pub read-clean : (c : Cursor) (r : Read) → Ok r ≡ read_answer c → Clean c r.at r.x
read-clean c r e =
    let told = outcome-ok c.number _ r e in
    record { none = told.0; here = sym (ap (λ (x : Read). x.at) told.1); found = sym (ap (λ (x : Read). x.x) told.1) }

pub read-refused : (c : Cursor) (r : Refusal) → Err r ≡ read_answer c → Refused c r
read-refused c r e = let told = outcome-err c.number _ r e in record { some = told.0; is = told.1 }

pub refused-answer : {A : Type 0} (c : Cursor) (r : Refusal) (y : A) → Refused c r → Err r ≡ outcome c.number y
refused-answer c r y h = answer-err c.number y r h.some h.is

-- ---- steps from a clean cursor

module _ {c : Cursor} {at x : ℕ} (h : Clean c at x) where
  pub same-number : (msg : List ℕ) (s w low high : ℕ) → read_number msg s w low high (at_place at) ≡ read_number msg s w low high c
  unfolding read_number read_bytes
  same-number msg s w low high = simp (h.none, h.here)

  pub next-clean : (msg : List ℕ) (s w low high : ℕ) (r : Read) → Ok r ≡ read_answer (read_number msg s w low high (at_place at))
      → Clean (read_number msg s w low high c) r.at r.x
  next-clean msg s w low high r e = rw (← same-number msg s w low high) (read-clean _ r e)

  pub next-refused : (msg : List ℕ) (s w low high : ℕ) (r : Refusal) → Err r ≡ read_answer (read_number msg s w low high (at_place at))
      → Refused (read_number msg s w low high c) r
  next-refused msg s w low high r e = rw (← same-number msg s w low high) (read-refused _ r e)

  -- the same of a number that stands where t isn't 0
  pub stood-clean : (msg : List ℕ) (s w low high : ℕ) (r : Read) {t : ℕ} → t ≡ s → Ok r ≡ read_answer (read_number msg t w low high (at_place at))
      → Clean (read_number msg s w low high c) r.at r.x
  stood-clean msg s w low high r t e = next-clean msg s w low high r (rw t at e)

  pub stood-refused : (msg : List ℕ) (s w low high : ℕ) (r : Refusal) {t : ℕ} → t ≡ s → Err r ≡ read_answer (read_number msg t w low high (at_place at))
      → Refused (read_number msg s w low high c) r
  stood-refused msg s w low high r t e = next-refused msg s w low high r (rw t at e)

  same-skip : (msg : List ℕ) (w : ℕ) → skip msg w (at_place at) ≡ skip msg w c
  unfolding skip
  same-skip msg w = simp (h.none, h.here)

  pub skip-refused : (msg : List ℕ) (w : ℕ) (r : Refusal) {v : ℕ} → v ≡ w → Err r ≡ place_answer (skip msg v (at_place at)) → Refused (skip msg w c) r
  skip-refused msg w r v e = rw (← same-skip msg w) (let told = outcome-err _ _ r (rw v at e) in record { some = told.0; is = told.1 })

  pub skip-clean : (msg : List ℕ) (w end : ℕ) {v : ℕ} → v ≡ w → Ok end ≡ place_answer (skip msg v (at_place at))
      → ((skip msg w c).number ≡ 0) × ((skip msg w c).at ≡ end)
  skip-clean msg w end v e = rw (← same-skip msg w) (let told = outcome-ok _ _ end (rw v at e) in (told.0, sym told.1))

  pub test-clean : (ok : Bool) (k : ℕ) → ok ≡ true → Clean (require ok k c) at x
  unfolding require
  test-clean ok k e = simp (h.none, e) h

  pub test-refused : (ok : Bool) (k : ℕ) → ok ≡ false → Refused (require ok (suc k) c) (refusal (suc k))
  unfolding require
  test-refused ok k e = simp (h.none, e) (record { some = λ z. omega (arith, z); is = refl })

-- ---- steps from one that has a number

-- what keeps every number keeps a refusal
pub keeps-refused : {c d : Cursor} {r : Refusal} → ((k : ℕ) → Stuck c k → Stuck d k) → Refused c r → Refused d r
keeps-refused {c} {d} {r} keeps h = by_number c.number refl
  where
    by_number : (n : ℕ) → c.number ≡ n → Refused d r
    by_number zero e = absurd (h.some e)
    by_number (suc k) e =
        let has = (keeps k (record { has = e })).has in
        record { some = λ z. omega (arith, z, has); is = h.is ∙ ap refusal (e ∙ sym has) }

pub number-refused : (msg : List ℕ) (s w low high : ℕ) {c : Cursor} {r : Refusal} → Refused c r → Refused (read_number msg s w low high c) r
number-refused msg s w low high {c} h = keeps-refused (read_number-stuck msg s w low high c) h

pub require-refused : (ok : Bool) (k : ℕ) {c : Cursor} {r : Refusal} → Refused c r → Refused (require ok k c) r
require-refused ok k {c} h = keeps-refused (require-stuck ok k c) h

-- ---- what a call hands back: the refusal of a call within it

same-refusal : {A : Type 0} (x : Result A Refusal) (r : Refusal) → IsErr x × IsErrAnd x (λ e. e ≡ r) → x ≡ Err r
same-refusal (Ok a) r e = let z : false ≡ true = e.0 in cc
same-refusal (Err k) r e = ap Err e.1

pub passed-on : {A : Type 0} {r : Refusal} {x y : Result A Refusal} → IsErr x × IsErrAnd x (λ e. e ≡ r) → Err r ≡ y → x ≡ y
passed-on {r = r} {x = x} e f = same-refusal x r e ∙ f

pub handed-back : {A : Type 0} {r : Refusal} {x y : Result A Refusal} (P : A → Type 0) → IsErr x × IsErrAnd x (λ e. e ≡ r) → Err r ≡ y → (x ≡ y) × IfOk x P
handed-back {r = r} {x = x} P e f = rw (same-refusal x r e) (f, tt)

-- the same where the contract speaks of f of what was found
pub handed-on : {A B : Type 0} {r : Refusal} {y : Result B Refusal} (f : A → B) (x : Result A Refusal) → IsErr x × IsErrAnd x (λ e. e ≡ r) → Err r ≡ y → on_ok f x ≡ y
handed-on {r = r} f x e g = rw (same-refusal x r e) g

pub handed-back_on : {A B : Type 0} {r : Refusal} {y : Result B Refusal} (f : A → B) (P : A → Type 0) (x : Result A Refusal) → IsErr x × IsErrAnd x (λ e. e ≡ r) → Err r ≡ y
    → (on_ok f x ≡ y) × IfOk x P
handed-back_on {r = r} f P x e g = rw (same-refusal x r e) (g, tt)
