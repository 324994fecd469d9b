-- What a ledger keeps: a count or a cell more, and the whole sheet. And a function that is filled from the front, one value a turn.
use Prim.Native.Nat.{ℕ, ◌+◌, ◌*◌, ◌<◌}
use native.Mathlib.Omega.{arith}
use mathlib.Core.Path.{◌≡◌, refl, sym, ap, ◌∙◌}
use mathlib.Core.Bool.{Bool, true, false, cond}
use mathlib.Core.List.{List}
use borrow.Author.Tests.{eq-eqb, eqb-true}
use lib.Dec.{eqb}
use lib.ListN.{length, get_or, set, length-set}
use lib.Seq.{get_or-set_same, get_or-set_other}
use Rattle.ledger.specs.declared.ledger.Ledger.{Ledger}
use Rattle.reader.specs.Keeping.{put, KeptIn}

-- ---- a list, and a function that has its values

set_at : (l : List ℕ) (i x k m : ℕ) → i < length l → (b : Bool) → eqb k i ≡ b → get_or l k 0 ≡ m → get_or (set l i x) k 0 ≡ cond b x m
set_at l i x k m h true t e = let d : k ≡ i = eqb-true k i t in rw d (get_or-set_same l i x 0 h)
set_at l i x k m h false t e = get_or-set_other l i k x 0 (λ d. let z : true ≡ false = sym (eq-eqb k i d) ∙ t in cc) ∙ e

module _ {l : Ledger} {counts : ℕ → ℕ} {cells : ℕ → ℕ → ℕ} (h : KeptIn l counts cells) where
  pub kept-count : (i x : ℕ) → i < 16 → KeptIn (record { counts = set l.counts i x; cells = l.cells }) (put counts i x) cells
  unfolding put
  kept-count i x b =
      record {
        sixteen = simp length-set h.sixteen;
        square = h.square;
        counted = λ k m. set_at l.counts i x k _ (omega (arith, h.sixteen)) (eqb k i) refl (h.counted k m);
        filled = h.filled;
      }

  -- the row of the cell, and another row
  same-row : (i j x a b : ℕ) → i < 16 → j < 16 → b < 16 → a ≡ i → (q : Bool) → eqb b j ≡ q
      → get_or (set l.cells (i * 16 + j) x) (a * 16 + b) 0 ≡ cond q x (cells i b)
  same-row i j x a b m n s d true f =
      let e : a * 16 + b ≡ i * 16 + j = omega (arith, eqb-true b j f) in
      rw e (get_or-set_same l.cells (i * 16 + j) x 0 (omega (arith, h.square)))
  same-row i j x a b m n s d false f =
      get_or-set_other l.cells (i * 16 + j) (a * 16 + b) x 0 (λ z. let u : true ≡ false = sym (eq-eqb b j (omega (arith, z, d))) ∙ f in cc)
      ∙ h.filled a b (omega arith) s
      ∙ ap (λ k. cells k b) d

  cell_at : (i j x a b : ℕ) → i < 16 → j < 16 → a < 16 → b < 16 → (p : Bool) → eqb a i ≡ p
      → get_or (set l.cells (i * 16 + j) x) (a * 16 + b) 0 ≡ cond p (put (cells i) j x) (cells a) b
  unfolding put
  cell_at i j x a b m n r s true e = same-row i j x a b m n s (eqb-true a i e) (eqb b j) refl
  cell_at i j x a b m n r s false e =
      get_or-set_other l.cells (i * 16 + j) (a * 16 + b) x 0 (λ z. let u : true ≡ false = sym (eq-eqb a i (omega (arith, z))) ∙ e in cc) ∙ h.filled a b r s

  pub kept-cell : (i j x : ℕ) → i < 16 → j < 16 → KeptIn (record { counts = l.counts; cells = set l.cells (i * 16 + j) x }) counts (put cells i (put (cells i) j x))
  unfolding put
  kept-cell i j x m n =
      record {
        sixteen = h.sixteen;
        square = simp length-set h.square;
        counted = h.counted;
        filled = λ a b r s. cell_at i j x a b m n r s (eqb a i) refl;
      }
