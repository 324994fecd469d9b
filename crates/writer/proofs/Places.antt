-- Laws of `onto`: writing nothing, and one part after the other, each from the place after the one before it. The writers of fields, straight on or in a
-- loop, are one argument: of m parts a pen has written the first n.
use Prim.Native.Nat.{ℕ, zero, suc, ◌+◌, ◌≤◌, ◌<◌}
use native.Mathlib.Numerals.{add-one}
use native.Mathlib.Omega.{arith}
use mathlib.Core.Path.{◌≡◌, refl, sym, ap, ◌∙◌}
use mathlib.Core.Logic.{⊎_elim}
use mathlib.Core.List.{List, [], ◌++◌, append_assoc, append-nil}
use lib.ListN.{length, take, drop, length-append, length-take, length-drop, take-append-drop}
use lib.Seq.{length-take-le, take_at, drop_at, take-take, take-append-le, drop-drop}
use Rattle.quorums.proofs.Sums.{below_suc}
use Rattle.format.specs.Bytes.{series}
use Rattle.format.proofs.Lengths.{series-next, series-le, series-fits}
use Rattle.message.specs.Answers.{over}
use Rattle.writer.specs.declared.pen.Pen.{Pen}
use Rattle.writer.specs.Places.{onto, HasRoom, Puts}

pub onto-nothing : (l : List ℕ) (at : ℕ) → onto [] l at ≡ l
unfolding onto over
onto-nothing l at = take-append-drop at l

pub onto-length : (e l : List ℕ) (at : ℕ) → at + length e ≤ length l → length (onto e l at) ≡ length l
unfolding onto over
onto-length e l at h = simp (length-append, length-take, length-drop) (omega arith)

-- e, and f after it: whichever is written first

module _ (e f l : List ℕ) (at : ℕ) where
  rest-drop : drop (length (e ++ f)) (drop at l) ≡ drop (length f) (drop (length e) (drop at l))
  rest-drop = rw (length-append, drop-drop (length f) (length e) (drop at l))

  pub onto-after : at ≤ length l → onto f (onto e l at) (at + length e) ≡ onto (e ++ f) l at
  unfolding onto over
  onto-after h =
      let rest : List ℕ = drop (length e) (drop at l) in
      let first : length (take at l ++ e) ≡ at + length e = simp (length-append, length-take-le) in
      rw (rest-drop, ← append_assoc (take at l) e rest, take_at (take at l ++ e) rest, drop_at (take at l ++ e) rest) (simp append_assoc)

  pub onto-before : at + length e ≤ length l → onto e (onto f l (at + length e)) at ≡ onto (e ++ f) l at
  unfolding onto over
  onto-before h =
      let front : List ℕ = take (at + length e) l in
      let back : List ℕ = f ++ drop (length f) (drop (at + length e) l) in
      let long : length front ≡ at + length e = length-take-le (at + length e) l h in
      let first : take at (front ++ back) ≡ take at l = take-append-le at front back (omega arith) ∙ take-take at (at + length e) l (omega arith) in
      let second : drop (length e) (drop at (front ++ back)) ≡ back = drop-drop (length e) at (front ++ back) ∙ drop_at front back (at + length e) long in
      rw (first, second, rest-drop, drop-drop (length e) at l) (simp append_assoc)

-- a, f with room for b before it, and then b
pub onto-between : (a b f l : List ℕ) (at p q : ℕ) → p ≡ at + length a → q ≡ p + length b → q ≤ length l
    → onto b (onto f (onto a l at) q) p ≡ onto (a ++ b ++ f) l at
onto-between a b f l at p q ep eq h =
    rw (eq, ep) (onto-before b f (onto a l at) (at + length a) (omega (arith, onto-length a l at (omega arith))))
    ∙ onto-after a (b ++ f) l at (omega arith)
    ∙ ap (λ x. onto x l at) (sym (append_assoc a b f))

-- parts from k on that have no bytes
series-cut : (n k : ℕ) (f : ℕ → List ℕ) → k ≤ n → ((i : ℕ) → k ≤ i → i < n → f i ≡ []) → series n f ≡ series k f
series-cut zero k f l none = let e : k ≡ 0 = omega arith in rw e refl
series-cut (suc n) k f l none =
    ⊎_elim (λ (d : k ≡ suc n). rw d refl)
    (λ (d : k < suc n).
    series-next n f
    ∙ ap (λ x. series n f ++ x) (none n (omega arith) (omega arith))
    ∙ append-nil (series n f)
    ∙ series-cut n k f (omega arith) (λ i a b. none i a (omega arith)))
    (below_suc (omega arith))

-- nothing is written
pub puts-nothing : {e : List ℕ} {p : Pen} → e ≡ [] → Puts e p p
puts-nothing {e} {p} none = record { written = rw none (sym (onto-nothing p.out.now p.at)); place = rw none (omega arith); same = refl }

-- of m parts the first n are written by the pen p, which is then q
pub record Written (n m : ℕ) (part : ℕ → List ℕ) (p q : Pen) : Type 0 where
  pub puts : Puts (series n part) p q
  pub room : HasRoom (series m part) p

pub written_none : (m : ℕ) (part : ℕ → List ℕ) (p : Pen) → HasRoom (series m part) p → Written 0 m part p p
unfolding series
written_none m part p h = record { puts = puts-nothing refl; room = h }

module _ {n m : ℕ} {part : ℕ → List ℕ} {p q : Pen} (w : Written n m part p q) where
  -- the next part has room
  pub written-room : n < m → HasRoom (part n) q
  written-room h =
      let fits = series-fits n m part h in
      let long = onto-length (series n part) p.out.now p.at (omega (arith, w.room.room, series-le n m part (omega arith))) in
      record { room = omega (arith, w.puts.place, w.room.room, fits, ap length w.puts.written, long) }

  -- and a pen that writes it writes one part more
  pub written_next : {r : Pen} → Puts (part n) q r → Written (n + 1) m part p r
  written_next put =
      let e : series (n + 1) part ≡ series n part ++ part n = rw add-one (series-next n part) in
      let puts = w.puts in
      record {
        puts = record {
          written = put.written ∙ rw (puts.written, puts.place, e) (onto-after (series n part) (part n) p.out.now p.at (omega (arith, w.room.room)));
          place = rw (e, length-append) (omega (arith, puts.place, put.place));
          same = put.same ∙ puts.same;
        };
        room = w.room;
      }

  -- and so are all, where the others have no bytes
  pub written-rest : n ≤ m → ((k : ℕ) → n ≤ k → k < m → part k ≡ []) → Written m m part p q
  written-rest h none = record { puts = rw (series-cut m n part h none) w.puts; room = w.room }

  -- all parts, which make e
  pub written_all : {e : List ℕ} → n ≡ m → series m part ≡ e → Puts e p q
  written_all {e} done whole =
      let s : series n part ≡ e = rw done whole in
      rw s at w.puts
