-- Bytes one after the other: what is ahead of a reader, and what is behind it.
use Prim.Native.Nat.{ℕ, ◌<◌}
use mathlib.Core.Path.{◌≡◌, sym, ap, ◌∙◌}
use mathlib.Core.List.{List, ◌++◌, append_assoc}
use Rattle.format.specs.Bytes.{series}
use Rattle.format.proofs.Lengths.{series-split}

-- two parts ahead, the second of which comes after the first
pub apart : (msg pre a b t : List ℕ) → msg ≡ pre ++ (a ++ b ++ t) → msg ≡ pre ++ (a ++ (b ++ t))
apart msg pre a b t m = m ∙ ap (λ l. pre ++ l) (append_assoc a b t)

-- a part ahead is then behind
pub past : (msg pre a t : List ℕ) → msg ≡ pre ++ (a ++ t) → msg ≡ pre ++ a ++ t
past msg pre a t m = m ∙ sym (append_assoc pre a t)

pub back : (msg pre a t : List ℕ) → msg ≡ pre ++ a ++ t → msg ≡ pre ++ (a ++ t)
back msg pre a t m = m ∙ append_assoc pre a t

-- behind one more part of a series
pub further : (msg pre t : List ℕ) (f : ℕ → List ℕ) (n k : ℕ) → k < n → msg ≡ pre ++ (series n f ++ t)
    → (r : List ℕ) × (msg ≡ pre ++ series k f ++ (f k ++ r))
further msg pre t f n k l m =
    let s = series-split k n f l in (
      s.0 ++ t,
      m
          ∙ ap (λ e. pre ++ (e ++ t)) s.1
          ∙ ap (λ e. pre ++ e) (append_assoc (series k f) (f k ++ s.0) t ∙ ap (λ e. series k f ++ e) (append_assoc (f k) s.0 t))
          ∙ sym (append_assoc pre (series k f) (f k ++ (s.0 ++ t))),
    )
