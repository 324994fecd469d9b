-- Bytes written into a buffer from a place on, and what a pen writes.
use Rattle.std.specs.Prelude.{ℕ, ◌+◌, ◌≤◌, ◌≡◌, List, ◌++◌, length, take, drop}
use Rattle.message.specs.Answers.{over}
use Rattle.writer.specs.declared.pen.Pen.{Pen}

-- the buffer with e from the place `at` on, over as many bytes as e has
unfoldable pub onto : List ℕ → List ℕ → ℕ → List ℕ
onto e out at = take at out ++ over e (drop at out)

-- there is room for e after the pen's place
pub record HasRoom (e : List ℕ) (p : Pen) : Type 0 where
  pub room : p.at + length e ≤ length p.out.now

-- The pen p writes e, and is then q: it stands after e, in the same buffer.
pub record Puts (e : List ℕ) (p q : Pen) : Type 0 where
  pub written : q.out.now ≡ onto e p.out.now p.at
  pub place : q.at ≡ p.at + length e
  pub same : q.out.ghost_name ≡ p.out.ghost_name
