-- The steps that a reader is made of (paper 01, "Message bytes": each number, map and value in turn, first 2 if short, then 4). A step leaves a
-- cursor that has a number where it is.
use Rattle.std.specs.Prelude.{ℕ, zero, suc, ◌+◌, ◌*◌, Bool, false, cond, List, length, get_or, eqb, leb}

-- Where a reader stands: the number of the first fault, 0 where there was none, the place of the next byte, and the number read last, 0 where none stood there.
pub record Cursor : Type 0 where
  pub number : ℕ
  pub at : ℕ
  pub x : ℕ

abbrev pub start : Cursor
start = record { number = 0; at = 0; x = 0 }

-- the cursor where it stands, with the number k
abbrev pub stay : ℕ → Cursor → Cursor
stay k c = record { number = k; at = c.at; x = 0 }

-- the number in the w bytes from a place on, high byte first
unfoldable pub number_at : List ℕ → ℕ → ℕ → ℕ
number_at msg at zero = 0
number_at msg at (suc w) = number_at msg at w * 256 + get_or msg (at + w) 0

unfoldable pub within : ℕ → ℕ → ℕ → Bool
within low high x = cond (leb low x) (leb x high) false

-- the w bytes from the cursor on are there, and hold a number from low to high
unfoldable pub read_bytes : List ℕ → ℕ → ℕ → ℕ → Cursor → Cursor
read_bytes msg w low high c =
    cond (leb (c.at + w) (length msg))
    (cond (within low high (number_at msg c.at w)) (record { number = 0; at = c.at + w; x = number_at msg c.at w }) (stay 4 c))
    (stay 2 c)

-- the same of a number that stands where s isn't 0
unfoldable pub read_number : List ℕ → ℕ → ℕ → ℕ → ℕ → Cursor → Cursor
read_number msg s w low high c = cond (eqb c.number 0) (cond (eqb s 0) (stay 0 c) (read_bytes msg w low high c)) (stay c.number c)

-- the w bytes of a value
unfoldable pub skip : List ℕ → ℕ → Cursor → Cursor
skip msg w c = cond (eqb c.number 0) (cond (leb (c.at + w) (length msg)) (record { number = 0; at = c.at + w; x = 0 }) (stay 2 c)) c

-- a test, and the number k where it fails
unfoldable pub require : Bool → ℕ → Cursor → Cursor
require ok k c = cond (eqb c.number 0) (cond ok c (stay k c)) c
