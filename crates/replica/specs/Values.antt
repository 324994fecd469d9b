-- Values of registers: 0 to 64 bytes (paper 01, "Sheets"), kept in an array of 64 bytes with a length.
use Rattle.std.specs.Prelude.{ℕ, ◌+◌, ◌≤◌, min, ◌≡◌, Bool, true, false, cond, List, eqb, ltb, leb, length, get_or, replicate}
use Rattle.quorums.specs.Sum.{all}
use Rattle.quorums.specs.Tables.{table}
use Rattle.replica.specs.declared.value.Value.{Value}

-- the most bytes that a value has
abbrev pub most_value : ℕ
most_value = 64

-- Whether a value may be held, written and sent: the one test of a value, for each call and every field that has one.
unfoldable pub value_fits : Value → Bool
value_fits v = leb v.length most_value

-- the bytes of a value, as many as its length says; past the array, where no value that fits reaches, they are 0
unfoldable pub bytes_of : Value → List ℕ
bytes_of v = table v.length (λ k. get_or v.bytes k 0)

-- the value with the bytes of a list, and zeros after them; of a longer list the first 64, at the length 65, so that it doesn't fit
unfoldable pub value_of : List ℕ → Value
value_of l = record { length = min (length l) (most_value + 1); bytes = table 64 (λ k. get_or l k 0) }

abbrev pub empty_value : Value
empty_value = record { length = 0; bytes = replicate 64 0 }

-- the same value with zeros after its bytes
unfoldable pub trimmed : Value → Value
trimmed v = record { length = v.length; bytes = table 64 (λ k. get_or (bytes_of v) k 0) }

-- whether two values of one length, with the bytes x and y at k, are the same there
unfoldable pub same_byte : ℕ → ℕ → ℕ → ℕ → Bool
same_byte k n x y = cond (ltb k n) (eqb x y) true

abbrev pub same_at : Value → Value → ℕ → Bool
same_at a b k = same_byte k a.length (get_or a.bytes k 0) (get_or b.bytes k 0)

-- whether two values have the same bytes
unfoldable pub same : Value → Value → Bool
same a b = cond (eqb a.length b.length) (all 64 (same_at a b)) false

-- A value that a call can have: the array has its length, and each number fits its type.
pub record Typed (v : Value) : Type 0 where
  pub bytes-length : length v.bytes ≡ 64
  pub length-fits : v.length ≤ 65535
  pub byte_fits : (k : ℕ) → get_or v.bytes k 0 ≤ 255
