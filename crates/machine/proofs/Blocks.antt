-- The blocks of seats that are written in runs by computation, here and in the crates above.
use Prim.Native.Nat.{ℕ}
use mathlib.Core.List.{List, [], ◌∷◌}
use lib.ListN.{replicate}
use Rattle.machine.specs.Parties.{Register}

-- sixteen seats of which fourteen are sold: FF FC
abbrev pub sale : List ℕ
sale = 255 ∷ 252 ∷ []

-- the register of desk 1's sale, where no write went before
abbrev pub sold : Register
sold = record { stamp = 1; desk = 1; value = sale }

-- all sixteen sold
abbrev pub full : List ℕ
full = 255 ∷ 255 ∷ []

-- a block as long as may be, and one a byte longer
abbrev pub longest : List ℕ
longest = replicate 64 0

abbrev pub too_long : List ℕ
too_long = replicate 65 0
