-- The ledger (paper 01: sheet): a count for each giver and what each gave each taker, in one flat array.
use Rattle.std.specs.Prelude.{ℕ, ◌+◌, ◌*◌, ◌≤◌, ◌≡◌, List, length, get_or, take, drop, replicate, Err}
use Rattle.quorums.specs.Sum.{sum}
use Rattle.quorums.specs.Accounts.{Accounts}
use Rattle.config.specs.Cluster.{start_of}
use Rattle.config.specs.declared.cluster.Config.{Config}
use Rattle.config.specs.declared.answer.Refusal.{Refusal}
use Rattle.config.specs.Refusals.{granted}
use Rattle.ledger.specs.declared.ledger.Ledger.{Ledger}
use Rattle.ledger.specs.declared.ledger.Changed.{Changed}

-- no transfer
abbrev pub fresh_ledger : Ledger
fresh_ledger = record { counts = replicate 16 0; cells = replicate 256 0 }

-- a ledger of its counts and cells
abbrev pub ledger_of : List ℕ → List ℕ → Ledger
ledger_of counts cells = record { counts = counts; cells = cells }

-- how many transfers giver i made
abbrev pub count_of : Ledger → ℕ → ℕ
count_of l i = get_or l.counts i 0

-- what giver i gave taker j
abbrev pub cell_of : Ledger → ℕ → ℕ → ℕ
cell_of l i j = get_or l.cells (i * 16 + j) 0

-- what giver i gave each of the 16
abbrev pub row_of : Ledger → ℕ → List ℕ
row_of l i = take 16 (drop (i * 16) l.cells)

-- what server i gave, and what it received
unfoldable pub given_of : Ledger → ℕ → ℕ
given_of l i = sum 16 (λ j. cell_of l i j)

unfoldable pub received_of : Ledger → ℕ → ℕ
received_of l i = sum 16 (λ j. cell_of l j i)

-- what each server started with, received and gave
abbrev pub accounts_of : Config → Ledger → Accounts
accounts_of c l = record { start = start_of c; received = received_of l; given = given_of l }

-- What a call that changes a ledger hands back: a refusal leaves the ledger as it was.

abbrev pub refused : Refusal → Ledger → Changed
refused r l = record { verdict = Err r; ledger = l }

abbrev pub accepted : Ledger → Changed
accepted l = record { verdict = granted; ledger = l }

-- The arrays of a ledger have their lengths.
pub record Shaped (l : Ledger) : Type 0 where
  pub sixteen-counts : length l.counts ≡ 16
  pub all-cells : length l.cells ≡ 256

-- A ledger that a call can have: the arrays have their lengths, and each number fits its type.
pub record Typed (l : Ledger) : Type 0 where
  pub counts-length : length l.counts ≡ 16
  pub cells-length : length l.cells ≡ 256
  pub count_fits : (i : ℕ) → count_of l i ≤ 65535
  pub cell-fits : (k : ℕ) → get_or l.cells k 0 ≤ 4294967295
