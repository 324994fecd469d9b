-- What each server received and gave, as two lists of 16 sums: weights need no more of a ledger.
use Rattle.std.specs.Prelude.{ℕ, ◌+◌, ◌*◌, ◌≤◌, ◌<◌, ◌≡◌, Bool, true, cond, List, eqb, ltb, length, get_or, replicate, Err, Ok}
use Rattle.quorums.specs.Sum.{sum, all}
use Rattle.quorums.specs.Accounts.{Accounts, weight}
use Rattle.config.specs.Cluster.{start_of, above_of, most_weight}
use Rattle.config.specs.Refusals.{by-verdict, Signed}
use Rattle.config.specs.declared.cluster.Config.{Config}
use Rattle.ledger.specs.declared.ledger.Ledger.{Ledger}
use Rattle.ledger.specs.Ledgers.{count_of, cell_of, received_of, given_of}
use Rattle.ledger.specs.Maps.{named}
use Rattle.ledger.specs.Weights.{margin_of}
use Rattle.ledger.specs.Checks.{check_answer}

-- nothing received, or nothing given
abbrev pub no_sums : List ℕ
no_sums = replicate 16 0

-- accounts with the start weights of a cluster
abbrev pub accounts_in : Config → List ℕ → List ℕ → Accounts
accounts_in c received given = record { start = start_of c; received = λ i. get_or received i 0; given = λ i. get_or given i 0 }

-- whether every weight is above the floor
abbrev pub all_above : Config → List ℕ → List ℕ → Bool
all_above c received given = all c.n (λ i. above_of c (weight (accounts_in c received given) i))

-- 16 sums, none above a bound: 68,719,476,720 for sums of 16 cells, 18,446,744,069,414,584,320 for sums that have room for one cell more in 64 bits
pub record Sums (most : ℕ) (l : List ℕ) : Type 0 where
  pub size : length l ≡ 16
  pub small : (k : ℕ) → get_or l k 0 ≤ most

-- two lists of what each server received, and of what it gave
pub record Weighs (c : Config) (l : Ledger) (received given : List ℕ) : Type 0 where
  pub takes : (i : ℕ) → i < c.n → get_or received i 0 ≡ received_of l i
  pub gives : (i : ℕ) → i < c.n → get_or given i 0 ≡ given_of l i

-- a list that has f at each of the servers below n that a map names
pub record Covers (n m : ℕ) (f : ℕ → ℕ) (l : List ℕ) : Type 0 where
  pub at : (i : ℕ) → i < n → named m i ≡ true → get_or l i 0 ≡ f i

-- ---- the record test in one pass: rows below n have a server each, and beyond them there is nothing

-- 1 where a is below b, else 0
unfoldable pub under : ℕ → ℕ → ℕ
under a b = cond (ltb a b) 1 0

-- what server j received from the servers below n
unfoldable pub received_from : ℕ → Ledger → ℕ → ℕ
received_from n l j = sum n (λ i. cell_of l i j)

-- what server i gave, of those below n
unfoldable pub given_below : ℕ → Ledger → ℕ → ℕ
given_below n l i = cond (ltb i n) (given_of l i) 0

-- the faults of a row that has a server: what it gave itself, and a total that is below its count or above 16,000 times that
unfoldable pub row_faults : Ledger → ℕ → ℕ
row_faults l i = get_or l.cells (i * 17) 0 + under (given_of l i) (count_of l i) + under (most_weight * count_of l i) (given_of l i)

-- 1 for a row with a cell that isn't 0, else 0
unfoldable pub filled_row : (ℕ → ℕ) → ℕ
filled_row cell = cond (all 16 (λ j. eqb (cell j) 0)) 0 1

-- what there is from n on: a row that is not empty, a column or a count
unfoldable pub beyond : ℕ → Ledger → ℕ → ℕ
beyond n l i = filled_row (cell_of l i) + received_from n l i + count_of l i

abbrev pub beyond_from : ℕ → Ledger → ℕ → ℕ
beyond_from n l i = cond (ltb i n) 0 (beyond n l i)

-- both together, which is 0 exactly where every count and cell is in range
unfoldable pub faults_of : ℕ → Ledger → ℕ
faults_of n l = sum n (row_faults l) + sum 16 (beyond_from n l)

-- the margin of a map, where the record test passes, and else what that test refuses
unfoldable pub margin_answer : Config → Ledger → ℕ → Signed
margin_answer c l m = by-verdict (check_answer c l) (Ok (margin_of c l m)) Err
