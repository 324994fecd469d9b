-- Which ledgers a party may hold or send (paper 01: the ranges of "Message bytes", and the floor).
use Rattle.std.specs.Prelude.{ℕ, ◌*◌, ◌/◌, ◌%◌, Bool, true, false, cond, not, leb, ltb, eqb, get_or, Err}
use Rattle.quorums.specs.Sum.{all}
use Rattle.config.specs.Cluster.{valid_of, above_of, most_weight}
use Rattle.config.specs.Answers.{judged}
use Rattle.config.specs.declared.cluster.Config.{Config}
use Rattle.config.specs.Refusals.{refusal, granted}
use Rattle.config.specs.Refusals.{Verdict}
use Rattle.ledger.specs.declared.ledger.Ledger.{Ledger}
use Rattle.ledger.specs.Ledgers.{count_of, given_of}
use Rattle.ledger.specs.Weights.{weight_of}

-- whether the cell at k, of giver k / 16 and taker k % 16, may hold x: the two are different servers below n, or x is 0
unfoldable pub may_hold : ℕ → ℕ → ℕ → Bool
may_hold n k x = cond (eqb x 0) true (cond (ltb (k / 16) n) (cond (ltb (k % 16) n) (not (eqb (k / 16) (k % 16))) false) false)

-- whether a row's total lies from its count to 16,000 × count
unfoldable pub total_fits : ℕ → ℕ → Bool
total_fits count total = cond (leb count total) (leb total (most_weight * count)) false

abbrev pub cell_fits : ℕ → Ledger → ℕ → Bool
cell_fits n l k = may_hold n k (get_or l.cells k 0)

abbrev pub row_fits : Ledger → ℕ → Bool
row_fits l i = total_fits (count_of l i) (given_of l i)

abbrev pub server_above : Config → Ledger → ℕ → Bool
server_above c l i = above_of c (weight_of c l i)

-- every count and cell is within the paper's ranges
unfoldable pub bounded : Config → Ledger → Bool
bounded c l = cond (all 256 (cell_fits c.n l)) (all 16 (row_fits l)) false

-- every weight is above the floor; a ledger on which one is not is light
unfoldable pub above_floor : Config → Ledger → Bool
above_floor c l = all c.n (server_above c l)

-- whether a party may hold or send the ledger
unfoldable pub fits : Config → Ledger → Bool
fits c l = cond (bounded c l) (above_floor c l) false

-- What the calls answer: 1 or 15 for the cluster, 4 for a range, 5 for the floor.

unfoldable pub bounds_answer : Config → Ledger → Verdict
bounds_answer c l = judged (valid_of c) c (cond (bounded c l) granted (Err (refusal 4))) Err

unfoldable pub floor_answer : Config → Ledger → Verdict
floor_answer c l = judged (valid_of c) c (cond (above_floor c l) granted (Err (refusal 5))) Err

-- of a ledger of a lawful cluster
unfoldable pub fit_answer : Config → Ledger → Verdict
fit_answer c l = cond (bounded c l) (cond (above_floor c l) granted (Err (refusal 5))) (Err (refusal 4))

unfoldable pub check_answer : Config → Ledger → Verdict
check_answer c l = judged (valid_of c) c (fit_answer c l) Err
