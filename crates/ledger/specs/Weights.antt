-- Weights, margins and quorums on a ledger (paper 01, "Sheets"; paper 02, N1). A cluster out of bounds, a server ≥ n and a map with a bit ≥ n
-- are 1, and then bad start weights are 15 (N2).
use Rattle.std.specs.Prelude.{ℕ, Bool, true, ℤ, Ok, Err}
use Rattle.quorums.specs.Accounts.{weight, weight_in, margin, quorum}
use Rattle.config.specs.Cluster.{valid_of, server_of}
use Rattle.config.specs.Answers.{judged}
use Rattle.config.specs.declared.cluster.Config.{Config}
use Rattle.config.specs.Refusals.{Number}
use Rattle.config.specs.Refusals.{Signed}
use Rattle.ledger.specs.declared.ledger.Ledger.{Ledger}
use Rattle.ledger.specs.Ledgers.{given_of, received_of, accounts_of}
use Rattle.ledger.specs.Maps.{named, map_of}

-- start + received − given
unfoldable pub weight_of : Config → Ledger → ℕ → ℤ
weight_of c l i = weight (accounts_of c l) i

-- the weights of all servers together
unfoldable pub all_of : Config → Ledger → ℤ
all_of c l = weight_in c.n (accounts_of c l) (λ i. true)

-- twice the weight of the servers that m names, less W
unfoldable pub margin_of : Config → Ledger → ℕ → ℤ
margin_of c l m = margin c.n (accounts_of c l) (named m)

-- "Above zero is a quorum; zero and below are not" (paper 02, N1).
unfoldable pub quorum_of : Config → Ledger → ℕ → Bool
quorum_of c l m = quorum c.n (accounts_of c l) (named m)

-- What the calls answer.

unfoldable pub given_answer : Config → Ledger → ℕ → Number
given_answer c l i = judged (server_of c i) c (Ok (given_of l i)) Err

unfoldable pub received_answer : Config → Ledger → ℕ → Number
received_answer c l i = judged (server_of c i) c (Ok (received_of l i)) Err

unfoldable pub weight_answer : Config → Ledger → ℕ → Signed
weight_answer c l i = judged (server_of c i) c (Ok (weight_of c l i)) Err

unfoldable pub all_answer : Config → Ledger → Signed
all_answer c l = judged (valid_of c) c (Ok (all_of c l)) Err

-- "The quorum answer becomes a signed number: twice the weight of the map less W" (paper 02, N1).
unfoldable pub quorum_answer : Config → Ledger → ℕ → Signed
quorum_answer c l m = judged (map_of c m) c (Ok (margin_of c l m)) Err
