-- Sets of transfers (paper 01, "Sheets" and "The runs of demand 3"), and what follows from a set alone: counts, cells, weights and quorums.
-- A set is a list in which order means nothing.
use Rattle.std.specs.Prelude.{ℕ, ◌+◌, Bool, true, false, cond, List, [], ◌∷◌, ◌++◌, eqb, ℤ}
use Rattle.quorums.specs.Accounts.{Accounts, weight, quorum}
use Rattle.config.specs.Cluster.{start_of}
use Rattle.config.specs.declared.cluster.Config.{Config}

-- the transfer (i, k, j, d): giver i, its number k from 1, taker j, amount d
pub record Transfer : Type 0 where
  pub giver : ℕ
  pub number : ℕ
  pub taker : ℕ
  pub amount : ℕ

-- a set of transfers
abbrev pub Transfers : Type 0
Transfers = List Transfer

-- whether two transfers are one
unfoldable pub same : Transfer → Transfer → Bool
same t u =
    cond (eqb t.giver u.giver) (cond (eqb t.number u.number) (cond (eqb t.taker u.taker) (eqb t.amount u.amount) false) false)
    false

-- whether a set has a transfer
unfoldable pub has : Transfers → Transfer → Bool
has [] t = false
has (u ∷ a) t = cond (same u t) true (has a t)

-- whether a has every transfer of b
unfoldable pub includes : Transfers → Transfers → Bool
includes a [] = true
includes a (t ∷ b) = cond (has a t) (includes a b) false

-- the transfers of b that a lacks
unfoldable pub missing : Transfers → Transfers → Transfers
missing a [] = []
missing a (t ∷ b) = cond (has a t) (missing a b) (t ∷ missing a b)

-- the union
unfoldable pub union : Transfers → Transfers → Transfers
union a b = a ++ missing a b

-- ---- sums over a set

-- the sum of g over a set
unfoldable pub tally : (Transfer → ℕ) → Transfers → ℕ
tally g [] = 0
tally g (t ∷ a) = tally g a + g t

-- how many transfers i made, what it gave j, what it gave and received
unfoldable pub count : Transfers → ℕ → ℕ
count a i = tally (λ t. cond (eqb t.giver i) 1 0) a

unfoldable pub cell : Transfers → ℕ → ℕ → ℕ
cell a i j = tally (λ t. cond (eqb t.giver i) (cond (eqb t.taker j) t.amount 0) 0) a

unfoldable pub given : Transfers → ℕ → ℕ
given a i = tally (λ t. cond (eqb t.giver i) t.amount 0) a

unfoldable pub received : Transfers → ℕ → ℕ
received a j = tally (λ t. cond (eqb t.taker j) t.amount 0) a

-- weights and quorums come from these: start + received − given, with the start weights w, and with the cluster's
abbrev pub accounts_from : (ℕ → ℕ) → Transfers → Accounts
accounts_from w a = record { start = w; received = received a; given = given a }

abbrev pub accounts : Config → Transfers → Accounts
accounts c a = accounts_from (start_of c) a

unfoldable pub weight_of : Config → Transfers → ℕ → ℤ
weight_of c a i = weight (accounts c a) i

unfoldable pub quorum_of : Config → Transfers → (ℕ → Bool) → Bool
quorum_of c a q = quorum c.n (accounts c a) q
