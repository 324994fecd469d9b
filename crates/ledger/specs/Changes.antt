-- One transfer more in a ledger (paper 01, "Server", Transfer): 11, then 12, then 10 if the rest isn't above the floor; otherwise count + 1, cell + amount.
use Rattle.std.specs.Prelude.{ℕ, ◌+◌, ◌*◌, Bool, false, cond, leb, ltb, eqb, pos, ◌-ℤ◌, set}
use Rattle.config.specs.Cluster.{server_of, lawful_of, above_of}
use Rattle.config.specs.Answers.{judged}
use Rattle.config.specs.declared.cluster.Config.{Config}
use Rattle.config.specs.Refusals.{refusal}
use Rattle.ledger.specs.declared.ledger.Ledger.{Ledger}
use Rattle.ledger.specs.declared.ledger.Changed.{Changed}
use Rattle.ledger.specs.Ledgers.{count_of, cell_of, refused, accepted}
use Rattle.ledger.specs.Weights.{weight_of}
use Rattle.ledger.specs.Checks.{fits}

-- whether a transfer from i to j of d is one: the taker is another server below n, and the amount is at least 1
unfoldable pub lawful : Config → ℕ → ℕ → ℕ → Bool
lawful c i j d = cond (eqb i j) false (cond (ltb j c.n) (leb 1 d) false)

-- the ledger with one transfer more
unfoldable pub added : Ledger → ℕ → ℕ → ℕ → Ledger
added l i j d = record {
  counts = set l.counts i (count_of l i + 1);
  cells = set l.cells (i * 16 + j) (cell_of l i j + d);
}

-- the last number of a giver's transfers
abbrev pub most_count : ℕ
most_count = 65535

-- whether what server i keeps of its weight, once it has given d, is above the floor
unfoldable pub spares : Config → Ledger → ℕ → ℕ → Bool
spares c l i d = above_of c (weight_of c l i -ℤ pos d)

-- the tests of a transfer on a ledger that fits; a refusal leaves the ledger as it was
unfoldable pub give_answer : Config → Ledger → ℕ → ℕ → ℕ → Changed
give_answer c l i j d =
    cond (lawful c i j d)
    (cond (ltb (count_of l i) most_count) (cond (spares c l i d) (accepted (added l i j d)) (refused (refusal 10) l)) (refused (refusal 12) l))
    (refused (refusal 11) l)

-- One transfer more in the ledger of a party's record, where what is wrong with the cluster, the giver or the ledger is all 1; then 11, 12, 10, or the ledger
-- with the transfer.
unfoldable pub held_answer : Config → Ledger → ℕ → ℕ → ℕ → Changed
held_answer c l i j d =
    cond (server_of c i) (cond (lawful_of c) (cond (fits c l) (give_answer c l i j d) (refused (refusal 1) l)) (refused (refusal 1) l)) (refused (refusal 1) l)

-- What the call answers that is given a cluster and a ledger: 1 for n and f and for a giver that there isn't, 15 for bad start weights, and then the same.
unfoldable pub add_answer : Config → Ledger → ℕ → ℕ → ℕ → Changed
add_answer c l i j d = judged (server_of c i) c (held_answer c l i j d) (λ k. refused k l)
