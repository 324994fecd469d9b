-- Maps of servers (paper 01, "Sheets": a 16-bit server map, bits below n only).
use Rattle.std.specs.Prelude.{ℕ, ◌/◌, ◌%◌, ◌^◌, Bool, false, cond, eqb, ltb, Ok, Err}
use Rattle.quorums.specs.Sum.{size}
use Rattle.config.specs.Cluster.{valid_of}
use Rattle.config.specs.Answers.{judged}
use Rattle.config.specs.declared.cluster.Config.{Config}
use Rattle.config.specs.Refusals.{Number}

-- whether the map m names server i: bit i, bit 0 worth 1
unfoldable pub named : ℕ → ℕ → Bool
named m i = eqb (m / 2 ^ i % 2) 1

-- whether the cluster is within bounds and m has bits below n only
unfoldable pub map_of : Config → ℕ → Bool
map_of c m = cond (valid_of c) (ltb m (2 ^ c.n)) false

-- how many servers m names; 1 for a bit ≥ n, then 15 for bad start weights (paper 02, N2)
unfoldable pub named_answer : Config → ℕ → Number
named_answer c m = judged (map_of c m) c (Ok (size c.n (named m))) Err
