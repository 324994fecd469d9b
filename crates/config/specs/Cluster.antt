-- The cluster's parameters, which are fixed at opening (paper 01, "Sheets": a house has n servers and a crash limit f; paper 02, N2: start weights by hall).
use Rattle.std.specs.Prelude.{ℕ, ◌+◌, ◌-◌, ◌*◌, ◌/◌, ◌^◌, ◌≤◌, ◌<◌, ◌≡◌, Bool, true, false, cond, List, eqb, leb, ltb, ℤ, pos, length, get_or, replicate, Option, Some, None}
use Rattle.quorums.specs.Sum.{sum, all}
use Rattle.quorums.specs.Tables.{table}
use Rattle.quorums.specs.Accounts.{above}
use Rattle.config.specs.declared.cluster.Config.{Config}
use Rattle.config.specs.declared.answer.Refusal.{Refusal}
use Rattle.config.specs.Refusals.{refusal}

-- a cluster by its parts
abbrev pub cluster_of : ℕ → ℕ → List ℕ → Config
cluster_of n f starts = record { n = n; f = f; starts = starts }

-- 1 ≤ n ≤ 16 and 2f < n
abbrev pub in_bounds : ℕ → ℕ → Bool
in_bounds n f = cond (leb 1 n) (cond (leb n 16) (ltb (2 * f) n) false) false

unfoldable pub valid_of : Config → Bool
valid_of c = in_bounds c.n c.f

-- the most that the servers of any cluster weigh together
abbrev pub most_weight : ℕ
most_weight = 16000

-- the start weight of server i
unfoldable pub start_of : Config → ℕ → ℕ
start_of c i = get_or c.starts i 0

-- W
unfoldable pub total_of : Config → ℕ
total_of c = sum c.n (start_of c)

-- whether a weight is above the floor: w × 2 × (n − f) > W
unfoldable pub above_of : Config → ℤ → Bool
above_of c w = above c.n c.f (total_of c) w

-- the least weight above the floor
unfoldable pub least_of : Config → ℕ
least_of c = total_of c / (2 * (c.n - c.f)) + 1

-- whether the cluster is within bounds and i one of its servers
unfoldable pub server_of : Config → ℕ → Bool
server_of c i = cond (valid_of c) (ltb i c.n) false

-- A cluster that a call can have: n and f have 64 bits, and there are 16 start weights of 16 bits.
pub record Typed (c : Config) : Type 0 where
  pub n-fits : c.n < 2 ^ 64
  pub f-fits : c.f < 2 ^ 64
  pub sixteen-starts : length c.starts ≡ 16
  pub start_fits : (i : ℕ) → start_of c i ≤ 65535

-- ---- which start weights are lawful

-- whether there are n start weights: those from n on are 0
unfoldable pub ends_of : Config → Bool
ends_of c = all 16 (λ i. cond (ltb i c.n) true (eqb (start_of c i) 0))

-- whether each of them is above the floor
unfoldable pub starts_above : Config → Bool
starts_above c = all c.n (λ i. above_of c (pos (start_of c i)))

-- whether n, f and the start weights are lawful
unfoldable pub lawful_of : Config → Bool
lawful_of c = cond (valid_of c) (cond (ends_of c) (cond (leb (total_of c) most_weight) (starts_above c) false) false) false

-- the least weight above the floor, by n and f within bounds and by what n start weights with nothing after them come to: their sum and the least of them;
-- none where these are not lawful
unfoldable pub least_by : ℕ → ℕ → ℕ → ℕ → Option ℕ
least_by n f total lowest =
    let least = total / (2 * (n - f)) + 1 in
    cond (leb total most_weight) (cond (leb least lowest) (Some least) None) None

-- What is wrong with a cluster: 1 for n and f, 15 for the start weights, 0 for nothing.
unfoldable pub cluster_fault : Config → ℕ
cluster_fault c = cond (valid_of c) (cond (lawful_of c) 0 15) 1

-- why a cluster is refused that is not lawful
abbrev pub why_of : Config → Refusal
why_of c = cond (valid_of c) (refusal 15) (refusal 1)

-- ---- what a call is given: n, f and a list

-- What opening gets, and so what a run is fed.
pub record House : Type 0 where
  pub n : ℕ
  pub f : ℕ
  pub starts : List ℕ

abbrev pub house_of : ℕ → ℕ → List ℕ → House
house_of n f starts = record { n = n; f = f; starts = starts }

-- "when the list isn't n long, the sum passes 16,000 or a start weight isn't above the floor" (paper 02, N2): whether none of this is so
unfoldable pub lawful_list : House → Bool
lawful_list h =
    let W = sum h.n (λ i. get_or h.starts i 0) in
    cond (eqb (length h.starts) h.n)
    (cond (leb W most_weight) (all h.n (λ i. above h.n h.f W (pos (get_or h.starts i 0)))) false)
    false

-- "15 bad start, directly after the first test for 1" (paper 02, N2); 0 for what is lawful
unfoldable pub house_fault : House → ℕ
house_fault h = cond (in_bounds h.n h.f) (cond (lawful_list h) 0 15) 1

-- whether a list can be kept: it is n long, and no entry is above what all may weigh together
unfoldable pub keeps : ℕ → List ℕ → Bool
keeps n starts = cond (eqb (length starts) n) (cond (leb n 16) (all n (λ i. leb (get_or starts i 0) most_weight)) false) false

-- the list with zeros after it; nothing but zeros for a list that cannot be kept, so that the fault of what is kept is the house's
unfoldable pub kept_of : ℕ → List ℕ → List ℕ
kept_of n starts = cond (keeps n starts) (table 16 (λ i. get_or starts i 0)) (replicate 16 0)

-- the cluster of what a call is given
abbrev pub config_of : House → Config
config_of h = record { n = h.n; f = h.f; starts = kept_of h.n h.starts }

-- nothing at all, which stands beside a refusal
abbrev pub no_config : Config
no_config = record { n = 0; f = 0; starts = replicate 16 0 }

-- a house whose n servers start level, each at 1,000, and of which f may crash
abbrev pub level : ℕ → ℕ → House
level n f = house_of n f (replicate n 1000)

-- ---- stamps

-- how many bytes a stamp has in a message, and the largest stamp
unfoldable pub stamp_bytes : Config → ℕ
stamp_bytes c = 4

unfoldable pub most_stamp : Config → ℕ
most_stamp c = 256 ^ stamp_bytes c - 1
