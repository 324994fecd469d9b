-- What a fresh server is told when it gives, whoever it is and whoever takes: the floor alone decides.
use Rattle.std.specs.Prelude.{Err}
use Prim.Native.Nat.{ℕ, ◌≤◌, ◌<◌}
use mathlib.Core.Path.{◌≡◌, refl, ◌∙◌, ap}
use mathlib.Core.Bool.{Bool, true, false, cond}
use borrow.Author.Tests.{ne_eqb, lt-ltb, le-leb}
use lib.Dec.{ltb}
use lib.IntN.{pos, ◌-ℤ◌}
use Rattle.quorums.specs.Difference.{difference}
use Rattle.config.specs.Cluster.{level, config_of, in_bounds, lawful_of, start_of, above_of}
use Rattle.config.specs.declared.cluster.Config.{Config}
use Rattle.config.specs.Refusals.{refusal, granted}
use Rattle.config.specs.Refusals.{Verdict}
use Rattle.config.proofs.Clusters.{valid-server, lawful-valid}
use Rattle.config.proofs.Houses.{level-fault, level-lawful, level-start}
use Rattle.ledger.specs.Ledgers.{fresh_ledger, count_of}
use Rattle.ledger.specs.Changes.{lawful, most_count, spares}
use Rattle.ledger.proofs.Fresh.{fresh-count, fresh-weight}
use Rattle.replica.proofs.Replicas as replica
use Rattle.server.specs.Servers.{fits, fresh_server, open_of, accepted, refused}
use Rattle.server.proofs.Servers.{open-lawful}
use Rattle.server.specs.Transfers.{gave, give_of, transfer_of}

-- ---- each test that a fresh server passes

opened : (n f i : ℕ) → in_bounds n f ≡ true → i < n → (open_of (level n f) i).server ≡ fresh_server (config_of (level n f)) i
opened n f i v h = ap (λ a. a.server) (open-lawful (level n f) i (level-fault n f v) h)

fresh-fits : (c : Config) (i : ℕ) → lawful_of c ≡ true → i < c.n → fits (fresh_server c i) ≡ true
unfolding fits
fresh-fits c i v h = simp (valid-server c i (lawful-valid c v) h) (replica.fresh-fits c v)

is_lawful : (c : Config) (i j d : ℕ) → j < c.n → (i ≡ j → ⊥) → 1 ≤ d → lawful c i j d ≡ true
unfolding lawful
is_lawful c i j d h ne p = simp (ne_eqb i j ne, lt-ltb j c.n h, le-leb 1 d p)

has_room : (i : ℕ) → ltb (count_of fresh_ledger i) most_count ≡ true
has_room i = ap (λ x. ltb x most_count) (fresh-count i)

-- ---- and the floor

-- of its start weight, d is given
spared : (c : Config) (i d : ℕ) → spares c fresh_ledger i d ≡ above_of c (difference (start_of c i) 0 -ℤ pos d)
unfolding spares
spared c i d = ap (λ w. above_of c (w -ℤ pos d)) (fresh-weight c i)

-- what the floor says of a gift of d by a server that starts with w
unfoldable pub by_floor : Config → ℕ → ℕ → Verdict
by_floor c w d = cond (above_of c (difference w 0 -ℤ pos d)) granted (Err (refusal 10))

pub fresh_gives : (c : Config) (i j d : ℕ) → lawful_of c ≡ true → i < c.n → j < c.n → (i ≡ j → ⊥) → 1 ≤ d
    → (transfer_of (fresh_server c i) j d).verdict ≡ by_floor c (start_of c i) d
unfolding transfer_of give_of by_floor
fresh_gives c i j d v hi hj ne p =
    rw (fresh-fits c i v hi, is_lawful c i j d hj ne p, has_room i, spared c i d) (chosen (above_of c (difference (start_of c i) 0 -ℤ pos d)))
  where
    chosen : (b : Bool)
        → (cond b (accepted (gave (fresh_server c i) j d)) (refused (refusal 10) (fresh_server c i))).verdict
        ≡ cond b granted (Err (refusal 10))
    chosen true = refl
    chosen false = refl

-- in a house that starts level, where each has 1,000
pub floor-decides : (n f d : ℕ) → in_bounds n f ≡ true → 1 ≤ d → (i j : ℕ) → i < n → j < n → (i ≡ j → ⊥)
    → (transfer_of (open_of (level n f) i).server j d).verdict ≡ by_floor (config_of (level n f)) 1000 d
floor-decides n f d v p i j hi hj ne =
    ap (λ s. (transfer_of s j d).verdict) (opened n f i v hi) ∙ fresh_gives (config_of (level n f)) i j d (level-lawful n f v) hi hj ne p
    ∙ ap (λ w. by_floor (config_of (level n f)) w d) (level-start n f v i hi)
