-- Weights and margins from what each server received and gave: as the program computes them, and as they are on a ledger.
use Prim.Native.Nat.{ℕ, ◌+◌, ◌*◌, ◌≤◌, ◌<◌}
use native.Mathlib.Omega.{arith}
use mathlib.Core.Path.{◌≡◌, refl, sym, ap, ap₂, ◌∙◌}
use mathlib.Core.Bool.{Bool, true, false, cond}
use mathlib.Core.List.{List, []}
use borrow.Author.Tests.{lt-ltb}
use lib.Dec.{leb}
use lib.ListN.{get_or}
use Rattle.quorums.specs.Sum.{sum, sum_in}
use Rattle.quorums.specs.Difference.{difference}
use Rattle.quorums.specs.Accounts.{held, weight, weight_in, total, margin}
use Rattle.quorums.proofs.Sums.{sum-none, sum-next, all_same, sum_in-none, sum_in-next, sum_in-same}
use Rattle.quorums.proofs.Weights.{weight_in-is, margin-is}
use Rattle.config.specs.Cluster.{valid_of, server_of, start_of, total_of, above_of, least_of}
use Rattle.config.specs.declared.cluster.Config.{Config}
use Rattle.config.proofs.Clusters.{valid-server, server-small, valid-bounds, above-least}
use Rattle.ledger.specs.declared.ledger.Ledger.{Ledger}
use Rattle.ledger.specs.Ledgers.{ledger_of, cell_of, received_of, given_of, accounts_of, Typed}
use Rattle.ledger.specs.Maps.{named}
use Rattle.ledger.specs.Weights.{weight_of, all_of, margin_of, quorum_answer}
use Rattle.ledger.specs.Checks.{bounded, above_floor, floor_answer}
use Rattle.quorums.specs.Tables.{table}
use Rattle.quorums.proofs.Tables.{table_at}
use Rattle.ledger.specs.Sums.{accounts_in, all_above, Sums, Weighs, Covers, received_from, given_below}
use Rattle.ledger.proofs.Tallies.{sum-most, sums-small}
use Rattle.ledger.proofs.Faults.{from_all}
use Rattle.ledger.proofs.Answers.{all_named}

-- ---- as the program computes them

abbrev pub above_at : Config → List ℕ → List ℕ → ℕ → Bool
above_at c r g i = above_of c (weight (accounts_in c r g) i)

-- the test of one server
pub above_at_lem : (c : Config) (r g : List ℕ) (i start least : ℕ) → valid_of c ≡ true → start ≡ start_of c i → least ≡ least_of c
    → above_at c r g i ≡ leb (get_or g i 0 + least) (start + get_or r i 0)
unfolding weight
above_at_lem c r g i start least v s e =
    above-least c (start_of c i + get_or r i 0) (get_or g i 0) v ∙ ap₂ (λ x y. leb (get_or g i 0 + x) (y + get_or r i 0)) (sym e) (sym s)

-- the weight of one server
pub weight-at : (c : Config) (r g : List ℕ) (i start : ℕ) → start ≡ start_of c i → difference (start + get_or r i 0) (get_or g i 0) ≡ weight (accounts_in c r g) i
unfolding weight
weight-at c r g i start e = ap (λ s. difference (s + get_or r i 0) (get_or g i 0)) e

pub counts-most : (b : Bool) (x : ℕ) → cond b x 0 ≤ x
counts-most true x = omega arith
counts-most false x = omega arith

-- the margin, from the sums of those that a map names
pub margin-at : (c : Config) (r g : List ℕ) (m W h k : ℕ) → W ≡ total_of c
    → h ≡ sum_in c.n (named m) (held (accounts_in c r g))
    → k ≡ sum_in c.n (named m) (λ i. get_or g i 0)
    → difference (2 * h) (2 * k + W) ≡ margin c.n (accounts_in c r g) (named m)
unfolding total total_of
margin-at c r g m W h k e p q = rw (e, p, q) (sym (margin-is c.n (accounts_in c r g) (named m)))

-- The start weights of the servers below i, and the sums of those that a map names.
pub record Counted (c : Config) (r g : List ℕ) (m i W h k : ℕ) : Type 0 where
  pub total-is : W ≡ sum i (start_of c)
  pub held-is : h ≡ sum_in i (named m) (held (accounts_in c r g))
  pub gave-is : k ≡ sum_in i (named m) (λ j. get_or g j 0)
  pub total-small : W ≤ i * 65535
  pub held_small : h ≤ i * 68719542255
  pub gave-small : k ≤ i * 68719542255

pub counted_none : (c : Config) (r g : List ℕ) (m : ℕ) → Counted c r g m 0 0 0 0
counted_none c r g m =
    record {
      total-is = sym (sum-none _);
      held-is = sym (sum_in-none _ _);
      gave-is = sym (sum_in-none _ _);
      total-small = omega arith;
      held_small = omega arith;
      gave-small = omega arith;
    }

module _ {c : Config} {r g : List ℕ} {m i W h k start : ℕ} (s : Counted c r g m i W h k) (sr : Sums 68719476720 r) (sg : Sums 68719476720 g) (e : start ≡ start_of c i) (small : start ≤ 65535) where
  -- there is room for one more
  pub counted-room : i < 16 → (W + start ≤ 1048560) × (h + start + get_or r i 0 ≤ 1099512676080) × (k + get_or g i 0 ≤ 1099512676080)
  counted-room l = (omega (arith, s.total-small), omega (arith, s.held_small, sr.small i), omega (arith, s.gave-small, sg.small i))

  total-next : {w : ℕ} → w ≡ W + start → w ≡ sum (i + 1) (start_of c)
  total-next q = omega (arith, q, s.total-is, e, sum-next i (start_of c))

  -- a server that the map names counts, and one that it does not name does not
  pub counted-named : {w x y : ℕ} → named m i ≡ true → w ≡ W + start → x ≡ h + start + get_or r i 0 → y ≡ k + get_or g i 0 → Counted c r g m (i + 1) w x y
  counted-named t o p q =
      record {
        total-is = total-next o;
        held-is = rw (sum_in-next, t) (omega (arith, s.held-is));
        gave-is = rw (sum_in-next, t) (omega (arith, s.gave-is));
        total-small = omega (arith, s.total-small);
        held_small = omega (arith, s.held_small, sr.small i);
        gave-small = omega (arith, s.gave-small, sg.small i);
      }

  pub counted-passed : {w x y : ℕ} → named m i ≡ false → w ≡ W + start → x ≡ h → y ≡ k → Counted c r g m (i + 1) w x y
  counted-passed t o p q =
      record {
        total-is = total-next o;
        held-is = rw (sum_in-next, t) (omega (arith, s.held-is));
        gave-is = rw (sum_in-next, t) (omega (arith, s.gave-is));
        total-small = omega (arith, s.total-small);
        held_small = omega (arith, s.held_small);
        gave-small = omega (arith, s.gave-small);
      }

-- ---- on a ledger

-- A margin depends on what each server that the map names received and gave.
pub named-margin : (c : Config) (l : Ledger) (m : ℕ) (r g : List ℕ) → Covers c.n m (received_of l) r → Covers c.n m (given_of l) g
    → margin c.n (accounts_in c r g) (named m) ≡ margin_of c l m
unfolding margin_of total
named-margin c l m r g takes gives =
    margin-is c.n (accounts_in c r g) (named m)
    ∙ ap₂ (λ x y. difference (2 * y) (2 * x + total c.n (accounts_of c l))) (sum_in-same c.n (named m) _ _ gives.at)
    (sum_in-same c.n (named m) _ _ (λ i k t. ap (λ x. start_of c i + x) (takes.at i k t)))
    ∙ sym (margin-is c.n (accounts_of c l) (named m))

margin-by : (c : Config) (l : Ledger) (m : ℕ) (r g : List ℕ) → ((i : ℕ) → i < c.n → get_or r i 0 ≡ received_of l i)
    → ((i : ℕ) → i < c.n → get_or g i 0 ≡ given_of l i) → margin c.n (accounts_in c r g) (named m) ≡ margin_of c l m
margin-by c l m r g takes gives = named-margin c l m r g (record { at = λ i k t. takes i k }) (record { at = λ i k t. gives i k })

-- The weight of a server is its weight on the ledger.
pub sums-weight : (c : Config) (l : Ledger) (i : ℕ) → server_of c i ≡ true → weight (accounts_in c (table 16 (received_of l)) (table 16 (given_of l))) i ≡ weight_of c l i
unfolding weight_of weight
sums-weight c l i s =
    ap₂ (λ r g. difference (start_of c i + r) g) (table_at 16 (received_of l) i (server-small c i s)) (table_at 16 (given_of l) i (server-small c i s))

-- Every weight is above the floor exactly when every one on the ledger is.
pub sums-above : (c : Config) (l : Ledger) → valid_of c ≡ true → all_above c (table 16 (received_of l)) (table 16 (given_of l)) ≡ above_floor c l
unfolding above_floor
sums-above c l v = all_same c.n _ _ (λ i k. ap (above_of c) (sums-weight c l i (valid-server c i v k)))

-- The margin of a map is its margin on the ledger.
pub sums-margin : (c : Config) (l : Ledger) (m : ℕ) → valid_of c ≡ true
    → margin c.n (accounts_in c (table 16 (received_of l)) (table 16 (given_of l))) (named m) ≡ margin_of c l m
sums-margin c l m v = margin-by c l m (table 16 (received_of l)) (table 16 (given_of l)) (at (received_of l)) (at (given_of l))
  where
    at : (f : ℕ → ℕ) (i : ℕ) → i < c.n → get_or (table 16 f) i 0 ≡ f i
    at f i k = table_at 16 f i (omega (arith, (valid-bounds c v).most))

-- The weight of all servers is that on the ledger.
pub weighs-all : (c : Config) (l : Ledger) (r g : List ℕ) → Weighs c l r g → weight_in c.n (accounts_in c r g) (λ i. true) ≡ all_of c l
unfolding all_of
weighs-all c l r g w =
    weight_in-is c.n _ (λ i. true)
    ∙ ap₂ difference (sum_in-same c.n (λ i. true) _ _ (λ i k t. ap (λ x. start_of c i + x) (w.takes i k))) (sum_in-same c.n (λ i. true) _ _ (λ i k t. w.gives i k))
    ∙ sym (weight_in-is c.n (accounts_of c l) (λ i. true))

pub sums-all : (c : Config) (l : Ledger) → valid_of c ≡ true
    → weight_in c.n (accounts_in c (table 16 (received_of l)) (table 16 (given_of l))) (λ i. true) ≡ all_of c l
sums-all c l v = weighs-all c l _ _ (record { takes = at (received_of l); gives = at (given_of l) })
  where
    at : (f : ℕ → ℕ) (i : ℕ) → i < c.n → get_or (table 16 f) i 0 ≡ f i
    at f i k = table_at 16 f i (omega (arith, (valid-bounds c v).most))

-- The sums of a ledger that a call can have are small.
pub received-sums : (l : Ledger) → Typed l → Sums 68719476720 (table 16 (received_of l))
unfolding received_of
received-sums l t = sums-small (received_of l) (λ i. sum-most 16 (λ j. cell_of l j i) (λ j. t.cell-fits (j * 16 + i)))

pub given-sums : (l : Ledger) → Typed l → Sums 68719476720 (table 16 (given_of l))
unfolding given_of
given-sums l t = sums-small (given_of l) (λ i. sum-most 16 (λ j. cell_of l i j) (λ j. t.cell-fits (i * 16 + j)))

-- weights are about cells alone: a ledger with the same cells has the same accounts
abbrev pub in_cells : List ℕ → Ledger
in_cells cells = ledger_of [] cells

pub given-cells : (l : Ledger) → given_of (in_cells l.cells) ≡ given_of l
unfolding given_of
given-cells l = refl

pub floor-cells : (c : Config) (l : Ledger) → floor_answer c (in_cells l.cells) ≡ floor_answer c l
unfolding floor_answer above_floor weight_of received_of given_of
floor-cells c l = refl

pub quorum-cells : (c : Config) (l : Ledger) (m : ℕ) → quorum_answer c (in_cells l.cells) m ≡ quorum_answer c l m
unfolding quorum_answer margin_of received_of given_of
quorum-cells c l m = refl

-- ---- by the rows below n

-- The sums of the rows below n are those of all rows, on a ledger within bounds.
pub weighs : (c : Config) (l : Ledger) (r g : List ℕ) → valid_of c ≡ true → bounded c l ≡ true → r ≡ table 16 (received_from c.n l)
    → g ≡ table 16 (given_below c.n l) → Weighs c l r g
unfolding given_below
weighs c l r g v b er eg =
    let most = (valid-bounds c v).most in
    record {
      takes = λ i h. ap (λ xs. get_or xs i 0) er ∙ table_at 16 _ i (omega arith) ∙ from_all c l most b i (omega arith);
      gives = λ i h. ap (λ xs. get_or xs i 0) eg ∙ table_at 16 _ i (omega arith) ∙ rw (lt-ltb i c.n h) refl;
    }

-- so every weight is above the floor exactly when every one on the ledger is
pub weighs-above : (c : Config) (l : Ledger) (r g : List ℕ) → Weighs c l r g → all_above c r g ≡ above_floor c l
unfolding above_floor weight_of weight
weighs-above c l r g w = all_same c.n _ _ (λ i h. ap₂ (λ x y. above_of c (difference (start_of c i + x) y)) (w.takes i h) (w.gives i h))

-- and the margin of a map is its margin on the ledger
pub weighs-margin : (c : Config) (l : Ledger) (m : ℕ) (r g : List ℕ) → Weighs c l r g → margin c.n (accounts_in c r g) (named m) ≡ margin_of c l m
weighs-margin c l m r g w = margin-by c l m r g w.takes w.gives

-- ---- by the servers that a map names

-- the map of all names every server
pub covers-weighs : (c : Config) (l : Ledger) (r g : List ℕ) → valid_of c ≡ true → Covers c.n 65535 (received_of l) r → Covers c.n 65535 (given_of l) g → Weighs c l r g
covers-weighs c l r g v takes gives =
    let most = (valid-bounds c v).most in
    record { takes = λ i h. takes.at i h (all_named i (omega arith)); gives = λ i h. gives.at i h (all_named i (omega arith)) }
