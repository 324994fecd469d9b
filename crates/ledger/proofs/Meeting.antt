-- Question four, of the program's ledgers: two maps, each a quorum on a ledger of its own, name a common server, where no server of either map
-- made more transfers on the other ledger. On the union of the two ledgers such servers gave just what they gave on their own, and received no
-- less, so both maps are quorums there.
use Prim.Native.Nat.{ℕ, ◌+◌, ◌-◌, ◌*◌, ◌≤◌, ◌<◌}
use native.Mathlib.Nat.{le_of_lt, le-add_right, lt_of_le_of_lt, lt_of_mul-lt-mul_right}
use native.Mathlib.Omega.{arith}
use mathlib.Core.Path.{◌≡◌, refl, sym, ◌∙◌, subst}
use mathlib.Core.Bool.{true}
use Rattle.quorums.specs.Accounts.{held}
use Rattle.quorums.proofs.Sums.{all-each, sum-le}
use Rattle.quorums.proofs.Weights.{above-lt}
use Rattle.quorums.proofs.Meeting.{Shared, quorums-meet-across}
use Rattle.config.specs.Cluster.{valid_of, above_of, total_of}
use Rattle.config.specs.declared.cluster.Config.{Config}
use Rattle.config.proofs.Clusters.{valid-bounds}
use Rattle.ledger.specs.declared.ledger.Ledger.{Ledger}
use Rattle.ledger.specs.Ledgers.{count_of, cell_of, given_of, received_of, accounts_of}
use Rattle.ledger.specs.Maps.{named}
use Rattle.ledger.specs.Weights.{weight_of, quorum_of}
use Rattle.ledger.specs.Checks.{bounded, above_floor}
use Rattle.ledger.specs.Joins.{agree_at, joins, joined}
use Rattle.ledger.proofs.Totals.{received-given}
use Rattle.ledger.proofs.Majorities.{each-above}
use Rattle.ledger.proofs.Unions.{joins-comm, joined-comm, joined-cell, later-grows}
use Rattle.ledger.proofs.Kept.{joined-given-first, joined-bounded}

-- no cell of a union is smaller
cell-grows : (a b : Ledger) (i j : ℕ) → joins a b ≡ true → i < 16 → j < 16 → cell_of a i j ≤ cell_of (joined a b) i j
unfolding joins
cell-grows a b i j e hi hj =
    let h : i * 16 + j < 256 = omega arith in
    rw (joined-cell a b (i * 16 + j) h) (later-grows _ _ _ _ (all-each 256 (agree_at a b) e (i * 16 + j) h))

pub received-grows : (a b : Ledger) (i : ℕ) → joins a b ≡ true → i < 16 → received_of a i ≤ received_of (joined a b) i
unfolding received_of
received-grows a b i e h = sum-le 16 _ _ (λ j k. cell-grows a b j i e k h)

-- nobody gave what was not there, where every weight is above the floor
pub given-held : (c : Config) (l : Ledger) → above_floor c l ≡ true → (i : ℕ) → i < c.n → given_of l i ≤ held (accounts_of c l) i
unfolding above_of weight_of
given-held c l h i k =
    let m = 2 * (c.n - c.f) in
    let b = above-lt c.n c.f (accounts_of c l) i (total_of c) (each-above c l h i k) in
    le_of_lt (lt_of_mul-lt-mul_right m (lt_of_le_of_lt (le-add_right (given_of l i * m) (total_of c)) b))

-- Two quorums, counted on two ledgers that join, share a server.
pub ledgers-meet : (c : Config) (a b : Ledger) (p q : ℕ) → valid_of c ≡ true → bounded c a ≡ true → bounded c b ≡ true → joins a b ≡ true
    → above_floor c (joined a b) ≡ true
    → ((i : ℕ) → i < c.n → named p i ≡ true → count_of b i ≤ count_of a i)
    → ((i : ℕ) → i < c.n → named q i ≡ true → count_of a i ≤ count_of b i)
    → quorum_of c a p ≡ true
    → quorum_of c b q ≡ true
    → Shared c.n (named p) (named q)
unfolding quorum_of
ledgers-meet c a b p q v sa sb e f hp hq qp qq =
    quorums-meet-across c.n (accounts_of c a) (accounts_of c b) (accounts_of c (joined a b)) (named p) (named q)
    (λ i l. refl) (λ i l. refl)
    (λ i l. received-grows a b i e (small i l))
    (λ i l. subst (λ u. received_of b i ≤ received_of u i) (sym union) (received-grows b a i (sym (joins-comm a b) ∙ e) (small i l)))
    (λ i l t. omega (arith, joined-given-first a b i (small i l) (hp i l t)))
    (λ i l t. subst (λ u. given_of u i ≤ given_of b i) (sym union) (omega (arith, joined-given-first b a i (small i l) (hq i l t))))
    (received-given c (joined a b) v (joined-bounded c a b sa sb))
    (given-held c (joined a b) f) qp qq
  where
    union : joined a b ≡ joined b a
    union = joined-comm a b e

    small : (i : ℕ) → i < c.n → i < 16
    small i l = omega (arith, (valid-bounds c v).most)
