-- One transfer more: the giver's count rises by one, the giver has given and the taker has received the amount more, and no other server's
-- weight changes. Amounts from 1 to 16,000 keep a ledger within bounds.
use Prim.Native.Nat.{ℕ, ◌+◌, ◌*◌, ◌/◌, ◌%◌, ◌≤◌, ◌<◌}
use native.Mathlib.Decide.{ℕ_discrete}
use native.Mathlib.Omega.{arith}
use mathlib.Core.Path.{◌≡◌, refl, sym, ap, ap₂, ◌∙◌}
use mathlib.Core.Bool.{Bool, true, false, cond}
use borrow.Author.Tests.{lt-ltb, ne_eqb, le-leb}
use lib.Dec.{eqb}
use lib.IntN.{pos, ◌+ℤ◌, ◌-ℤ◌}
use lib.ListN.{get_or}
use lib.Seq.{get_or-set_same, get_or-set_other}
use Rattle.quorums.specs.Sum.{all}
use Rattle.quorums.specs.Difference.{difference}
use Rattle.quorums.specs.Accounts.{weight}
use Rattle.quorums.proofs.Sums.{sum_same, sum_more, all-each, each_all}
use Rattle.quorums.proofs.Differences.{difference-less, difference-add, difference-same, pos-difference}
use Rattle.config.specs.Cluster.{start_of, most_weight}
use Rattle.config.specs.declared.cluster.Config.{Config}
use Rattle.ledger.specs.declared.ledger.Ledger.{Ledger}
use Rattle.ledger.specs.Ledgers.{count_of, cell_of, given_of, received_of, Typed}
use Rattle.ledger.specs.Weights.{weight_of}
use Rattle.ledger.specs.Checks.{may_hold, total_fits, cell_fits, row_fits, bounded}
use Rattle.ledger.specs.Changes.{lawful, added}
use Rattle.ledger.proofs.Totals.{bounded-told, told-bounded, total-fits-told}
use Rattle.ledger.proofs.Changes.{lawful-told}

-- a cell between two servers may hold anything
pub may-hold-placed : (n k x : ℕ) → k / 16 < n → k % 16 < n → (k / 16 ≡ k % 16 → ⊥) → may_hold n k x ≡ true
unfolding may_hold
may-hold-placed n k x p q ne = rw (lt-ltb _ _ p, lt-ltb _ _ q, ne_eqb _ _ ne) (either (eqb x 0))
  where
    either : (b : Bool) → cond b true true ≡ true
    either true = refl
    either false = refl

-- a row's total and count, each with one transfer more
total-more : (count total d : ℕ) → 1 ≤ d → d ≤ most_weight → total_fits count total ≡ true → total_fits (count + 1) (total + d) ≡ true
unfolding total_fits
total-more count total d p q e =
    let t = total-fits-told count total e in
    let lower : count + 1 ≤ total + d = omega arith in
    let higher : total + d ≤ most_weight * (count + 1) = omega arith in
    rw (le-leb _ _ lower) (le-leb _ _ higher)

module _ (l : Ledger) (i j d : ℕ) (t : Typed l) (hi : i < 16) (hj : j < 16) where
  -- ---- counts and cells

  pub added-count : count_of (added l i j d) i ≡ count_of l i + 1
  unfolding added
  added-count = get_or-set_same l.counts i (count_of l i + 1) 0 (omega (arith, t.counts-length))

  pub added-count-other : (k : ℕ) → (k ≡ i → ⊥) → count_of (added l i j d) k ≡ count_of l k
  unfolding added
  added-count-other k ne = get_or-set_other l.counts i k (count_of l i + 1) 0 ne

  pub added-cell : cell_of (added l i j d) i j ≡ cell_of l i j + d
  unfolding added
  added-cell = get_or-set_same l.cells (i * 16 + j) (cell_of l i j + d) 0 (omega (arith, t.cells-length))

  pub added-cell-other : (k : ℕ) → (k ≡ i * 16 + j → ⊥) → get_or (added l i j d).cells k 0 ≡ get_or l.cells k 0
  unfolding added
  added-cell-other k ne = get_or-set_other l.cells (i * 16 + j) k (cell_of l i j + d) 0 ne

  -- ---- what was given and received

  pub added-given : given_of (added l i j d) i ≡ given_of l i + d
  unfolding given_of
  added-given = sum_more 16 _ _ j d hj added-cell (λ k h ne. added-cell-other (i * 16 + k) (λ e. ne (omega arith)))

  pub added-given-other : (k : ℕ) → k < 16 → (k ≡ i → ⊥) → given_of (added l i j d) k ≡ given_of l k
  unfolding given_of
  added-given-other k hk ne = sum_same 16 _ _ (λ m h. added-cell-other (k * 16 + m) (λ e. ne (omega arith)))

  pub added-received : received_of (added l i j d) j ≡ received_of l j + d
  unfolding received_of
  added-received = sum_more 16 _ _ i d hi added-cell (λ k h ne. added-cell-other (k * 16 + j) (λ e. ne (omega arith)))

  pub added-received-other : (k : ℕ) → k < 16 → (k ≡ j → ⊥) → received_of (added l i j d) k ≡ received_of l k
  unfolding received_of
  added-received-other k hk ne = sum_same 16 _ _ (λ m h. added-cell-other (m * 16 + k) (λ e. ne (omega arith)))

  -- ---- weights

  pub giver-weight : (c : Config) → (i ≡ j → ⊥) → weight_of c (added l i j d) i ≡ weight_of c l i -ℤ pos d
  unfolding weight_of weight
  giver-weight c ne =
      ap₂ difference (ap (λ x. start_of c i + x) (added-received-other i hi ne)) added-given ∙ sym (difference-less _ _ d)

  pub taker-weight : (c : Config) → (i ≡ j → ⊥) → weight_of c (added l i j d) j ≡ weight_of c l j +ℤ pos d
  unfolding weight_of weight
  taker-weight c ne =
      ap₂ difference (ap (λ x. start_of c j + x) added-received) (added-given-other j hj (λ e. ne (sym e)))
      ∙ difference-same (start_of c j + (received_of l j + d)) (given_of l j) (start_of c j + received_of l j + d) (given_of l j + 0) (omega arith)
      ∙ sym (difference-add (start_of c j + received_of l j) (given_of l j) d 0)
      ∙ ap (λ x. difference (start_of c j + received_of l j) (given_of l j) +ℤ x) (sym (pos-difference d))

  pub other-weight : (c : Config) (k : ℕ) → k < 16 → (k ≡ i → ⊥) → (k ≡ j → ⊥) → weight_of c (added l i j d) k ≡ weight_of c l k
  unfolding weight_of weight
  other-weight c k hk ni nj = ap₂ difference (ap (λ x. start_of c k + x) (added-received-other k hk nj)) (added-given-other k hk ni)

  -- ---- bounds

  pub added-bounded : (c : Config) → i < c.n → lawful c i j d ≡ true → d ≤ most_weight → bounded c l ≡ true → bounded c (added l i j d) ≡ true
  added-bounded c hn w s b =
      told-bounded c (added l i j d)
      (each_all 256 (cell_fits c.n (added l i j d)) (λ k h. cell k h (ℕ_discrete k (i * 16 + j))))
      (each_all 16 (row_fits (added l i j d)) (λ k h. row k h (ℕ_discrete k i)))
    where
      told : (all 256 (cell_fits c.n l) ≡ true) × (all 16 (row_fits l) ≡ true)
      told = bounded-told c l b

      legal : (i ≡ j → ⊥) × (j < c.n) × (1 ≤ d)
      legal = lawful-told c i j d w

      cell : (k : ℕ) → k < 256 → Dec (k ≡ i * 16 + j) → cell_fits c.n (added l i j d) k ≡ true
      cell k h (yes e) =
          let r : k / 16 ≡ i = omega arith in
          let q : k % 16 ≡ j = omega arith in
          may-hold-placed c.n k _ (omega (arith, hn)) (omega (arith, legal.1)) (λ z. legal.0 (omega arith))
      cell k h (no e) = ap (may_hold c.n k) (added-cell-other k e) ∙ all-each 256 (cell_fits c.n l) told.0 k h

      row : (k : ℕ) → k < 16 → Dec (k ≡ i) → row_fits (added l i j d) k ≡ true
      row k h (yes e) =
          rw e
          (ap₂ total_fits added-count added-given ∙ total-more (count_of l i) (given_of l i) d legal.2 s (all-each 16 (row_fits l) told.1 i hi))
      row k h (no e) = ap₂ total_fits (added-count-other k e) (added-given-other k h e) ∙ all-each 16 (row_fits l) told.1 k h
