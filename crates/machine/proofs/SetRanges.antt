-- The ranges of a set's counts and cells by the byte table: every closed set of a lawful history is within them. An amount is from 1 to W, at most
-- 16,000, so a row's total lies from its count to 16,000 × count.
use Prim.Native.Nat.{ℕ, ◌+◌, ◌*◌, ◌≤◌, ◌<◌, ◌^◌}
use native.Mathlib.Nat.{le_refl}
use native.Mathlib.Omega.{arith}
use mathlib.Core.Path.{◌≡◌, refl, sym, ◌∙◌}
use mathlib.Core.Bool.{Bool, true, false, cond}
use mathlib.Core.List.{List, [], ◌∷◌}
use borrow.Author.Tests.{eqb-true}
use lib.Dec.{eqb}
use Rattle.quorums.specs.Sum.{sum}
use Rattle.config.specs.Cluster.{House, config_of, lawful_of, start_of, total_of, most_weight}
use Rattle.config.specs.declared.cluster.Config.{Config}
use Rattle.config.proofs.Clusters.{lawful-bounds, total-small}
use Rattle.machine.specs.Sets.{Transfer, Transfers, has, union, tally, count, cell, given, received}
use Rattle.machine.specs.Calls.{most_count}
use Rattle.machine.specs.Steps.{Step, run_of, machine}
use Rattle.machine.specs.Sheets.{Found}
use Rattle.machine.proofs.Histories.{History, Closed, Lawfully}
use Rattle.machine.proofs.Sets.{tally-le, tally-zero}
use Rattle.machine.proofs.Closed.{closed-each, count_none, count_most}
use Rattle.machine.proofs.Always.{invariant}
use Rattle.machine.proofs.Sheets.{found-closed, union-closed}
use Rattle.machine.proofs.Rows.{givers-inside, given-cells, received-cells}

pub record SetRange (c : Config) (a : Transfers) : Type 0 where
  pub count_most : (i : ℕ) → count a i ≤ most_count
  -- a row's total lies from its count to 16,000 × count
  pub total-least : (i : ℕ) → count a i ≤ sum 16 (cell a i)
  pub total-most : (i : ℕ) → sum 16 (cell a i) ≤ most_weight * count a i
  -- so a cell has 32 bits; and no server gave to itself
  pub cell-most : (i j : ℕ) → cell a i j ≤ most_weight * most_count
  pub cell-fits : (i j : ℕ) → cell a i j < 2 ^ 32
  pub own : (i : ℕ) → cell a i i ≡ 0
  -- there is nothing of servers from n on
  pub counts-inside : (i : ℕ) → c.n ≤ i → count a i ≡ 0
  pub givers-inside : (i j : ℕ) → c.n ≤ i → cell a i j ≡ 0
  pub takers-inside : (i j : ℕ) → c.n ≤ j → cell a i j ≡ 0
  -- what each server gave and received, as a row and a column
  pub rows : (i : ℕ) → sum 16 (cell a i) ≡ given a i
  pub columns : (j : ℕ) → sum 16 (λ i. cell a i j) ≡ received a j

-- a sum of 16,000 for each
tally-weight : (p : Transfer → Bool) (a : Transfers) → tally (λ t. cond (p t) most_weight 0) a ≡ most_weight * tally (λ t. cond (p t) 1 0) a
unfolding tally
tally-weight p [] = refl
tally-weight p (t ∷ a) = omega (arith, tally-weight p a, one (p t))
  where
    one : (x : Bool) → cond x most_weight 0 ≡ most_weight * cond x 1 0
    one true = refl
    one false = refl

-- two numbers that count only where a test passes
where-le : (x : Bool) (m k : ℕ) → (x ≡ true → m ≤ k) → cond x m 0 ≤ cond x k 0
where-le true m k h = h refl
where-le false m k h = le_refl 0

where-zero : (x y : Bool) (k : ℕ) → (x ≡ true → y ≡ true → ⊥) → cond x (cond y k 0) 0 ≡ 0
where-zero true true k h = absurd (h refl refl)
where-zero true false k h = refl
where-zero false y k h = refl

module _ (c : Config) (lawful : lawful_of c ≡ true) {h : History} {a : Transfers} (law : Lawfully c.n c.f (start_of c) h) (k : Closed h a) where
  -- every amount is from 1 to 16,000
  amounts : (t : Transfer) → has a t ≡ true → (1 ≤ t.amount) × (t.amount ≤ most_weight)
  unfolding total_of
  amounts =
      closed-each k (λ t. (1 ≤ t.amount) × (t.amount ≤ most_weight))
      (λ g m e. ((law.each g m).amount, omega (arith, (law.each g m).most, total-small c lawful)))

  count-given : (i : ℕ) → count a i ≤ given a i
  unfolding count given
  count-given i = tally-le _ _ a (λ t e. where-le (eqb t.giver i) 1 t.amount (λ s. (amounts t e).0))

  given-count : (i : ℕ) → given a i ≤ most_weight * count a i
  unfolding count given
  given-count i =
      omega (
        arith,
        tally-le (λ t. cond (eqb t.giver i) t.amount 0) (λ t. cond (eqb t.giver i) most_weight 0) a
            (λ t e. where-le (eqb t.giver i) t.amount most_weight (λ s. (amounts t e).1)),
        tally-weight (λ t. eqb t.giver i) a,
      )

  cell-given : (i j : ℕ) → cell a i j ≤ given a i
  unfolding cell given
  cell-given i j = tally-le _ _ a (λ t e. where-le (eqb t.giver i) _ t.amount (λ s. part (eqb t.taker j) t.amount))
    where
      part : (x : Bool) (m : ℕ) → cond x m 0 ≤ m
      part true m = le_refl m
      part false m = omega arith

  -- a cell without transfers
  cell-none : (i j : ℕ) → ((t : Transfer) → has a t ≡ true → t.giver ≡ i → t.taker ≡ j → ⊥) → cell a i j ≡ 0
  unfolding cell
  cell-none i j p =
      tally-zero _ a (λ t e. where-zero (eqb t.giver i) (eqb t.taker j) t.amount (λ s u. p t e (eqb-true _ _ s) (eqb-true _ _ u)))

  pub closed-range : SetRange c a
  closed-range =
      record {
        count_most = count_most law k;
        total-least = λ i. omega (arith, row i, count-given i);
        total-most = λ i. omega (arith, row i, given-count i);
        cell-most = λ i j. omega (arith, cell-given i j, given-count i, count_most law k i);
        cell-fits = λ i j. omega (arith, cell-given i j, given-count i, count_most law k i);
        own = λ i. cell-none i i (closed-each k (λ t. t.giver ≡ i → t.taker ≡ i → ⊥) (λ g m e s u. (law.each g m).other (u ∙ sym s)));
        counts-inside = λ i l. count_none a i (givers-inside law k i l);
        givers-inside = λ i j l. cell-none i j (λ t e s u. givers-inside law k i l t e s);
        takers-inside = λ i j l. cell-none i j (closed-each k (λ t. t.giver ≡ i → t.taker ≡ j → ⊥) (λ g m e s u. omega (arith, (law.each g m).taker)));
        rows = row;
        columns = λ j. received-cells law k 16 j (lawful-bounds c lawful).most;
      }
    where
      row : (i : ℕ) → sum 16 (cell a i) ≡ given a i
      row i = given-cells law k 16 i (lawful-bounds c lawful).most

-- ---- in a run

module _ (house : House) (lawful : lawful_of (config_of house) ≡ true) (steps : List Step) where
  abbrev c : Config
  c = config_of house

  -- every set held or sent, and what two of them join to
  pub found-range : (k : ℕ) (a : Transfers) → Found (run_of machine house steps) k a → SetRange c a
  found-range k a f = closed-range c lawful (invariant house lawful steps k).lawful (found-closed house lawful steps k a f)

  pub union-range : (k l : ℕ) (a b : Transfers) → Found (run_of machine house steps) k a → Found (run_of machine house steps) l b → SetRange c (union a b)
  union-range k l a b f g = closed-range c lawful (invariant house lawful steps (k + l)).lawful (union-closed house lawful steps k l a b f g)
