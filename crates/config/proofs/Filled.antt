-- A list of start weights that is kept entry by entry: after i turns the first i are in their places, none of them above 16,000, and there are zeros after them.
use Prim.Native.Nat.{ℕ, ◌+◌, ◌*◌, ◌≤◌, ◌<◌, min}
use native.Mathlib.Omega.{arith}
use mathlib.Core.Path.{◌≡◌, refl, sym, ap, ◌∙◌}
use mathlib.Core.Logic.{⊎_elim}
use mathlib.Core.Bool.{true, false}
use mathlib.Core.List.{List}
use borrow.Author.Tests.{le-leb, lt-leb, eq-eqb, ne_eqb}
use lib.Dec.{leb}
use lib.ListN.{length, get_or, set, replicate, length-replicate, length-set, get_or-replicate, get_or-eq_default}
use lib.Seq.{get_or-set_other}
use Rattle.quorums.specs.Sum.{sum, all}
use Rattle.quorums.proofs.Sums.{sum-none, sum-next, all_none, all-turn, each_all, all-fails}
use Rattle.quorums.proofs.Tables.{is-table, filled_next}
use Rattle.quorums.proofs.Tests.{le-or-lt}
use Rattle.config.specs.Cluster.{keeps, kept_of}
use Rattle.config.proofs.Lowest.{leb-most, leb-min-last}

pub record Filled (n : ℕ) (starts kept : List ℕ) (i : ℕ) : Type 0 where
  pub long : length starts ≡ n
  pub few : n ≤ 16
  pub size : length kept ≡ 16
  pub most : i ≤ n
  pub done : (k : ℕ) → k < i → get_or kept k 0 ≡ get_or starts k 0
  pub small : (k : ℕ) → k < i → get_or starts k 0 ≤ 16000
  pub rest : (k : ℕ) → i ≤ k → k < 16 → get_or kept k 0 ≡ 0

module _ (n : ℕ) (starts : List ℕ) where
  -- the refusals: another length, too many, and a large entry
  blank : keeps n starts ≡ false → replicate 16 0 ≡ kept_of n starts
  unfolding kept_of
  blank e = rw e refl

  pub short : (length starts ≡ n → ⊥) → replicate 16 0 ≡ kept_of n starts
  unfolding keeps
  short h = blank (rw (ne_eqb (length starts) n h) refl)

  pub many : length starts ≡ n → 16 < n → replicate 16 0 ≡ kept_of n starts
  unfolding keeps
  many e h = blank (rw (eq-eqb (length starts) n e, lt-leb n 16 h) refl)

  pub large : length starts ≡ n → n ≤ 16 → (i : ℕ) → i < n → 16000 < get_or starts i 0 → replicate 16 0 ≡ kept_of n starts
  unfolding keeps
  large e l i h big =
      blank (rw (eq-eqb (length starts) n e, le-leb n 16 l) (all-fails n (λ k. leb (get_or starts k 0) 16000) i h (lt-leb (get_or starts i 0) 16000 big)))

  -- all entries are in their places
  pub filled_keeps : (kept : List ℕ) → Filled n starts kept n → keeps n starts ≡ true
  unfolding keeps
  filled_keeps kept x =
      rw (eq-eqb (length starts) n x.long, le-leb n 16 x.few)
      (each_all n (λ k. leb (get_or starts k 0) 16000) (λ k l. le-leb (get_or starts k 0) 16000 (x.small k l)))

  pub filled-all : (kept : List ℕ) → Filled n starts kept n → kept ≡ kept_of n starts
  unfolding kept_of
  filled-all kept x =
      rw (filled_keeps kept x)
      (is-table 16 (λ k. get_or starts k 0) kept x.size
      (λ k l.
      ⊎_elim (λ (b : n ≤ k). x.rest k b l ∙ sym (get_or-eq_default starts 0 (omega (arith, x.long)))) (λ (b : k < n). x.done k b) (le-or-lt n k)))

pub filled_none : (n : ℕ) (starts : List ℕ) → length starts ≡ n → n ≤ 16 → Filled n starts (replicate 16 0) 0
filled_none n starts e l =
    record {
      long = e;
      few = l;
      size = length-replicate {A = ℕ} 16 0;
      most = omega arith;
      done = λ k h. absurd (omega arith);
      small = λ k h. absurd (omega arith);
      rest = λ k h b. get_or-replicate 16 k 0 0 b;
    }

pub filled-turn : {n : ℕ} {starts kept : List ℕ} {i : ℕ} → Filled n starts kept i → i < n → get_or starts i 0 ≤ 16000 → Filled n starts (set kept i (get_or starts i 0)) (i + 1)
filled-turn {n} {starts} {kept} {i} x l s =
    record {
      long = x.long;
      few = x.few;
      size = length-set kept i (get_or starts i 0) ∙ x.size;
      most = omega arith;
      done = filled_next (λ k. get_or starts k 0) kept i (get_or starts i 0) (omega (arith, x.size, x.few)) x.done refl;
      small = λ k h. ⊎_elim (λ (b : i ≤ k). let same : i ≡ k = omega arith in rw (sym same) s) (λ (b : k < i). x.small k b) (le-or-lt i k);
      rest = λ k h b. get_or-set_other kept i k (get_or starts i 0) 0 (λ c. omega arith) ∙ x.rest k (omega arith) b;
    }

-- ---- and added up on the way: what the first i come to, and the bounds that all of them reach

pub record Gathered (n : ℕ) (starts kept : List ℕ) (total lowest i : ℕ) : Type 0 where
  pub filled : Filled n starts kept i
  pub total-is : total ≡ sum i (λ k. get_or starts k 0)
  pub total-small : total ≤ i * 16000
  pub lowest-is : (b : ℕ) → b ≤ 65535 → leb b lowest ≡ all i (λ k. leb b (get_or starts k 0))

pub gathered_none : (n : ℕ) (starts : List ℕ) → length starts ≡ n → n ≤ 16 → Gathered n starts (replicate 16 0) 0 65535 0
gathered_none n starts e l =
    record { filled = filled_none n starts e l; total-is = sym (sum-none _); total-small = omega arith; lowest-is = λ b h. leb-most b h ∙ sym (all_none _) }

pub gathered-turn : {n : ℕ} {starts kept : List ℕ} {total lowest i more low : ℕ} → Gathered n starts kept total lowest i → i < n → get_or starts i 0 ≤ 16000
    → more ≡ get_or starts i 0 → low ≡ min lowest (get_or starts i 0) → Gathered n starts (set kept i (get_or starts i 0)) (total + more) low (i + 1)
gathered-turn {n} {starts} {kept} {total} {lowest} {i} {more} {low} x l s e is =
    record {
      filled = filled-turn x.filled l s;
      total-is = sym (sum-next i _ ∙ ap (λ t. t + get_or starts i 0) (sym x.total-is) ∙ ap (λ m. total + m) (sym e));
      total-small = omega (arith, x.total-small, e);
      lowest-is = λ b h. ap (leb b) is ∙ all-turn i _ (leb b lowest) _ (x.lowest-is b h) (leb-min-last b lowest (get_or starts i 0));
    }
