-- Laws of the cluster's parameters: what validity says, the total, the least weight as the floor's other side, and what an answer tells.
use Rattle.std.specs.Prelude.{Result, Ok, Err, Some, None, is_ok, ok_or}
use Prim.Native.Nat.{ℕ, suc, ◌+◌, ◌-◌, ◌*◌, ◌/◌, ◌≤◌, ◌<◌}
use native.Mathlib.Nat.{add-mul, div-lt_iff_lt-mul, div-le_self, lt_of_mul-lt-mul_right, lt_of_le_of_lt, le-add_right}
use native.Mathlib.Omega.{arith}
use mathlib.Core.Path.{◌≡◌, refl, sym, ap, ◌∙◌}
use mathlib.Core.Logic.{⊎_elim}
use mathlib.Core.Bool.{Bool, true, false, cond, not}
use mathlib.Core.List.{[]}
use borrow.Author.Tests.{le-leb, leb-true, lt-ltb, le-ltb, ltb-true, lt-leb, eq-eqb, ne_eqb, eqb-true}
use lib.Dec.{leb, ltb, eqb}
use lib.IntN.{ℤ, pos, negsuc}
use lib.Signed.{lt_z}
use Rattle.quorums.specs.Difference.{difference}
use Rattle.quorums.specs.Sum.{sum, all}
use Rattle.quorums.proofs.Sums.{sum-const, sum-rest, sum_same, sum-extend, all-each, each_all, all_same}
use Rattle.quorums.proofs.Tests.{le-or-lt, ltb-same, leb-not, test-false, both, chosen-first}
use Rattle.quorums.proofs.Differences.{pos-difference, difference-down}
use Rattle.quorums.proofs.Weights.{above-is}
use Rattle.config.specs.declared.cluster.Config.{Config}
use Rattle.config.specs.Refusals.{Verdict, granted, refusal}
use Rattle.config.specs.declared.answer.Refusal.{Refusal}
use Rattle.config.specs.Cluster.{in_bounds, cluster_of, valid_of, lawful_of, ends_of, starts_above, cluster_fault, why_of, server_of, start_of, total_of, above_of, least_of, least_by}
use Rattle.config.specs.declared.cluster.First.{First}
use Rattle.config.specs.Firsts.{Firsts}
use Rattle.config.specs.Answers.{judged, checked_answer, total_answer, least_answer}

-- ---- validity

-- what it says of n and f
pub record Bounds (c : Config) : Type 0 where
  pub some : 1 ≤ c.n
  pub most : c.n ≤ 16
  pub crash : 2 * c.f < c.n

pub valid-bounds : (c : Config) → valid_of c ≡ true → Bounds c
unfolding valid_of
valid-bounds c e =
    let x = both (leb 1 c.n) _ e in
    let y = both (leb c.n 16) _ x.1 in
    record { some = leb-true _ _ x.0; most = leb-true _ _ y.0; crash = ltb-true _ _ y.1 }

pub in_bounds_lem : (n f : ℕ) → in_bounds n f ≡ true → Bounds (cluster_of n f [])
unfolding valid_of
in_bounds_lem n f e = valid-bounds (cluster_of n f []) e

pub bounds-valid : (c : Config) → Bounds c → valid_of c ≡ true
unfolding valid_of
bounds-valid c b = rw (le-leb _ _ b.some, le-leb _ _ b.most) (lt-ltb _ _ b.crash)

-- a server is one of a valid cluster
pub server-valid : (c : Config) (i : ℕ) → server_of c i ≡ true → (valid_of c ≡ true) × (i < c.n)
unfolding server_of
server-valid c i e = let x = both (valid_of c) _ e in (x.0, ltb-true _ _ x.1)

pub server-small : (c : Config) (i : ℕ) → server_of c i ≡ true → i < 16
server-small c i e = let x = server-valid c i e in omega (arith, x.1, (valid-bounds c x.0).most)

pub valid-server : (c : Config) (i : ℕ) → valid_of c ≡ true → i < c.n → server_of c i ≡ true
unfolding server_of
valid-server c i v l = rw v (lt-ltb _ _ l)

-- ---- lawful start weights

-- what they are by: n and f, zeros from n on, a total of at most 16,000, and each above the floor
pub record Lawful (c : Config) : Type 0 where
  pub valid : valid_of c ≡ true
  pub ends : ends_of c ≡ true
  pub small : total_of c ≤ 16000
  pub each-above : starts_above c ≡ true

pub lawful-told : (c : Config) → lawful_of c ≡ true → Lawful c
unfolding lawful_of
lawful-told c e =
    let x = both (valid_of c) _ e in
    let y = both (ends_of c) _ x.1 in
    let z = both (leb (total_of c) 16000) _ y.1 in
    record { valid = x.0; ends = y.0; small = leb-true _ _ z.0; each-above = z.1 }

pub told-lawful : (c : Config) → Lawful c → lawful_of c ≡ true
unfolding lawful_of
told-lawful c l = rw (l.valid, l.ends, le-leb _ _ l.small) l.each-above

pub lawful-valid : (c : Config) → lawful_of c ≡ true → valid_of c ≡ true
lawful-valid c e = (lawful-told c e).valid

pub lawful-bounds : (c : Config) → lawful_of c ≡ true → Bounds c
lawful-bounds c e = valid-bounds c (lawful-valid c e)

-- no start weights make up for n and f out of bounds
pub not-lawful : (c : Config) → valid_of c ≡ false → lawful_of c ≡ false
unfolding lawful_of
not-lawful c e = rw e refl

-- ---- the total and the floor

-- W and each start weight are small
pub total-small : (c : Config) → lawful_of c ≡ true → total_of c ≤ 16000
total-small c e = (lawful-told c e).small

pub start_small : (c : Config) (i : ℕ) → lawful_of c ≡ true → i < c.n → start_of c i ≤ 16000
unfolding total_of
start_small c i e l =
    let t = total-small c e in
    let z = sum-const c.n 0 in
    omega (arith, sum-rest c.n (λ k. 0) (start_of c) (λ k h. omega arith) i l)

-- x − y times k is above W exactly when x is above y by more than W / k
above_quotient : (k W x y : ℕ) → 0 < k → ltb (y * k + W) (x * k) ≡ leb (y + (W / k + 1)) x
above_quotient k W x y p =
    ltb-same (y * k + W) (x * k) (y + W / k) x
    (λ (h : y * k + W < x * k).
    let l : y < x = lt_of_mul-lt-mul_right k (lt_of_le_of_lt (le-add_right (y * k) W) h) in
    let z : W / k < x - y = (div-lt_iff_lt-mul p).1 (omega (arith, split l)) in
    omega arith)
    (λ (h : y + W / k < x).
    let z : W < (x - y) * k = (div-lt_iff_lt-mul p).0 (omega arith) in
    omega (arith, split (omega arith)))
    ∙ ap (λ z. leb z x) (omega arith)
  where
    split : y < x → y * k + (x - y) * k ≡ x * k
    split l = sym (add-mul y (x - y) k) ∙ ap (λ z. z * k) (omega arith)

-- A weight is above the floor exactly when it is no less than the least weight.
pub above-least : (c : Config) (x y : ℕ) → valid_of c ≡ true → above_of c (difference x y) ≡ leb (y + least_of c) x
unfolding above_of least_of
above-least c x y v =
    above-is c.n c.f (total_of c) x y
    ∙ above_quotient (2 * (c.n - c.f)) (total_of c) x y (omega (arith, (valid-bounds c v).crash))

-- the same of any signed weight, as a comparison
pub above-not-less : (c : Config) (w : ℤ) → valid_of c ≡ true → above_of c w ≡ not (lt_z w (pos (least_of c)))
above-not-less c (pos x) v =
    let whole : 0 + least_of c ≡ least_of c = omega arith in
    rw (pos-difference x, above-least c x 0 v, whole) (leb-not (least_of c) x)
above-not-less c (negsuc x) v = rw (below x, above-least c 0 (suc x) v) (lt-leb (suc x + least_of c) 0 (omega arith))
  where
    below : (x : ℕ) → negsuc x ≡ difference 0 (suc x)
    below x = ap negsuc (omega arith) ∙ sym (difference-down 0 (suc x) (omega arith))

-- Every start weight is above the floor.
pub start-above : (c : Config) (i : ℕ) → lawful_of c ≡ true → i < c.n → above_of c (difference (start_of c i) 0) ≡ true
unfolding starts_above
start-above c i v l = ap (above_of c) (sym (pos-difference (start_of c i))) ∙ all-each c.n _ (lawful-told c v).each-above i l

-- so it is no less than the least weight
pub start-least : (c : Config) (i : ℕ) → valid_of c ≡ true → above_of c (pos (start_of c i)) ≡ leb (least_of c) (start_of c i)
start-least c i v =
    let whole : 0 + least_of c ≡ least_of c = omega arith in
    ap (above_of c) (pos-difference (start_of c i)) ∙ above-least c (start_of c i) 0 v ∙ ap (λ x. leb x (start_of c i)) whole

-- and the least weight is small too
pub least-small : (c : Config) → lawful_of c ≡ true → least_of c ≤ 16001
unfolding least_of
least-small c v = omega (arith, div-le_self (total_of c) (2 * (c.n - c.f)), total-small c v)

-- ---- the tests of the start weights, by sums and by the least of them

-- whether the start weight at i is 0, from n on
abbrev end_at : Config → ℕ → Bool
end_at c i = cond (ltb i c.n) true (eqb (start_of c i) 0)

-- Those from n on are 0 exactly where the sum of all 16 is W.

pub total-all : (c : Config) → valid_of c ≡ true → ends_of c ≡ true → sum 16 (start_of c) ≡ total_of c
unfolding ends_of total_of
total-all c v e =
    let most = (valid-bounds c v).most in
    let k : c.n + (16 - c.n) ≡ 16 = omega arith in
    ap (λ m. sum m (start_of c)) (sym k)
    ∙ sum-extend c.n (16 - c.n) (start_of c)
    (λ i from to.
    let here = all-each 16 (end_at c) e i (omega arith) in
    eqb-true (start_of c i) 0 (rw (le-ltb i c.n from) at here))

-- the start weights of the n servers, and nothing beyond them
abbrev first_only : Config → ℕ → ℕ
first_only c i = cond (ltb i c.n) (start_of c i) 0

first-sum : (c : Config) → valid_of c ≡ true → sum 16 (first_only c) ≡ total_of c
unfolding total_of
first-sum c v =
    let most = (valid-bounds c v).most in
    let k : c.n + (16 - c.n) ≡ 16 = omega arith in
    ap (λ m. sum m (first_only c)) (sym k)
    ∙ sum-extend c.n (16 - c.n) (first_only c) (λ i from to. rw (le-ltb i c.n from) refl)
    ∙ sum_same c.n (first_only c) (start_of c) (λ i l. rw (lt-ltb i c.n l) refl)

first_below : (b : Bool) (x : ℕ) → cond b x 0 ≤ x
first_below true x = omega arith
first_below false x = omega arith

pub all-total : (c : Config) → valid_of c ≡ true → sum 16 (start_of c) ≡ total_of c → ends_of c ≡ true
unfolding ends_of
all-total c v e = each_all 16 (end_at c) (λ i l. ⊎_elim (λ (h : c.n ≤ i). beyond i h l) (λ (h : i < c.n). rw (lt-ltb i c.n h) refl) (le-or-lt c.n i))
  where
    beyond : (i : ℕ) → c.n ≤ i → i < 16 → end_at c i ≡ true
    beyond i h l =
        let none : first_only c i ≡ 0 = rw (le-ltb i c.n h) refl in
        let more = sum-rest 16 (first_only c) (start_of c) (λ k m. first_below (ltb k c.n) (start_of c k)) i l in
        rw (le-ltb i c.n h) (eq-eqb (start_of c i) 0 (omega (arith, more, first-sum c v, e, none)))

-- Each of the n is above the floor exactly where the least of them is no less than the least weight.
pub starts-least : (c : Config) → valid_of c ≡ true → starts_above c ≡ all c.n (λ i. leb (least_of c) (start_of c i))
unfolding starts_above
starts-least c v = all_same c.n _ _ (λ i l. start-least c i v)

-- ---- answers

pub value-not-refused : (x : ℕ) (r : Refusal) → Ok x ≡ Err r → ⊥
value-not-refused x r e = let z : ◌≡◌ {A = ℕ} 0 1 = cc in omega arith

refused-value : (r : Refusal) (x : ℕ) → Err r ≡ Ok x → ⊥
refused-value r x e = value-not-refused x r (sym e)

-- what an answer with a value tells, and one that refuses
told-value : (c : Config) (x y : ℕ) → judged (valid_of c) c (Ok x) Err ≡ Ok y → (lawful_of c ≡ true) × (y ≡ x)
told-value c x y e =
    let first = chosen-first (valid_of c) _ _ _ (refused-value _ y) e in
    let second = chosen-first (lawful_of c) _ _ _ (refused-value _ y) first.1 in
    (second.0, cc second.1)

-- the number of a refusal is the cluster's
told-refused : (c : Config) (x : ℕ) (r : Refusal) → judged (valid_of c) c (Ok x) Err ≡ Err r
    → (lawful_of c ≡ false) × (r ≡ refusal (cluster_fault c))
unfolding cluster_fault
told-refused c x r e = by-valid (valid_of c) refl
  where
    by_lawful : (t : Bool) → lawful_of c ≡ t → valid_of c ≡ true → (lawful_of c ≡ false) × (r ≡ refusal (cluster_fault c))
    by_lawful true l v = absurd (value-not-refused x r (rw (v, l) at e))
    by_lawful false l v = let z = rw (v, l) at e in (l, rw (v, l) (cc z))

    by-valid : (t : Bool) → valid_of c ≡ t → (lawful_of c ≡ false) × (r ≡ refusal (cluster_fault c))
    by-valid true v = by_lawful (lawful_of c) refl v
    by-valid false v = let z = rw v at e in (not-lawful c v, rw v (cc z))

pub total-told : (c : Config) (y : ℕ) → total_answer c ≡ Ok y → (lawful_of c ≡ true) × (y ≡ total_of c)
unfolding total_answer
total-told c y e = told-value c (total_of c) y e

pub total-refused : (c : Config) (r : Refusal) → total_answer c ≡ Err r → (lawful_of c ≡ false) × (r ≡ refusal (cluster_fault c))
unfolding total_answer
total-refused c r e = told-refused c (total_of c) r e

pub least-told : (c : Config) (y : ℕ) → least_answer c ≡ Ok y → (lawful_of c ≡ true) × (y ≡ least_of c)
unfolding least_answer
least-told c y e = told-value c (least_of c) y e

pub least-refused : (c : Config) (r : Refusal) → least_answer c ≡ Err r → (lawful_of c ≡ false) × (r ≡ refusal (cluster_fault c))
unfolding least_answer
least-refused c r e = told-refused c (least_of c) r e

-- what a call on a lawful cluster answers, and one on a cluster that isn't
pub judged-lawful : {A : Type 0} (c : Config) (x : A) (refused : Refusal → A) → lawful_of c ≡ true → judged (valid_of c) c x refused ≡ x
judged-lawful c x refused e = rw (lawful-valid c e, e) refl

pub judged-fault : {A : Type 0} (c : Config) (x : A) (refused : Refusal → A) → lawful_of c ≡ false → judged (valid_of c) c x refused ≡ refused (refusal (cluster_fault c))
unfolding cluster_fault
judged-fault {A} c x refused e = by-valid (valid_of c)
  where
    by-valid : (t : Bool) → cond t (cond (lawful_of c) x (refused (refusal 15))) (refused (refusal 1)) ≡ refused (refusal (cond t (cond (lawful_of c) 0 15) 1))
    by-valid true = rw e refl
    by-valid false = refl

-- what a call answers that asks for the least weight first, and hands on what is wrong
pub judged-ok : {A : Type 0} (c : Config) (x : Result A Refusal) (k : ℕ) → least_answer c ≡ Ok k → x ≡ judged (valid_of c) c x Err
judged-ok c x k e = sym (judged-lawful c x Err (least-told c k e).0)

pub judged-err : {A : Type 0} (c : Config) (x : Result A Refusal) (r : Refusal) → least_answer c ≡ Err r → Err r ≡ judged (valid_of c) c x Err
judged-err c x r e = let t = least-refused c r e in ap Err t.1 ∙ sym (judged-fault c x Err t.0)

-- what a call answers that asks whether anything is wrong: the refusal of that number, 0 being none
pub checked-fault : (c : Config) → checked_answer c ≡ cond (eqb (cluster_fault c) 0) granted (Err (refusal (cluster_fault c)))
unfolding checked_answer cluster_fault
checked-fault c = by_tests (valid_of c) (lawful_of c)
  where
    by_tests : (v l : Bool)
        → ◌≡◌ {A = Verdict} (cond v (cond l granted (Err (refusal 15))) (Err (refusal 1))) (cond (eqb (cond v (cond l 0 15) 1) 0) granted (Err (refusal (cond v (cond l 0 15) 1))))
    by_tests true true = refl
    by_tests true false = refl
    by_tests false l = refl

pub checked-told : (c : Config) → checked_answer c ≡ granted → lawful_of c ≡ true
unfolding checked_answer
checked-told c e = by_tests (valid_of c) (lawful_of c) e
  where
    by_tests : (v l : Bool) → ◌≡◌ {A = Verdict} (cond v (cond l granted (Err (refusal 15))) (Err (refusal 1))) granted → l ≡ true
    by_tests true true d = refl
    by_tests true false d = cc
    by_tests false l d = cc

pub checked-refused : (c : Config) (r : Refusal) → valid_of c ≡ true → checked_answer c ≡ Err r → (lawful_of c ≡ false) × (r ≡ refusal 15)
unfolding checked_answer
checked-refused c r v e = by_lawful (lawful_of c) (rw v at e)
  where
    by_lawful : (l : Bool) → ◌≡◌ {A = Verdict} (cond l granted (Err (refusal 15))) (Err r) → (l ≡ false) × (r ≡ refusal 15)
    by_lawful true d = cc
    by_lawful false d = (refl, cc)

-- the least weight is there exactly for a lawful cluster
pub least-ok : (c : Config) → is_ok (least_answer c) ≡ lawful_of c
unfolding least_answer
least-ok c = by_lawful (lawful_of c) refl
  where
    by_lawful : (l : Bool) → lawful_of c ≡ l → is_ok (judged (valid_of c) c (Ok (least_of c)) Err) ≡ l
    by_lawful true e = ap is_ok (judged-lawful c _ Err e)
    by_lawful false e = ap is_ok (judged-fault c _ Err e)

pub chosen-ok : (c : Config) (k : ℕ) → ok_or (cond (lawful_of c) (Some (least_of c)) None) (refusal 15) ≡ Ok k → (lawful_of c ≡ true) × (k ≡ least_of c)
chosen-ok c k e = by_lawful (lawful_of c) e
  where
    by_lawful : (l : Bool) → ok_or (cond l (Some (least_of c)) None) (refusal 15) ≡ Ok k → (l ≡ true) × (k ≡ least_of c)
    by_lawful true d = (refl, cc)
    by_lawful false d = cc

pub chosen-err : (c : Config) (r : Refusal) → ok_or (cond (lawful_of c) (Some (least_of c)) None) (refusal 15) ≡ Err r → (lawful_of c ≡ false) × (r ≡ refusal 15)
chosen-err c r e = by_lawful (lawful_of c) e
  where
    by_lawful : (l : Bool) → ok_or (cond l (Some (least_of c)) None) (refusal 15) ≡ Err r → (l ≡ false) × (r ≡ refusal 15)
    by_lawful true d = cc
    by_lawful false d = (refl, cc)

pub least-of-valid : (c : Config) → valid_of c ≡ true → ok_or (cond (lawful_of c) (Some (least_of c)) None) (refusal 15) ≡ least_answer c
unfolding least_answer
least-of-valid c v = rw v (by_lawful (lawful_of c))
  where
    by_lawful : (l : Bool) → ok_or (cond l (Some (least_of c)) None) (refusal 15) ≡ cond l (Ok (least_of c)) (Err (refusal 15))
    by_lawful true = refl
    by_lawful false = refl

-- the cluster's number is 0 exactly for a lawful one, and else a refusal's
pub fault-none : (c : Config) → lawful_of c ≡ true → cluster_fault c ≡ 0
unfolding cluster_fault
fault-none c e = rw (lawful-valid c e, e) refl

pub fault-some : (c : Config) → lawful_of c ≡ false → (1 ≤ cluster_fault c) × (cluster_fault c ≤ 15)
unfolding cluster_fault
fault-some c e = by-valid (valid_of c)
  where
    by-valid : (t : Bool) → (1 ≤ cond t (cond (lawful_of c) 0 15) 1) × (cond t (cond (lawful_of c) 0 15) 1 ≤ 15)
    by-valid true = rw e (omega arith, omega arith)
    by-valid false = (omega arith, omega arith)

-- why a cluster is refused is its fault
pub why-fault : (c : Config) → lawful_of c ≡ false → why_of c ≡ refusal (cluster_fault c)
unfolding cluster_fault
why-fault c e = by-valid (valid_of c)
  where
    by-valid : (t : Bool) → cond t (refusal 15) (refusal 1) ≡ refusal (cond t (cond (lawful_of c) 0 15) 1)
    by-valid true = rw e refl
    by-valid false = refl

-- 1 for n and f, and 15 for the start weights
pub fault-first : (c : Config) → valid_of c ≡ false → cluster_fault c ≡ 1
unfolding cluster_fault
fault-first c e = rw e refl

pub fault-second : (c : Config) → valid_of c ≡ true → lawful_of c ≡ false → cluster_fault c ≡ 15
unfolding cluster_fault
fault-second c v e = rw (v, e) refl

pub fault-lawful : (c : Config) → eqb (cluster_fault c) 0 ≡ lawful_of c
fault-lawful c = by_lawful (lawful_of c) refl
  where
    by_lawful : (t : Bool) → lawful_of c ≡ t → eqb (cluster_fault c) 0 ≡ t
    by_lawful true e = eq-eqb (cluster_fault c) 0 (fault-none c e)
    by_lawful false e = ne_eqb (cluster_fault c) 0 (λ z. omega (arith, z, (fault-some c e).0))

-- ---- the least weight, from what is found of the first n

module _ (c : Config) (v : valid_of c ≡ true) (first : First) (f : Firsts c.starts c.n first) where
  total-found : first.total ≡ total_of c
  unfolding total_of start_of
  total-found = f.total-is

  pub least-beyond : (sum 16 (start_of c) ≡ first.total → ⊥) → lawful_of c ≡ false
  least-beyond ne = test-false (lawful_of c) (λ l. ne (total-all c v (lawful-told c l).ends ∙ sym total-found))

  -- the least of them, beside the least weight
  lowest-above : least_of c ≤ 65535 → starts_above c ≡ leb (least_of c) first.lowest
  unfolding start_of
  lowest-above s = starts-least c v ∙ sym (f.lowest-is (least_of c) s)

  least-is : first.total / (2 * (c.n - c.f)) + 1 ≡ least_of c
  unfolding least_of
  least-is = ap (λ x. x / (2 * (c.n - c.f)) + 1) total-found

  pub least-found : sum 16 (start_of c) ≡ first.total → least_by c.n c.f first.total first.lowest ≡ cond (lawful_of c) (Some (least_of c)) None
  unfolding least_by lawful_of
  least-found all_are =
      ⊎_elim
      (λ (few : first.total ≤ 16000).
      let low : least_of c ≤ 65535 = omega (arith, least-is, few, div-le_self first.total (2 * (c.n - c.f))) in
      rw (v, all-total c v (all_are ∙ total-found), least-is, sym total-found, le-leb _ _ few, lowest-above low) refl)
      (λ (many : 16000 < first.total).
      rw (v, all-total c v (all_are ∙ total-found), sym total-found, lt-leb _ _ many) refl)
      (le-or-lt first.total 16000)

-- W is the sum of 16 too
pub total-sum : (c : Config) → lawful_of c ≡ true → sum 16 (start_of c) ≡ total_of c
total-sum c e = total-all c (lawful-valid c e) (lawful-told c e).ends
