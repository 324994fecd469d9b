-- What a call is given and what is kept of it: the same start weights, the same W, and the same number for what is wrong; and what a level house comes to.
use Rattle.std.specs.Prelude.{Ok, Err, Result, ok_or}
use Rattle.config.specs.Refusals.{refusal}
use Prim.Native.Nat.{ℕ, ◌+◌, ◌-◌, ◌*◌, ◌^◌, ◌≤◌, ◌<◌}
use native.Mathlib.Omega.{arith}
use mathlib.Core.Path.{◌≡◌, refl, sym, ap, ◌∙◌}
use mathlib.Core.Logic.{⊎_elim}
use mathlib.Core.Bool.{Bool, true, false, cond}
use mathlib.Core.List.{List}
use borrow.Author.Tests.{le-leb, leb-true, lt-ltb, le-ltb, ltb-true, eq-eqb, eqb-true}
use lib.Dec.{eqb, leb, ltb}
use lib.IntN.{pos}
use lib.ListN.{length, get_or, replicate, length-replicate, get_or-replicate, get_or-eq_default}
use Rattle.quorums.specs.Sum.{sum}
use Rattle.quorums.specs.Accounts.{above}
use Rattle.quorums.proofs.Sums.{sum-const, sum-rest, sum_same, all-each, each_all, all_same}
use Rattle.quorums.proofs.Tables.{table_at, table-length}
use Rattle.quorums.proofs.Tests.{le-or-lt, one-test, test-false, both}
use Rattle.quorums.proofs.Differences.{pos-difference}
use Rattle.quorums.proofs.Weights.{above-is}
use Rattle.config.specs.Answers.{judged, least_answer, config_answer}
use Rattle.config.specs.declared.answer.Refusal.{Refusal}
use Rattle.config.specs.declared.list.Lawful.{Lawful}
use Rattle.config.specs.declared.cluster.First.{First}
use Rattle.config.specs.Firsts.{Firsts}
use Rattle.config.specs.Cluster.{House, Typed, no_config, level, in_bounds, valid_of, start_of, total_of, above_of, ends_of, starts_above, lawful_of, least_of, least_by, cluster_fault, lawful_list, house_fault, keeps, kept_of, config_of}
use Rattle.config.proofs.Clusters.{valid-bounds, lawful-told, told-lawful, start-above, total-all, least-found, least-of-valid}
use Rattle.config.proofs.Filled.{Gathered, filled_keeps}

-- entry i of the list, and W
abbrev entry : House → ℕ → ℕ
entry h i = get_or h.starts i 0

abbrev weight : House → ℕ
weight h = sum h.n (entry h)

-- ---- what the tests of a list say

pub record Listed (h : House) : Type 0 where
  pub long : length h.starts ≡ h.n
  pub small : weight h ≤ 16000
  pub each-above : (i : ℕ) → i < h.n → above h.n h.f (weight h) (pos (entry h i)) ≡ true

pub list-told : (h : House) → lawful_list h ≡ true → Listed h
unfolding lawful_list
list-told h e =
    let x = both (eqb (length h.starts) h.n) _ e in
    let y = both (leb (weight h) 16000) _ x.1 in
    record { long = eqb-true _ _ x.0; small = leb-true _ _ y.0; each-above = all-each h.n (λ i. above h.n h.f (weight h) (pos (entry h i))) y.1 }

pub told-list : (h : House) → Listed h → lawful_list h ≡ true
unfolding lawful_list
told-list h l = rw (eq-eqb _ _ l.long, le-leb _ _ l.small) (each_all h.n (λ i. above h.n h.f (weight h) (pos (entry h i))) l.each-above)

-- no entry is above the sum
entry-small : (h : House) → weight h ≤ 16000 → (i : ℕ) → i < h.n → entry h i ≤ 16000
entry-small h s i l = omega (arith, sum-rest h.n (λ k. 0) (entry h) (λ k b. omega arith) i l, sum-const h.n 0)

-- ---- what is kept

record Kept (h : House) : Type 0 where
  long : length h.starts ≡ h.n
  few : h.n ≤ 16

kept-told : (h : House) → keeps h.n h.starts ≡ true → Kept h
unfolding keeps
kept-told h e =
    let x = both (eqb (length h.starts) h.n) _ e in
    let y = both (leb h.n 16) _ x.1 in
    record { long = eqb-true _ _ x.0; few = leb-true _ _ y.0 }

told-kept : (h : House) → Kept h → ((i : ℕ) → i < h.n → entry h i ≤ 16000) → keeps h.n h.starts ≡ true
unfolding keeps
told-kept h k each =
    rw (eq-eqb _ _ k.long, le-leb _ _ k.few) (each_all h.n (λ i. leb (entry h i) 16000) (λ i l. le-leb _ _ (each i l)))

start-kept : (h : House) → keeps h.n h.starts ≡ true → (i : ℕ) → i < 16 → start_of (config_of h) i ≡ entry h i
unfolding start_of kept_of
start-kept h k i l = rw k (table_at 16 (entry h) i l)

start-blank : (h : House) → keeps h.n h.starts ≡ false → (i : ℕ) → i < 16 → start_of (config_of h) i ≡ 0
unfolding start_of kept_of
start-blank h k i l = rw k (get_or-replicate 16 i 0 0 l)

total_kept : (h : House) → keeps h.n h.starts ≡ true → total_of (config_of h) ≡ weight h
unfolding total_of
total_kept h k = sum_same h.n (start_of (config_of h)) (entry h) (λ i l. start-kept h k i (omega (arith, (kept-told h k).few)))

above_kept : (h : House) → keeps h.n h.starts ≡ true → (i : ℕ) → i < h.n → above_of (config_of h) (pos (start_of (config_of h) i)) ≡ above h.n h.f (weight h) (pos (entry h i))
unfolding above_of
above_kept h k i l = rw (total_kept h k, start-kept h k i (omega (arith, (kept-told h k).few))) refl

ends-kept : (h : House) → keeps h.n h.starts ≡ true → ends_of (config_of h) ≡ true
unfolding ends_of
ends-kept h k =
    each_all 16 (λ i. cond (ltb i h.n) true (eqb (start_of (config_of h) i) 0))
    (λ i l.
    ⊎_elim
    (λ (b : h.n ≤ i).
    let past : entry h i ≡ 0 = get_or-eq_default h.starts 0 (omega (arith, (kept-told h k).long)) in
    rw (le-ltb i h.n b) (eq-eqb _ _ (start-kept h k i l ∙ past)))
    (λ (b : i < h.n). rw (lt-ltb i h.n b) refl)
    (le-or-lt h.n i))

-- nothing but zeros is not lawful: 0 is not above the floor
blank-fails : (h : House) → keeps h.n h.starts ≡ false → lawful_of (config_of h) ≡ true → ⊥
unfolding above_of
blank-fails h k e =
    let b = valid-bounds (config_of h) (lawful-told (config_of h) e).valid in
    let up = start-above (config_of h) 0 e (omega (arith, b.some)) in
    let zero = start-blank h k 0 (omega arith) in
    let k2 = 2 * (h.n - h.f) in
    let low = ltb-true (0 * k2 + total_of (config_of h)) (start_of (config_of h) 0 * k2) (sym (above-is h.n h.f (total_of (config_of h)) (start_of (config_of h) 0) 0) ∙ up) in
    let none : start_of (config_of h) 0 * k2 ≡ 0 = rw zero (omega arith) in
    omega (arith, low, none)

-- ---- the start weights kept are lawful exactly where the list is

pub given-lawful : (h : House) → in_bounds h.n h.f ≡ true → lawful_of (config_of h) ≡ lawful_list h
unfolding valid_of starts_above
given-lawful h v = one-test (lawful_of (config_of h)) (lawful_list h) to from
  where
    to : lawful_of (config_of h) ≡ true → lawful_list h ≡ true
    to e = by-keeps (keeps h.n h.starts) refl
      where
        by-keeps : (t : Bool) → keeps h.n h.starts ≡ t → lawful_list h ≡ true
        by-keeps true k =
            let l = lawful-told (config_of h) e in
            told-list h (record {
              long = (kept-told h k).long;
              small = omega (arith, l.small, total_kept h k);
              each-above = λ i b. sym (above_kept h k i b) ∙ all-each h.n (λ j. above_of (config_of h) (pos (start_of (config_of h) j))) l.each-above i b;
            })
        by-keeps false k = absurd (blank-fails h k e)

    from : lawful_list h ≡ true → lawful_of (config_of h) ≡ true
    from e =
        let l = list-told h e in
        let k = told-kept h (record { long = l.long; few = (valid-bounds (config_of h) v).most }) (entry-small h l.small) in
        told-lawful (config_of h) (record {
          valid = v;
          ends = ends-kept h k;
          small = omega (arith, l.small, total_kept h k);
          each-above = each_all h.n (λ j. above_of (config_of h) (pos (start_of (config_of h) j))) (λ i b. above_kept h k i b ∙ l.each-above i b);
        })

-- What is wrong with what is kept is what is wrong with what was given.
pub given-fault : (h : House) → cluster_fault (config_of h) ≡ house_fault h
unfolding cluster_fault house_fault valid_of
given-fault h = by-bounds (in_bounds h.n h.f) refl
  where
    by-bounds : (t : Bool) → in_bounds h.n h.f ≡ t → ◌≡◌ {A = ℕ} (cond t (cond (lawful_of (config_of h)) 0 15) 1) (cond t (cond (lawful_list h) 0 15) 1)
    by-bounds true v = rw (given-lawful h v) refl
    by-bounds false v = refl

-- So what is answered to what was given is what is answered to what is kept.
pub given-answer : (h : House)
    → judged (valid_of (config_of h)) (config_of h) (Ok (record { config = config_of h; least = least_of (config_of h) })) Err ≡ config_answer h
unfolding config_answer cluster_fault
given-answer h = rw (sym (given-fault h)) (by_tests (valid_of (config_of h)) (lawful_of (config_of h)) _)
  where
    by_tests : (v l : Bool) (x : Lawful)
        → ◌≡◌ {A = Result Lawful Refusal} (cond v (cond l (Ok x) (Err (refusal 15))) (Err (refusal 1)))
        (cond (eqb (cond v (cond l 0 15) 1) 0) (Ok x) (Err (refusal (cond v (cond l 0 15) 1))))
    by_tests true true x = refl
    by_tests true false x = refl
    by_tests false l x = refl

-- ---- the answer to what is given, as it is found entry by entry

-- n or f is out of bounds
pub bounds-refused : (h : House) → in_bounds h.n h.f ≡ false → Err (refusal 1) ≡ config_answer h
unfolding config_answer house_fault
bounds-refused h e = rw e refl

-- the list is not lawful: it has another length, or an entry that is above what all may weigh together
list-refused : (h : House) → in_bounds h.n h.f ≡ true → lawful_list h ≡ false → Err (refusal 15) ≡ config_answer h
unfolding config_answer house_fault
list-refused h v e = rw (v, e) refl

pub length-refused : (h : House) → in_bounds h.n h.f ≡ true → (length h.starts ≡ h.n → ⊥) → Err (refusal 15) ≡ config_answer h
length-refused h v ne = list-refused h v (test-false (lawful_list h) (λ l. ne (list-told h l).long))

pub entry-refused : (h : House) → in_bounds h.n h.f ≡ true → (i : ℕ) → i < h.n → 16000 < get_or h.starts i 0 → Err (refusal 15) ≡ config_answer h
entry-refused h v i l big =
    list-refused h v (test-false (lawful_list h) (λ e. omega (arith, big, entry-small h (list-told h e).small i l)))

-- what the entries come to gives the least weight of what is kept, or what is wrong with it
pub gathered-least : (h : House) (kept : List ℕ) (total lowest : ℕ) → in_bounds h.n h.f ≡ true → Gathered h.n h.starts kept total lowest h.n
    → ok_or (least_by h.n h.f total lowest) (refusal 15) ≡ least_answer (config_of h)
unfolding valid_of start_of
gathered-least h kept total lowest v g =
    let k = filled_keeps h.n h.starts kept g.filled in
    let few = (kept-told h k).few in
    let first : First = record { total = total; lowest = lowest } in
    let same : sum h.n (λ i. get_or (config_of h).starts i 0) ≡ weight h = sum_same h.n _ (entry h) (λ i l. start-kept h k i (omega (arith, few))) in
    let firsts : Firsts (config_of h).starts h.n first =
    record {
      total-is = g.total-is ∙ sym same;
      total-small = omega (arith, g.total-small, few);
      lowest-is = λ b l. g.lowest-is b l ∙ sym (all_same h.n _ _ (λ i m. ap (leb b) (start-kept h k i (omega (arith, few)))));
    } in
    ap (λ o. ok_or o (refusal 15)) (least-found (config_of h) v first firsts (total-all (config_of h) v (ends-kept h k) ∙ total_kept h k ∙ sym g.total-is))
    ∙ least-of-valid (config_of h) v

-- ---- what a call can have

zeros-typed : (n f : ℕ) → n < 2 ^ 64 → f < 2 ^ 64 → Typed (record { n = n; f = f; starts = replicate 16 0 })
unfolding start_of
zeros-typed n f a b =
    record {
      n-fits = a;
      f-fits = b;
      sixteen-starts = length-replicate {A = ℕ} 16 0;
      start_fits =
          λ i.
          let none : get_or {A = ℕ} (replicate 16 0) i 0 ≡ 0 =
          ⊎_elim (λ (l : 16 ≤ i). get_or-eq_default {A = ℕ} (replicate 16 0) 0 {n = i} (omega (arith, length-replicate {A = ℕ} 16 0))) (λ (l : i < 16). get_or-replicate 16 i 0 0 l)
          (le-or-lt 16 i) in
          omega (arith, none);
    }

pub none-typed : Typed no_config
none-typed = zeros-typed 0 0 (omega arith) (omega arith)

kept-typed : (h : House) → keeps h.n h.starts ≡ true → (i : ℕ) → start_of (config_of h) i ≤ 65535
unfolding keeps start_of kept_of
kept-typed h k i =
    ⊎_elim
    (λ (l : 16 ≤ i).
    let past : get_or (kept_of h.n h.starts) i 0 ≡ 0 = get_or-eq_default (kept_of h.n h.starts) 0 (rw k (omega (arith, table-length 16 (entry h)))) in
    omega (arith, past))
    (λ (l : i < 16).
    let each = (both (leb h.n 16) _ (both (eqb (length h.starts) h.n) _ k).1).1 in
    let small : entry h i ≤ 16000 =
    ⊎_elim (λ (b : h.n ≤ i). let past : entry h i ≡ 0 = get_or-eq_default h.starts 0 (omega (arith, (kept-told h k).long)) in omega (arith, past))
    (λ (b : i < h.n). leb-true _ _ (all-each h.n (λ j. leb (entry h j) 16000) each i b))
    (le-or-lt h.n i) in
    omega (arith, start-kept h k i l, small))
    (le-or-lt 16 i)

-- whatever is given, what is kept of it is a cluster that a call can have
pub given-typed : (h : House) → h.n < 2 ^ 64 → h.f < 2 ^ 64 → Typed (config_of h)
unfolding kept_of
given-typed h a b = by-keeps (keeps h.n h.starts) refl
  where
    by-keeps : (t : Bool) → keeps h.n h.starts ≡ t → Typed (config_of h)
    by-keeps true k = record { n-fits = a; f-fits = b; sixteen-starts = rw k (table-length 16 (entry h)); start_fits = kept-typed h k }
    by-keeps false k = rw k (zeros-typed h.n h.f a b)

-- ---- a lawful house

pub record Housed (h : House) : Type 0 where
  pub lawful : lawful_of (config_of h) ≡ true
  pub list : Listed h
  pub starts : (i : ℕ) → i < 16 → start_of (config_of h) i ≡ get_or h.starts i 0
  pub total : total_of (config_of h) ≡ sum h.n (λ i. get_or h.starts i 0)

pub house-told : (h : House) → house_fault h ≡ 0 → Housed h
unfolding house_fault
house-told h e = by-bounds (in_bounds h.n h.f) refl
  where
    by-list : (t : Bool) → lawful_list h ≡ t → in_bounds h.n h.f ≡ true → Housed h
    by-list true l v =
        let x = list-told h l in
        let k = told-kept h (record { long = x.long; few = leb-true _ _ (both (leb h.n 16) _ (both (leb 1 h.n) _ v).1).0 }) (entry-small h x.small) in
        record { lawful = given-lawful h v ∙ l; list = x; starts = start-kept h k; total = total_kept h k }
    by-list false l v = absurd (omega (arith, rw (v, l) at e))

    by-bounds : (t : Bool) → in_bounds h.n h.f ≡ t → Housed h
    by-bounds true v = by-list (lawful_list h) refl v
    by-bounds false v = absurd (omega (arith, rw v at e))

-- ---- a level house

module _ (n f : ℕ) (v : in_bounds n f ≡ true) where
  level-entry : (i : ℕ) → i < n → entry (level n f) i ≡ 1000
  level-entry i l = get_or-replicate n i 1000 0 l

  level-weight : weight (level n f) ≡ n * 1000
  level-weight = sum_same n (entry (level n f)) (λ i. 1000) level-entry ∙ sum-const n 1000

  -- it is lawful, because 2f < n
  pub level-fault : house_fault (level n f) ≡ 0
  unfolding house_fault valid_of
  level-fault =
      let b = valid-bounds (config_of (level n f)) v in
      let up : (i : ℕ) → i < n → above n f (weight (level n f)) (pos (entry (level n f) i)) ≡ true =
      λ i l.
      let more : 0 * (2 * (n - f)) + n * 1000 < 1000 * (2 * (n - f)) = omega (arith, b.crash, b.some) in
      rw (level-entry i l, level-weight, pos-difference 1000) (above-is n f (n * 1000) 1000 0 ∙ lt-ltb _ _ more) in
      let l = told-list (level n f) (record { long = length-replicate n 1000; small = omega (arith, level-weight, b.most); each-above = up }) in
      rw (v, l) refl

  pub level-lawful : lawful_of (config_of (level n f)) ≡ true
  level-lawful = (house-told (level n f) level-fault).lawful

  -- each server starts at 1,000, and W is 1,000 × n
  pub level-start : (i : ℕ) → i < n → start_of (config_of (level n f)) i ≡ 1000
  unfolding valid_of
  level-start i l = (house-told (level n f) level-fault).starts i (omega (arith, (valid-bounds (config_of (level n f)) v).most)) ∙ level-entry i l

  pub level-total : total_of (config_of (level n f)) ≡ n * 1000
  unfolding total_of
  level-total = sum_same n (start_of (config_of (level n f))) (λ i. 1000) level-start ∙ sum-const n 1000
