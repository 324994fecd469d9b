-- Order, values, results and tags make a run linearizable, whatever is run: by tag, of one tag the write first, then the reads by the place of their
-- begin.
use Prim.Native.Nat.{ℕ, ◌≤◌, ◌<◌}
use native.Mathlib.Omega.{arith}
use mathlib.Core.Path.{◌≡◌, refl, sym, ap, ◌∙◌, subst}
use mathlib.Core.Logic.{◌⊎◌, inl, inr}
use mathlib.Core.Bool.{true, false, true≢false}
use mathlib.Core.List.{List, []}
use Rattle.quorums.proofs.Tests.{le-or-lt}
use Rattle.machine.specs.Parties.{Register, below, Task, read, write, writes, Result}
use Rattle.machine.specs.Views.{View, Begins, Ends, Chose, SameTag, Order, OneWrite, Source, Values, Results, Tags}
use Rattle.machine.specs.Linear.{Takes, by_end, by-tag, Effect, Same, LastWrite, Unwritten, Linear, register_of, rank, Next, ByTag}
use Rattle.machine.proofs.Tags.{Lower, below-lower, below-no-higher, tag_below, same-sym, same-trans, same_left, same-right, Compared, compare-tags, below_apart}

-- ---- tasks

rank_most : (t : Task) → rank t ≤ 1
rank_most read = omega arith
rank_most (write w) = omega arith

-- what is no write has the last rank
rank-cases : (t : Task) → (writes t ≡ true) ⊎ (rank t ≡ 1)
rank-cases read = inr refl
rank-cases (write w) = inl refl

-- ---- of one place

same-desk : {v : View} {d e i j : ℕ} {t u : Task} → Begins v d i t → Begins v e j u → i ≡ j → d ≡ e
same-desk p q same = cc

same-task : {v : View} {d e i j : ℕ} {t u : Task} → Begins v d i t → Begins v e j u → i ≡ j → t ≡ u
same-task p q same = cc

-- ---- by rank, then by the place of the begin

next-trans : {v : View} (a b e : Effect v) → Next a b → Next b e → Next a e
next-trans a b e (inl l) (inl m) = inl (omega arith)
next-trans a b e (inl l) (inr m) = inl (omega (arith, m.0))
next-trans a b e (inr l) (inl m) = inl (omega (arith, l.0))
next-trans a b e (inr l) (inr m) = inr (l.0 ∙ m.0, omega (arith, l.1, m.1))

module _ (v : View) (order : Order v) (values : Values v) (results : Results v) (tags : Tags v) where
  -- an effect has chosen its register
  chose : (a : Effect v) → Chose v a.desk a.begun a.task (register_of a)
  chose a = by-case a.takes
    where
      by-case : {d i : ℕ} {t : Task} (e : Takes v d i t) → Chose v d i t (register_of (record { desk = d; begun = i; task = t; takes = e }))
      by-case {d} {i} {t} (by_end k x e) = results.chose d i k t x e
      by-case (by-tag g w h) = h

  -- the register of one operation is one
  one-register : (d i e j : ℕ) (t u : Task) (g h : Register) → d ≡ e → i ≡ j → t ≡ u → Chose v d i t g → Chose v e j u h → g ≡ h
  one-register d i e j t u g h p q s a b =
      tags.once d i t g h a
      (subst (λ z. Chose v z i t h) (sym p) (subst (λ z. Chose v e z t h) (sym q) (subst (λ z. Chose v e j z h) (sym s) b)))

  -- ---- a strict total order

  strict : (a b : Effect v) → ByTag v a b → Same a b → ⊥
  strict a b p s = by-case p
    where
      task : a.task ≡ b.task
      task = same-task (chose a).current.begun (chose b).current.begun s.1

      one : register_of a ≡ register_of b
      one = one-register a.desk a.begun b.desk b.begun a.task b.task _ _ s.0 s.1 task (chose a) (chose b)

      by_next : Next a b → ⊥
      by_next (inl l) = omega (arith, ap rank task)
      by_next (inr l) = omega (arith, l.1, s.1)

      by-case : ByTag v a b → ⊥
      by-case (inl l) = below_apart (register_of a) (register_of b) l (ap (λ y. y.stamp) one, ap (λ y. y.desk) one)
      by-case (inr l) = by_next l.1

  transitive : (a b e : Effect v) → ByTag v a b → ByTag v b e → ByTag v a e
  transitive a b e (inl l) (inl m) =
      inl (tag_below (register_of a) (register_of b) (register_of e) (below-no-higher (register_of a) (register_of b) l) m)
  transitive a b e (inl l) (inr m) = inl (sym (same-right (register_of a) (register_of b) (register_of e) m.0) ∙ l)
  transitive a b e (inr l) (inl m) = inl (same_left (register_of a) (register_of b) (register_of e) l.0 ∙ m)
  transitive a b e (inr l) (inr m) = inr (same-trans (register_of a) (register_of b) (register_of e) l.0 m.0, next-trans a b e l.1 m.1)

  total : (a b : Effect v) → ByTag v a b ⊎ (ByTag v b a ⊎ Same a b)
  total a b = by_tags (compare-tags (register_of a) (register_of b))
    where
      by-begun : SameTag (register_of a) (register_of b) → rank a.task ≡ rank b.task → (a.begun ≤ b.begun) ⊎ (b.begun < a.begun)
          → (b.begun ≤ a.begun) ⊎ (a.begun < b.begun) → ByTag v a b ⊎ (ByTag v b a ⊎ Same a b)
      by-begun s r (inl l) (inl m) =
          let same : a.begun ≡ b.begun = omega arith in
          inr (inr (same-desk (chose a).current.begun (chose b).current.begun same, same))
      by-begun s r (inl l) (inr m) = inl (inr (s, inr (r, m)))
      by-begun s r (inr l) m = inr (inl (inr (same-sym (register_of a) (register_of b) s, inr (sym r, l))))

      by_rank : SameTag (register_of a) (register_of b) → (rank a.task ≤ rank b.task) ⊎ (rank b.task < rank a.task)
          → (rank b.task ≤ rank a.task) ⊎ (rank a.task < rank b.task) → ByTag v a b ⊎ (ByTag v b a ⊎ Same a b)
      by_rank s (inl l) (inl m) = by-begun s (omega arith) (le-or-lt a.begun b.begun) (le-or-lt b.begun a.begun)
      by_rank s (inl l) (inr m) = inl (inr (s, inl m))
      by_rank s (inr l) m = inr (inl (inr (same-sym (register_of a) (register_of b) s, inl l)))

      by_tags : Compared (register_of a) (register_of b) → ByTag v a b ⊎ (ByTag v b a ⊎ Same a b)
      by_tags (inl l) = inl (inl l)
      by_tags (inr (inl l)) = inr (inl (inl l))
      by_tags (inr (inr s)) = by_rank s (le-or-lt (rank a.task) (rank b.task)) (le-or-lt (rank b.task) (rank a.task))

  -- ---- the order of the list

  real-time : (a b : Effect v) (k : ℕ) (x : Result) → Ends v a.desk a.begun a.task k x → k < b.begun → ByTag v a b
  real-time a b k x ends l = by_tags (compare-tags (register_of a) (register_of b))
    where
      o : (below (register_of b) (register_of a) ≡ false) × (writes b.task ≡ true → below (register_of a) (register_of b) ≡ true)
      o = order a.desk a.begun k a.task x (register_of a) ends (chose a) b.desk b.begun b.task (register_of b) l (chose b)

      earlier : a.begun < b.begun
      earlier = omega (arith, ends.current.earlier, l)

      -- a read with A's tag comes after A, which is the write, or a read begun before
      later : rank b.task ≡ 1 → (rank b.task ≤ rank a.task) ⊎ (rank a.task < rank b.task) → Next a b
      later r (inl m) = inr (omega (arith, rank_most a.task), earlier)
      later r (inr m) = inl m

      by_rank : SameTag (register_of a) (register_of b) → (writes b.task ≡ true) ⊎ (rank b.task ≡ 1) → ByTag v a b
      by_rank s (inl w) = absurd (below_apart (register_of a) (register_of b) (o.1 w) s)
      by_rank s (inr r) = inr (s, later r (le-or-lt (rank b.task) (rank a.task)))

      by_tags : Compared (register_of a) (register_of b) → ByTag v a b
      by_tags (inl m) = inl m
      by_tags (inr (inl m)) = absurd (true≢false (sym m ∙ o.0))
      by_tags (inr (inr s)) = by_rank s (rank-cases b.task)

  -- ---- what a read returns

  above-start : (e j : ℕ) (t : Task) (h : Register) → Chose v e j t h → writes t ≡ true → 1 ≤ h.stamp
  above-start e j read h p w = absurd (true≢false (sym w))
  above-start e j (write u) h p w = (tags.own e j u h p).1

  only_one : {g : Register} {w : List ℕ} (o : OneWrite v g w) (e j : ℕ) (t : Task) (h : Register) → Chose v e j t h → writes t ≡ true → SameTag h g
      → (e ≡ o.desk) × (j ≡ o.begun)
  only_one o e j read h p w s = absurd (true≢false (sym w))
  only_one o e j (write u) h p w s = o.only e j u h p s

  module _ (a : Effect v) (k : ℕ) (x : Result) (ends : Ends v a.desk a.begun read k x) where
    task : a.task ≡ read
    task = same-task (chose a).current.begun ends.current.begun refl

    is : register_of a ≡ x.register
    is = results.tag a.desk a.begun k read x (register_of a) ends (subst (λ t. Chose v a.desk a.begun t (register_of a)) task (chose a))

    tag_is : SameTag (register_of a) x.register
    tag_is = (ap (λ y. y.stamp) is, ap (λ y. y.desk) is)

    from_start : x.register.stamp ≡ 0 → Unwritten v (ByTag v) a
    from_start z b w p = by-case p
      where
        positive : 1 ≤ (register_of b).stamp
        positive = above-start b.desk b.begun b.task (register_of b) (chose b) w

        by-lower : Lower (register_of b) (register_of a) → ⊥
        by-lower (inl s) = omega (arith, positive, tag_is.0)
        by-lower (inr s) = omega (arith, positive, s.0, tag_is.0)

        by-case : ByTag v b a → ⊥
        by-case (inl l) = by-lower (below-lower (register_of b) (register_of a) l)
        by-case (inr q) = omega (arith, positive, q.0.0, tag_is.0)

    from-write : OneWrite v x.register x.register.value → LastWrite v (ByTag v) a x.register.value
    from-write o =
        record {
          by = wrote_it;
          wrote = refl;
          before = inr (same-sym (register_of a) o.register wrote-tag, inl (omega (arith, ap rank task)));
          last = no-later;
        }
      where
        -- the read has the write's tag
        wrote-tag : SameTag (register_of a) o.register
        wrote-tag = same-trans (register_of a) x.register o.register tag_is (same-sym o.register x.register o.tag)

        wrote_it : Effect v
        wrote_it =
            record { desk = o.desk; begun = o.begun; task = write x.register.value; takes = by-tag o.register refl o.chose }

        no-later : (b : Effect v) → writes b.task ≡ true → ByTag v b a → ByTag v b wrote_it ⊎ Same b wrote_it
        no-later b w (inl l) = inl (inl (sym (same-right (register_of b) (register_of a) o.register wrote-tag) ∙ l))
        no-later b w (inr q) = inr (only_one o b.desk b.begun b.task (register_of b) (chose b) w (same-trans (register_of b) (register_of a) x.register q.0 tag_is))

    returned : LastWrite v (ByTag v) a x.register.value ⊎ (Unwritten v (ByTag v) a × (x.register.value ≡ []))
    returned = by-source (values.returned a.desk a.begun k x ends)
      where
        by-source : Source v x.register x.register.value
            → LastWrite v (ByTag v) a x.register.value ⊎ (Unwritten v (ByTag v) a × (x.register.value ≡ []))
        by-source (inl s) = inr (from_start s.0, s.2)
        by-source (inr o) = inl (from-write o)

  pub linear : Linear v (ByTag v)
  linear = record { strict = strict; transitive = transitive; total = total; real-time = real-time; reads = returned }

-- ---- what follows from any such order

module _ (v : View) (Before : Effect v → Effect v → Type 0) (lin : Linear v Before) where
  -- It is an order of operations: what shows that one takes effect does not matter.
  pub one_place : (a b e : Effect v) → Same a b → Before a e → Before b e
  one_place a b e s p = by-case (lin.total b e)
    where
      by-case : Before b e ⊎ (Before e b ⊎ Same b e) → Before b e
      by-case (inl q) = q
      by-case (inr (inl q)) = absurd (lin.strict a b (lin.transitive a e b p q) s)
      by-case (inr (inr q)) = absurd (lin.strict a e p (s.0 ∙ q.0, s.1 ∙ q.1))

  -- the effect of an operation that ended
  abbrev pub ended : (d i : ℕ) (t : Task) (k : ℕ) (x : Result) → Ends v d i t k x → Effect v
  ended d i t k x e = record { desk = d; begun = i; task = t; takes = by_end k x e }

  -- A read that began after a write had ended returned that write's bytes, or those of a write that comes after it.
  pub later-read : (d i : ℕ) (w : List ℕ) (k : ℕ) (x : Result) (e : Ends v d i (write w) k x) (f j l : ℕ) (y : Result) (h : Ends v f j read l y)
      → k < j
      → (u : LastWrite v Before (ended f j read l y h) y.register.value)
      × (Before (ended d i (write w) k x e) u.by ⊎ Same (ended d i (write w) k x e) u.by)
  later-read d i w k x e f j l y h after = by-case (lin.reads b l y h)
    where
      a : Effect v
      a = ended d i (write w) k x e

      b : Effect v
      b = ended f j read l y h

      before : Before a b
      before = lin.real-time a b k x e after

      by-case : LastWrite v Before b y.register.value ⊎ (Unwritten v Before b × (y.register.value ≡ []))
          → (u : LastWrite v Before b y.register.value) × (Before a u.by ⊎ Same a u.by)
      by-case (inl u) = (u, u.last a refl before)
      by-case (inr n) = absurd (n.0 a refl before)
