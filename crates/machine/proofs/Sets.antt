-- Laws of sets of transfers: what a set has, unions and what a set lacks, and sums over a set. A sum over a is at most one over b where b has every
-- transfer of a that counts (`tally-part`): each is taken out of b in turn.
use Prim.Native.Nat.{ℕ, ◌+◌, ◌≤◌, ◌<◌}
use native.Mathlib.Nat.{le_refl}
use native.Mathlib.Omega.{arith}
use mathlib.Core.Path.{◌≡◌, refl, sym, ap, ◌∙◌, subst}
use mathlib.Core.Logic.{◌⊎◌, inl, inr, ⊎_elim}
use mathlib.Core.Bool.{Bool, true, false, cond, false≢true}
use mathlib.Core.List.{[], ◌∷◌, ◌++◌, append-nil}
use borrow.Author.Tests.{eq-eqb, eqb-true}
use lib.Dec.{eqb}
use lib.ListN.{length}
use Rattle.quorums.specs.Sum.{sum}
use Rattle.quorums.proofs.Tests.{test-false, le-or-lt, both}
use Rattle.quorums.proofs.Sums.{sum-add, sum-zero}
use Rattle.machine.specs.Sets.{Transfer, Transfers, same, has, includes, missing, union, tally}
use Rattle.machine.proofs.Histories.{Once, ◌⊇◌}

-- a test that does not matter
cond_same : {A : Type 0} (x : Bool) (y : A) → cond x y y ≡ y
cond_same true y = refl
cond_same false y = refl

-- ---- what a set has

pub same_self : (t : Transfer) → same t t ≡ true
unfolding same
same_self t = rw (self t.giver, self t.number, self t.taker) (self t.amount)
  where
    self : (k : ℕ) → eqb k k ≡ true
    self k = eq-eqb k k refl

pub same-is : (t u : Transfer) → same t u ≡ true → t ≡ u
unfolding same
same-is t u e =
    let x = both (eqb t.giver u.giver) _ e in
    let y = both (eqb t.number u.number) _ x.1 in
    let z = both (eqb t.taker u.taker) _ y.1 in
    let giver = eqb-true _ _ x.0 in
    let number = eqb-true _ _ y.0 in
    let taker = eqb-true _ _ z.0 in
    let amount = eqb-true _ _ z.1 in
    λ i. record { giver = giver i; number = number i; taker = taker i; amount = amount i }

pub has-none : (t : Transfer) → has [] t ≡ true → ⊥
unfolding has
has-none t e = false≢true e

pub has_first : (t : Transfer) (a : Transfers) → has (t ∷ a) t ≡ true
unfolding has
has_first t a = rw (same_self t)

pub has_rest : (t u : Transfer) (a : Transfers) → has a u ≡ true → has (t ∷ a) u ≡ true
unfolding has
has_rest t u a e = rw e (cond_same (same t u) true)

pub has-cases : (t u : Transfer) (a : Transfers) → has (t ∷ a) u ≡ true → (t ≡ u) ⊎ (has a u ≡ true)
unfolding has
has-cases t u a e = by-test (same t u) refl e
  where
    by-test : (b : Bool) → same t u ≡ b → cond b true (has a u) ≡ true → (t ≡ u) ⊎ (has a u ≡ true)
    by-test true s e = inl (same-is t u s)
    by-test false s e = inr e

-- what is true of the first transfer and of the rest is true of each
pub has-each : (P : Transfer → Type 0) (t : Transfer) (a : Transfers) → P t → ((u : Transfer) → has a u ≡ true → P u)
    → (u : Transfer) → has (t ∷ a) u ≡ true → P u
has-each P t a p h u e = ⊎_elim (λ (s : t ≡ u). subst P s p) (λ (k : has a u ≡ true). h u k) (has-cases t u a e)

-- every transfer of a set passes a test, or one fails it
pub record Fails (test : Transfer → Bool) (b : Transfers) : Type 0 where
  pub one : Transfer
  pub there : has b one ≡ true
  pub failed : test one ≡ false

pub all-or-one : (test : Transfer → Bool) (b : Transfers) → ((t : Transfer) → has b t ≡ true → test t ≡ true) ⊎ Fails test b
all-or-one test [] = inl (λ t e. absurd (has-none t e))
all-or-one test (u ∷ b) = by-test (test u) refl (all-or-one test b)
  where
    by-test : (x : Bool) → test u ≡ x → ((t : Transfer) → has b t ≡ true → test t ≡ true) ⊎ Fails test b
        → ((t : Transfer) → has (u ∷ b) t ≡ true → test t ≡ true) ⊎ Fails test (u ∷ b)
    by-test true e rest =
        ⊎_elim (λ (all : (t : Transfer) → has b t ≡ true → test t ≡ true). inl (has-each (λ t. test t ≡ true) u b e all))
        (λ (x : Fails test b). inr (record { one = x.one; there = has_rest u x.one b x.there; failed = x.failed }))
        rest
    by-test false e rest = inr (record { one = u; there = has_first u b; failed = e })

pub has-append : (a b : Transfers) (t : Transfer) → has (a ++ b) t ≡ cond (has a t) true (has b t)
unfolding has
has-append [] b t = refl
has-append (u ∷ a) b t = rw (has-append a b t) (chosen (same u t))
  where
    chosen : (x : Bool) → cond x true (cond (has a t) true (has b t)) ≡ cond (cond x true (has a t)) true (has b t)
    chosen true = refl
    chosen false = refl

-- the transfers that a lacks: those of b that are not in a
pub has-missing : (a b : Transfers) (t : Transfer) → has (missing a b) t ≡ cond (has a t) false (has b t)
unfolding has missing
has-missing a [] t = sym (cond_same (has a t) false)
has-missing a (u ∷ b) t = by_first (has a u) (same u t) refl refl (has-missing a b t)
  where
    by_first : (x y : Bool) → has a u ≡ x → same u t ≡ y → has (missing a b) t ≡ cond (has a t) false (has b t)
        → has (cond x (missing a b) (u ∷ missing a b)) t ≡ cond (has a t) false (cond y true (has b t))
    by_first true true d e h = let f : has a t ≡ true = sym (ap (has a) (same-is u t e)) ∙ d in rw (h, f)
    by_first true false d e h = h
    by_first false true d e h = let f : has a t ≡ false = sym (ap (has a) (same-is u t e)) ∙ d in rw (e, f)
    by_first false false d e h = rw e h

pub has-union : (a b : Transfers) (t : Transfer) → has (union a b) t ≡ cond (has a t) true (has b t)
unfolding union
has-union a b t = rw (has-append a (missing a b) t, has-missing a b t) (chosen (has a t))
  where
    chosen : (x : Bool) → cond x true (cond x false (has b t)) ≡ cond x true (has b t)
    chosen true = refl
    chosen false = refl

pub union-either : (a b : Transfers) (t : Transfer) → has (union a b) t ≡ true → (has a t ≡ true) ⊎ (has b t ≡ true)
union-either a b t e = by-test (has a t) refl (sym (has-union a b t) ∙ e)
  where
    by-test : (x : Bool) → has a t ≡ x → cond (has a t) true (has b t) ≡ true → (has a t ≡ true) ⊎ (has b t ≡ true)
    by-test true s e = inl s
    by-test false s e = inr (rw s at e)

pub union_left : (a b : Transfers) → ◌⊇◌ (union a b) a
union_left a b t e = rw (has-union a b t, e)

pub union_right : (a b : Transfers) → ◌⊇◌ (union a b) b
union_right a b t e = rw (has-union a b t, e) (cond_same (has a t) true)

-- ---- parts and what is lacking

pub includes-part : (a b : Transfers) → includes a b ≡ true → ◌⊇◌ a b
unfolding includes
includes-part a [] e = λ t h. absurd (has-none t h)
includes-part a (u ∷ b) e = let x = both (has a u) (includes a b) e in has-each (λ t. has a t ≡ true) u b x.0 (includes-part a b x.1)

pub part-includes : (a b : Transfers) → ◌⊇◌ a b → includes a b ≡ true
unfolding includes
part-includes a [] h = refl
part-includes a (t ∷ b) h = rw (h t (has_first t b)) (part-includes a b (λ u e. h u (has_rest t u b e)))

pub missing-none : (a b : Transfers) → includes a b ≡ true → missing a b ≡ []
unfolding includes missing
missing-none a [] e = refl
missing-none a (t ∷ b) e = let x = both (has a t) (includes a b) e in rw x.0 (missing-none a b x.1)

pub missing-some : (a b : Transfers) → includes a b ≡ false → 1 ≤ length (missing a b)
unfolding includes missing
missing-some a [] e = absurd (false≢true (sym e))
missing-some a (t ∷ b) e = by_first (has a t) e (missing-some a b)
  where
    by_first : (x : Bool) → cond x (includes a b) false ≡ false → (includes a b ≡ false → 1 ≤ length (missing a b))
        → 1 ≤ length (cond x (missing a b) (t ∷ missing a b))
    by_first true e h = h e
    by_first false e h = omega arith

-- what is lacking depends only on what a set has
pub missing-same : (a b d : Transfers) → ((t : Transfer) → has a t ≡ has b t) → missing a d ≡ missing b d
unfolding missing
missing-same a b [] h = refl
missing-same a b (t ∷ d) h = rw (h t, missing-same a b d h)

pub union-included : (a b : Transfers) → includes a b ≡ true → union a b ≡ a
unfolding union
union-included a b e = rw (missing-none a b e) (append-nil a)

-- ---- sets without repetition

once-append : (a b : Transfers) → Once a → Once b → ((t : Transfer) → has b t ≡ true → has a t ≡ false) → Once (a ++ b)
unfolding has
once-append [] b p q h = q
once-append (t ∷ a) b p q h = (
  rw (has-append a b t, p.0) (test-false (has b t) (λ e. false≢true (sym (h t e) ∙ has_first t a))),
  once-append a b p.1 q (λ u e. test-false (has a u) (λ k. false≢true (sym (h u e) ∙ has_rest t u a k))),
)

once-missing : (a b : Transfers) → Once b → Once (missing a b)
unfolding missing
once-missing a [] p = p
once-missing a (t ∷ b) p = by_first (has a t) (once-missing a b p.1)
  where
    by_first : (x : Bool) → Once (missing a b) → Once (cond x (missing a b) (t ∷ missing a b))
    by_first true h = h
    by_first false h = (rw (has-missing a b t, p.0) (cond_same (has a t) false), h)

pub once-union : (a b : Transfers) → Once a → Once b → Once (union a b)
unfolding union
once-union a b p q = once-append a (missing a b) p (once-missing a b q) (λ t e. chosen (has a t) (has b t) (sym (has-missing a b t) ∙ e))
  where
    chosen : (x y : Bool) → cond x false y ≡ true → x ≡ false
    chosen true y e = absurd (false≢true e)
    chosen false y e = refl

-- ---- sums over a set

pub tally-le : (g h : Transfer → ℕ) (a : Transfers) → ((t : Transfer) → has a t ≡ true → g t ≤ h t) → tally g a ≤ tally h a
unfolding tally
tally-le g h [] l = le_refl 0
tally-le g h (t ∷ a) l = omega (arith, tally-le g h a (λ u e. l u (has_rest t u a e)), l t (has_first t a))

pub tally-same : (g h : Transfer → ℕ) (a : Transfers) → ((t : Transfer) → has a t ≡ true → g t ≡ h t) → tally g a ≡ tally h a
unfolding tally
tally-same g h [] e = refl
tally-same g h (t ∷ a) e = omega (arith, tally-same g h a (λ u k. e u (has_rest t u a k)), e t (has_first t a))

pub tally-zero : (g : Transfer → ℕ) (a : Transfers) → ((t : Transfer) → has a t ≡ true → g t ≡ 0) → tally g a ≡ 0
unfolding tally
tally-zero g [] e = refl
tally-zero g (t ∷ a) e = omega (arith, tally-zero g a (λ u k. e u (has_rest t u a k)), e t (has_first t a))

-- the sums over a set, for each number below n, are together the sum of what each transfer has for them
pub tally-sum : (n : ℕ) (g : ℕ → Transfer → ℕ) (a : Transfers) → sum n (λ i. tally (g i) a) ≡ tally (λ t. sum n (λ i. g i t)) a
unfolding tally
tally-sum n g [] = sum-zero n (λ i. 0) (λ i l. refl)
tally-sum n g (t ∷ a) = omega (arith, tally-sum n g a, sum-add n (λ i. tally (g i) a) (λ i. g i t))

-- the set less the transfer t
out : Transfer → Transfers → Transfers
out t [] = []
out t (u ∷ b) = cond (same u t) b (u ∷ out t b)

tally-out : (g : Transfer → ℕ) (t : Transfer) (b : Transfers) → has b t ≡ true → tally g b ≡ tally g (out t b) + g t
unfolding has tally out
tally-out g t [] e = absurd (false≢true e)
tally-out g t (u ∷ b) e = by_first (same u t) refl e (tally-out g t b)
  where
    by_first : (x : Bool) → same u t ≡ x → cond x true (has b t) ≡ true → (has b t ≡ true → tally g b ≡ tally g (out t b) + g t)
        → tally g b + g u ≡ tally g (cond x b (u ∷ out t b)) + g t
    by_first true s e h = ap (λ y. tally g b + g y) (same-is u t s)
    by_first false s e h = omega (arith, h e)

has-out : (t u : Transfer) (b : Transfers) → (t ≡ u → ⊥) → has b u ≡ true → has (out t b) u ≡ true
unfolding has out
has-out t u [] ne e = e
has-out t u (v ∷ b) ne e = by_first (same v t) refl (has-out t u b ne) (has-cases v u b e)
  where
    by_first : (x : Bool) → same v t ≡ x → (has b u ≡ true → has (out t b) u ≡ true) → (v ≡ u) ⊎ (has b u ≡ true)
        → has (cond x b (v ∷ out t b)) u ≡ true
    by_first true s h (inl i) = absurd (ne (sym (same-is v t s) ∙ i))
    by_first true s h (inr k) = k
    by_first false s h (inl i) = rw (← i) (has_first v (out t b))
    by_first false s h (inr k) = has_rest v u (out t b) (h k)

pub tally-part : (g : Transfer → ℕ) (a b : Transfers) → Once a
    → ((t : Transfer) → has a t ≡ true → 0 < g t → has b t ≡ true)
    → tally g a ≤ tally g b
unfolding tally
tally-part g [] b p h = omega arith
tally-part g (t ∷ a) b p h =
    ⊎_elim (λ (z : g t ≤ 0). omega (arith, tally-part g a b p.1 (λ u e l. h u (has_rest t u a e) l)))
    (λ (l : 0 < g t).
    omega (
      arith,
      tally-out g t b (h t (has_first t a) l),
      tally-part g a (out t b) p.1 (λ u e k. has-out t u b (λ s. apart u e s) (h u (has_rest t u a e) k)),
    ))
    (le-or-lt (g t) 0)
  where
    -- t stands in the list once, so no other place has it
    apart : (u : Transfer) → has a u ≡ true → t ≡ u → ⊥
    apart u e s = false≢true (sym p.0 ∙ subst (λ x. has a x ≡ true) (sym s) e)

-- the same of those transfers alone that a test chooses
pub tally-those : (p : Transfer → Bool) (g : Transfer → ℕ) (a b : Transfers) → Once a
    → ((t : Transfer) → has a t ≡ true → p t ≡ true → has b t ≡ true)
    → tally (λ t. cond (p t) (g t) 0) a ≤ tally (λ t. cond (p t) (g t) 0) b
tally-those p g a b o h = tally-part (λ t. cond (p t) (g t) 0) a b o (λ t e l. h t e (chosen (p t) (g t) l))
  where
    chosen : (x : Bool) (y : ℕ) → 0 < cond x y 0 → x ≡ true
    chosen true y l = refl
    chosen false y l = absurd (omega arith)

-- one term is at most the sum
pub tally-one : (g : Transfer → ℕ) (a : Transfers) (t : Transfer) → has a t ≡ true → g t ≤ tally g a
tally-one g a t e = omega (arith, tally-out g t a e)
