-- Closed sets of a lawful history. The last gift of a server in a closed set tells which of its transfers the set has: exactly those up to its
-- number, since its snapshot has them all and is a part of the set. So a closed set is told by its counts. Its weights total W (T), and each is above
-- the floor (P): it is at least what it was right after the server's last gift, since the server has only received after that (M).
use Prim.Native.Nat.{ℕ, ◌+◌, ◌-◌, ◌*◌, ◌≤◌, ◌<◌}
use native.Mathlib.Nat.{le_refl, mul-le-mul_right}
use native.Mathlib.Omega.{arith}
use mathlib.Core.Path.{◌≡◌, refl, sym, ap, ◌∙◌, subst}
use mathlib.Core.Logic.{◌⊎◌, inl, inr, ⊎_elim}
use mathlib.Core.Bool.{Bool, true, false, cond}
use mathlib.Core.List.{[], ◌∷◌}
use borrow.Author.Tests.{eq-eqb, ne_eqb, eqb-true, eqb-false}
use lib.Dec.{eqb}
use lib.IntN.{pos}
use Rattle.quorums.specs.Sum.{sum, size}
use Rattle.quorums.specs.Difference.{difference}
use Rattle.quorums.specs.Accounts.{weight, quorum, above, total}
use Rattle.quorums.proofs.Tests.{le-or-lt}
use Rattle.quorums.proofs.Sums.{sum-add, sum_one, sum-rest}
use Rattle.quorums.proofs.Differences.{pos-difference}
use Rattle.quorums.proofs.Weights.{above-grows, above-lt, left-quorum}
use Rattle.machine.specs.Sets.{Transfer, Transfers, has, union, count, received, given, accounts_from}
use Rattle.machine.specs.Calls.{most_count}
use Rattle.machine.proofs.Histories.{Once, Gift, History, ◌⊇◌, Known, Closed, Follows, Ordered, Lawful, Lawfully}
use Rattle.machine.proofs.Lists.{In}
use Rattle.machine.proofs.Sets.{has-none, has_first, has_rest, has-each, union-either, union_left, union_right, once-union}
use Rattle.machine.proofs.Sets.{tally-those, tally-one, tally-zero, tally-same, tally-sum}

-- ---- closed sets

known_in : {h : History} {a : Transfers} {t : Transfer} (u : Transfers) → ◌⊇◌ u a → Known h a t → Known h u t
known_in u p k = record { gift = k.gift; made = k.made; transfer = k.transfer; closed = λ t e. p t (k.closed t e) }

pub closed-empty : (h : History) → Closed h []
closed-empty h = record { once = tt; known = λ t e. absurd (has-none t e) }

pub closed-union : (h : History) (a b : Transfers) → Closed h a → Closed h b → Closed h (union a b)
closed-union h a b c d =
    record {
      once = once-union a b c.once d.once;
      known = λ t e.
          ⊎_elim (λ (k : has a t ≡ true). known_in (union a b) (union_left a b) (c.known t k))
          (λ (k : has b t ≡ true). known_in (union a b) (union_right a b) (d.known t k))
          (union-either a b t e);
    }

pub closed-more : (g : Gift) (h : History) (a : Transfers) → Closed h a → Closed (g ∷ h) a
closed-more g h a c =
    record {
      once = c.once;
      known = λ t e. let k = c.known t e in record { gift = k.gift; made = inr k.made; transfer = k.transfer; closed = k.closed };
    }

-- what is true of the gifts whose transfers are in a closed set is true of its transfers
pub closed-each : {h : History} {a : Transfers} → Closed h a → (P : Transfer → Type 0)
    → ((g : Gift) → In g h → has a g.transfer ≡ true → P g.transfer)
    → (t : Transfer) → has a t ≡ true → P t
closed-each c P p t e = let k = c.known t e in subst P k.transfer (p k.gift k.made (rw k.transfer e))

-- ---- (M) one server's part of a set

-- every transfer of server i in a is in b
abbrev pub AllOf : ℕ → Transfers → Transfers → Type 0
AllOf i a b = (t : Transfer) → has a t ≡ true → t.giver ≡ i → has b t ≡ true

-- the set has no transfer of server i
abbrev pub NoneOf : ℕ → Transfers → Type 0
NoneOf i a = (t : Transfer) → has a t ≡ true → t.giver ≡ i → ⊥

pub received-part : (u a : Transfers) → ◌⊇◌ u a → Once a → (j : ℕ) → received a j ≤ received u j
unfolding received
received-part u a p o j = tally-those (λ t. eqb t.taker j) (λ t. t.amount) a u o (λ t e k. p t e)

pub given-part : (u a : Transfers) → Once u → (i : ℕ) → AllOf i u a → given u i ≤ given a i
unfolding given
given-part u a o i p = tally-those (λ t. eqb t.giver i) (λ t. t.amount) u a o (λ t e k. p t e (eqb-true _ _ k))

pub part_count : (a b : Transfers) → Once a → (i : ℕ) → AllOf i a b → count a i ≤ count b i
unfolding count
part_count a b o i p = tally-those (λ t. eqb t.giver i) (λ t. 1) a b o (λ t e k. p t e (eqb-true _ _ k))

pub given-none : (a : Transfers) (i : ℕ) → NoneOf i a → given a i ≡ 0
unfolding given
given-none a i p = tally-zero _ a (λ t e. rw (ne_eqb t.giver i (p t e)))

pub count_none : (a : Transfers) (i : ℕ) → NoneOf i a → count a i ≡ 0
unfolding count
count_none a i p = tally-zero _ a (λ t e. rw (ne_eqb t.giver i (p t e)))

pub count-some : (a : Transfers) (t : Transfer) → has a t ≡ true → 1 ≤ count a t.giver
unfolding count
count-some a t e = rw (eq-eqb t.giver t.giver refl) at (tally-one (λ u. cond (eqb u.giver t.giver) 1 0) a t e)

-- no transfer of server i in the set is numbered above k
abbrev UpTo : ℕ → Transfers → ℕ → Type 0
UpTo i a k = (t : Transfer) → has a t ≡ true → t.giver ≡ i → t.number ≤ k

record Highest (a : Transfers) (i : ℕ) : Type 0 where
  transfer : Transfer
  giver : transfer.giver ≡ i
  itself : has a transfer ≡ true
  most : UpTo i a transfer.number

highest : (a : Transfers) (i : ℕ) → NoneOf i a ⊎ Highest a i
highest [] i = inl (λ t e s. has-none t e)
highest (t ∷ a) i = by-giver (eqb t.giver i) refl (highest a i)
  where
    first : t.giver ≡ i → UpTo i a t.number → Highest (t ∷ a) i
    first s l =
        record {
          transfer = t;
          giver = s;
          itself = has_first t a;
          most = has-each (λ u. u.giver ≡ i → u.number ≤ t.number) t a (λ k. le_refl t.number) l;
        }

    rest : (g : Highest a i) → (t.giver ≡ i → t.number ≤ g.transfer.number) → Highest (t ∷ a) i
    rest g l =
        record {
          transfer = g.transfer;
          giver = g.giver;
          itself = has_rest t g.transfer a g.itself;
          most = has-each (λ u. u.giver ≡ i → u.number ≤ g.transfer.number) t a l g.most;
        }

    by-giver : (x : Bool) → eqb t.giver i ≡ x → NoneOf i a ⊎ Highest a i → NoneOf i (t ∷ a) ⊎ Highest (t ∷ a) i
    by-giver true x (inl none) = inr (first (eqb-true _ _ x) (λ u e k. absurd (none u e k)))
    by-giver true x (inr g) =
        inr
        (⊎_elim (λ (l : t.number ≤ g.transfer.number). rest g (λ s. l))
        (λ (l : g.transfer.number < t.number). first (eqb-true _ _ x) (λ u e k. omega (arith, g.most u e k)))
        (le-or-lt t.number g.transfer.number))
    by-giver false x (inl none) = inl (has-each (λ u. u.giver ≡ i → ⊥) t a (eqb-false _ _ x) none)
    by-giver false x (inr g) = inr (rest g (λ s. absurd (eqb-false _ _ x s)))

-- ---- a server's gifts in the order of their numbers

-- of two gifts of one server, the one numbered lower was made before the other, whose snapshot has it
ordered-two : (h : History) → Ordered h → (e g : Gift) → In e h → In g h → e.transfer.giver ≡ g.transfer.giver
    → e.transfer.number ≤ g.transfer.number
    → (e ≡ g) ⊎ ((e.transfer.number < g.transfer.number) × (has g.snapshot e.transfer ≡ true))
ordered-two [] o e g p q s l = absurd p
ordered-two (x ∷ h) o e g (inl p) (inl q) s l = inl (p ∙ sym q)
ordered-two (x ∷ h) o e g (inl p) (inr q) s l = absurd (omega (arith, (subst (λ y. Follows y h) (sym p) o.0 g q (sym s)).0))
ordered-two (x ∷ h) o e g (inr p) (inl q) s l = inr (subst (λ y. Follows y h) (sym q) o.0 e p s)
ordered-two (x ∷ h) o e g (inr p) (inr q) s l = ordered-two h o.1 e g p q s l

-- the last gift of server i in the set a
pub record Last (h : History) (a : Transfers) (i : ℕ) : Type 0 where
  pub gift : Gift
  pub made : In gift h
  pub giver : gift.transfer.giver ≡ i
  pub itself : has a gift.transfer ≡ true
  pub closed : ◌⊇◌ a gift.snapshot
  pub whole : AllOf i a gift.snapshot

module _ {n f : ℕ} {w : ℕ → ℕ} {h : History} (law : Lawfully n f w h) where
  -- one giver and number, one gift
  pub unique-gift : (e g : Gift) → In e h → In g h → e.transfer.giver ≡ g.transfer.giver → e.transfer.number ≡ g.transfer.number → e ≡ g
  unique-gift e g p q s k =
      ⊎_elim (λ (i : e ≡ g). i)
      (λ (x : (e.transfer.number < g.transfer.number) × (has g.snapshot e.transfer ≡ true)). absurd (omega (arith, x.0)))
      (ordered-two h law.ordered e g p q s (omega arith))

  -- a snapshot has its maker's gifts up to its own
  pub earlier-gift : (e g : Gift) → In e h → In g h → e.transfer.giver ≡ g.transfer.giver → e.transfer.number ≤ g.transfer.number
      → has g.snapshot e.transfer ≡ true
  earlier-gift e g p q s k =
      ⊎_elim (λ (i : e ≡ g). rw (ap (λ (x : Gift). x.transfer) i) (law.each g q).itself)
      (λ (x : (e.transfer.number < g.transfer.number) × (has g.snapshot e.transfer ≡ true)). x.1)
      (ordered-two h law.ordered e g p q s k)

  module _ {a : Transfers} (c : Closed h a) where
    -- a gift whose transfer is in the set came with its snapshot
    pub came-with : (g : Gift) → In g h → has a g.transfer ≡ true → ◌⊇◌ a g.snapshot
    came-with g p e =
        let k = c.known g.transfer e in
        let s : k.gift ≡ g = unique-gift k.gift g k.made p (rw k.transfer) (rw k.transfer) in
        subst (λ (x : Gift). ◌⊇◌ a x.snapshot) s k.closed

    pub last : (i : ℕ) → NoneOf i a ⊎ Last h a i
    last i = ⊎_elim (λ (none : NoneOf i a). inl none) (λ (g : Highest a i). inr (found g)) (highest a i)
      where
        found : Highest a i → Last h a i
        found g =
            let k = c.known g.transfer g.itself in
            record {
              gift = k.gift;
              made = k.made;
              giver = rw k.transfer g.giver;
              itself = rw k.transfer g.itself;
              closed = k.closed;
              whole =
                  closed-each c (λ u. u.giver ≡ i → has k.gift.snapshot u ≡ true)
                  (λ d m e s.
                  earlier-gift d k.gift m k.made (rw k.transfer (s ∙ sym g.giver)) (rw k.transfer (g.most d.transfer e s)));
            }

    -- so the set has as many transfers of the server as the last one's number
    pub count-last : (i : ℕ) (l : Last h a i) → count a i ≡ l.gift.transfer.number
    count-last i l =
        let k = law.each l.gift l.made in
        let s = l.gift.snapshot in
        omega (arith, part_count a s c.once i l.whole, part_count s a k.once i (λ t e x. l.closed t e), (rw l.giver at k.numbered))

    -- which are exactly those numbered up to the count
    pub has-numbered : (g : Gift) → In g h → has a g.transfer ≡ true → g.transfer.number ≤ count a g.transfer.giver
    has-numbered g p e =
        let k = law.each g p in
        omega (arith, k.numbered, part_count g.snapshot a k.once g.transfer.giver (λ t d s. came-with g p e t d))

    pub numbered-has : (g : Gift) → In g h → g.transfer.number ≤ count a g.transfer.giver → has a g.transfer ≡ true
    numbered-has g p l =
        let k = law.each g p in
        let t = g.transfer in
        ⊎_elim
        (λ (none : NoneOf t.giver a).
        absurd (omega (arith, k.numbered, count_none a t.giver none, count-some g.snapshot t k.itself)))
        (λ (d : Last h a t.giver).
        d.closed t (earlier-gift g d.gift p d.made (sym d.giver) (omega (arith, count-last t.giver d))))
        (last t.giver)

    pub count_most : (i : ℕ) → count a i ≤ most_count
    count_most i =
        ⊎_elim (λ (none : NoneOf i a). omega (arith, count_none a i none))
        (λ (l : Last h a i). omega (arith, count-last i l, (law.each l.gift l.made).number))
        (last i)

  -- of two closed sets the one with the higher count has all that the other has
  pub count-part : {a b : Transfers} → Closed h a → Closed h b → (i : ℕ) → count a i ≤ count b i → AllOf i a b
  count-part {a} {b} c d i l =
      closed-each c (λ u. u.giver ≡ i → has b u ≡ true)
      (λ g m e s. numbered-has d g m (rw s (omega (arith, l, (rw s at (has-numbered c g m e))))))

-- ---- (T) the total

-- what is given is received: both are all amounts together
pub closed-total : {n f : ℕ} {w : ℕ → ℕ} {h : History} {a : Transfers} → Lawfully n f w h → Closed h a → sum n (received a) ≡ sum n (given a)
unfolding received given
closed-total {n} {a = a} law c =
    tally-sum n (λ j t. cond (eqb t.taker j) t.amount 0) a
    ∙ tally-same _ _ a (closed-each c _ (λ g m e. each g (law.each g m).taker (law.each g m).giver))
    ∙ sym (tally-sum n (λ i t. cond (eqb t.giver i) t.amount 0) a)
  where
    each : (g : Gift) → g.transfer.taker < n → g.transfer.giver < n
        → sum n (λ j. cond (eqb g.transfer.taker j) g.transfer.amount 0) ≡ sum n (λ i. cond (eqb g.transfer.giver i) g.transfer.amount 0)
    each g l m = sum_one n _ _ l ∙ sym (sum_one n _ _ m)

-- ---- (P) the floor, and (N) the servers that crashes leave

-- every start weight is above the floor
abbrev pub Started : ℕ → ℕ → (ℕ → ℕ) → Type 0
Started n f w = (i : ℕ) → i < n → above n f (sum n w) (pos (w i)) ≡ true

module _ {n f : ℕ} {w : ℕ → ℕ} {h : History} {a : Transfers} (law : Lawfully n f w h) (start : Started n f w) (c : Closed h a) where
  pub closed-floor : (i : ℕ) → i < n → above n f (sum n w) (weight (accounts_from w a) i) ≡ true
  unfolding weight
  closed-floor i l = ⊎_elim (λ (none : NoneOf i a). unmoved none) (λ (g : Last h a i). moved g (law.each g.gift g.made)) (last law c i)
    where
      grows : (x y : ℕ) → x ≤ w i + received a i → given a i ≤ y → above n f (sum n w) (difference x y) ≡ true
          → above n f (sum n w) (difference (w i + received a i) (given a i)) ≡ true
      grows x y = above-grows n f (sum n w) x y (w i + received a i) (given a i)

      unmoved : NoneOf i a → above n f (sum n w) (difference (w i + received a i) (given a i)) ≡ true
      unmoved none = grows (w i) 0 (omega arith) (omega (arith, given-none a i none)) (rw (pos-difference (w i)) at (start i l))

      moved : (g : Last h a i) → Lawful n f w g.gift → above n f (sum n w) (difference (w i + received a i) (given a i)) ≡ true
      moved g k =
          let s = g.gift.snapshot in
          grows (w i + received s i) (given s i) (omega (arith, received-part a s g.closed k.once i)) (given-part a s c.once i g.whole)
          (rw g.giver at k.floor)

  -- no server gave what it had not
  pub closed-held : (i : ℕ) → i < n → given a i ≤ w i + received a i
  closed-held i l =
      ⊎_elim
      (λ (k : w i + received a i ≤ given a i).
      absurd (omega (arith, above-lt n f (accounts_from w a) i (sum n w) (closed-floor i l), mul-le-mul_right (2 * (n - f)) k)))
      (λ (k : given a i < w i + received a i). omega arith)
      (le-or-lt (w i + received a i) (given a i))

  -- no weight is above the total
  pub closed-most : (i : ℕ) → i < n → w i + received a i ≤ given a i + sum n w
  closed-most i l =
      omega (arith, sum-rest n (given a) (λ j. w j + received a j) closed-held i l, sum-add n w (received a), closed-total law c)

pub closed-majority : {n f : ℕ} {w : ℕ → ℕ} {h : History} {a : Transfers} → f < n → Lawfully n f w h → Started n f w → Closed h a
    → (q : ℕ → Bool) → n - f ≤ size n q → quorum n (accounts_from w a) q ≡ true
unfolding total
closed-majority {n} {f} {w} {a = a} l law start c q s = left-quorum n f (accounts_from w a) q l (closed-floor law start c) s
