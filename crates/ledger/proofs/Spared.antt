-- What a server can spare: it is small enough for its ledger, and a ledger that fits still does when it is given.
use Rattle.std.specs.Prelude.{Err}
use Prim.Native.Nat.{ℕ, ◌+◌, ◌-◌, ◌≤◌, ◌<◌}
use native.Mathlib.Decide.{ℕ_discrete}
use native.Mathlib.Omega.{arith}
use mathlib.Core.Path.{◌≡◌, refl, sym, ap, ◌∙◌}
use mathlib.Core.Logic.{⊎_elim}
use mathlib.Core.Bool.{Bool, true, false, cond}
use borrow.Author.Tests.{le-leb, lt-leb, leb-true, ltb-true}
use lib.Dec.{leb, ltb}
use lib.IntN.{pos, ◌+ℤ◌}
use Rattle.quorums.specs.Accounts.{held, weight, above}
use Rattle.quorums.proofs.Sums.{sum-add, sum-zero, sum-rest, all-each, each_all}
use Rattle.quorums.proofs.Tests.{le-or-lt}
use Rattle.quorums.proofs.Differences.{difference-less, difference-more}
use Rattle.quorums.proofs.Weights.{above-grows}
use Rattle.config.specs.Refusals.{refusal, granted}
use Rattle.config.specs.declared.answer.Refusal.{Refusal}
use Rattle.config.specs.Cluster.{valid_of, lawful_of, server_of, start_of, total_of, above_of, least_of, most_weight}
use Rattle.config.specs.declared.cluster.Config.{Config}
use Rattle.config.proofs.Clusters.{server-valid, lawful-valid, lawful-bounds, total-small, above-least}
use Rattle.ledger.specs.declared.ledger.Ledger.{Ledger}
use Rattle.ledger.specs.declared.ledger.Changed.{Changed}
use Rattle.ledger.specs.Ledgers.{count_of, cell_of, given_of, received_of, accounts_of, refused, accepted, Typed}
use Rattle.ledger.specs.Weights.{weight_of}
use Rattle.ledger.specs.Checks.{row_fits, server_above, bounded, above_floor, fits}
use Rattle.ledger.specs.Changes.{lawful, most_count, spares, added, give_answer, held_answer}
use Rattle.ledger.proofs.Totals.{bounded-told, total-fits-told, received-given}
use Rattle.ledger.proofs.Majorities.{each-above}
use Rattle.ledger.proofs.Checks.{accepted-not-refused, ledger-told, told-ledger}
use Rattle.ledger.proofs.Changes.{lawful-told}
use Rattle.ledger.proofs.Kept.{added-typed}
use Rattle.ledger.proofs.Added.{giver-weight, taker-weight, other-weight, added-bounded}

-- the test, in plain numbers: the gift and the least weight on top of what was given
pub spares-is : (c : Config) (l : Ledger) (i d : ℕ) → valid_of c ≡ true → spares c l i d ≡ leb (given_of l i + d + least_of c) (start_of c i + received_of l i)
unfolding spares weight_of weight
spares-is c l i d v =
    ap (above_of c) (difference-less (start_of c i + received_of l i) (given_of l i) d)
    ∙ above-least c (start_of c i + received_of l i) (given_of l i + d) v

-- the same of a weight above the floor
pub above-told : (c : Config) (l : Ledger) (i : ℕ) → valid_of c ≡ true → above_floor c l ≡ true → i < c.n → given_of l i + least_of c ≤ start_of c i + received_of l i
unfolding weight_of weight
above-told c l i v a h =
    leb-true _ _ (sym (above-least c (start_of c i + received_of l i) (given_of l i) v) ∙ each-above c l a i h)

-- what a server spares is what it is above the least weight, as the program tests it
pub spares-rest : (c : Config) (l : Ledger) (i d : ℕ) → valid_of c ≡ true → above_floor c l ≡ true → i < c.n
    → leb d (start_of c i + received_of l i - given_of l i - least_of c) ≡ spares c l i d
spares-rest c l i d v a h =
    rest (start_of c i + received_of l i) (given_of l i) (least_of c) (above-told c l i v a h) ∙ sym (spares-is c l i d v)
  where
    rest : (x y z : ℕ) → y + z ≤ x → leb d (x - y - z) ≡ leb (y + d + z) x
    rest x y z m =
        ⊎_elim (λ (k : y + d + z ≤ x). le-leb d _ (omega arith) ∙ sym (le-leb _ _ k)) (λ (k : x < y + d + z). lt-leb d _ (omega arith) ∙ sym (lt-leb _ _ k))
        (le-or-lt (y + d + z) x)

-- the same by numbers that are the server's
pub rest-told : (c : Config) (l : Ledger) (i d start received given least : ℕ) → valid_of c ≡ true → above_floor c l ≡ true → i < c.n
    → start ≡ start_of c i → received ≡ received_of l i → given ≡ given_of l i → least ≡ least_of c
    → (given + least ≤ start + received) × (spares c l i d ≡ leb d (start + received - given - least))
rest-told c l i d start received given least v a h e f g k = rw (e, f, g, k) (above-told c l i v a h, sym (spares-rest c l i d v a h))

-- No server weighs more than all start weights together, since none is negative and together they weigh that.
pub weight-small : (c : Config) (l : Ledger) (i : ℕ) → valid_of c ≡ true → bounded c l ≡ true → above_floor c l ≡ true → i < c.n
    → start_of c i + received_of l i ≤ given_of l i + total_of c
unfolding total_of
weight-small c l i v b a h =
    omega (
      arith,
      sum-rest c.n (given_of l) (held (accounts_of c l)) (λ k m. omega (arith, above-told c l k v a m)) i h,
      sum-add c.n (start_of c) (received_of l),
      received-given c l v b,
    )

-- A gift that leaves a weight above the floor is at most all weight.
pub spared-small : (c : Config) (l : Ledger) (i d : ℕ) → lawful_of c ≡ true → bounded c l ≡ true → above_floor c l ≡ true → i < c.n
    → spares c l i d ≡ true → d ≤ most_weight
spared-small c l i d v b a h e =
    let kept : given_of l i + d + least_of c ≤ start_of c i + received_of l i = leb-true _ _ (sym (spares-is c l i d (lawful-valid c v)) ∙ e) in
    omega (arith, weight-small c l i (lawful-valid c v) b a h, total-small c v)

-- a cell is at most its row's total
cell-small : (l : Ledger) (i j : ℕ) → j < 16 → cell_of l i j ≤ given_of l i
unfolding given_of
cell-small l i j h =
    omega (arith, sum-rest 16 (λ k. 0) (λ k. cell_of l i k) (λ k m. omega arith) j h, sum-zero 16 (λ k. 0) (λ k m. refl))

-- A gift that passes the tests has room in its cell: a row's total is at most 16,000 for each of its transfers, of which there are at most 65,535.
pub spared_room : (c : Config) (l : Ledger) (i j d : ℕ) → lawful_of c ≡ true → bounded c l ≡ true → above_floor c l ≡ true → i < c.n → j < c.n
    → count_of l i < most_count → spares c l i d ≡ true → cell_of l i j + d ≤ 4294967295
spared_room c l i j d v b a hi hj h e =
    let most = (lawful-bounds c v).most in
    let t = total-fits-told (count_of l i) (given_of l i) (all-each 16 (row_fits l) (bounded-told c l b).1 i (omega (arith, most))) in
    omega (arith, t.1, cell-small l i j (omega (arith, most)), spared-small c l i d v b a hi e)

-- ---- what a transfer keeps

-- a weight above the floor stays so with more
more-above : (c : Config) (l : Ledger) (i d : ℕ) → above_of c (weight_of c l i) ≡ true → above_of c (weight_of c l i +ℤ pos d) ≡ true
unfolding above_of weight_of weight
more-above c l i d e =
    let x = start_of c i + received_of l i in
    ap (above c.n c.f (total_of c)) (difference-more x (given_of l i) d)
    ∙ above-grows c.n c.f (total_of c) x (given_of l i) (x + d) (given_of l i) (omega arith) (omega arith) e

-- the giver keeps enough, the taker has more, and no other weight changes
pub added-above : (c : Config) (l : Ledger) (i j d : ℕ) → Typed l → i < 16 → j < 16 → c.n ≤ 16 → (i ≡ j → ⊥) → above_floor c l ≡ true
    → spares c l i d ≡ true
    → above_floor c (added l i j d) ≡ true
unfolding above_floor spares
added-above c l i j d t hi hj hn ne a p =
    each_all c.n (server_above c (added l i j d)) (λ k h. one k h (ℕ_discrete k i) (ℕ_discrete k j))
  where
    one : (k : ℕ) → k < c.n → Dec (k ≡ i) → Dec (k ≡ j) → above_of c (weight_of c (added l i j d) k) ≡ true
    one k h (yes e) q = rw e (ap (above_of c) (giver-weight l i j d t hi hj c ne) ∙ p)
    one k h (no e) (yes q) = rw q (ap (above_of c) (taker-weight l i j d t hi hj c ne) ∙ more-above c l j d (each-above c l a j (omega (arith, h))))
    one k h (no e) (no q) = ap (above_of c) (other-weight l i j d t hi hj c k (omega arith) e q) ∙ each-above c l a k h

-- so the ledger with it is within bounds, and not light
pub added-kept : (c : Config) (l : Ledger) (i j d : ℕ) → Typed l → lawful_of c ≡ true → i < c.n → lawful c i j d ≡ true → bounded c l ≡ true
    → above_floor c l ≡ true
    → spares c l i d ≡ true
    → (bounded c (added l i j d) ≡ true) × (above_floor c (added l i j d) ≡ true)
added-kept c l i j d t v hi w b a p =
    let most = (lawful-bounds c v).most in
    let k = lawful-told c i j d w in
    let small : (i < 16) × (j < 16) = omega (arith, most, k.1) in (
      added-bounded l i j d t small.0 small.1 c hi w (spared-small c l i d v b a hi p) b,
      added-above c l i j d t small.0 small.1 most k.0 a p,
    )

-- ---- what `add` hands back, of a party's ledger

-- the tests that a transfer passes
pub record Adds (c : Config) (l : Ledger) (i j d : ℕ) : Type 0 where
  pub one_of : server_of c i ≡ true
  pub house : lawful_of c ≡ true
  pub sound : fits c l ≡ true
  pub legal : lawful c i j d ≡ true
  pub counted : count_of l i < most_count
  pub spared : spares c l i d ≡ true

-- an answer is that of a transfer that has passed them, or a refusal beside the ledger as it was
add-cases : (P : Changed → Type 0) (c : Config) (l : Ledger) (i j d : ℕ) → (Adds c l i j d → P (accepted (added l i j d))) → ((k : Refusal) → P (refused k l))
    → P (held_answer c l i j d)
unfolding held_answer give_answer
add-cases P c l i j d done left =
    by_tests (server_of c i) (lawful_of c) (fits c l) (lawful c i j d) (ltb (count_of l i) most_count) (spares c l i d) refl refl refl refl refl refl
  where
    by_tests : (o s f w t p : Bool) → server_of c i ≡ o → lawful_of c ≡ s → fits c l ≡ f → lawful c i j d ≡ w → ltb (count_of l i) most_count ≡ t → spares c l i d ≡ p
        → P (cond o (cond s (cond f (cond w (cond t (cond p (accepted (added l i j d)) (refused (refusal 10) l)) (refused (refusal 12) l)) (refused (refusal 11) l)) (refused (refusal 1) l)) (refused (refusal 1) l)) (refused (refusal 1) l))
    by_tests true true true true true true a v b e k g = done (record { one_of = a; house = v; sound = b; legal = e; counted = ltb-true _ _ k; spared = g })
    by_tests true true true true true false a v b e k g = left (refusal 10)
    by_tests true true true true false p a v b e k g = left (refusal 12)
    by_tests true true true false t p a v b e k g = left (refusal 11)
    by_tests true true false w t p a v b e k g = left (refusal 1)
    by_tests true false f w t p a v b e k g = left (refusal 1)
    by_tests false s f w t p a v b e k g = left (refusal 1)

module _ (c : Config) (l : Ledger) (i j d : ℕ) where
  -- so an accepted transfer has passed them and is added
  pub add-told : (held_answer c l i j d).verdict ≡ granted → Adds c l i j d × ((held_answer c l i j d).ledger ≡ added l i j d)
  add-told =
      add-cases (λ x. x.verdict ≡ granted → Adds c l i j d × (x.ledger ≡ added l i j d)) c l i j d (λ g e. (g, refl))
      (λ k e. accepted-not-refused k (sym e))

  -- and a refused one leaves the ledger as it was
  pub add_left : (r : Refusal) → (held_answer c l i j d).verdict ≡ Err r → (held_answer c l i j d).ledger ≡ l
  add_left r =
      add-cases (λ x. x.verdict ≡ Err r → x.ledger ≡ l) c l i j d (λ g e. accepted-not-refused r e) (λ k e. refl)

-- A transfer that has passed the tests has room: giver and taker are servers, and the amount and its cell are small.
pub adds-room : (c : Config) (l : Ledger) (i j d : ℕ) → Adds c l i j d → (i < 16) × (j < 16) × (d ≤ most_weight) × (cell_of l i j + d ≤ 4294967295)
adds-room c l i j d g =
    let s = server-valid c i g.one_of in
    let b = ledger-told c l g.sound in
    let k = lawful-told c i j d g.legal in
    let most = (lawful-bounds c g.house).most in (
      omega (arith, most, s.1),
      omega (arith, most, k.1),
      spared-small c l i d g.house b.0 b.1 s.1 g.spared,
      spared_room c l i j d g.house b.0 b.1 s.1 k.1 g.counted g.spared,
    )

-- A ledger that fits still does, whatever is asked.
pub add-fits : (c : Config) (l : Ledger) (i j d : ℕ) → Typed l → fits c l ≡ true → fits c (held_answer c l i j d).ledger ≡ true
add-fits c l i j d t f = add-cases (λ x. fits c x.ledger ≡ true) c l i j d given (λ k. f)
  where
    given : Adds c l i j d → fits c (added l i j d) ≡ true
    given g =
        let s = server-valid c i g.one_of in
        let b = ledger-told c l f in
        let k = added-kept c l i j d t g.house s.1 g.legal b.0 b.1 g.spared in
        told-ledger c (added l i j d) k.0 k.1

-- And it is still one that a call can have.
pub add_typed : (c : Config) (l : Ledger) (i j d : ℕ) → Typed l → Typed (held_answer c l i j d).ledger
add_typed c l i j d t = add-cases (λ x. Typed x.ledger) c l i j d (λ g. let r = adds-room c l i j d g in added-typed l i j d t r.0 r.1 g.counted r.3) (λ k. t)
