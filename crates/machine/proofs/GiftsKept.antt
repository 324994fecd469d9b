-- A transfer keeps the invariant. Its number is new, since the giver's own set has all that it ever gave, and its own test says that the giver's
-- weight stays above the floor in the set that it then holds, which is the transfer's snapshot.
use Prim.Native.Nat.{ℕ, suc, ◌+◌, ◌-◌, ◌*◌, ◌≤◌, ◌<◌}
use native.Mathlib.Nat.{mul-le-mul_right}
use native.Mathlib.Omega.{arith}
use mathlib.Core.Path.{◌≡◌, refl, sym, ap, ap₂, subst}
use mathlib.Core.Logic.{inl, inr, ⊎_elim}
use mathlib.Core.Bool.{true, false}
use mathlib.Core.List.{[], ◌∷◌}
use borrow.Author.Tests.{ltb-true, eq-eqb, ne_eqb}
use lib.Dec.{ltb}
use lib.IntN.{pos, ◌-ℤ◌}
use Rattle.quorums.specs.Accounts.{weight}
use Rattle.quorums.specs.Difference.{difference}
use Rattle.quorums.proofs.Tests.{test-false, le-or-lt}
use Rattle.quorums.proofs.Differences.{difference-less, pos-difference}
use Rattle.quorums.proofs.Weights.{above-is}
use Rattle.config.specs.Cluster.{lawful_of, start_of, total_of, above_of}
use Rattle.config.specs.declared.cluster.Config.{Config}
use Rattle.config.proofs.Clusters.{start-above}
use Rattle.machine.specs.Sets.{Transfer, Transfers, has, tally, count, given, received, weight_of, accounts_from}
use Rattle.machine.specs.Parties.{Replica}
use Rattle.machine.specs.Runs.{done, after_server, put}
use Rattle.machine.specs.Calls.{accept, given-away}
use Rattle.machine.proofs.Lists.{In}
use Rattle.machine.proofs.Outcomes.{Giving}
use Rattle.machine.proofs.Tags.{tag-refl}
use Rattle.machine.proofs.Sets.{has_first, has_rest, has-cases}
use Rattle.machine.proofs.Histories.{Gift, History, Lawful, Good}
use Rattle.machine.proofs.Closed.{Started, has-numbered, closed-most}
use Rattle.machine.proofs.Replicas.{good_more}
use Rattle.machine.proofs.Moves.{PlainState, gift_by}
use Rattle.machine.proofs.Desks.{put-cases}
use Rattle.machine.proofs.Invariant.{Invariant}
use Rattle.machine.proofs.ServersKept.{server-kept}

-- every start weight of a lawful cluster is above the floor
pub started : (c : Config) → lawful_of c ≡ true → Started c.n c.f (start_of c)
unfolding above_of total_of
started c v i l = rw pos-difference (start-above c i v l)

-- ---- one transfer more

module _ (a : Transfers) (i j e : ℕ) (other : j ≡ i → ⊥) (k : ℕ) where
  abbrev t : Transfer
  t = record { giver = i; number = k; taker = j; amount = e }

  count_next : count (t ∷ a) i ≡ suc (count a i)
  unfolding count tally
  count_next = rw (eq-eqb i i refl) (omega arith)

  given-next : given (t ∷ a) i ≡ given a i + e
  unfolding given tally
  given-next = rw (eq-eqb i i refl)

  received-next : received (t ∷ a) i ≡ received a i
  unfolding received tally
  received-next = rw (ne_eqb j i other) (omega arith)

  pub weight-next : (w : ℕ → ℕ) → weight (accounts_from w (t ∷ a)) i ≡ weight (accounts_from w a) i -ℤ pos e
  unfolding weight
  weight-next w = rw (difference-less) (ap₂ difference (ap (λ x. w i + x) received-next) given-next)

module _ (c : Config) (lawful : lawful_of c ≡ true) {h : History} {s : PlainState} (inv : Invariant c h s) (i j e : ℕ) (below : i < c.n)
    (giving : Giving c i (s.servers i) j e) where
  abbrev r : Replica
  r = s.servers i

  abbrev gift : Gift
  gift = gift_by r i j e

  -- every transfer that i made before is numbered lower
  lower : (x : Gift) → In x h → x.transfer.giver ≡ i → x.transfer.number < suc (count r.set i)
  lower x m f =
      let held : has r.set x.transfer ≡ true = subst (λ z. has (s.servers z).set x.transfer ≡ true) f (inv.own x m) in
      let bound : x.transfer.number ≤ count r.set x.transfer.giver = has-numbered inv.lawful (inv.servers i).closed x m held in
      let there : x.transfer.number ≤ count r.set i = subst (λ z. x.transfer.number ≤ count r.set z) f bound in
      omega arith

  absent : has r.set gift.transfer ≡ false
  absent =
      test-false _
      (λ f.
      let k = (inv.servers i).closed.known gift.transfer f in
      let l = lower k.gift k.made (ap (λ z. z.giver) k.transfer) in
      omega (arith, l, ap (λ z. z.number) k.transfer))

  -- what i gives it has
  spared : given r.set i + e < start_of c i + received r.set i
  unfolding above_of weight_of weight
  spared =
      let m = 2 * (c.n - c.f) in
      let x = given r.set i + e in
      let y = start_of c i + received r.set i in
      let left : above_of c (weight_of c r.set i -ℤ pos e) ≡ true = giving.floor in
      let test : ltb (x * m + total_of c) (y * m) ≡ true = rw (difference-less, above-is) at left in
      ⊎_elim (λ (l : y ≤ x). absurd (omega (arith, ltb-true (x * m + total_of c) (y * m) test, mul-le-mul_right m l))) (λ (l : x < y). l) (le-or-lt y x)

  gift-lawful : Lawful c.n c.f (start_of c) gift
  unfolding above_of total_of weight_of
  gift-lawful =
      record {
        giver = below;
        taker = giving.taker;
        other = giving.other;
        amount = giving.amount;
        most = omega (arith, spared, closed-most inv.lawful (started c lawful) (inv.servers i).closed i below);
        number = giving.room;
        itself = has_first gift.transfer r.set;
        numbered = count_next r.set i j e giving.other _;
        floor = rw (weight-next r.set i j e giving.other _ (start_of c)) giving.floor;
        once = (absent, (inv.servers i).closed.once);
      }

  good : Good (gift ∷ h) (given-away r i j e)
  good =
      record {
        closed = record {
          once = (absent, (inv.servers i).closed.once);
          known = λ u f.
              ⊎_elim (λ (q : gift.transfer ≡ u). record { gift = gift; made = inl refl; transfer = q; closed = λ v m. m })
              (λ (q : has r.set u ≡ true).
              let k = (inv.servers i).closed.known u q in
              record { gift = k.gift; made = inr k.made; transfer = k.transfer; closed = λ v m. has_rest gift.transfer v r.set (k.closed v m) })
              (has-cases gift.transfer u r.set f);
        };
        carried = λ u f.
            ⊎_elim (λ (q : gift.transfer ≡ u). record { gift = gift; made = inl refl; transfer = q; tag = tag-refl r.register })
            (λ (q : has r.set u ≡ true).
            let k = (inv.servers i).carried u q in record { gift = k.gift; made = inr k.made; transfer = k.transfer; tag = k.tag })
            (has-cases gift.transfer u r.set f);
      }

  pub gives-kept : Invariant c (gift ∷ h) (after_server s i (accept done (given-away r i j e)))
  gives-kept =
      server-kept inv i (gift ∷ h) (good_more gift h)
      (λ x m. ⊎_elim (λ (q : x ≡ gift). inr (rw q refl)) (λ (q : In x h). inl q) m)
      (given-away r i j e)
      (tag-refl r.register)
      []
      (record {
        each = λ x m. ⊎_elim (λ (q : x ≡ gift). subst (Lawful c.n c.f (start_of c)) (sym q) gift-lawful) (λ (q : In x h). inv.lawful.each x q) m;
        ordered = (λ x m f. (lower x m f, has_rest gift.transfer x.transfer r.set (held x m f)), inv.lawful.ordered);
      })
      good
      (λ x m.
      ⊎_elim
      (λ (q : x ≡ gift).
      subst (λ z. has (put s.servers i (given-away r i j e) z.transfer.giver).set z.transfer ≡ true) (sym q)
      (put-cases (λ z. has z.set gift.transfer ≡ true) s.servers i _ i (λ f. has_first gift.transfer r.set) (λ f. absurd (f refl))))
      (λ (q : In x h).
      put-cases (λ z. has z.set x.transfer ≡ true) s.servers i _ x.transfer.giver
      (λ f. has_rest gift.transfer x.transfer r.set (held x q f))
      (λ f. inv.own x q))
      m)
      (λ m n. absurd n)
    where
      held : (x : Gift) → In x h → x.transfer.giver ≡ i → has r.set x.transfer ≡ true
      held x m f = subst (λ z. has (s.servers z).set x.transfer ≡ true) f (inv.own x m)
