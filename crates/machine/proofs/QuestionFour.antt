-- Question four: two quorums, each counted on a closed set of its own, share a server where each set has every transfer that the other has of its own
-- quorum's servers. Both are then quorums on the union of the two sets, whose weights total W and of which none is negative.
use Prim.Native.Nat.{ℕ, ◌≤◌, ◌<◌}
use mathlib.Core.Path.{◌≡◌, refl, ◌∙◌, ap}
use mathlib.Core.Logic.{⊎_elim}
use mathlib.Core.Bool.{Bool, true}
use Rattle.quorums.specs.Accounts.{quorum}
use Rattle.quorums.proofs.Meeting.{Shared, quorums-meet-across}
use Rattle.machine.specs.Sets.{Transfer, Transfers, has, union, count, accounts_from}
use Rattle.machine.proofs.Histories.{History, Closed, Lawfully}
use Rattle.machine.proofs.Sets.{union-either, union_left, union_right}
use Rattle.machine.proofs.Closed.{AllOf, closed-union, closed-each, received-part, given-part, count-part, closed-total, closed-held, Started}

module _ {n f : ℕ} {w : ℕ → ℕ} {h : History} {a b : Transfers}
    (law : Lawfully n f w h) (start : Started n f w) (c : Closed h a) (d : Closed h b) (p q : ℕ → Bool) where
  -- (Q) a has what b has of the servers of p, and b has what a has of those of q
  pub quorums-share :
      ((t : Transfer) → has b t ≡ true → p t.giver ≡ true → has a t ≡ true)
      → ((t : Transfer) → has a t ≡ true → q t.giver ≡ true → has b t ≡ true)
      → quorum n (accounts_from w a) p ≡ true
      → quorum n (accounts_from w b) q ≡ true
      → Shared n p q
  quorums-share left right =
      let u = union a b in
      let k = closed-union h a b c d in
      quorums-meet-across n (accounts_from w a) (accounts_from w b) (accounts_from w u) p q (λ i l. refl) (λ i l. refl)
      (λ i l. received-part u a (union_left a b) c.once i)
      (λ i l. received-part u b (union_right a b) d.once i)
      (λ i l m. given-part u a k.once i (from-left i m))
      (λ i l m. given-part u b k.once i (from-right i m))
      (closed-total law k)
      (closed-held law start k)
    where
      from-left : (i : ℕ) → p i ≡ true → AllOf i (union a b) a
      from-left i m t e s = ⊎_elim (λ (x : has a t ≡ true). x) (λ (x : has b t ≡ true). left t x (ap p s ∙ m)) (union-either a b t e)

      from-right : (i : ℕ) → q i ≡ true → AllOf i (union a b) b
      from-right i m t e s = ⊎_elim (λ (x : has a t ≡ true). right t x (ap q s ∙ m)) (λ (x : has b t ≡ true). x) (union-either a b t e)

  -- the same in counts: no server of p made more transfers on b than on a, and none of q more on a than on b
  pub quorums-share-counted :
      ((i : ℕ) → i < n → p i ≡ true → count b i ≤ count a i)
      → ((i : ℕ) → i < n → q i ≡ true → count a i ≤ count b i)
      → quorum n (accounts_from w a) p ≡ true
      → quorum n (accounts_from w b) q ≡ true
      → Shared n p q
  quorums-share-counted left right =
      quorums-share (λ t e m. count-part law d c t.giver (left t.giver (inside d t e) m) t e refl)
      (λ t e m. count-part law c d t.giver (right t.giver (inside c t e) m) t e refl)
    where
      inside : {u : Transfers} → Closed h u → (t : Transfer) → has u t ≡ true → t.giver < n
      inside k = closed-each k (λ t. t.giver < n) (λ g m e. (law.each g m).giver)
