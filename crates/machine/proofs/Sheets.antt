-- On every set held or sent in a run of the machine: the weights total W, each is above the floor, and any n − f servers are a quorum. Every such set
-- is closed in the history of its place and of each later one, and of closed sets all three are known (T, P, N). So two quorums on two of them meet
-- as question four says.
use Prim.Native.Nat.{ℕ, ◌+◌, ◌≤◌, ◌<◌}
use native.Mathlib.Omega.{arith}
use mathlib.Core.Path.{◌≡◌, subst}
use mathlib.Core.Logic.{◌↔◌}
use mathlib.Core.Bool.{Bool, true}
use mathlib.Core.List.{List, [], ◌∷◌, ◌++◌}
use Rattle.quorums.specs.Accounts.{total}
use Rattle.quorums.proofs.Weights.{weights-total}
use Rattle.quorums.proofs.Meeting.{Shared}
use Rattle.config.specs.Cluster.{House, config_of, lawful_of, start_of, total_of, above_of}
use Rattle.config.specs.declared.cluster.Config.{Config}
use Rattle.config.proofs.Clusters.{lawful-bounds}
use Rattle.machine.specs.Sets.{Transfers, has, union, count, accounts, weight_of, quorum_of}
use Rattle.machine.specs.Runs.{nth, when, at}
use Rattle.machine.specs.Steps.{Step, run_of, PlainRun, machine}
use Rattle.machine.specs.Sheets.{Found, by-server, by-desk, by-message, Sound, Sheets}
use Rattle.machine.proofs.Lists.{In, nth_in}
use Rattle.machine.proofs.Places.{from_on}
use Rattle.machine.proofs.Histories.{Gift, History, Closed, Lawfully}
use Rattle.machine.proofs.Closed.{closed-more, closed-union, has-numbered, numbered-has, closed-total, closed-floor, closed-majority}
use Rattle.machine.proofs.Numbers.{Numbered, no_gap}
use Rattle.machine.proofs.QuestionFour.{quorums-share-counted}
use Rattle.machine.proofs.GiftsKept.{started}
use Rattle.machine.proofs.Moves.{gift_of}
use Rattle.machine.proofs.Always.{history_at, invariant}

-- ---- closed sets are sound

pub sound : (c : Config) → lawful_of c ≡ true → (h : History) (a : Transfers) → Lawfully c.n c.f (start_of c) h → Closed h a → Sound c a
unfolding total_of above_of weight_of quorum_of total
sound c lawful h a law closed =
    record {
      weights = weights-total c.n (accounts c a) (closed-total law closed);
      floor = closed-floor law (started c lawful) closed;
      majority = closed-majority (omega (arith, (lawful-bounds c lawful).crash)) law (started c lawful) closed;
    }

-- ---- a set stays closed while the history grows

closed-grown : (g h : History) (a : Transfers) → Closed h a → Closed (g ++ h) a
closed-grown [] h a k = k
closed-grown (x ∷ g) h a k = closed-more x (g ++ h) a (closed-grown g h a k)

module _ (house : House) (lawful : lawful_of (config_of house) ≡ true) (steps : List Step) where
  abbrev c : Config
  c = config_of house

  abbrev r : PlainRun
  r = run_of machine house steps

  closed-later : (k l : ℕ) (a : Transfers) → k ≤ l → Closed (history_at house steps k) a → Closed (history_at house steps l) a
  unfolding history_at
  closed-later k l a e p =
      from_on (λ z. Closed (history_at house steps z) a) k p
      (λ z m f. closed-grown (when (nth steps z) [] (gift_of c (at r z))) (history_at house steps z) a f)
      l
      e

  -- every set held or sent is closed
  pub found-closed : (k : ℕ) (a : Transfers) → Found r k a → Closed (history_at house steps k) a
  found-closed k a (by-server i e) = subst (Closed (history_at house steps k)) e ((invariant house lawful steps k).servers i).closed
  found-closed k a (by-desk d e) = subst (Closed (history_at house steps k)) e ((invariant house lawful steps k).desks d).closed
  found-closed k a (by-message p m e f) =
      subst (Closed (history_at house steps k)) f ((invariant house lawful steps k).messages m (nth_in (at r k).sent p m e)).closed

  pub found-later : (k l : ℕ) (a : Transfers) → k ≤ l → Found r k a → Closed (history_at house steps l) a
  found-later k l a e f = closed-later k l a e (found-closed k a f)

  -- and a prefix of the history: of the transfers that a server made it has exactly those numbered up to the server's count
  pub found_prefix : (k : ℕ) (a : Transfers) → Found r k a → (g : Gift) → In g (history_at house steps k)
      → (has a g.transfer ≡ true) ↔ (g.transfer.number ≤ count a g.transfer.giver)
  found_prefix k a f g m =
      let law = (invariant house lawful steps k).lawful in
      (has-numbered law (found-closed k a f) g m, numbered-has law (found-closed k a f) g m)

  -- in which each giver's numbers run from 1 without a gap
  pub found-numbers : (k : ℕ) (a : Transfers) → Found r k a → (i j : ℕ) → 1 ≤ j → j ≤ count a i → Numbered a i j
  found-numbers k a f i j = no_gap (invariant house lawful steps k).lawful (found-closed k a f) i j

  -- ---- the clause

  pub sheets : Sheets r
  sheets k a f = sound c lawful (history_at house steps k) a (invariant house lawful steps k).lawful (found-closed k a f)

  -- ---- unions of sets found at whatever places

  pub union-closed : (k l : ℕ) (a b : Transfers) → Found r k a → Found r l b → Closed (history_at house steps (k + l)) (union a b)
  union-closed k l a b f g =
      closed-union (history_at house steps (k + l)) a b (found-later k (k + l) a (omega arith) f) (found-later l (k + l) b (omega arith) g)

  -- ---- question four in a run

  -- Two quorums, counted on two sets held or sent at whatever places of the run, share a server, where neither one's servers made more transfers on
  -- the other set.
  pub found-share : (k l : ℕ) (a b : Transfers) → Found r k a → Found r l b → (p q : ℕ → Bool)
      → ((i : ℕ) → i < c.n → p i ≡ true → count b i ≤ count a i)
      → ((i : ℕ) → i < c.n → q i ≡ true → count a i ≤ count b i)
      → quorum_of c a p ≡ true
      → quorum_of c b q ≡ true
      → Shared c.n p q
  unfolding quorum_of
  found-share k l a b f g p q =
      quorums-share-counted (invariant house lawful steps (k + l)).lawful (started c lawful) (found-later k (k + l) a (omega arith) f)
      (found-later l (k + l) b (omega arith) g)
      p
      q
