-- The history of a run stands beside the machine, not in it: every transfer that was made, latest first, with the set and the tag that its maker held
-- then. What the proofs carry about a set held or sent is said of the history: each of its transfers was made, and it came with all that its maker
-- knew (closed), so the register beside the set is at least its maker's (carried).
use Prim.Native.Nat.{ℕ, ◌≤◌, ◌<◌}
use mathlib.Core.Path.{◌≡◌}
use mathlib.Core.Bool.{true, false}
use mathlib.Core.List.{List, [], ◌∷◌}
use Rattle.quorums.specs.Sum.{sum}
use Rattle.quorums.specs.Accounts.{weight, above}
use Rattle.machine.specs.Sets.{Transfer, Transfers, has, count, accounts_from}
use Rattle.machine.specs.Parties.{Register, Replica}
use Rattle.machine.specs.Calls.{most_count}
use Rattle.machine.specs.Views.{◌≼◌}
use Rattle.machine.proofs.Lists.{In}

-- no transfer stands twice
abbrev pub Once : Transfers → Type 0
Once [] = Unit
Once (t ∷ a) = (has a t ≡ false) × Once a

-- a transfer that was made, its maker's set right after it, and its maker's register
pub record Gift : Type 0 where
  pub transfer : Transfer
  pub snapshot : Transfers
  pub tag : Register

abbrev pub History : Type 0
History = List Gift

-- b is a part of a
abbrev pub ◌⊇◌ : Transfers → Transfers → Type 0
◌⊇◌ a b = (t : Transfer) → has b t ≡ true → has a t ≡ true

-- the transfer t of a set was made, and the set has all that its maker knew
pub record Known (h : History) (a : Transfers) (t : Transfer) : Type 0 where
  pub gift : Gift
  pub made : In gift h
  pub transfer : gift.transfer ≡ t
  pub closed : ◌⊇◌ a gift.snapshot

-- a set without repetition, each transfer of which is known
pub record Closed (h : History) (a : Transfers) : Type 0 where
  pub once : Once a
  pub known : (t : Transfer) → has a t ≡ true → Known h a t

-- the transfer t was made by a server whose register was no higher than g
pub record Carried (h : History) (g : Register) (t : Transfer) : Type 0 where
  pub gift : Gift
  pub made : In gift h
  pub transfer : gift.transfer ≡ t
  pub tag : gift.tag ≼ g

-- a set that is closed, with a register that is at least that of the maker of each of its transfers
pub record Good (h : History) (r : Replica) : Type 0 where
  pub closed : Closed h r.set
  pub carried : (t : Transfer) → has r.set t ≡ true → Carried h r.register t

-- ---- what is true of each transfer ever made, of n servers of which f may crash, with start weights w

pub record Lawful (n f : ℕ) (w : ℕ → ℕ) (g : Gift) : Type 0 where
  pub giver : g.transfer.giver < n
  pub taker : g.transfer.taker < n
  pub other : g.transfer.taker ≡ g.transfer.giver → ⊥
  pub amount : 1 ≤ g.transfer.amount
  pub most : g.transfer.amount ≤ sum n w
  pub number : g.transfer.number ≤ most_count
  -- the maker's set: it has the transfer, which is its maker's last, and the maker's weight is above the floor
  pub itself : has g.snapshot g.transfer ≡ true
  pub numbered : count g.snapshot g.transfer.giver ≡ g.transfer.number
  pub floor : above n f (sum n w) (weight (accounts_from w g.snapshot) g.transfer.giver) ≡ true
  pub once : Once g.snapshot

-- every transfer made before is, where its giver is the same, numbered lower, and in the later one's snapshot
abbrev pub Follows : Gift → History → Type 0
Follows g h = (e : Gift) → In e h → e.transfer.giver ≡ g.transfer.giver → (e.transfer.number < g.transfer.number) × (has g.snapshot e.transfer ≡ true)

abbrev pub Ordered : History → Type 0
Ordered [] = Unit
Ordered (g ∷ h) = Follows g h × Ordered h

pub record Lawfully (n f : ℕ) (w : ℕ → ℕ) (h : History) : Type 0 where
  pub each : (g : Gift) → In g h → Lawful n f w g
  pub ordered : Ordered h
