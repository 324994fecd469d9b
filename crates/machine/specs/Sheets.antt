-- The sheets of a run, of the plain machine or of any other store: the sets held and sent, and what demand 3 says of them.
use Rattle.std.specs.Prelude.{ℕ, ◌-◌, ◌≤◌, ◌<◌, ◌≡◌, Bool, true, pos}
use Rattle.std.proofs.Math.Option.{some}
use Rattle.quorums.specs.Sum.{size}
use Rattle.quorums.specs.Accounts.{weight_in}
use Rattle.config.specs.Cluster.{total_of, above_of}
use Rattle.config.specs.declared.cluster.Config.{Config}
use Rattle.machine.specs.Sets.{Transfers, accounts, weight_of, quorum_of}
use Rattle.machine.specs.Parties.{Message}
use Rattle.machine.specs.Runs.{config, nth, at}
use Rattle.machine.specs.Steps.{PlainRun}

-- a set that is held by a server or a desk, or was sent, after the first k steps
pub data Found (r : PlainRun) (k : ℕ) (a : Transfers) : Type 0 where
  by-server : (i : ℕ) → ((at r k).servers i).set ≡ a → Found r k a
  by-desk : (d : ℕ) → ((at r k).desks d).replica.set ≡ a → Found r k a
  by-message : (p : ℕ) (m : Message) → nth (at r k).sent p ≡ some m → m.replica.set ≡ a → Found r k a

-- the weights total W, each is above the floor, and any n − f servers are a quorum
pub record Sound (c : Config) (a : Transfers) : Type 0 where
  pub weights : weight_in c.n (accounts c a) (λ i. true) ≡ pos (total_of c)
  pub floor : (i : ℕ) → i < c.n → above_of c (weight_of c a i) ≡ true
  pub majority : (q : ℕ → Bool) → c.n - c.f ≤ size c.n q → quorum_of c a q ≡ true

-- so it is on every sheet held or sent
abbrev pub Sheets : PlainRun → Type 0
Sheets r = (k : ℕ) (a : Transfers) → Found r k a → Sound (config r) a
