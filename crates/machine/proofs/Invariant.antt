-- What every state of every run has, from which the order of tags follows. One notion carries nearly everything: Since i a g, server i holds a tag of
-- at least g now, and made each transfer that the set a lacks while it did. Every step keeps it, because histories only grow and tags only rise.
use Prim.Native.Nat.{ℕ, ◌≤◌}
use mathlib.Core.Path.{◌≡◌, refl, subst}
use mathlib.Core.Bool.{true, false}
use mathlib.Core.List.{List}
use Rattle.config.specs.Cluster.{start_of}
use Rattle.config.specs.declared.cluster.Config.{Config}
use Rattle.machine.specs.Sets.{Transfers, has}
use Rattle.machine.specs.Parties.{Register, Replica, reply, share, Message, Phase, first, second, Operation, Activity, idle, running, ended, Desk}
use Rattle.machine.specs.Views.{◌≼◌}
use Rattle.machine.proofs.Moves.{PlainState}
use Rattle.machine.proofs.Lists.{In}
use Rattle.machine.proofs.Histories.{Gift, History, Lawfully, Good, Closed}
use Rattle.machine.proofs.Closed.{AllOf, closed-each}

pub record Since (h : History) (servers : ℕ → Replica) (i : ℕ) (a : Transfers) (g : Register) : Type 0 where
  pub now : g ≼ (servers i).register
  pub later : (e : Gift) → In e h → e.transfer.giver ≡ i → has a e.transfer ≡ false → g ≼ e.tag

-- what is known of the operation of desk d in phase 2, in which g was chosen and the replies l heard
pub record Spreading (h : History) (servers : ℕ → Replica) (sent : List Message) (d : ℕ) (x : Desk) (g : Register) (l : List Message) : Type 0 where
  pub held : g ≼ x.replica.register
  pub answered : (m : Message) → In m l → Since h servers m.server x.replica.set g
  pub current : (m : Message) → In m sent → (m.kind ≡ share → ⊥) → m.desk ≡ d → m.round ≡ x.round → g ≼ m.replica.register

-- Q, of the chosen register and the replies heard, where an operation is in phase 2
abbrev pub InSecond : (Register → List Message → Type 0) → Phase → List Message → Type 0
InSecond Q first l = Unit
InSecond Q (second g) l = Q g l

abbrev pub WhileSecond : (Register → List Message → Type 0) → Activity → Type 0
WhileSecond Q idle = Unit
WhileSecond Q (running o) = InSecond Q o.phase o.heard
WhileSecond Q (ended y) = Unit

pub record Invariant (c : Config) (h : History) (s : PlainState) : Type 0 where
  pub lawful : Lawfully c.n c.f (start_of c) h
  -- a server's set has all of its own transfers
  pub own : (g : Gift) → In g h → has (s.servers g.transfer.giver).set g.transfer ≡ true
  -- every replica held or sent is good
  pub servers : (i : ℕ) → Good h (s.servers i)
  pub desks : (d : ℕ) → Good h (s.desks d).replica
  pub messages : (m : Message) → In m s.sent → Good h m.replica
  -- a reply tells what its server held
  pub since : (m : Message) → In m s.sent → m.kind ≡ reply → Since h s.servers m.server m.replica.set m.replica.register
  -- no message is of a round to come
  pub rounds : (m : Message) → In m s.sent → m.round ≤ (s.desks m.desk).round
  pub spreading : (d : ℕ) → WhileSecond (Spreading h s.servers s.sent d (s.desks d)) (s.desks d).activity

-- every transfer of server i in a closed set is in i's own
pub own-whole : {c : Config} {h : History} {s : PlainState} {a : Transfers} → Invariant c h s → Closed h a → (i : ℕ)
    → AllOf i a (s.servers i).set
own-whole {s = s} inv k i =
    closed-each k (λ t. t.giver ≡ i → has (s.servers i).set t ≡ true)
    (λ g m e f. subst (λ j. has (s.servers j).set g.transfer ≡ true) f (inv.own g m))

-- ---- phases

pub in-second : (Q R : Register → List Message → Type 0) (p : Phase) (l k : List Message) → ((g : Register) → p ≡ second g → Q g l → R g k) → InSecond Q p l
    → InSecond R p k
in-second Q R first l k f q = tt
in-second Q R (second g) l k f q = f g refl q

pub while-second : (Q R : Register → List Message → Type 0) (a : Activity) → ((g : Register) (l : List Message) → Q g l → R g l) → WhileSecond Q a → WhileSecond R a
while-second Q R idle f q = tt
while-second Q R (running o) f q = in-second Q R o.phase o.heard o.heard (λ g e. f g o.heard) q
while-second Q R (ended y) f q = tt

-- what the invariant says of an operation that runs
pub of-running : (Q : Register → List Message → Type 0) (a : Activity) (o : Operation) → a ≡ running o → WhileSecond Q a → InSecond Q o.phase o.heard
of-running Q a o e q = subst (WhileSecond Q) e q

pub of-second : (Q : Register → List Message → Type 0) (p : Phase) (g : Register) (l : List Message) → p ≡ second g → InSecond Q p l → Q g l
of-second Q p g l e q = subst (λ z. InSecond Q z l) e q
