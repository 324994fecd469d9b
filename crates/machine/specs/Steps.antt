-- The steps of the plain machine, and its runs (paper 01, "The runs of demand 3"). A store is what its calls do; the plain machine is the store whose
-- calls are the paper's.
use Rattle.std.specs.Prelude.{ℕ, List}
use Rattle.config.specs.Cluster.{House, config_of}
use Rattle.config.specs.declared.cluster.Config.{Config}
use Rattle.machine.specs.Parties.{Replica, fresh, Message, Task, Desk, fresh_desk}
use Rattle.machine.specs.Runs.{Outcome, of-server, of-desk, crashing, Asked, call, call-with, Run}
use Rattle.machine.specs.Calls.{transfer_by, share_by, serve_by, begin_by, ask_by, hear_by, result_by, drop_by}

-- the calls on what server i or desk d holds
pub record Store : Type 0 where
  pub transfer : Config → ℕ → Replica → ℕ → ℕ → Outcome Message Replica
  pub share : Config → ℕ → Replica → ℕ → ℕ → Outcome Message Replica
  pub serve : Config → ℕ → Replica → Message → ℕ → ℕ → Outcome Message Replica
  pub begin : Config → Desk → Task → ℕ → Outcome Message Desk
  pub ask : Config → ℕ → Desk → ℕ → ℕ → ℕ → Outcome Message Desk
  pub hear : Config → ℕ → Desk → Message → Outcome Message Desk
  pub result : Desk → Outcome Message Desk
  pub drop : Desk → Outcome Message Desk

-- the plain machine
abbrev pub machine : Store
machine =
    record {
      transfer = transfer_by;
      share = share_by;
      serve = serve_by;
      begin = begin_by;
      ask = ask_by;
      hear = hear_by;
      result = result_by;
      drop = drop_by;
    }

-- A step and its arguments: desks and servers by number, a message by its place among those sent, the place in a buffer and its length.
pub data Step : Type 0 where
  begin : (desk : ℕ) → Task → (note : ℕ) → Step
  ask : (desk server place size : ℕ) → Step
  serve : (server message place size : ℕ) → Step
  hear : (desk message : ℕ) → Step
  result : (desk : ℕ) → Step
  drop : (desk : ℕ) → Step
  transfer : (server taker amount : ℕ) → Step
  share : (server place size : ℕ) → Step
  crash : (server : ℕ) → Step

-- what a step asks of a store
abbrev pub asked_of : Store → Config → Step → Asked Replica Desk Message
asked_of p c (begin d t note) = call (of-desk d (λ x. p.begin c x t note))
asked_of p c (ask d i place size) = call (of-desk d (λ x. p.ask c d x i place size))
asked_of p c (serve i k place size) = call-with k (λ m. of-server i (λ r. p.serve c i r m place size))
asked_of p c (hear d k) = call-with k (λ m. of-desk d (λ x. p.hear c d x m))
asked_of p c (result d) = call (of-desk d (λ x. p.result x))
asked_of p c (drop d) = call (of-desk d (λ x. p.drop x))
asked_of p c (transfer i j amount) = call (of-server i (λ r. p.transfer c i r j amount))
asked_of p c (share i place size) = call (of-server i (λ r. p.share c i r place size))
asked_of p c (crash i) = call (crashing i)

-- servers hold a replica here, and messages are fields
abbrev pub PlainRun : Type 0
PlainRun = Run Replica Desk Message Step

-- the run of a store, which is fed what opening gets (paper 02, N2): every server and desk starts fresh
abbrev pub run_of : Store → House → List Step → PlainRun
run_of p h steps = record { house = h; server = λ i. fresh; desk = λ d. fresh_desk; asks = asked_of p (config_of h); steps = steps }
