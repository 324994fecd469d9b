-- Demand 3 (paper 01, "The runs of demand 3"), about a run of the program: equality with the plain machine; the clauses, of what is seen of the machine's
-- run, which is what is seen of the program's; and the sheets, of the program and of the machine.
use Rattle.std.specs.Prelude.{ℕ, ◌-◌, ◌≤◌, ◌<◌, ◌≡◌, true, List, map, pos}
use Rattle.std.proofs.Math.Option.{some}
use Rattle.quorums.specs.Sum.{size}
use Rattle.config.specs.Cluster.{House, house_fault, total_of, above_of}
use Rattle.config.specs.declared.cluster.Config.{Config}
use Rattle.config.specs.Refusals.{granted}
use Rattle.ledger.specs.declared.ledger.Ledger.{Ledger}
use Rattle.ledger.specs.Maps.{named}
use Rattle.ledger.specs.Weights.{weight_of, all_of, quorum_of}
use Rattle.message.specs.Answers.{receive_of}
use Rattle.machine.specs.Parties.{bytes_of}
use Rattle.machine.specs.Runs.{config, nth, most_desk, at, answers_of}
use Rattle.machine.specs.Steps.{machine, PlainRun, run_of as plain_run_of}
use Rattle.machine.specs.Views.{View, Order, Values, Results, Tags, Restarts}
use Rattle.machine.specs.Seen.{view_of as plain_view_of}
use Rattle.machine.specs.Sheets.{Sheets as PlainSheets}
use Rattle.runs.specs.Steps.{Step, plain, Typed}
use Rattle.runs.specs.Runs.{ProgramRun, run_of}
use Rattle.runs.specs.Seen.{ledger_in, view_of}

-- ---- equality with the plain machine

-- the plain machine's run of the same steps, of whose buffers it knows the lengths alone
abbrev pub plain_run : ProgramRun → PlainRun
plain_run r = plain_run_of machine r.house (map plain r.steps)

-- what is seen of it
abbrev pub plain_view : ProgramRun → View
plain_view r = plain_view_of (plain_run r)

-- ---- sheets

-- a ledger that is held by a server or a desk, or was sent, after the first k steps
pub data Found (r : ProgramRun) (k : ℕ) (l : Ledger) : Type 0 where
  by-server : (i : ℕ) → i < (config r).n → ((at r k).servers i).replica.ledger ≡ l → Found r k l
  by-desk : (d : ℕ) → 1 ≤ d → d ≤ most_desk → ((at r k).desks d).replica.ledger ≡ l → Found r k l
  by-message : (p : ℕ) (msg : List ℕ) → nth (at r k).sent p ≡ some msg → ledger_in (config r) msg ≡ l → Found r k l

-- the weights total W, each is above the floor, and any n − f servers are a quorum
pub record Sound (c : Config) (l : Ledger) : Type 0 where
  pub weights : all_of c l ≡ pos (total_of c)
  pub floor : (i : ℕ) → i < c.n → above_of c (weight_of c l i) ≡ true
  pub majority : (m : ℕ) → c.n - c.f ≤ size c.n (named m) → quorum_of c l m ≡ true

-- So it is on every sheet held or sent; and every message sent passes its checks.
pub record Sheets (r : ProgramRun) : Type 0 where
  pub sound : (k : ℕ) (l : Ledger) → Found r k l → Sound (config r) l
  pub readable : (k p : ℕ) (msg : List ℕ) → nth (at r k).sent p ≡ some msg → (receive_of (config r) msg).verdict ≡ granted

-- ---- the whole

-- Demand 3 of a run, which is any list of begin, ask, serve, hear, hear on a lent record, result, drop, transfer, share and crash, refused ones included,
-- from a fresh cluster; serve and hear take any message already sent, as often as the list says, so that the network may lose, double, delay and reorder,
-- but never forges.
pub record Demand3 (r : ProgramRun) : Type 0 where
  -- "Every answer and every sent byte equals that of the plain machine in paper 01."
  pub answers : answers_of r ≡ answers_of (plain_run r)
  pub bytes : (k : ℕ) → (at r k).sent ≡ map (bytes_of (config r)) (at (plain_run r) k).sent
  -- what is seen of the run is the machine's too: an operation's tag, what it tells, and the transfers that its desk is brought and holds
  pub seen : view_of r ≡ plain_view r
  -- "If operation A ended before B began, B's tag is no lower than A's, and higher where B writes."
  pub order : Order (plain_view r)
  -- "A read returns exactly the bytes given to the one write with its tag, or the empty start."
  pub values : Values (plain_view r)
  -- what an operation that ended tells is its own kind and tag; a write's tag is its own, and an operation, ended or not, chooses once
  pub results : Results (plain_view r)
  pub tags : Tags (plain_view r)
  -- "The restarts reported are exactly those made, and at most the transfers that the desk's sheet gained during that operation."
  pub restarts : Restarts (plain_view r)
  -- "On every sheet held or sent the weights total 1,000 for each server, each is above the floor, and any n-f servers are a quorum", where "the total in
  -- the runs is W instead of 1,000 for each server" (paper 02, N2).
  pub sheets : Sheets r
  pub sets : PlainSheets (plain_run r)

-- The theorem: for every house that opening takes (n, f and a list of start weights without a fault), and every list of steps whose values are made of bytes
-- and whose notes have 32 bits.
abbrev pub ForEveryRun : Type 0
ForEveryRun = (h : House) → house_fault h ≡ 0 → (steps : List Step) → Typed steps → Demand3 (run_of h steps)
