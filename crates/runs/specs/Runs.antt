-- The runs of the program (paper 01, "The runs of demand 3"), in the structure that the plain machine's have: all n servers and one record for each desk
-- number start as `open` hands them out; each call gets the record that the last call on it handed back or left; serve and hear take any bytes already
-- sent.
use Rattle.std.specs.Prelude.{ℕ, List}
use Rattle.config.specs.Cluster.{House}
use Rattle.server.specs.declared.record.Server.{Server}
use Rattle.server.specs.Servers.{open_of as open_server}
use Rattle.desk.specs.declared.record.Desk.{Desk}
use Rattle.desk.specs.Desks.{open_of as open_desk}
use Rattle.machine.specs.Runs.{of-server, of-desk, crashing, Asked, call, call-with, Run}
use Rattle.runs.specs.Steps.{Step, begin, ask, serve, hear, hear-lent, result, drop, transfer, share, crash}
use Rattle.runs.specs.Calls.{transfer_call, share_call, serve_call, begin_call, ask_call, hear_call, hear_lent_call, result_call, drop_call}

-- what a step asks of the program
abbrev pub asked : Step → Asked Server Desk (List ℕ)
asked (begin d t note) = call (of-desk d (λ x. begin_call x t note))
asked (ask d i place out) = call (of-desk d (λ x. ask_call x i place out))
asked (serve i k place out) = call-with k (λ msg. of-server i (λ x. serve_call x msg place out))
asked (hear d k) = call-with k (λ msg. of-desk d (λ x. hear_call x msg))
asked (hear-lent d k) = call-with k (λ msg. of-desk d (λ x. hear_lent_call x msg))
asked (result d) = call (of-desk d (λ x. result_call x))
asked (drop d) = call (of-desk d (λ x. drop_call x))
asked (transfer i j amount) = call (of-server i (λ x. transfer_call x j amount))
asked (share i place out) = call (of-server i (λ x. share_call x place out))
asked (crash i) = call (crashing i)

-- servers and desks are records here, and messages are bytes
abbrev pub ProgramRun : Type 0
ProgramRun = Run Server Desk (List ℕ) Step

-- the run of the program, which is opened with a house (paper 02, N2): every record is as `open` hands it out
abbrev pub run_of : House → List Step → ProgramRun
run_of h steps =
    record {
      house = h;
      server = λ i. (open_server h i).server;
      desk = λ d. (open_desk h d).desk;
      asks = asked;
      steps = steps;
    }
