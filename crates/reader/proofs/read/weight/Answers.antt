-- `weight` meets its contract: the check, the server, and then the weight from the sums.
use Rattle.std.proofs.Common.{◌≡◌, ap, ◌∙◌, Ok, true}
use Rattle.config.specs.Cluster.{server_of}
use Rattle.config.proofs.Clusters.{lawful-valid, valid-server}
use Rattle.ledger.proofs.Answers.{read_back}
use Rattle.message.proofs.Rounds.{check-told}
use Rattle.reader.proofs.Outcomes.{passed-on}
use Rattle.reader.proofs.Answered.{passes, weight-refused, weight-passed, server-refused}
use Rattle.reader.proofs.read.weight.Goals.{Else-config-server}
use Rattle.reader.proofs.read.weight.Goals as goal

server : (c : Else-config-server) → server_of c.args.config.now c.args.server ≡ true
server c =
    valid-server _ _ (lawful-valid _ (check-told _ _ (passes _ _ _ c.in_ok-read_message.ensures.ends)).0) c.if-config-server.false

pub returns-in_err-read_message : goal.returns-in_err-read_message
returns-in_err-read_message c =
    passed-on c.from_residual.ensures (weight-refused _ _ _ c.in_err-read_message.ensures.ends _)

pub returns-then-config-server : goal.returns-then-config-server
returns-then-config-server c = server-refused _ _ _ c.in_ok-read_message.ensures.ends _ c.if-config-server.true

pub weight-requires : goal.weight-requires
weight-requires c = server (goal.at.weight-requires c).Else-config-server

pub returns : goal.returns
returns c =
    let found = c.in_ok-read_message.ensures in
    ap Ok (read_back c.weight.result c.weight.type_inv ∙ c.weight.ensures)
    ∙ weight-passed _ _ _ found.ends c.read_message.new.sums found.adds _ (server (goal.at.returns c).Else-config-server)
