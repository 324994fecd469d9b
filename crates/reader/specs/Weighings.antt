-- What is answered about the weights of a message's sheet (paper 01, "Desk", last paragraph; paper 02, N1): 1 for the cluster, the message checks, then 1
-- for the server or the map.
use Rattle.std.specs.Prelude.{ℕ, cond, List, eqb, Err}
use Rattle.config.specs.declared.cluster.Config.{Config}
use Rattle.config.specs.Refusals.{Signed}
use Rattle.ledger.specs.Weights.{weight_answer, quorum_answer}
use Rattle.config.specs.Refusals.{refusal}
use Rattle.message.specs.Answers.{check, receive_of}

unfoldable pub weight_in : Config → ℕ → List ℕ → Signed
weight_in c server msg =
    cond (eqb (check c msg) 0) (weight_answer c (receive_of c msg).replica.ledger server) (Err (refusal (check c msg)))

-- twice the weight of the servers that the map names, less W
unfoldable pub quorum_in : Config → ℕ → List ℕ → Signed
quorum_in c map msg =
    cond (eqb (check c msg) 0) (quorum_answer c (receive_of c msg).replica.ledger map) (Err (refusal (check c msg)))
