-- Transfer (paper 01, "Server"): 11, then 12, then 10 if the rest isn't above the floor by the server's own sheet; otherwise it is added.
use Rattle.std.specs.Prelude.{ℕ, cond, ltb}
use Rattle.config.specs.Refusals.{refusal}
use Rattle.ledger.specs.Ledgers.{count_of}
use Rattle.ledger.specs.Changes.{lawful, most_count, spares, added}
use Rattle.server.specs.declared.record.Server.{Server}
use Rattle.server.specs.declared.record.ServerAnswer.{ServerAnswer}
use Rattle.server.specs.Servers.{fits, holding, accepted, refused}

-- the server with the transfer added to its ledger
abbrev pub gave : Server → ℕ → ℕ → Server
gave s j d = holding s (record { ledger = added s.replica.ledger s.number j d; register = s.replica.register })

-- the tests after the record's own
unfoldable pub give_of : Server → ℕ → ℕ → ServerAnswer
give_of s j d =
    cond (lawful s.config s.number j d)
    (cond (ltb (count_of s.replica.ledger s.number) most_count)
    (cond (spares s.config s.replica.ledger s.number d) (accepted (gave s j d)) (refused (refusal 10) s))
    (refused (refusal 12) s))
    (refused (refusal 11) s)

unfoldable pub transfer_of : Server → ℕ → ℕ → ServerAnswer
transfer_of s j d = cond (fits s) (give_of s j d) (refused (refusal 1) s)
