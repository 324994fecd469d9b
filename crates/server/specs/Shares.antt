-- Share (paper 01, "Server"): it writes kind 3 with the pair (13).
use Rattle.std.specs.Prelude.{ℕ, cond, List, Err}
use Rattle.config.specs.Refusals.{refusal}
use Rattle.message.specs.declared.envelope.Envelope.{Envelope}
use Rattle.message.specs.Envelopes.{share, message_of}
use Rattle.message.specs.Answers.{Written, place}
use Rattle.server.specs.declared.record.Server.{Server}
use Rattle.server.specs.Servers.{fits}

-- a share has a kind and its sender, and no other field beside the pair
abbrev pub share_envelope : Server → Envelope
share_envelope s = record { kind = share; server = s.number; desk = 0; round = 0; note = 0 }

-- its bytes
abbrev pub share_message : Server → List ℕ
share_message s = message_of s.config (share_envelope s) s.replica

unfoldable pub share_of : Server → List ℕ → ℕ → Written
share_of s out at = cond (fits s) (place (share_message s) out at) (record { answer = Err (refusal 1); out = out })
