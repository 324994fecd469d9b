-- What a C host gets of a server's or a desk's call: the number of its answer, beside all else that the call hands back.
use Rattle.std.specs.Prelude.{ℕ, pos, Result, Ok, Err}
use Rattle.config.specs.declared.answer.Refusal.{Refusal}
use Rattle.replica.specs.Registers.{start_register}
use Rattle.server.specs.declared.record.ServerAnswer.{ServerAnswer}
use Rattle.server.specs.Serves.{Outcome}
use Rattle.desk.specs.declared.record.DeskAnswer.{DeskAnswer}
use Rattle.desk.specs.declared.record.Heard.{Heard}
use Rattle.desk.specs.declared.result.Told.{Told}
use Rattle.host.specs.declared.servers.AnsweredServer.{AnsweredServer}
use Rattle.host.specs.declared.servers.AnsweredServe.{AnsweredServe}
use Rattle.host.specs.declared.desks.AnsweredDesk.{AnsweredDesk}
use Rattle.host.specs.declared.desks.AnsweredResult.{AnsweredResult}
use Rattle.host.specs.Codes.{refusal_code, verdict_code, hearing_code, done_code, place_code}

abbrev pub server_code : ServerAnswer → AnsweredServer
server_code a = record { answer = verdict_code a.verdict; server = a.server }

-- of serve at a place: nothing is written where the place that it hands back is the one that it was given, as beside a refusal
abbrev pub served_code : Outcome → ℕ → AnsweredServe
served_code o at = record { answer = done_code o.answer; end = place_code o.answer at; server = o.server }

abbrev pub desk_code : DeskAnswer → AnsweredDesk
desk_code a = record { answer = verdict_code a.verdict; desk = a.desk }

abbrev pub heard_code : Heard → AnsweredDesk
heard_code h = record { answer = hearing_code h.hearing; desk = h.desk }

-- a result; beside a refusal every field is 0
abbrev pub told_code : Result Told Refusal → AnsweredResult
told_code (Ok t) = record { answer = pos 0; restarts = t.restarts; kind = t.kind; register = t.register }
told_code (Err r) = record { answer = refusal_code r; restarts = 0; kind = 0; register = start_register }
