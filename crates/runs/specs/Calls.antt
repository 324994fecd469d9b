-- What a call of the program comes to in a run: its answer, the record handed back or left in the lent place, and the bytes sent. Each is read off the
-- definition that the function's contract cites. Answers are written as the plain machine writes them (paper 01: a step's answer is its number, "late", or
-- accepted with all that the call hands back besides its record).
use Rattle.std.specs.Prelude.{ℕ, true, false, cond, List, [], ◌∷◌, eqb, ltb, Result, Ok, Err}
use Rattle.config.specs.Refusals.{by-verdict, number_of}
use Rattle.config.specs.declared.answer.Refusal.{Refusal}
use Rattle.config.specs.Refusals.{Verdict}
use Rattle.config.specs.Refusals.{Number}
use Rattle.replica.specs.declared.register.Register.{Register}
use Rattle.replica.specs.Values.{bytes_of}
use Rattle.message.specs.Answers.{Written, between}
use Rattle.server.specs.declared.record.Server.{Server}
use Rattle.server.specs.declared.record.ServerAnswer.{ServerAnswer}
use Rattle.server.specs.Transfers.{transfer_of}
use Rattle.server.specs.Shares.{share_of}
use Rattle.server.specs.Serves.{serve_of, Outcome as Served}
use Rattle.desk.specs.declared.record.Desk.{Desk}
use Rattle.desk.specs.declared.record.DeskAnswer.{DeskAnswer}
use Rattle.desk.specs.declared.record.Hearing.{Hearing}
use Rattle.desk.specs.declared.record.Hearing.TheVariants.{Taken, Late}
use Rattle.desk.specs.declared.result.Told.{Told}
use Rattle.desk.specs.Operations.{reading, writing}
use Rattle.desk.specs.Begins.{begin_of, drop_of}
use Rattle.desk.specs.Asks.{ask_of}
use Rattle.desk.specs.Hears.{hear_of}
use Rattle.desk.specs.Results.{result_of}
use Rattle.machine.specs.Parties.{Register as PlainRegister, Task, by-task}
use Rattle.machine.specs.Runs.{Answer, unmade, late, refused, done, wrote, told, Outcome}

-- ---- answers

-- what is done with a number handed back, and for a refusal
abbrev pub by_number : {A : Type 0} → Number → (ℕ → A) → (Refusal → A) → A
by_number (Ok x) f g = f x
by_number (Err k) f g = g k

abbrev pub verdict_answer : Verdict → Answer
verdict_answer v = by-verdict v done (λ k. refused (number_of k))

abbrev pub number_answer : Number → Answer
number_answer x = by_number x (λ next. wrote next) (λ k. refused (number_of k))

abbrev pub hearing_answer : Result Hearing Refusal → Answer
hearing_answer (Ok Taken) = done
hearing_answer (Ok Late) = late
hearing_answer (Err k) = refused (number_of k)

-- a register as a tag and the bytes of its value
abbrev pub plain_register : Register → PlainRegister
plain_register g = record { stamp = g.stamp; desk = g.desk; value = bytes_of g.value }

-- a result: kind, tag, value and restarts; a kind that is neither read nor write would be no answer of the machine's
abbrev pub told_answer : Result Told Refusal → Answer
told_answer (Ok t) =
    cond (eqb t.kind reading) (told (record { is-write = false; register = plain_register t.register; restarts = t.restarts }))
    (cond (eqb t.kind writing) (told (record { is-write = true; register = plain_register t.register; restarts = t.restarts })) unmade)
told_answer (Err k) = refused (number_of k)

-- ---- what a call comes to

-- a message of the program is its bytes
abbrev pub Called : Type 0 → Type 0
Called A = Outcome (List ℕ) A

-- What an accepted call sends: the bytes that it wrote, from the place given up to the one handed back. A served share wrote none.
abbrev pub sent_by : Number → List ℕ → ℕ → List (List ℕ)
sent_by x out place = by_number x (λ next. cond (ltb place next) (between out place next ∷ []) []) (λ k. [])

-- a call that hands back a record and sends nothing
abbrev pub server_called : ServerAnswer → Called Server
server_called a = record { answer = verdict_answer a.verdict; party = a.server; sent = [] }

abbrev pub desk_called : DeskAnswer → Called Desk
desk_called a = record { answer = verdict_answer a.verdict; party = a.desk; sent = [] }

-- a call on the record x that writes a message and hands back no record
abbrev pub written_called : {A : Type 0} → A → Written → ℕ → Called A
written_called x w place = record { answer = number_answer w.answer; party = x; sent = sent_by w.answer w.out place }

abbrev pub served_called : Served → ℕ → Called Server
served_called o place = record { answer = number_answer o.answer; party = o.server; sent = sent_by o.answer o.out place }

-- ---- the calls

unfoldable pub transfer_call : Server → ℕ → ℕ → Called Server
transfer_call s j d = server_called (transfer_of s j d)

unfoldable pub share_call : Server → ℕ → List ℕ → Called Server
share_call s place out = written_called s (share_of s out place) place

unfoldable pub serve_call : Server → List ℕ → ℕ → List ℕ → Called Server
serve_call s msg place out = served_called (serve_of s msg out place) place

unfoldable pub begin_call : Desk → Task → ℕ → Called Desk
begin_call x t note = desk_called (by-task t (begin_of x reading [] note) (λ v. begin_of x writing v note))

unfoldable pub ask_call : Desk → ℕ → ℕ → List ℕ → Called Desk
ask_call x i place out = written_called x (ask_of x i out place) place

unfoldable pub hear_call : Desk → List ℕ → Called Desk
hear_call x msg = record { answer = hearing_answer (hear_of x msg).hearing; party = (hear_of x msg).desk; sent = [] }

-- Hear on the lent record x hands back its answer alone: the party is the record found in the lent place after the call.
unfoldable pub hear_lent_call : Desk → List ℕ → Called Desk
hear_lent_call x msg = record { answer = hearing_answer (hear_of x msg).hearing; party = (hear_of x msg).desk; sent = [] }

unfoldable pub result_call : Desk → Called Desk
result_call x = record { answer = told_answer (result_of x); party = x; sent = [] }

unfoldable pub drop_call : Desk → Called Desk
drop_call x = desk_called (drop_of x)
