-- The numbers that a C host gets (paper 01, "Desk"; paper 02, N1): 0 for a message that passes, the weight, the margin of a map, the seats, or for a
-- refusal −1,000,000 less its number.
use Rattle.std.specs.Prelude.{ℕ, ◌+◌, ◌<◌, List, ℤ, pos, Result, Ok, Err, IfOk}
use Rattle.quorums.specs.Difference.{difference}
use Rattle.config.specs.Refusals.{number_of}
use Rattle.config.specs.declared.cluster.Config.{Config}
use Rattle.config.specs.declared.answer.Refusal.{Refusal}
use Rattle.config.specs.Refusals.{Verdict}
use Rattle.config.specs.Refusals.{Number}
use Rattle.config.specs.Refusals.{Signed}
use Rattle.desk.specs.declared.record.Hearing.{Hearing}
use Rattle.message.specs.Answers.{check_answer}
use Rattle.reader.specs.Weighings.{weight_in, quorum_in}
use Rattle.seats.specs.Offers.{offer_answer}

-- ---- the number of an answer

unfoldable pub refusal_code : Refusal → ℤ
refusal_code r = difference 0 (1000000 + number_of r)

-- the number of a value, or that of the refusal
abbrev pub answer_code : {T : Type 0} → (T → ℤ) → Result T Refusal → ℤ
answer_code code (Ok x) = code x
answer_code code (Err r) = refusal_code r

abbrev pub verdict_code : Verdict → ℤ
verdict_code = answer_code (λ x. pos 0)

abbrev pub number_code : Number → ℤ
number_code = answer_code pos

abbrev pub signed_code : Signed → ℤ
signed_code = answer_code (λ x. x)

-- 0 for a reply that was taken, 1 for one that came too late
abbrev pub heard_number : Hearing → ℤ
heard_number Hearing.Taken = pos 0
heard_number Hearing.Late = pos 1

abbrev pub hearing_code : Result Hearing Refusal → ℤ
hearing_code = answer_code heard_number

-- 0 for any number
abbrev pub done_code : Number → ℤ
done_code = answer_code (λ x. pos 0)

-- the number, or `otherwise` beside a refusal
abbrev pub place_code : Number → ℕ → ℕ
place_code (Ok x) otherwise = x
place_code (Err r) otherwise = otherwise

-- a number, if it is one, is below a bound
abbrev pub Within : ℕ → Number → Type 0
Within bound a = IfOk a (λ x. x < bound)

-- ---- what the calls answer

unfoldable pub check_code : Config → List ℕ → ℤ
check_code c msg = verdict_code (check_answer c msg)

unfoldable pub weight_code : Config → ℕ → List ℕ → ℤ
weight_code c server msg = signed_code (weight_in c server msg)

unfoldable pub quorum_code : Config → ℕ → List ℕ → ℤ
quorum_code c map msg = signed_code (quorum_in c map msg)

unfoldable pub seats_code : List ℕ → ℤ
seats_code block = number_code (offer_answer block)
