-- The number of each refusal (paper 01, "Numbers handed out"; paper 02: 15 from N2), what each number stands for, and what is done after a verdict.
use Rattle.std.specs.Prelude.{ℕ, ◌-◌, Bool, cond, List, [], ◌∷◌, leb, get_or, ℤ, Option, Some, None, Result, Ok, Err}
use Rattle.config.specs.declared.answer.Refusal.{Refusal}
use Rattle.config.specs.declared.answer.Refusal.TheVariants.{BadHouse, Torn, BadMap, OddField, Light, Clash, Stray, Busy, Idle, Thin, BadTransfer, Spent, Narrow, Long, BadStart}

abbrev pub number_of : Refusal → ℕ
number_of BadHouse = 1
number_of Torn = 2
number_of BadMap = 3
number_of OddField = 4
number_of Light = 5
number_of Clash = 6
number_of Stray = 7
number_of Busy = 8
number_of Idle = 9
number_of Thin = 10
number_of BadTransfer = 11
number_of Spent = 12
number_of Narrow = 13
number_of Long = 14
number_of BadStart = 15

-- the refusals in the order of their numbers, the first of which is 1
abbrev pub refusals : List Refusal
refusals =
    BadHouse ∷ Torn ∷ BadMap ∷ OddField ∷ Light ∷ Clash ∷ Stray ∷ Busy ∷ Idle ∷ Thin ∷ BadTransfer ∷ Spent ∷ Narrow ∷ Long ∷ BadStart ∷ []

-- the largest number
abbrev pub most_refusal : ℕ
most_refusal = 15

-- The refusal of a number from 1 to the largest. Definitions name a refusal by its number; 0, and what is above the largest, has none of its own.
abbrev pub refusal : ℕ → Refusal
refusal k = get_or refusals (k - 1) BadHouse

-- what a number stands for, at all numbers: the refusal from 1 to the largest, and none for 0 and above
unfoldable pub meaning : ℕ → Option Refusal
meaning k = cond (leb 1 k) (cond (leb k most_refusal) (Some (refusal k)) None) None

-- ---- answers

-- whether a call was accepted
abbrev pub Verdict : Type 0
Verdict = Result (Unit {0}) Refusal

-- the answer of a call that was accepted and has nothing more to say
abbrev pub granted : Verdict
granted = Ok tt

-- a yes or no
abbrev pub Decision : Type 0
Decision = Result Bool Refusal

-- a number that is not negative
abbrev pub Number : Type 0
Number = Result ℕ Refusal

-- a signed number
abbrev pub Signed : Type 0
Signed = Result ℤ Refusal

-- what is done where a call was accepted, and for a refusal
abbrev pub by-verdict : {A : Type 0} → Verdict → A → (Refusal → A) → A
by-verdict (Ok _) x f = x
by-verdict (Err k) x f = f k
