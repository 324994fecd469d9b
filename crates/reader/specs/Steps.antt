-- What a step of the reader answers, from the cursor that its definition leaves.
use Rattle.std.specs.Prelude.{ℕ, cond, eqb, Result, Ok, Err}
use Rattle.config.specs.Refusals.{refusal}
use Rattle.config.specs.declared.answer.Refusal.{Refusal}
use Rattle.message.specs.Cursors.{Cursor}
use Rattle.reader.specs.declared.step.Read.{Read}

-- x where the number is 0, and else the refusal of the number
unfoldable pub outcome : {A : Type 0} → ℕ → A → Result A Refusal
outcome k x = cond (eqb k 0) (Ok x) (Err (refusal k))

-- f of what was found, and a refusal as it is
abbrev pub on_ok : {A B : Type 0} → (A → B) → Result A Refusal → Result B Refusal
on_ok f (Ok x) = Ok (f x)
on_ok f (Err r) = Err r

-- the cursor at a place before which there was no fault
abbrev pub at_place : ℕ → Cursor
at_place at = record { number = 0; at = at; x = 0 }

-- the cursor behind a number that was read
abbrev pub read_at : Read → Cursor
read_at r = record { number = 0; at = r.at; x = r.x }

-- the number that was read and the place after it, and the place alone
abbrev pub read_answer : Cursor → Result Read Refusal
read_answer c = outcome c.number (record { x = c.x; at = c.at })

abbrev pub place_answer : Cursor → Result ℕ Refusal
place_answer c = outcome c.number c.at
