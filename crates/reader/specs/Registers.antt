-- What reading a register answers, and the register that is kept of it.
use Rattle.std.specs.Prelude.{ℕ, List, Result}
use Rattle.config.specs.declared.cluster.Config.{Config}
use Rattle.config.specs.declared.answer.Refusal.{Refusal}
use Rattle.replica.specs.declared.register.Register.{Register}
use Rattle.replica.specs.declared.register.Tag.{Tag}
use Rattle.replica.specs.Values.{value_of}
use Rattle.message.specs.Answers.{value_part}
use Rattle.message.specs.Cursors.{Cursor}
use Rattle.message.specs.Scans.{RegisterRead, register_of}
use Rattle.reader.specs.declared.register.RegisterAt.{RegisterAt}
use Rattle.reader.specs.Steps.{outcome}

-- What a clause sees of a register that was read: its tag, the bytes of the part of the message that is its value, and the place after it.
pub record Shown : Type 0 where
  pub tag : Tag
  pub value : List ℕ
  pub end : ℕ

abbrev pub shown : RegisterAt → Shown
shown r = record { tag = r.tag; value = r.value.now; end = r.end }

abbrev pub register_at : List ℕ → RegisterRead → Shown
register_at msg r = record { tag = record { stamp = r.stamp; desk = r.desk }; value = value_part msg r; end = r.cursor.at }

unfoldable pub register_answer : Config → List ℕ → ℕ → Cursor → Result Shown Refusal
register_answer c msg s from = let r = register_of c msg s from in outcome r.cursor.number (register_at msg r)

-- the register that is kept of it
abbrev pub kept_at : Shown → Register
kept_at r = record { stamp = r.tag.stamp; desk = r.tag.desk; value = value_of r.value }
