-- `value` meets its contract: where the message passed, the value is the part of it where its bytes were found.
use Rattle.std.proofs.Common.{sym, ap, ◌∙◌}
use Rattle.reader.specs.Steps.{on_ok}
use Rattle.reader.specs.Wholes.{shown_found}
use Rattle.reader.proofs.Answered.{value-refused, value-passed}
use Rattle.reader.proofs.read.value.Goals as goal

pub returns-in_default : goal.returns-in_default
returns-in_default c = value-refused _ _ _ (sym (ap (on_ok shown_found) c.in_default.is) ∙ c.read_message.ensures.ends)

pub returns : goal.returns
returns c = value-passed _ _ _ (sym (ap (on_ok shown_found) c.in-Ok.is) ∙ c.read_message.ensures.ends)
