-- `weighed_sound` meets its contract: what is weighed decides the rest of the record test, and has the margin.
use Rattle.std.specs.Prelude.{Err}
use Rattle.std.specs.Result.{result_or}
use mathlib.Core.Path.{sym, ap, ◌∙◌}
use Rattle.config.specs.Refusals.{refusal}
use Rattle.desk.proofs.Margins.{unheld-weighed, held-weighed}
use Rattle.desk.proofs.record.Desk.weighed_sound.Goals as goal

pub returns-then-not-fits : goal.returns-then-not-fits
returns-then-not-fits c = unheld-weighed _ _ (sym c.fits.ensures ∙ c.if-not-fits.true)

pub returns : goal.returns
returns c =
    c.or.ensures
    ∙ ap (λ r. result_or r (Err (refusal 1))) c.weigh.ensures
    ∙ held-weighed _ _ c.requires (sym c.fits.ensures ∙ c.if-not-fits.false)
