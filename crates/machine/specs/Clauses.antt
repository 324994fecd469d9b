-- The clauses of demand 3 about a run, of the plain machine or of any other store: those of its view, and the sheets.
use Rattle.machine.specs.Steps.{PlainRun}
use Rattle.machine.specs.Views.{Order, Values, Results, Tags, Restarts}
use Rattle.machine.specs.Seen.{view_of}
use Rattle.machine.specs.Sheets.{Sheets}

-- what demand 3 says of a run, apart from its equality with the plain machine
pub record Clauses (r : PlainRun) : Type 0 where
  pub order : Order (view_of r)
  pub values : Values (view_of r)
  pub results : Results (view_of r)
  pub tags : Tags (view_of r)
  pub restarts : Restarts (view_of r)
  pub sheets : Sheets r
