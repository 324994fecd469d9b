-- The clauses of demand 3, for every list of steps of the plain machine, in every house that opening takes.
use mathlib.Core.Path.{◌≡◌}
use mathlib.Core.List.{List}
use Rattle.config.specs.Cluster.{House, house_fault}
use Rattle.config.proofs.Houses.{house-told}
use Rattle.machine.specs.Steps.{Step, run_of, machine}
use Rattle.machine.specs.Clauses.{Clauses}
use Rattle.machine.proofs.Order.{order}
use Rattle.machine.proofs.Values.{values}
use Rattle.machine.proofs.Results.{results, tags}
use Rattle.machine.proofs.Restarts.{restarts}
use Rattle.machine.proofs.Sheets.{sheets}

pub clauses : (house : House) → house_fault house ≡ 0 → (steps : List Step) → Clauses (run_of machine house steps)
clauses house fault steps =
    let lawful = (house-told house fault).lawful in
    record {
      order = order house lawful steps;
      values = values house steps;
      results = results house steps;
      tags = tags house steps;
      restarts = restarts house steps;
      sheets = sheets house lawful steps;
    }
