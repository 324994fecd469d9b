-- Demand 3: for every house that opening takes, and every list of begin, ask, serve, hear, hear on a lent record, result, drop, transfer, share and crash,
-- refused, late and crashed ones included, from a fresh cluster, whatever the network loses, doubles, delays or reorders but never forges.
use Prim.Native.Nat.{ℕ, suc}
use mathlib.Core.Path.{◌≡◌, refl, ap₂}
use mathlib.Core.List.{List, [], ◌∷◌, map}
use Rattle.config.proofs.Houses.{house-told}
use Rattle.machine.specs.Runs.{in_turn}
use Rattle.machine.proofs.Whole.{clauses}
use Rattle.runs.specs.Steps.{plain}
use Rattle.runs.specs.Clauses.{ForEveryRun}
use Rattle.runs.proofs.Simulation.{stands_at, answer_at_lem}
use Rattle.runs.proofs.Views.{view-same}
use Rattle.runs.proofs.Sheets.{sheets}

-- two functions that are equal at each place give the same in turn, by the places of a list and of one with each element changed
turn-same : {A B C : Type 0} (h : A → B) (l : List A) (f g : ℕ → C) → ((k : ℕ) → f k ≡ g k) → in_turn l f ≡ in_turn (map h l) g
unfolding in_turn
turn-same h [] f g e = refl
turn-same h (x ∷ l) f g e = ap₂ (λ y z. y ∷ z) (e 0) (turn-same h l (λ k. f (suc k)) (λ k. g (suc k)) (λ k. e (suc k)))

pub demand3 : ForEveryRun
demand3 house none steps typed =
    let lawful = (house-told house none).lawful in
    let plainly = clauses house none (map plain steps) in
    record {
      answers = turn-same plain steps _ _ (answer_at_lem house lawful steps typed);
      bytes = λ k. (stands_at house lawful steps typed k).sent;
      seen = view-same house lawful steps typed;
      order = plainly.order;
      values = plainly.values;
      results = plainly.results;
      tags = plainly.tags;
      restarts = plainly.restarts;
      sheets = sheets house lawful steps typed;
      sets = plainly.sheets;
    }
