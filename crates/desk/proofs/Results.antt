-- What a result tells: it is that of an operation that has ended, with the bytes of the chosen register.
use Rattle.std.specs.Prelude.{Ok, Err}
use native.Mathlib.Omega.{arith}
use mathlib.Core.Path.{◌≡◌, refl}
use mathlib.Core.Bool.{Bool, true, false, cond}
use borrow.Author.Tests.{ne_eqb, eqb-true}
use lib.Dec.{eqb}
use Rattle.config.specs.Refusals.{refusal}
use Rattle.replica.specs.Values.{bytes_of}
use Rattle.replica.specs.Registers.{trimmed}
use Rattle.replica.proofs.Values.{trimmed-bytes, fits-short}
use Rattle.replica.proofs.Registers.{fits-value}
use Rattle.desk.specs.declared.record.Desk.{Desk}
use Rattle.desk.specs.declared.result.Told.{Told}
use Rattle.desk.specs.Operations.{running, ended}
use Rattle.desk.specs.Desks.{fits}
use Rattle.desk.specs.Results.{told, result_of}
use Rattle.desk.proofs.Operations.{operation-told}
use Rattle.desk.proofs.Desks.{fits_told}

pub result-told : (x : Desk) (t : Told) → result_of x ≡ Ok t → (x.operation.mode ≡ ended) × (t ≡ told x.operation)
unfolding result_of
result-told x t = by_tests (fits x) (eqb x.operation.mode ended) refl
  where
    by_tests : (f m : Bool) → eqb x.operation.mode ended ≡ m
        → cond f (cond m (Ok (told x.operation)) (Err (refusal 9))) (Err (refusal 1)) ≡ Ok t
        → (x.operation.mode ≡ ended) × (t ≡ told x.operation)
    by_tests true true d e = (eqb-true x.operation.mode ended d, cc)
    by_tests true false d e = cc
    by_tests false m d e = cc

-- while an operation runs there is none
pub result-running : (x : Desk) → fits x ≡ true → x.operation.mode ≡ running → result_of x ≡ Err (refusal 9)
unfolding result_of
result-running x e m = simp (e, ne_eqb x.operation.mode ended (λ d. omega arith))

-- the bytes told are those chosen
pub result_value : (x : Desk) → fits x ≡ true → bytes_of (trimmed x.operation.chosen).value ≡ bytes_of x.operation.chosen.value
result_value x e =
    let chosen = (operation-told x.config x.round x.operation (fits_told x e).operation-fits).chosen-fits in
    trimmed-bytes x.operation.chosen.value (fits-short x.operation.chosen.value (fits-value x.config x.operation.chosen chosen))
