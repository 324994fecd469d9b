-- `of` meets its contract: the first bytes of the slice take the place of as many zeros.
use Prim.Native.Nat.{ℕ}
use mathlib.Core.Path.{ap₂, ap, ◌∙◌}
use mathlib.Core.List.{List, ◌++◌}
use lib.ListN.{drop, replicate}
use Rattle.replica.specs.declared.value.Value.{Value}
use Rattle.replica.specs.Values.{value_of}
use Rattle.replica.proofs.Values.{copied}
use Rattle.replica.proofs.value.Value.of.Goals as goal

-- a value of n bytes
abbrev made : ℕ → List ℕ → Value
made n l = record { length = n; bytes = l }

pub returns : goal.returns
unfolding value_of
returns c =
    ap₂ made c.min-length.ensures
    (ap (λ l. l ++ drop c.min-end.result (replicate 64 0)) c.copy_from_slice.ensures.after ∙ copied c.args.part.now c.min-end.result c.min-end.ensures)
