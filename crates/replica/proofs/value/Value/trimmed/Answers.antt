-- `trimmed` meets its contract: the first bytes are lent to `of`.
use mathlib.Core.Path.{ap, ◌∙◌}
use Rattle.replica.specs.declared.value.Value.{Value}
use Rattle.replica.specs.Values.{value_of, trimmed}
use Rattle.replica.proofs.Values.{trimmed-lent}
use Rattle.replica.proofs.value.Value.trimmed.Goals as goal

pub returns : goal.returns
unfolding trimmed value_of
returns c =
    let v = c.args.self.now in
    ap (λ l. record { length = v.length; bytes = l })
    (ap (λ (x : Value). x.bytes) c.of-kept.ensures ∙ ap (λ z. (value_of z).bytes) c.bytes.ensures.0 ∙ trimmed-lent v)
