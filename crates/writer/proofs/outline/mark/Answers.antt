-- `mark` meets its contract.
use native.Mathlib.Omega.{arith}
use mathlib.Core.Path.{◌≡◌, ◌∙◌}
use Rattle.format.specs.Bytes.{stands}
use Rattle.format.proofs.Marks.{stands-le}
use Rattle.writer.proofs.Outlines.{mark-test}
use Rattle.writer.proofs.outline.mark.Goals as goal

pub returns : goal.returns
returns c =
    let e : c.from.result ≡ stands c.args.x = c.from.ensures ∙ mark-test c.args.x in
    (e, omega (arith, e, stands-le c.args.x))
