-- With the plain machine's own parts, the open hear is the plain machine's.
use mathlib.Core.Path.{◌≡◌, refl}
use Rattle.machine.specs.Calls.{restart, choose, finished, mark, hear_by}
use Rattle.nearmiss.specs.Parts.{hear_with, enough_weight, mark_with}

pub own-hear : hear_with mark (λ c d. restart) ≡ hear_by
unfolding hear_with hear_by
own-hear = refl

pub own-mark : mark_with enough_weight choose finished ≡ mark
unfolding mark_with mark
own-mark = refl
