-- Stores that break the equality with the plain machine: for each a list of steps and a place at which the answers differ.
use mathlib.Core.Path.{refl}
use mathlib.Core.List.{List, [], ◌∷◌, ◌++◌}
use Rattle.machine.specs.Parties.{start}
use Rattle.machine.specs.Runs.{late, refused, done, wrote, told}
use Rattle.machine.specs.Steps.{Step, serve, transfer, share}
use Rattle.machine.proofs.Computing.{computing}
use Rattle.nearmiss.specs.Steps.{room, pass_on, read_after, returned}
use Rattle.nearmiss.specs.Parts.{hear_with, mark_with}
use Rattle.nearmiss.specs.RegisterAlone.{serve_register, register_alone}
use Rattle.nearmiss.specs.FirstReply.{end_at_once, first_reply}
use Rattle.nearmiss.specs.NeverEnds.{go_on, never_ends}
use Rattle.nearmiss.specs.RefusesAll.{refuses_all}
use Rattle.nearmiss.specs.AllLate.{all_late}
use Rattle.nearmiss.specs.HeadCount.{enough_heads, head_count}
use Rattle.nearmiss.proofs.Shown.{unwritten}
use Rattle.nearmiss.proofs.Refuting.{Unequal, unequal}

-- a read of desk 1 through servers 0 and 1, of n = 3 and f = 1: it chooses at place 6 and ends at 12
abbrev pub reading : List Step
reading = unwritten.steps

-- A desk that ends at its first reply has nothing to ask for at place 4.
pub first-reply : Unequal first_reply 3 1 reading 4 (refused 9) (wrote 10)
unfolding computing hear_with end_at_once
first-reply = unequal refl refl refl refl

-- One that never ends has no result.
pub never-ending : Unequal never_ends 3 1 reading 13 (refused 9) (told (returned start 0))
unfolding computing hear_with mark_with go_on
never-ending = unequal refl refl refl refl

-- One that refuses everything does not begin.
pub refusing : Unequal refuses_all 3 1 reading 0 (refused 8) done
unfolding computing
refusing = unequal refl refl refl refl

-- One that calls all late does so with its first reply.
pub all-late : Unequal all_late 3 1 reading 3 late done
unfolding computing
all-late = unequal refl refl refl refl

-- A quorum by head-count: of n = 5 and f = 1, servers 2 and 4 are one by weight once 0 and 1 have passed theirs on.
pub head-count : Unequal head_count 5 1 (pass_on 0 ++ read_after 1 2) 22 (refused 9) (told (returned start 1))
unfolding computing hear_with mark_with enough_heads
head-count = unequal refl refl refl refl

-- A server that joins a share's register and not its sheet does not pass the sheet on.
pub register-alone : Unequal register_alone 3 1 (transfer 0 1 1 ∷ share 0 0 room ∷ serve 1 0 0 room ∷ share 1 0 room ∷ []) 3 (wrote 4) (wrote 14)
unfolding computing serve_register
register-alone = unequal refl refl refl refl
