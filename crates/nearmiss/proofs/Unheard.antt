-- Weighing a giver by a gift that it has not heard breaks the floor (demand 2; paper 01, case 10): server 0 gives 374 to 1, and 1, which has not heard of
-- it, passes 748 on. Its own sheet then has it at 252, where 626 is the least.
use mathlib.Core.Path.{◌≡◌, refl}
use mathlib.Core.Bool.{false≢true}
use mathlib.Core.List.{List, [], ◌∷◌}
use borrow.Author.Tests.{ltb-true}
use lib.IntN.{pos}
use Rattle.machine.specs.Sets.{Transfer, weight_of}
use Rattle.machine.specs.Runs.{config, refused, done, at, answer_at}
use Rattle.machine.specs.Steps.{Step, transfer, machine, PlainRun}
use Rattle.machine.specs.Sheets.{by-server, Sheets}
use Rattle.machine.proofs.Computing.{computing}
use Rattle.nearmiss.specs.Steps.{run_by}
use Rattle.nearmiss.specs.Unheard.{gifts_to, transfer_unheard, unheard}

-- n = 5, f = 1
abbrev pub steps : List Step
steps = transfer 0 1 374 ∷ transfer 1 2 748 ∷ []

-- the gift of the first step, of which server 1 is told and has not heard
abbrev pub gift : Transfer
gift = record { giver = 0; number = 1; taker = 1; amount = 374 }

abbrev pub theirs : PlainRun
theirs = run_by (unheard (gift ∷ [])) 5 1 steps

pub record PassedOn : Type 0 where
  pub gift-made : ((at theirs 1).servers 0).set ≡ gift ∷ []
  pub accepted : answer_at theirs 1 ≡ done
  pub weight-left : weight_of (config theirs) ((at theirs 2).servers 1).set 1 ≡ pos 252
  -- on the plain machine that is 10
  pub ours : answer_at (run_by machine 5 1 steps) 1 ≡ refused 10

pub passed_on : PassedOn
unfolding computing gifts_to transfer_unheard
passed_on = record { gift-made = refl; accepted = refl; weight-left = refl; ours = refl }

pub unheard-light : Sheets theirs → ⊥
unfolding computing gifts_to transfer_unheard
unheard-light sheets = false≢true ((sheets 2 ((at theirs 2).servers 1).set (by-server 1 refl)).floor 1 (ltb-true 1 5 refl))
