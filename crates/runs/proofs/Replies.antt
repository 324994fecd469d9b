-- A reply of the current round does to a desk what it does to the machine's: a restart on a larger sheet; otherwise its server is marked, and on a quorum
-- phase 1 chooses or phase 2 finishes.
use Prim.Native.Nat.{ℕ, suc}
use mathlib.Core.Path.{◌≡◌, refl, sym, ap, ◌∙◌}
use mathlib.Core.Bool.{Bool, true, false, cond, not}
use mathlib.Core.List.{◌∷◌}
use lib.Dec.{eqb, leb, ltb}
use Rattle.quorums.proofs.Tests.{leb-not}
use Rattle.config.specs.Cluster.{lawful_of, most_stamp}
use Rattle.config.specs.declared.cluster.Config.{Config}
use Rattle.config.specs.Refusals.{refusal}
use Rattle.replica.specs.Values.{value_of as bytes_for}
use Rattle.desk.specs.declared.record.Desk.{Desk}
use Rattle.desk.specs.declared.record.Heard.{Heard}
use Rattle.desk.specs.Operations.{reading, writing}
use Rattle.desk.specs.Hears.{accepted, refused, restarted, restart_of, no_stamp, chosen_of, chose, choose_of, finished, mark_of}
use Rattle.desk.proofs.Heeded.{waiting}
use Rattle.machine.specs.Sets.{union, quorum_of as plain_quorum}
use Rattle.machine.specs.Parties.{Register, Replica, join, Message, Task, read, write, writes, value_of, Phase, first, second, by-phase, Operation, running, Desk as PlainDesk, answered}
use Rattle.machine.specs.Runs.{Outcome, done}
use Rattle.machine.specs.Calls.{accept, refuse, most_round, restart, restarted as plain_restarted, chosen, no-stamp, choose, moved_on, finished as plain_finished, mark, marked as plain_marked}
use Rattle.machine.proofs.SetRanges.{SetRange}
use Rattle.runs.proofs.Records.{map_for, kind_for, phase_for, register_for, replica_for, desk_for, called_for, heard_called}
use Rattle.runs.proofs.Ledgers.{quorum-for}
use Rattle.runs.proofs.Desks.{map-names}

-- ---- choices

-- a choice by the opposite test
swapped : {A : Type 0} → (a b : ℕ) (x y : A) → cond (ltb b a) x y ≡ cond (leb a b) y x
swapped {A} a b x y = by-test (ltb b a) ∙ ap (λ t. cond t y x) (sym (leb-not a b))
  where
    by-test : (t : Bool) → cond t x y ≡ cond (not t) y x
    by-test true = refl
    by-test false = refl

-- the machine's desk, which holds y in round k, while the operation o runs
abbrev pub busy : Replica → ℕ → Operation → PlainDesk
busy y k o = record { replica = y; round = k; activity = running o }

-- ---- what a reply of the round does

module _ (c : Config) (d : ℕ) (y : Replica) (k : ℕ) (o : Operation) where
  -- what is handed back for the machine's desk
  abbrev Same : Heard → Outcome Message PlainDesk → Type 0
  Same h p = heard_called h ≡ called_for c (desk_for c d) p

  -- the program's desk
  abbrev desk : Desk
  desk = desk_for c d (busy y k o)

  -- the same on both sides of a test
  either : (t : Bool) (h g : Heard) (p q : Outcome Message PlainDesk) → Same h p → Same g q → Same (cond t h g) (cond t p q)
  either true h g p q e f = e
  either false h g p q e f = f

  -- a larger sheet
  pub restart-for : (m : Message)
      → heard_called (restart_of (desk_for c d (busy y k o)) (replica_for (join y m.replica))) ≡ called_for c (desk_for c d) (restart (busy y k o) o m)
  unfolding restart_of restart map_for
  restart-for m =
      let p = replica_for (join y m.replica) in
      ap heard_called (swapped most_round k (accepted (restarted desk p)) (refused (refusal 12) desk))
      ∙ either (leb most_round k) (refused (refusal 12) desk) (accepted (restarted desk p)) (refuse 12 (busy y k o))
      (accept done (plain_restarted (busy y k o) o m)) refl refl

  -- what phase 1 chooses
  chosen-for : (g : Register) → chosen_of desk (register_for g) ≡ register_for (chosen d o.task g)
  unfolding chosen_of
  chosen-for g = by_kind o.task
    where
      by_kind : (t : Task)
          → cond (eqb (kind_for t) writing) (record { stamp = suc g.stamp; desk = d; value = bytes_for (value_of t) }) (register_for g)
          ≡ register_for (chosen d t g)
      by_kind read = refl
      by_kind (write v) = refl

  -- a write finds no stamp left
  no-stamp-for : (g : Register) → no_stamp desk (register_for g) ≡ no-stamp c o.task g
  unfolding no_stamp
  no-stamp-for g = by_kind o.task
    where
      by_kind : (t : Task) → cond (eqb (kind_for t) writing) (not (ltb g.stamp (most_stamp c))) false ≡ no-stamp c t g
      by_kind read = refl
      by_kind (write v) = sym (leb-not (most_stamp c) g.stamp)

  -- the desk in phase 2
  chose-for : (p : Replica) → chose desk (replica_for p) ≡ desk_for c d (moved_on d (busy y k o) o p)
  unfolding map_for
  chose-for p = rw (chosen-for p.register) refl

  -- the end of phase 1, where p is held after joining
  choose-for : (p : Replica) → Same (choose_of desk (replica_for p)) (choose c d (busy y k o) o p)
  unfolding choose_of choose
  choose-for p =
      let spent = refused (refusal 12) desk in
      let moves = accepted (chose desk (replica_for p)) in
      let plain-spent = refuse 12 (busy y k o) in
      let plain-moves = accept done (moved_on d (busy y k o) o p) in
      let none_left = no-stamp c o.task p.register in
      ap heard_called (swapped most_round k (cond (no_stamp desk (register_for p.register)) spent moves) spent)
      ∙ ap (λ t. heard_called (cond (leb most_round k) spent (cond t spent moves))) (no-stamp-for p.register)
      ∙ either (leb most_round k) spent (cond none_left spent moves) plain-spent (cond none_left plain-spent plain-moves) refl
      (either none_left spent moves plain-spent plain-moves refl (ap (λ z. heard_called (accepted z)) (chose-for p)))

  -- what an operation that has ended was
  kind-of : (t : Task) → kind_for t ≡ cond (writes t) writing reading
  kind-of read = refl
  kind-of (write v) = refl

  -- the end of phase 2, in which g was the chosen register
  finish-for : (p : Replica) (g : Register) → o.phase ≡ second g
      → Same (accepted (finished desk (replica_for p))) (accept done (plain_finished (busy y k o) o p g))
  finish-for p g e = rw (e, kind-of o.task) refl

  -- a server more has answered
  wait-for : (m : Message) (p : Replica)
      → Same (accepted (waiting desk (replica_for p) m.server)) (accept done (plain_marked (busy y k o) o p m))
  unfolding map_for
  wait-for m p = refl

  -- the end of a phase
  phase-for : (p : Replica)
      → Same (cond (eqb (phase_for o.phase) 1) (choose_of desk (replica_for p)) (accepted (finished desk (replica_for p))))
      (by-phase o.phase (choose c d (busy y k o) o p) (λ g. accept done (plain_finished (busy y k o) o p g)))
  phase-for p = by-case o.phase refl
    where
      by-case : (h : Phase) → o.phase ≡ h
          → Same (cond (eqb (phase_for h) 1) (choose_of desk (replica_for p)) (accepted (finished desk (replica_for p))))
          (by-phase h (choose c d (busy y k o) o p) (λ g. accept done (plain_finished (busy y k o) o p g)))
      by-case first e = choose-for p
      by-case (second g) e = finish-for p g e

  -- any other reply
  pub mark-for : lawful_of c ≡ true → (m : Message) → SetRange c (union y.set m.replica.set)
      → heard_called (mark_of (desk_for c d (busy y k o)) (replica_for (join y m.replica)) m.server)
      ≡ called_for c (desk_for c d) (mark c d (busy y k o) o m)
  unfolding mark_of mark map_for join
  mark-for valid m w =
      let p = join y m.replica in
      let ends = cond (eqb (phase_for o.phase) 1) (choose_of desk (replica_for p)) (accepted (finished desk (replica_for p))) in
      let waits = accepted (waiting desk (replica_for p) m.server) in
      ap (λ t. heard_called (cond t ends waits))
      (quorum-for c valid p.set w (map_for (m ∷ o.heard)) (answered (m ∷ o.heard)) (λ i l. map-names (m ∷ o.heard) i))
      ∙ either (plain_quorum c p.set (answered (m ∷ o.heard))) ends waits
      (by-phase o.phase (choose c d (busy y k o) o p) (λ g. accept done (plain_finished (busy y k o) o p g)))
      (accept done (plain_marked (busy y k o) o p m)) (phase-for p) (wait-for m p)
