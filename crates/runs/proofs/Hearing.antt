-- A desk hears a message that was sent as the machine's does, and so it does on a lent record.
use Prim.Native.Nat.{ℕ, ◌≤◌, ◌<◌}
use mathlib.Core.Path.{◌≡◌, refl, sym, ap, subst, ◌∙◌}
use mathlib.Core.Logic.{◌↔◌}
use mathlib.Core.Bool.{Bool, true, false, cond, not}
use mathlib.Core.List.{List}
use borrow.Author.Tests.{eqb-true}
use lib.Dec.{eqb}
use Rattle.config.specs.Cluster.{lawful_of}
use Rattle.config.specs.declared.cluster.Config.{Config}
use Rattle.config.specs.Refusals.{refusal}
use Rattle.ledger.specs.Joins.{lacks}
use Rattle.replica.specs.declared.replica.Replica.{Replica as Pair}
use Rattle.replica.specs.Replicas.{join}
use Rattle.message.specs.Envelopes.{reply as reply_number}
use Rattle.desk.specs.declared.record.Desk.{Desk}
use Rattle.desk.specs.declared.record.Heard.{Heard}
use Rattle.desk.specs.Operations.{running as running_mode}
use Rattle.desk.specs.Hears.{late, refused, stray, timely, clashes, restart_of, mark_of, hear_fields, hear_of}
use Rattle.machine.specs.Sets.{includes, count}
use Rattle.machine.specs.Parties.{Kind, request, reply, share, by_kind, kind_number, Message, bytes_of, join as plain_join, Operation, Activity, idle, running, ended, if-running, Desk as PlainDesk}
use Rattle.machine.specs.Runs.{Outcome, late as plain_late}
use Rattle.machine.specs.Calls.{accept, refuse, knows, mark, restart, hear_by}
use Rattle.machine.proofs.Moves.{Seated}
use Rattle.machine.proofs.Clashes.{Joins}
use Rattle.machine.proofs.WorkRanges.{HeadRange}
use Rattle.machine.proofs.Ranges.{DeskRange}
use Rattle.runs.specs.Calls.{hear_call, hear_lent_call}
use Rattle.runs.proofs.Records.{ledger_for, replica_for, envelope_for, operation_for, desk_for, called_for, heard_called, Held}
use Rattle.runs.proofs.Ledgers.{lacks-for, lacks-none}
use Rattle.runs.proofs.Messages.{join-for, joinable-for, received-for}
use Rattle.runs.proofs.Desks.{desk-fits}
use Rattle.runs.proofs.Replies.{busy, restart-for, mark-for}

-- what is known of a message that was sent, where desk d is x: it joins with what the desk holds, to a set within the ranges; a reply of the current round
-- has the desk's set; and one set has all of the other exactly when no count is lower
pub record Hearable (c : Config) (d : ℕ) (x : PlainDesk) (m : Message) : Type 0 where
  pub head : HeadRange c m
  pub held : Held c m.replica
  pub joins : Joins c x.replica m.replica
  pub current : m.kind ≡ reply → m.desk ≡ d → m.round ≡ x.round → (i : ℕ) → count x.replica.set i ≤ count m.replica.set i
  pub known : (includes x.replica.set m.replica.set ≡ true) ↔ ((i : ℕ) → i < c.n → count m.replica.set i ≤ count x.replica.set i)

module _ (c : Config) (valid : lawful_of c ≡ true) (d : ℕ) (x : PlainDesk) (h : Held c x.replica) (m : Message) (k : Hearable c d x m) where
  -- what is handed back for the machine's desk
  abbrev Same : Heard → Outcome Message PlainDesk → Type 0
  Same a p = heard_called a ≡ called_for c (desk_for c d) p

  -- the program's desk
  abbrev desk : Desk
  desk = desk_for c d x

  -- what it and the message hold, joined
  abbrev pair : Pair
  pair = join (replica_for x.replica) (replica_for m.replica)

  -- a reply of the current round joins
  no-clash : m.kind ≡ reply → m.desk ≡ d → m.round ≡ x.round → clashes desk (replica_for m.replica) ≡ false
  unfolding clashes
  no-clash e f g =
      rw (joinable-for c valid x.replica m.replica k.joins)
      (lacks-none m.replica.set x.replica.set (k.current e f g))

  -- what it does: the operation restarts, or its server is marked
  abbrev effect : Heard
  effect = cond (lacks (ledger_for x.replica.set) (ledger_for m.replica.set)) (restart_of desk pair) (mark_of desk pair m.server)

  -- so it does in the machine
  effect-for : (o : Operation) → x.activity ≡ running o → Same effect (cond (knows x m) (mark c d x o m) (restart x o m))
  effect-for o e =
      ap (λ t. heard_called (cond t (restart_of desk pair) (mark_of desk pair m.server)))
      (lacks-for c valid x.replica.set m.replica.set h.range.set k.held.range.set k.known)
      ∙ by-test (knows x m)
    where
      same : x ≡ busy x.replica x.round o
      same = ap (λ a. record { replica = x.replica; round = x.round; activity = a }) e

      by-test : (t : Bool) → Same (cond (not t) (restart_of desk pair) (mark_of desk pair m.server)) (cond t (mark c d x o m) (restart x o m))
      by-test true =
          rw (join-for c x.replica m.replica k.joins)
          (subst (λ z. Same (mark_of (desk_for c d z) (replica_for (plain_join x.replica m.replica)) m.server) (mark c d z o m)) (sym same)
          (mark-for c d x.replica x.round o valid m k.joins.range))
      by-test false =
          rw (join-for c x.replica m.replica k.joins)
          (subst (λ z. Same (restart_of (desk_for c d z) (replica_for (plain_join x.replica m.replica))) (restart z o m)) (sym same)
          (restart-for c d x.replica x.round o m))

  -- what is done with a reply to the desk, timely or not
  abbrev answer : Bool → Heard
  answer t = cond t (cond (clashes desk (replica_for m.replica)) (refused (refusal 6) desk) effect) (late desk)

  -- what the machine does with it
  abbrev plain_answer : Activity → Outcome Message PlainDesk
  plain_answer a =
      if-running a (λ o. cond (eqb m.round x.round) (cond (knows x m) (mark c d x o m) (restart x o m)) (accept plain_late x)) (accept plain_late x)

  -- a reply to the desk
  reply-for : m.kind ≡ reply → m.desk ≡ d → Same (answer (timely desk (envelope_for m))) (plain_answer x.activity)
  unfolding timely
  reply-for e f = by-activity x.activity refl
    where
      by-round : (o : Operation) → x.activity ≡ running o → (t : Bool) → eqb m.round x.round ≡ t
          → Same (answer t) (cond t (cond (knows x m) (mark c d x o m) (restart x o m)) (accept plain_late x))
      by-round o a true g = rw (no-clash e f (eqb-true m.round x.round g)) (effect-for o a)
      by-round o a false g = refl

      by-activity : (a : Activity) → x.activity ≡ a
          → Same (answer (cond (eqb (operation_for a).mode running_mode) (eqb m.round x.round) false)) (plain_answer a)
      by-activity idle a = refl
      by-activity (running o) a = by-round o a (eqb m.round x.round) refl
      by-activity (ended y) a = refl

  -- the fields of a message
  fields-for : Same (hear_fields desk (envelope_for m) (replica_for m.replica)) (hear_by c d x m)
  unfolding hear_fields hear_by stray
  fields-for = by-kinds m.kind refl
    where
      by-desk : m.kind ≡ reply → (t : Bool) → eqb m.desk d ≡ t
          → Same (cond (not t) (refused (refusal 7) desk) (answer (timely desk (envelope_for m))))
          (cond t (plain_answer x.activity) (refuse 7 x))
      by-desk e true f = reply-for e (eqb-true m.desk d f)
      by-desk e false f = refl

      by-kinds : (a : Kind) → m.kind ≡ a
          → Same (cond (cond (eqb (kind_number a) reply_number) (not (eqb m.desk d)) true) (refused (refusal 7) desk)
          (answer (timely desk (envelope_for m))))
          (by_kind a (refuse 7 x) (cond (eqb m.desk d) (plain_answer x.activity) (refuse 7 x)) (refuse 7 x))
      by-kinds request e = refl
      by-kinds reply e = by-desk e (eqb m.desk d) refl
      by-kinds share e = refl

-- Hear of a message that was sent.
pub hear-for : (c : Config) → lawful_of c ≡ true → (sent : List Message) (d : ℕ) → Seated d → (x : PlainDesk) → DeskRange c sent d x → Held c x.replica
    → (m : Message) → Hearable c d x m → hear_call (desk_for c d x) (bytes_of c m) ≡ called_for c (desk_for c d) (hear_by c d x m)
unfolding hear_call hear_of
hear-for c valid sent d seated x w h m k =
    rw (desk-fits c valid sent d seated x w h, received-for c valid m k.head k.held) (fields-for c valid d x h m k)

-- Hear on a lent record comes to what hear comes to: the same answer, and in the lent place the record that hear hands back.
pub lent_same : (x : Desk) (msg : List ℕ) → hear_lent_call x msg ≡ hear_call x msg
unfolding hear_lent_call hear_call
lent_same x msg = refl
