-- What the answers of the parts of a call tell: of a join, and of hear at each of its tests.
use Rattle.std.specs.Prelude.{Err}
use Prim.Native.Nat.{ℕ}
use mathlib.Core.Path.{◌≡◌, refl}
use mathlib.Core.Bool.{Bool, true, false, cond, not}
use mathlib.Core.List.{List}
use Rattle.config.specs.Refusals.{refusal, granted}
use Rattle.config.specs.declared.answer.Refusal.{Refusal}
use Rattle.ledger.specs.Joins.{lacks}
use Rattle.message.specs.declared.envelope.Envelope.{Envelope}
use Rattle.message.specs.Answers.{Received}
use Rattle.replica.specs.declared.replica.Replica.{Replica}
use Rattle.replica.specs.Replicas.{joinable, join}
use Rattle.message.specs.Answers.{receive_of}
use Rattle.desk.specs.declared.record.Desk.{Desk}
use Rattle.desk.specs.Desks.{fits}
use Rattle.desk.specs.Hears.{late, refused, stray, timely, clashes, restart_of, mark_of, hear_fields, hear_of}

-- ---- a join

module _ (x : Desk) (r : Replica) where
  -- 6 for what lacks a transfer of the desk's; of what lacks none, the replicas decide
  pub clash-lacking : lacks r.ledger x.replica.ledger ≡ true → clashes x r ≡ true
  unfolding clashes
  clash-lacking l = rw l (by-test (joinable x.config x.replica r))
    where
      by-test : (j : Bool) → cond j true true ≡ true
      by-test true = refl
      by-test false = refl

  pub clash-rest : (j : Bool) → lacks r.ledger x.replica.ledger ≡ false → joinable x.config x.replica r ≡ j → clashes x r ≡ not j
  unfolding clashes
  clash-rest j l e = rw (l, e) (by-test j)
    where
      by-test : (j : Bool) → cond j false true ≡ not j
      by-test true = refl
      by-test false = refl

-- ---- hear of the fields of a message

module _ (x : Desk) (e : Envelope) (r : Replica) where
  pub fields-stray : stray x e ≡ true → hear_fields x e r ≡ refused (refusal 7) x
  unfolding hear_fields
  fields-stray s = rw s refl

  pub fields-late : stray x e ≡ false → timely x e ≡ false → hear_fields x e r ≡ late x
  unfolding hear_fields
  fields-late s t = rw (s, t) refl

  -- a reply of the operation's round
  module _ (s : stray x e ≡ false) (t : timely x e ≡ true) where
    pub fields-clash : clashes x r ≡ true → hear_fields x e r ≡ refused (refusal 6) x
    unfolding hear_fields
    fields-clash c = rw (s, t, c) refl

    pub fields-larger : clashes x r ≡ false → lacks x.replica.ledger r.ledger ≡ true → hear_fields x e r ≡ restart_of x (join x.replica r)
    unfolding hear_fields
    fields-larger c l = rw (s, t, c, l) refl

    pub fields-equal : clashes x r ≡ false → lacks x.replica.ledger r.ledger ≡ false
        → hear_fields x e r ≡ mark_of x (join x.replica r) e.server
    unfolding hear_fields
    fields-equal c l = rw (s, t, c, l) refl

-- ---- hear of a message

module _ (x : Desk) (msg : List ℕ) where
  pub hear-unfit : fits x ≡ false → hear_of x msg ≡ refused (refusal 1) x
  unfolding hear_of
  hear-unfit f = rw f refl

  -- y is what the message says
  module _ (y : Received) (f : fits x ≡ true) (d : y ≡ receive_of x.config msg) where
    pub hear-taken : y.verdict ≡ granted → hear_of x msg ≡ hear_fields x y.envelope y.replica
    unfolding hear_of
    hear-taken v = rw (← d, f, v) refl

    pub hear-untaken : (k : Refusal) → y.verdict ≡ Err k → hear_of x msg ≡ refused k x
    unfolding hear_of
    hear-untaken k v = rw (← d, f, v) refl
