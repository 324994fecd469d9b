-- Every other input is accepted (demand 1): a call whose input fails none of the paper's tests is accepted, and does what the paper says. The limits are
-- written out here, so that a test which refuses before its limit has no such law.
use Rattle.std.specs.Prelude.{Ok}
use Prim.Native.Nat.{ℕ, ◌≤◌, ◌<◌}
use mathlib.Core.Path.{◌≡◌, refl, ◌∙◌}
use mathlib.Core.Bool.{Bool, true, false, cond}
use mathlib.Core.List.{List}
use borrow.Author.Tests.{eq-eqb, ne_eqb, lt-ltb, le-leb}
use lib.Dec.{eqb}
use lib.ListN.{length}
use Rattle.config.specs.Refusals.{granted}
use Rattle.ledger.specs.Weights.{quorum_of}
use Rattle.ledger.specs.Joins.{lacks}
use Rattle.message.specs.declared.envelope.Envelope.{Envelope}
use Rattle.replica.specs.declared.replica.Replica.{Replica}
use Rattle.replica.specs.Values.{value_of}
use Rattle.replica.proofs.Values.{value-fits}
use Rattle.replica.specs.Registers.{trimmed}
use Rattle.replica.specs.Replicas.{join}
use Rattle.message.specs.Answers.{place, receive_of}
use Rattle.desk.specs.declared.record.Desk.{Desk}
use Rattle.desk.specs.declared.record.Hearing.{Hearing}
use Rattle.desk.specs.Desks.{fits, accepted, most_round}
use Rattle.desk.specs.Operations.{running, ended}
use Rattle.desk.specs.Begins.{begun, start_of, begin_of, dropped, drop_of}
use Rattle.desk.specs.Asks.{request_message, ask_of}
use Rattle.desk.specs.Results.{result_of}
use Rattle.desk.specs.Hears.{accepted as heard, stray, timely, clashes, restarted, restart_of, marked, no_stamp, chose, choose_of, finished, mark_of, hear_fields, hear_of}
use Rattle.desk.proofs.Heeded.{Heeded, waiting}

module _ (x : Desk) (f : fits x ≡ true) where
  -- begin: a value of up to 64 bytes, while no operation runs, before the last round
  pub begin-done : (kind : ℕ) (v : List ℕ) (note : ℕ) → length v ≤ 64 → (x.operation.mode ≡ 1 → ⊥) → x.round < 4294967295
      → begin_of x kind v note ≡ accepted (begun x kind (value_of v) note)
  unfolding begin_of start_of
  begin-done kind v note l m r =
      rw (f, value-fits v ∙ le-leb (length v) 64 l, ne_eqb x.operation.mode running m, lt-ltb x.round most_round r) refl

  -- ask: an operation runs, and the server is one of the cluster
  pub ask-done : (i : ℕ) (out : List ℕ) (at : ℕ) → x.operation.mode ≡ 1 → i < x.config.n → ask_of x i out at ≡ place (request_message x i) out at
  unfolding ask_of
  ask-done i out at m l = rw (f, eq-eqb x.operation.mode running m, lt-ltb i x.config.n l) refl

  -- result: an operation has ended
  pub result-done : x.operation.mode ≡ 2
      → result_of x
      ≡ Ok (record { kind = x.operation.kind; register = trimmed x.operation.chosen; restarts = x.operation.restarts })
  unfolding result_of
  result-done m = rw (f, eq-eqb x.operation.mode ended m) refl

  -- drop: an operation runs
  pub drop-done : x.operation.mode ≡ 1 → drop_of x ≡ accepted (dropped x)
  unfolding drop_of
  drop-done m = rw (f, eq-eqb x.operation.mode running m) refl

-- ---- hear

module _ (x : Desk) (p : Replica) (l : x.round < 4294967295) where
  -- before the last round
  pub restart-done : restart_of x p ≡ heard (restarted x p)
  unfolding restart_of
  restart-done = rw (lt-ltb x.round most_round l) refl

  -- and with a stamp left
  pub choose-done : no_stamp x p.register ≡ false → choose_of x p ≡ heard (chose x p)
  unfolding choose_of
  choose-done s = rw (lt-ltb x.round most_round l, s) refl

  mark-done : (i : ℕ) → no_stamp x p.register ≡ false → (mark_of x p i).hearing ≡ Ok Hearing.Taken
  unfolding mark_of
  mark-done i s = rw (choose-done s) (by_tests (quorum_of x.config p.ledger (marked x.operation.answered i)) (eqb x.operation.phase 1))
    where
      by_tests : (q b : Bool)
          → (cond q (cond b (heard (chose x p)) (heard (finished x p))) (heard (waiting x p i))).hearing ≡ Ok Hearing.Taken
      by_tests true true = refl
      by_tests true false = refl
      by_tests false b = refl

-- the tests of a reply that is taken
module _ (x : Desk) (e : Envelope) (r : Replica) (h : Heeded x e r) where
  not-stray : stray x e ≡ false
  unfolding stray
  not-stray = rw (eq-eqb e.kind 2 h.reply, eq-eqb e.desk x.number h.own) refl

  in-time : timely x e ≡ true
  unfolding timely
  in-time = rw (eq-eqb x.operation.mode running h.runs) (eq-eqb e.round x.round h.current)

  no-clash : clashes x r ≡ false
  unfolding clashes
  no-clash = rw h.joining h.all_known

  fields-done : x.round < 4294967295 → no_stamp x (join x.replica r).register ≡ false → (hear_fields x e r).hearing ≡ Ok Hearing.Taken
  unfolding hear_fields
  fields-done l s =
      rw (not-stray, in-time, no-clash, restart-done x (join x.replica r) l) (by-test (lacks x.replica.ledger r.ledger))
    where
      by-test : (b : Bool)
          → (cond b (heard (restarted x (join x.replica r))) (mark_of x (join x.replica r) e.server)).hearing ≡ Ok Hearing.Taken
      by-test true = refl
      by-test false = mark-done x (join x.replica r) l e.server s

-- A reply to this desk, of the round of the operation that runs, which joins and lacks no transfer of the desk's, is taken before the last round, where a
-- write finds a stamp left.
pub hear-done : (x : Desk) (msg : List ℕ) → fits x ≡ true
    → (receive_of x.config msg).verdict ≡ granted
    → Heeded x (receive_of x.config msg).envelope (receive_of x.config msg).replica
    → x.round < 4294967295
    → no_stamp x (join x.replica (receive_of x.config msg).replica).register ≡ false
    → (hear_of x msg).hearing ≡ Ok Hearing.Taken
unfolding hear_of
hear-done x msg f a h l s = rw (f, a) (fields-done x (receive_of x.config msg).envelope (receive_of x.config msg).replica h l s)
