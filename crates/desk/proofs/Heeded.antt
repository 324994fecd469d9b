-- What hearing a message comes to: it is refused, or late, or it is a reply that does one of four things.
use Rattle.std.specs.Prelude.{Ok, Err}
use Prim.Native.Nat.{ℕ, ◌<◌}
use mathlib.Core.Path.{◌≡◌, refl}
use mathlib.Core.Bool.{Bool, true, false, cond, true≢false}
use mathlib.Core.List.{List}
use borrow.Author.Tests.{eqb-true, ltb-true, not-false}
use lib.Dec.{eqb, ltb}
use Rattle.quorums.proofs.Tests.{both, chosen-first}
use Rattle.config.specs.Refusals.{by-verdict, refusal, granted}
use Rattle.config.specs.declared.answer.Refusal.{Refusal}
use Rattle.config.specs.Refusals.{Verdict}
use Rattle.ledger.specs.Weights.{quorum_of}
use Rattle.ledger.specs.Joins.{lacks}
use Rattle.message.specs.declared.envelope.Envelope.{Envelope}
use Rattle.replica.specs.declared.replica.Replica.{Replica}
use Rattle.replica.specs.Replicas.{joinable, join}
use Rattle.message.specs.Answers.{receive_of}
use Rattle.desk.specs.declared.record.Desk.{Desk}
use Rattle.desk.specs.declared.record.Heard.{Heard}
use Rattle.desk.specs.Operations.{running}
use Rattle.desk.specs.Desks.{most_round, fits}
use Rattle.desk.specs.Hears.{accepted, late, refused, stray, timely, clashes, moved, answered_by, restarted, restart_of, marked, no_stamp, chose, choose_of, finished, mark_of, hear_fields, hear_of}

-- ---- what is known of a reply that is taken

pub record Heeded (x : Desk) (e : Envelope) (r : Replica) : Type 0 where
  pub reply : e.kind ≡ 2
  pub own : e.desk ≡ x.number
  pub runs : x.operation.mode ≡ running
  pub current : e.round ≡ x.round
  pub joining : joinable x.config x.replica r ≡ true
  pub all_known : lacks r.ledger x.replica.ledger ≡ false

told-heeded : (x : Desk) (e : Envelope) (r : Replica) → stray x e ≡ false → timely x e ≡ true → clashes x r ≡ false → Heeded x e r
unfolding stray timely clashes
told-heeded x e r s t c =
    let mine = chosen-first (eqb e.kind 2) _ _ _ true≢false s in
    let now = both (eqb x.operation.mode running) _ t in
    let joins = chosen-first (joinable x.config x.replica r) _ _ _ true≢false c in
    record {
      reply = eqb-true e.kind 2 mine.0;
      own = eqb-true e.desk x.number (not-false _ mine.1);
      runs = eqb-true x.operation.mode running now.0;
      current = eqb-true e.round x.round now.1;
      joining = joins.0;
      all_known = joins.1;
    }

-- ---- what it does

-- the desk that waits for more servers, where p is held after joining and server i has answered
abbrev pub waiting : Desk → Replica → ℕ → Desk
waiting x p i = moved x p x.round (answered_by x.operation (marked x.operation.answered i) x.operation.restarts)

-- P holds of each thing that a reply may do, where p is held after joining and server i has answered
pub record Does (P : Heard → Type 0) (x : Desk) (p : Replica) (i : ℕ) : Type 0 where
  pub restarts : x.round < most_round → P (accepted (restarted x p))
  pub chooses : x.round < most_round → no_stamp x p.register ≡ false → P (accepted (chose x p))
  pub finishes : P (accepted (finished x p))
  pub waits : quorum_of x.config p.ledger (marked x.operation.answered i) ≡ false → P (accepted (waiting x p i))

-- what holds of a refusal, of "late" and of each thing that a reply may do holds of the call
module _ (P : Heard → Type 0) (x : Desk) (refuses : (k : Refusal) → P (refused k x)) where
  restart-cases : (p : Replica) (i : ℕ) → Does P x p i → P (restart_of x p)
  unfolding restart_of
  restart-cases p i d = by-test (ltb x.round most_round) refl
    where
      by-test : (b : Bool) → ltb x.round most_round ≡ b → P (cond b (accepted (restarted x p)) (refused (refusal 12) x))
      by-test true e = d.restarts (ltb-true x.round most_round e)
      by-test false e = refuses (refusal 12)

  choose-cases : (p : Replica) (i : ℕ) → Does P x p i → P (choose_of x p)
  unfolding choose_of
  choose-cases p i d = by_tests (ltb x.round most_round) (no_stamp x p.register) refl refl
    where
      by_tests : (b s : Bool) → ltb x.round most_round ≡ b → no_stamp x p.register ≡ s
          → P (cond b (cond s (refused (refusal 12) x) (accepted (chose x p))) (refused (refusal 12) x))
      by_tests true true e n = refuses (refusal 12)
      by_tests true false e n = d.chooses (ltb-true x.round most_round e) n
      by_tests false s e n = refuses (refusal 12)

  mark-cases : (p : Replica) (i : ℕ) → Does P x p i → P (mark_of x p i)
  unfolding mark_of
  mark-cases p i d = by_tests (quorum_of x.config p.ledger (marked x.operation.answered i)) (eqb x.operation.phase 1) refl
    where
      by_tests : (q f : Bool) → quorum_of x.config p.ledger (marked x.operation.answered i) ≡ q
          → P (cond q (cond f (choose_of x p) (accepted (finished x p))) (accepted (waiting x p i)))
      by_tests true true e = choose-cases p i d
      by_tests true false e = d.finishes
      by_tests false f e = d.waits e

  fields-cases : (e : Envelope) (r : Replica) → P (late x) → (Heeded x e r → Does P x (join x.replica r) e.server) → P (hear_fields x e r)
  unfolding hear_fields
  fields-cases e r lates takes =
      by_tests (stray x e) (timely x e) (clashes x r) (lacks x.replica.ledger r.ledger) (told-heeded x e r)
    where
      p : Replica
      p = join x.replica r

      by_tests : (s t c l : Bool) → (s ≡ false → t ≡ true → c ≡ false → Heeded x e r)
          → P (cond s (refused (refusal 7) x) (cond t (cond c (refused (refusal 6) x) (cond l (restart_of x p) (mark_of x p e.server))) (late x)))
      by_tests true t c l h = refuses (refusal 7)
      by_tests false true true l h = refuses (refusal 6)
      by_tests false true false true h = restart-cases p e.server (takes (h refl refl refl))
      by_tests false true false false h = mark-cases p e.server (takes (h refl refl refl))
      by_tests false false c l h = lates

  pub hear-cases : (msg : List ℕ)
      → P (late x)
      → (fits x ≡ true
      → (receive_of x.config msg).verdict ≡ granted
      → Heeded x (receive_of x.config msg).envelope (receive_of x.config msg).replica
      → Does P x (join x.replica (receive_of x.config msg).replica) (receive_of x.config msg).envelope.server)
      → P (hear_of x msg)
  unfolding hear_of
  hear-cases msg lates takes = by_tests (fits x) (receive_of x.config msg).verdict refl refl
    where
      e : Envelope
      e = (receive_of x.config msg).envelope

      r : Replica
      r = (receive_of x.config msg).replica

      by_tests : (f : Bool) (w : Verdict) → fits x ≡ f → (receive_of x.config msg).verdict ≡ w
          → P (cond f (by-verdict w (hear_fields x e r) (λ k. refused k x)) (refused (refusal 1) x))
      by_tests true (Ok _) h a = fields-cases e r lates (takes h a)
      by_tests true (Err k) h a = refuses k
      by_tests false w h a = refuses (refusal 1)
