-- The heads of messages and the work of desks are within the ranges of the byte table and of the record test: servers, desks, rounds and notes, the
-- value to be written, restarts, the replies heard, and the stamps that writes choose. They are followed from step to step.
use Prim.Native.Nat.{ℕ, zero, suc, ◌≤◌, ◌<◌, ◌^◌}
use native.Mathlib.Omega.{arith}
use mathlib.Core.Path.{◌≡◌, refl, sym, ap, ◌∙◌, subst}
use mathlib.Core.Logic.{⊎_elim}
use mathlib.Core.Bool.{false}
use mathlib.Core.List.{List, [], ◌∷◌, ◌++◌}
use mathlib.Core.Option.{some}
use borrow.Author.Tests.{leb-false}
use lib.ListN.{length}
use Rattle.config.specs.Cluster.{House, config_of, most_stamp}
use Rattle.config.specs.declared.cluster.Config.{Config}
use Rattle.machine.specs.Parties.{Register, Replica, join, share, Message, Task, write, value_of, Phase, second, Operation, Result, Activity, idle, running, ended, Desk}
use Rattle.machine.specs.Runs.{done, put, nth, nothing, after_desk, at}
use Rattle.machine.specs.Calls.{most_round, most_value, accept, begun, restarted, no-stamp, chosen, moved_on, finished, marked, dropped}
use Rattle.machine.specs.Steps.{machine, Step, begin, run_of}
use Rattle.machine.specs.Typed.{Bytes, TypedBegin, Typed}
use Rattle.machine.proofs.Lists.{In, in_left, nth_in, each_append, each-one}
use Rattle.machine.proofs.Branches.{when-cases}
use Rattle.machine.proofs.Moves.{PlainState, stepped, Seated, moved}
use Rattle.machine.proofs.Desks.{put-cases}
use Rattle.machine.proofs.DesksKept.{kinds-apart}

-- a message without its replica: requests and replies have a desk and a round, shares have neither of them, nor a note
pub record HeadRange (c : Config) (m : Message) : Type 0 where
  pub server : m.server < c.n
  pub asked : (m.kind ≡ share → ⊥) → Seated m.desk × (1 ≤ m.round) × (m.round ≤ most_round)
  pub shared : m.kind ≡ share → (m.desk ≡ 0) × (m.round ≡ 0) × (m.note ≡ 0)
  pub note : m.note < 2 ^ 32

-- an operation of desk d that runs in a round, which is not 0: its restarts are at most the round, the replies heard were sent by servers below n, and
-- the stamp that a write chose was left
pub record OperationRange (c : Config) (sent : List Message) (d round : ℕ) (o : Operation) : Type 0 where
  pub seated : Seated d
  pub begun : 1 ≤ round
  pub note : o.note < 2 ^ 32
  pub short : length (value_of o.task) ≤ most_value
  pub bytes : Bytes (value_of o.task)
  pub restarts : o.restarts ≤ round
  pub heard : (m : Message) → In m o.heard → In m sent × (m.server < c.n)
  pub stamp : (v : List ℕ) (g : Register) → o.task ≡ write v → o.phase ≡ second g → g.stamp ≤ most_stamp c

-- the result of an operation that has ended
pub record ResultRange (round : ℕ) (y : Result) : Type 0 where
  pub begun : 1 ≤ round
  pub restarts : y.restarts ≤ round

-- whatever it does
abbrev pub ActivityRange : Config → List Message → ℕ → ℕ → Activity → Type 0
ActivityRange c sent d round idle = Unit
ActivityRange c sent d round (running o) = OperationRange c sent d round o
ActivityRange c sent d round (ended y) = ResultRange round y

-- what desk d does, and its round
pub record WorkRange (c : Config) (sent : List Message) (d : ℕ) (x : Desk) : Type 0 where
  pub round : x.round ≤ most_round
  pub activity : ActivityRange c sent d x.round x.activity

-- ---- more messages

activity-grows : (c : Config) (l k : List Message) (d round : ℕ) (a : Activity) → ActivityRange c l d round a → ActivityRange c (l ++ k) d round a
activity-grows c l k d round idle r = tt
activity-grows c l k d round (running o) r =
    record {
      seated = r.seated;
      begun = r.begun;
      note = r.note;
      short = r.short;
      bytes = r.bytes;
      restarts = r.restarts;
      heard = λ m i. (in_left m l k (r.heard m i).0, (r.heard m i).1);
      stamp = r.stamp;
    }
activity-grows c l k d round (ended y) r = r

work-grows : (c : Config) (l k : List Message) (d : ℕ) (x : Desk) → WorkRange c l d x → WorkRange c (l ++ k) d x
work-grows c l k d x w = record { round = w.round; activity = activity-grows c l k d x.round x.activity w.activity }

-- ---- what is followed from step to step

pub record Kept (c : Config) (s : PlainState) : Type 0 where
  pub desks : (d : ℕ) → WorkRange c s.sent d (s.desks d)
  pub heads : (m : Message) → In m s.sent → HeadRange c m

module _ {c : Config} {s : PlainState} (k : Kept c s) where
  abbrev with : (ℕ → Replica) → (ℕ → Desk) → List Message → PlainState
  with servers desks l = record { servers = servers; crashed = s.crashed; desks = desks; sent = s.sent ++ l }

  heads-grow : (l : List Message) → ((m : Message) → In m l → HeadRange c m) → (m : Message) → In m (s.sent ++ l) → HeadRange c m
  heads-grow l new = each_append (HeadRange c) s.sent l k.heads new

  -- one server or one desk changes, and messages are sent at most
  server-kept : (f : ℕ → Replica) (l : List Message) → ((m : Message) → In m l → HeadRange c m) → Kept c (with f s.desks l)
  server-kept f l new = record { desks = λ d. work-grows c s.sent l d (s.desks d) (k.desks d); heads = heads-grow l new }

  desk-kept : (d : ℕ) (y : Desk) (l : List Message) → WorkRange c (s.sent ++ l) d y → ((m : Message) → In m l → HeadRange c m)
      → Kept c (with s.servers (put s.desks d y) l)
  desk-kept d y l w new =
      record {
        desks =
            λ e.
            put-cases (WorkRange c (s.sent ++ l) e) s.desks d y e (λ q. subst (λ z. WorkRange c (s.sent ++ l) z y) (sym q) w)
            (λ q. work-grows c s.sent l e (s.desks e) (k.desks e));
        heads = heads-grow l new;
      }

  quiet : (d : ℕ) (y : Desk) → WorkRange c s.sent d y → Kept c (after_desk s d (accept done y))
  quiet d y w = desk-kept d y [] (work-grows c s.sent [] d y w) (λ m i. absurd i)

  -- the operation that runs
  module _ (d : ℕ) (o : Operation) (runs : (s.desks d).activity ≡ running o) where
    now : OperationRange c s.sent d (s.desks d).round o
    now = subst (ActivityRange c s.sent d (s.desks d).round) runs (k.desks d).activity

    -- it goes on in a round no earlier, with other replies heard and more restarts
    goes_on : (p : Phase) (l : List Message) (n round : ℕ) → (s.desks d).round ≤ round → n ≤ round
        → ((m : Message) → In m l → In m s.sent × (m.server < c.n))
        → ((v : List ℕ) (g : Register) → o.task ≡ write v → p ≡ second g → g.stamp ≤ most_stamp c)
        → OperationRange c s.sent d round (record { task = o.task; note = o.note; phase = p; heard = l; restarts = n })
    goes_on p l n round up few heard stamp =
        record {
          seated = now.seated;
          begun = omega (arith, now.begun);
          note = now.note;
          short = now.short;
          bytes = now.bytes;
          restarts = few;
          heard = heard;
          stamp = stamp;
        }

  -- a write finds a stamp left
  stamp-left : (d : ℕ) (t : Task) (h : Register) → no-stamp c t h ≡ false → (v : List ℕ) (g : Register) → t ≡ write v
      → second (chosen d t h) ≡ second g
      → g.stamp ≤ most_stamp c
  stamp-left d t h w v g e f =
      let left : h.stamp < most_stamp c = leb-false (most_stamp c) h.stamp (subst (λ z. no-stamp c z h ≡ false) e w) in
      let is : chosen d t h ≡ g = cc in
      let stamp : suc h.stamp ≡ g.stamp = ap (λ z. (chosen d z h).stamp) (sym e) ∙ ap (λ z. z.stamp) is in
      omega arith

  step_kept : (st : Step) → ((d : ℕ) (t : Task) (note : ℕ) → st ≡ begin d t note → TypedBegin t note) → Kept c (stepped c s st).state
  step_kept st typed =
      moved c s (λ h z. Kept c z.state) st
      (record {
        still = λ a e. k;
        tells = λ d y e at f. k;
        crashes = λ i e l. record { desks = k.desks; heads = k.heads };
        gives = λ i j amount e up g. server-kept _ [] (λ m q. absurd q);
        shares =
            λ i place size next e up.
            server-kept _ _
            (each-one (HeadRange c) _ (record { server = up.below; asked = λ ns. absurd (ns refl); shared = λ z. (refl, refl, refl); note = omega arith }));
        takes = λ i p place size m next e up f g. server-kept _ [] (λ n q. absurd q);
        replies =
            λ i p place size m next e up f g l.
            let from = k.heads m (nth_in s.sent p m f) in
            server-kept _ _
            (each-one (HeadRange c) _
            (record {
              server = up.below;
              asked = λ ns. from.asked (λ z. kinds-apart (sym g ∙ z) (λ b. omega arith));
              shared = λ z. absurd (kinds-apart z (λ b. omega arith));
              note = from.note;
            }));
        begins =
            λ d t note e at l rests room.
            let given = typed d t note e in
            quiet d (begun (s.desks d) t note)
            (record {
              round = room;
              activity =
                  record {
                    seated = at;
                    begun = omega arith;
                    note = given.1;
                    short = l;
                    bytes = given.0;
                    restarts = omega arith;
                    heard = λ m i. absurd i;
                    stamp = λ v g a b. let z : ◌≡◌ {A = ℕ} 0 1 = cc in absurd (omega arith);
                  };
            });
        asks =
            λ d i place size o next e at f l.
            let from = now d o f in
            desk-kept d (s.desks d) _ (work-grows c s.sent _ d (s.desks d) (k.desks d))
            (each-one (HeadRange c) _
            (record {
              server = l;
              asked = λ ns. (at, from.begun, (k.desks d).round);
              shared = λ z. absurd (kinds-apart z (λ b. omega arith));
              note = from.note;
            }));
        drops = λ d o e at f. quiet d (dropped (s.desks d)) (record { round = (k.desks d).round; activity = tt });
        restarts =
            λ d p m o x i room.
            let from = now d o x.hearing.runs in
            quiet d (restarted (s.desks d) o m)
            (record {
              round = room;
              activity = goes_on d o x.hearing.runs o.phase [] _ _ (omega arith) (omega (arith, from.restarts)) (λ n q. absurd q) from.stamp;
            });
        marks =
            λ d p m o x i short.
            let from = now d o x.hearing.runs in
            quiet d (marked (s.desks d) o (join (s.desks d).replica m.replica) m)
            (record {
              round = (k.desks d).round;
              activity =
                  goes_on d o x.hearing.runs o.phase (m ∷ o.heard) _ _ (omega arith) from.restarts
                  (λ n q.
                  ⊎_elim
                  (λ (z : n ≡ m).
                  subst (λ y. In y s.sent × (y.server < c.n)) (sym z)
                  (nth_in s.sent p m x.sent, (k.heads m (nth_in s.sent p m x.sent)).server))
                  (λ (z : In n o.heard). from.heard n z)
                  q)
                  from.stamp;
            });
        chooses =
            λ d p m o x i q f room w.
            let from = now d o x.hearing.runs in
            quiet d (moved_on d (s.desks d) o (join (s.desks d).replica m.replica))
            (record {
              round = room;
              activity =
                  goes_on d o x.hearing.runs _ [] _ _ (omega arith) (omega (arith, from.restarts)) (λ n z. absurd z)
                  (stamp-left d o.task (join (s.desks d).replica m.replica).register w);
            });
        ends =
            λ d p m o g x i q f.
            let from = now d o x.hearing.runs in
            quiet d (finished (s.desks d) o (join (s.desks d).replica m.replica) g)
            (record { round = (k.desks d).round; activity = record { begun = from.begun; restarts = from.restarts } });
      })

-- ---- every place of a run

pub kept : (house : House) (steps : List Step) → Typed steps → (k : ℕ) → Kept (config_of house) (at (run_of machine house steps) k)
unfolding at
kept house steps typed zero = record { desks = λ d. record { round = omega arith; activity = tt }; heads = λ m i. absurd i }
kept house steps typed (suc k) =
    let s = at (run_of machine house steps) k in
    when-cases (λ z. Kept (config_of house) z.state) (nth steps k) (nothing s) (stepped (config_of house) s) (kept house steps typed k)
    (λ st e. step_kept (kept house steps typed k) st (λ d t note f. typed k d t note (e ∙ ap some f)))
