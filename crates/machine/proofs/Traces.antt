-- Every register that is held, chosen or sent in a run of the machine is the start, or exactly the one that a write of the list chose: a join takes one
-- of two registers, a read chooses the one held, and a write's choice is where a register begins.
use Prim.Native.Nat.{ℕ, zero, suc}
use mathlib.Core.Path.{◌≡◌, refl, sym, ap, subst}
use mathlib.Core.Logic.{◌⊎◌, inl, inr}
use mathlib.Core.List.{List, [], ◌∷◌, ◌++◌, append-nil}
use mathlib.Core.Option.{some}
use Rattle.config.specs.Cluster.{House, config_of}
use Rattle.config.specs.declared.cluster.Config.{Config}
use Rattle.machine.specs.Parties.{Register, start, Replica, join, Message, write, Phase, first, second, Operation, Result, Activity, idle, running, ended, Desk}
use Rattle.machine.specs.Runs.{put, nth, nothing, at, desk_at}
use Rattle.machine.specs.Calls.{chosen, served}
use Rattle.machine.specs.Steps.{machine, Step, run_of, PlainRun}
use Rattle.machine.specs.Seen.{view_of}
use Rattle.machine.specs.Views.{Current, Chose}
use Rattle.machine.proofs.Lists.{In, each_append, each-one, nth_in}
use Rattle.machine.proofs.Branches.{when-cases, task-cases}
use Rattle.machine.proofs.Moves.{PlainState, stepped, moved}
use Rattle.machine.proofs.Desks.{put-cases, desk-moved}
use Rattle.machine.proofs.Performed.{running-origin, runs-chosen}
use Rattle.machine.proofs.Joins.{join-either}

-- a write of the list chose g
pub record Written (r : PlainRun) (g : Register) : Type 0 where
  pub desk : ℕ
  pub begun : ℕ
  pub bytes : List ℕ
  pub chose : Chose (view_of r) desk begun (write bytes) g

-- g is the start or a write's
abbrev pub Traced : PlainRun → Register → Type 0
Traced r g = (g ≡ start) ⊎ Written r g

-- a register that is held by a server or a desk, chosen by an operation that runs, told as a result, or sent, after the first k steps
pub data Carries (r : PlainRun) (k : ℕ) (g : Register) : Type 0 where
  by-server : (i : ℕ) → ((at r k).servers i).register ≡ g → Carries r k g
  by-desk : (d : ℕ) → (desk_at r d k).replica.register ≡ g → Carries r k g
  by-operation : (d : ℕ) (o : Operation) → (desk_at r d k).activity ≡ running o → o.phase ≡ second g → Carries r k g
  by_result : (d : ℕ) (y : Result) → (desk_at r d k).activity ≡ ended y → y.register ≡ g → Carries r k g
  by-message : (m : Message) → In m (at r k).sent → m.replica.register ≡ g → Carries r k g

-- ---- the registers of a state

abbrev PhaseTraced : PlainRun → Phase → Type 0
PhaseTraced r first = Unit
PhaseTraced r (second g) = Traced r g

abbrev ActivityTraced : PlainRun → Activity → Type 0
ActivityTraced r idle = Unit
ActivityTraced r (running o) = PhaseTraced r o.phase
ActivityTraced r (ended y) = Traced r y.register

-- the registers of a desk: the one held, and the one chosen or told
record DeskTraced (r : PlainRun) (x : Desk) : Type 0 where
  replica : Traced r x.replica.register
  activity : ActivityTraced r x.activity

-- the registers of servers and of messages
abbrev ServersTraced : PlainRun → (ℕ → Replica) → Type 0
ServersTraced r f = (i : ℕ) → Traced r (f i).register

abbrev SentTraced : PlainRun → List Message → Type 0
SentTraced r l = (m : Message) → In m l → Traced r m.replica.register

abbrev OthersTraced : PlainRun → PlainState → Type 0
OthersTraced r s = ServersTraced r s.servers × SentTraced r s.sent

record StateTraced (r : PlainRun) (s : PlainState) : Type 0 where
  servers : ServersTraced r s.servers
  desks : (d : ℕ) → DeskTraced r (s.desks d)
  sent : SentTraced r s.sent

-- a server changed, a message sent, or none
put-traced : (r : PlainRun) (f : ℕ → Replica) (i : ℕ) (x : Replica) → ServersTraced r f → Traced r x.register → ServersTraced r (put f i x)
put-traced r f i x p q j = put-cases (λ y. Traced r y.register) f i x j (λ e. q) (λ e. p j)

sent-one : (r : PlainRun) (l : List Message) (m : Message) → SentTraced r l → Traced r m.replica.register → SentTraced r (l ++ (m ∷ []))
sent-one r l m p q = each_append (λ y. Traced r y.replica.register) l (m ∷ []) p (each-one (λ y. Traced r y.replica.register) m q)

sent-none : (r : PlainRun) (l : List Message) → SentTraced r l → SentTraced r (l ++ [])
sent-none r l p = subst (SentTraced r) (sym (append-nil l)) p

module _ (house : House) (steps : List Step) where
  abbrev c : Config
  c = config_of house

  abbrev r : PlainRun
  r = run_of machine house steps

  -- ---- servers and messages

  others-traced : (k : ℕ) → StateTraced r (at r k) → OthersTraced r (at r (suc k))
  unfolding at
  others-traced k h =
      let s = at r k in
      let joined : (i p : ℕ) (m : Message) → nth s.sent p ≡ some m → Traced r (served (s.servers i) m).register =
      λ i p m e. join-either (Traced r) (s.servers i) m.replica (h.servers i) (h.sent m (nth_in s.sent p m e)) in
      let quiet : ServersTraced r s.servers × SentTraced r (s.sent ++ []) = (h.servers, sent-none r s.sent h.sent) in
      when-cases (λ z. OthersTraced r z.state) (nth steps k) (nothing s) (stepped c s) (h.servers, h.sent)
      (λ st e.
      moved c s (λ l z. OthersTraced r z.state) st
      (record {
        still = λ a f. (h.servers, h.sent);
        tells = λ d y f seated g. (h.servers, h.sent);
        crashes = λ i f l. (h.servers, h.sent);
        gives = λ i j amount f up g. (put-traced r s.servers i _ h.servers (h.servers i), quiet.1);
        shares =
            λ i place size next f up. (put-traced r s.servers i _ h.servers (h.servers i), sent-one r s.sent _ h.sent (h.servers i));
        takes = λ i p place size m next f up n g. (put-traced r s.servers i _ h.servers (joined i p m n), quiet.1);
        replies =
            λ i p place size m next f up n g q.
            (put-traced r s.servers i _ h.servers (joined i p m n), sent-one r s.sent _ h.sent (joined i p m n));
        begins = λ d t note f seated l rests room. quiet;
        asks = λ d i place size o next f seated runs l. (h.servers, sent-one r s.sent _ h.sent (h.desks d).replica);
        drops = λ d o f seated runs. quiet;
        restarts = λ d p m o f i room. quiet;
        marks = λ d p m o f i q. quiet;
        chooses = λ d p m o f i q g room w. quiet;
        ends = λ d p m o g f i q w. quiet;
      }))

  -- ---- desks

  -- a register chosen from a traced one: a write's is its own trace
  choice-traced : (d k : ℕ) (o : Operation) (g : Register) → (desk_at r d k).activity ≡ running o → o.phase ≡ second (chosen d o.task g) → Traced r g
      → Traced r (chosen d o.task g)
  choice-traced d k o g runs second-phase p =
      let from = running-origin house steps d k o runs in
      task-cases (λ y. o.phase ≡ second y → Traced r y) o.task g _ (λ e f. p)
      (λ v e f.
      inr
      (record {
        desk = d;
        begun = from.begun;
        bytes = v;
        chose =
            record {
              place = k;
              current = subst (λ t. Current (view_of r) d from.begun t k) e from.current;
              phase-two = runs-chosen (desk_at r d k).activity _ (record { operation = o; runs = runs; phase-two = f });
            };
      }))
      second-phase

  desk-traced : (d k : ℕ) → StateTraced r (at r k) → DeskTraced r (desk_at r d (suc k))
  desk-traced d k h =
      let x = desk_at r d k in
      let now = h.desks d in
      let joined : (p : ℕ) (m : Message) → nth (at r k).sent p ≡ some m → Traced r (join x.replica m.replica).register =
      λ p m e. join-either (Traced r) x.replica m.replica now.replica (h.sent m (nth_in (at r k).sent p m e)) in
      let phase : (o : Operation) → x.activity ≡ running o → PhaseTraced r o.phase = λ o e. subst (ActivityTraced r) e now.activity in
      desk-moved house steps d k (λ l y. y ≡ desk_at r d (suc k) → DeskTraced r y)
      (record {
        still = λ e. now;
        begins = λ t note b l rests room e. record { replica = now.replica; activity = tt };
        drops = λ o f e. record { replica = now.replica; activity = tt };
        restarts = λ p m o g i room e. record { replica = joined p m g.sent; activity = phase o g.hearing.runs };
        marks = λ p m o g i q e. record { replica = joined p m g.sent; activity = phase o g.hearing.runs };
        chooses =
            λ p m o g i q f room w e.
            let new : Traced r (chosen d o.task (join x.replica m.replica).register) =
            choice-traced d (suc k) _ _ (sym (ap (λ y. y.activity) e)) refl (joined p m g.sent) in
            record { replica = new; activity = new };
        ends =
            λ p m o y f g i q w e. record { replica = joined p m g.sent; activity = subst (PhaseTraced r) w (phase o g.hearing.runs) };
      })
      refl

  state-traced : (k : ℕ) → StateTraced r (at r k)
  unfolding at
  state-traced zero =
      record { servers = λ i. inl refl; desks = λ d. record { replica = inl refl; activity = tt }; sent = λ m e. absurd e }
  state-traced (suc k) =
      let h = state-traced k in
      let others = others-traced k h in
      record { servers = others.0; desks = λ d. desk-traced d k h; sent = others.1 }

  -- every register that is there comes from the start or from a write
  pub traced : (k : ℕ) (g : Register) → Carries r k g → Traced r g
  traced k g (by-server i e) = subst (Traced r) e ((state-traced k).servers i)
  traced k g (by-desk d e) = subst (Traced r) e ((state-traced k).desks d).replica
  traced k g (by-operation d o e f) = subst (PhaseTraced r) f (subst (ActivityTraced r) e ((state-traced k).desks d).activity)
  traced k g (by_result d y e f) = subst (Traced r) f (subst (ActivityTraced r) e ((state-traced k).desks d).activity)
  traced k g (by-message m e f) = subst (Traced r) f ((state-traced k).sent m e)
