-- What each step of the machine can come to, as a state, an answer and the transfer made, if any: to show something of every step it is enough to
-- show it of these moves.
use Prim.Native.Nat.{ℕ, suc, ◌≤◌, ◌<◌}
use mathlib.Core.Path.{◌≡◌, refl, sym, ap, ap₂, ◌∙◌, subst, fun_ext}
use mathlib.Core.Bool.{true, false, cond}
use mathlib.Core.List.{List, [], ◌∷◌, append-nil}
use mathlib.Core.Option.{some}
use borrow.Author.Tests.{ltb-true, leb-true, eqb-true}
use lib.Dec.{eqb, leb, ltb}
use lib.ListN.{length}
use Rattle.config.specs.declared.cluster.Config.{Config}
use Rattle.machine.specs.Sets.{count, quorum_of}
use Rattle.machine.specs.Parties.{Register, Replica, join, request, share, Message, Task, value_of, first, second, Operation, Result, running, ended, Desk, answered}
use Rattle.machine.specs.Runs.{State, Answer, unmade, late, refused, done, wrote, told, Outcome, put, nth, nothing, after_server, on_server, after_desk, most_desk, on_desk, after_crash, on_crash, Made, take}
use Rattle.machine.specs.Calls.{most_round, most_value, accept, given-away, reply_to, begun, request_of, restarted, no-stamp, moved_on, finished, marked, dropped, knows, served}
use Rattle.machine.specs.Steps.{Step, begin, ask, serve, hear, result, drop, transfer, share, crash, machine, asked_of}
use Rattle.machine.specs.Seen.{accepted}
use Rattle.machine.proofs.Branches.{branch, when-cases, Resting}
use Rattle.machine.proofs.Outcomes.{sends, Giving, transfer-cases, share_of, share-cases, serve-cases, begin-cases, ask-cases, Hearing, hear-cases, result-cases, drop-cases}
use Rattle.machine.proofs.Histories.{Gift, History}

-- a state of the plain machine
abbrev pub PlainState : Type 0
PlainState = State Replica Desk Message

-- what a step of the plain machine gives
abbrev pub PlainMade : Type 0
PlainMade = Made Replica Desk Message

abbrev pub stepped : Config → PlainState → Step → PlainMade
stepped c s st = take c s (asked_of machine c st)

-- ---- a call that leaves its party as it was and sends nothing leaves the state as it was

put_same : {A : Type 0} (f : ℕ → A) (i : ℕ) (a : A) → f i ≡ a → put f i a ≡ f
put_same f i a e = fun_ext (λ x. branch (λ y. y ≡ f x) (eqb x i) a (f x) (λ t. sym e ∙ ap f (sym (eqb-true x i t))) (λ t. refl))

desk-still : (s : PlainState) (d : ℕ) (a : Answer) → after_desk s d (accept a (s.desks d)) ≡ s
desk-still s d a = ap₂ made (put_same s.desks d (s.desks d) refl) (append-nil s.sent)
  where
    made : (ℕ → Desk) → List Message → PlainState
    made f l = record { servers = s.servers; crashed = s.crashed; desks = f; sent = l }

server-still : (s : PlainState) (i : ℕ) (a : Answer) → after_server s i (accept a (s.servers i)) ≡ s
server-still s i a = ap₂ made (put_same s.servers i (s.servers i) refl) (append-nil s.sent)
  where
    made : (ℕ → Replica) → List Message → PlainState
    made f l = record { servers = f; crashed = s.crashed; desks = s.desks; sent = l }

-- ---- the transfer that a step makes

-- what server i adds to the history when it gives e to j, holding r
abbrev pub gift_by : Replica → ℕ → ℕ → ℕ → Gift
gift_by r i j e =
    record {
      transfer = record { giver = i; number = suc (count r.set i); taker = j; amount = e };
      snapshot = (given-away r i j e).set;
      tag = r.register;
    }

abbrev pub gift_in : Replica → ℕ → ℕ → ℕ → Answer → History
gift_in r i j e a = cond (accepted a) (gift_by r i j e ∷ []) []

-- the history's growth by a step from state s
abbrev pub gift_of : Config → PlainState → Step → History
gift_of c s (begin d t note) = []
gift_of c s (ask d i place size) = []
gift_of c s (serve i k place size) = []
gift_of c s (hear d k) = []
gift_of c s (result d) = []
gift_of c s (drop d) = []
gift_of c s (transfer i j e) = gift_in (s.servers i) i j e (stepped c s (transfer i j e)).answer
gift_of c s (share i place size) = []
gift_of c s (crash i) = []

-- ---- the moves

abbrev pub made : Answer → PlainState → PlainMade
made a s = record { answer = a; state = s }

-- server i is there and up; desk d is there
pub record Up (c : Config) (s : PlainState) (i : ℕ) : Type 0 where
  pub below : i < c.n
  pub runs : s.crashed i ≡ false

pub record Seated (d : ℕ) : Type 0 where
  pub some : 1 ≤ d
  pub most : d ≤ most_desk

-- desk d hears the message at place k
pub record Heard (s : PlainState) (st : Step) (d k : ℕ) (m : Message) (o : Operation) : Type 0 where
  pub step : st ≡ hear d k
  pub seated : Seated d
  pub sent : nth s.sent k ≡ some m
  pub hearing : Hearing d (s.desks d) m o

pub record Moves (c : Config) (s : PlainState) (st : Step) (P : History → PlainMade → Type 0) : Type 0 where
  -- nothing changes
  pub still : (a : Answer) → accepted a ≡ false → P [] (made a s)
  pub tells : (d : ℕ) (y : Result) → st ≡ result d → Seated d → (s.desks d).activity ≡ ended y → P [] (made (told y) s)
  -- servers
  pub crashes : (i : ℕ) → st ≡ crash i → i < c.n → P [] (made done (after_crash s i))
  pub gives : (i j e : ℕ) → st ≡ transfer i j e → Up c s i → Giving c i (s.servers i) j e
      → P (gift_by (s.servers i) i j e ∷ []) (made done (after_server s i (accept done (given-away (s.servers i) i j e))))
  pub shares : (i place size next : ℕ) → st ≡ share i place size → Up c s i
      → P [] (made (wrote next) (after_server s i (sends c (s.servers i) (share_of i (s.servers i)) place)))
  pub takes : (i k place size : ℕ) (m : Message) (next : ℕ) → st ≡ serve i k place size → Up c s i → nth s.sent k ≡ some m → m.kind ≡ share
      → P [] (made (wrote next) (after_server s i (accept (wrote next) (served (s.servers i) m))))
  pub replies : (i k place size : ℕ) (m : Message) (next : ℕ) → st ≡ serve i k place size → Up c s i → nth s.sent k ≡ some m
      → m.kind ≡ request
      → m.server ≡ i
      → P []
      (made (wrote next)
      (after_server s i (sends c (served (s.servers i) m) (reply_to m i (served (s.servers i) m)) place)))
  -- desks
  pub begins : (d : ℕ) (t : Task) (note : ℕ) → st ≡ begin d t note → Seated d → length (value_of t) ≤ most_value → Resting (s.desks d).activity
      → (s.desks d).round < most_round
      → P [] (made done (after_desk s d (accept done (begun (s.desks d) t note))))
  pub asks : (d i place size : ℕ) (o : Operation) (next : ℕ) → st ≡ ask d i place size → Seated d → (s.desks d).activity ≡ running o → i < c.n
      → P [] (made (wrote next) (after_desk s d (sends c (s.desks d) (request_of d (s.desks d) o i) place)))
  pub drops : (d : ℕ) (o : Operation) → st ≡ drop d → Seated d → (s.desks d).activity ≡ running o
      → P [] (made done (after_desk s d (accept done (dropped (s.desks d)))))
  -- a hear
  pub restarts : (d k : ℕ) (m : Message) (o : Operation) → Heard s st d k m o → knows (s.desks d) m ≡ false
      → (s.desks d).round < most_round
      → P [] (made done (after_desk s d (accept done (restarted (s.desks d) o m))))
  pub marks : (d k : ℕ) (m : Message) (o : Operation) → Heard s st d k m o → knows (s.desks d) m ≡ true
      → quorum_of c (join (s.desks d).replica m.replica).set (answered (m ∷ o.heard)) ≡ false
      → P [] (made done (after_desk s d (accept done (marked (s.desks d) o (join (s.desks d).replica m.replica) m))))
  pub chooses : (d k : ℕ) (m : Message) (o : Operation) → Heard s st d k m o → knows (s.desks d) m ≡ true
      → quorum_of c (join (s.desks d).replica m.replica).set (answered (m ∷ o.heard)) ≡ true
      → o.phase ≡ first
      → (s.desks d).round < most_round
      → no-stamp c o.task (join (s.desks d).replica m.replica).register ≡ false
      → P [] (made done (after_desk s d (accept done (moved_on d (s.desks d) o (join (s.desks d).replica m.replica)))))
  pub ends : (d k : ℕ) (m : Message) (o : Operation) (g : Register) → Heard s st d k m o
      → knows (s.desks d) m ≡ true
      → quorum_of c (join (s.desks d).replica m.replica).set (answered (m ∷ o.heard)) ≡ true
      → o.phase ≡ second g
      → P [] (made done (after_desk s d (accept done (finished (s.desks d) o (join (s.desks d).replica m.replica) g))))

module _ (c : Config) (s : PlainState) where
  pub on-desk : (P : PlainMade → Type 0) (d : ℕ) (call : Desk → Outcome Message Desk) → P (nothing s)
      → (Seated d → P (made (call (s.desks d)).answer (after_desk s d (call (s.desks d)))))
      → P (on_desk s d call)
  unfolding on_desk
  on-desk P d call no_call called =
      branch P (leb 1 d) _ _
      (λ e. branch P (leb d most_desk) _ _ (λ f. called (record { some = leb-true 1 d e; most = leb-true d most_desk f })) (λ f. no_call))
      (λ e. no_call)

  on-server : (P : PlainMade → Type 0) (i : ℕ) (call : Replica → Outcome Message Replica) → P (nothing s)
      → (Up c s i → P (made (call (s.servers i)).answer (after_server s i (call (s.servers i)))))
      → P (on_server c s i call)
  unfolding on_server
  on-server P i call no_call called =
      branch P (ltb i c.n) _ _
      (λ e.
      branch P (s.crashed i) _ _ (λ f. no_call) (λ f. called (record { below = ltb-true i c.n e; runs = f })))
      (λ e. no_call)

  module _ (P : History → PlainMade → Type 0) where
    abbrev Desks : ℕ → Outcome Message Desk → Type 0
    Desks d o = P [] (made o.answer (after_desk s d o))

    abbrev Servers : ℕ → Outcome Message Replica → Type 0
    Servers i o = P [] (made o.answer (after_server s i o))

    desk-refuses : (st : Step) → Moves c s st P → (d : ℕ) (a : Answer) → accepted a ≡ false → P [] (made a (after_desk s d (accept a (s.desks d))))
    desk-refuses st m d a e = subst (λ z. P [] (made a z)) (sym (desk-still s d a)) (m.still a e)

    server-refuses : (st : Step) → Moves c s st P → (i : ℕ) (a : Answer) → accepted a ≡ false → P [] (made a (after_server s i (accept a (s.servers i))))
    server-refuses st m i a e = subst (λ z. P [] (made a z)) (sym (server-still s i a)) (m.still a e)

    crash-moved : (i : ℕ) → Moves c s (crash i) P → P [] (on_crash c s i)
    unfolding on_crash
    crash-moved i m = branch (P []) (ltb i c.n) _ _ (λ e. m.crashes i refl (ltb-true i c.n e)) (λ e. m.still unmade refl)

    pub moved : (st : Step) → Moves c s st P → P (gift_of c s st) (stepped c s st)
    unfolding take
    moved (begin d t note) m =
        on-desk (P []) d _ (m.still unmade refl)
        (λ at. begin-cases (Desks d) c (s.desks d) t note (λ k. desk-refuses _ m d (refused k) refl) (m.begins d t note refl at))
    moved (ask d i place size) m =
        on-desk (P []) d _ (m.still unmade refl)
        (λ at. ask-cases (Desks d) c d (s.desks d) i place size (λ k. desk-refuses _ m d (refused k) refl) (λ o. m.asks d i place size o _ refl at))
    moved (serve i k place size) m =
        when-cases (P []) (nth s.sent k) _ _ (m.still unmade refl)
        (λ x e.
        on-server (P []) i _ (m.still unmade refl)
        (λ up.
        serve-cases (Servers i) c i (s.servers i) x place size (λ z. server-refuses _ m i (refused z) refl)
        (m.takes i k place size x _ refl up e)
        (m.replies i k place size x _ refl up e)))
    moved (hear d k) m =
        when-cases (P []) (nth s.sent k) _ _ (m.still unmade refl)
        (λ x e.
        on-desk (P []) d _ (m.still unmade refl)
        (λ at.
        let heard : (o : Operation) → Hearing d (s.desks d) x o → Heard s (hear d k) d k x o =
        λ o h. record { step = refl; seated = at; sent = e; hearing = h } in
        hear-cases (Desks d)
        (record {
          refuses = λ z. desk-refuses _ m d (refused z) refl;
          lags = desk-refuses _ m d late refl;
          restarts = λ o h. m.restarts d k x o (heard o h);
          marks = λ o h. m.marks d k x o (heard o h);
          chooses = λ o h. m.chooses d k x o (heard o h);
          ends = λ o g h. m.ends d k x o g (heard o h);
        })))
    moved (result d) m =
        on-desk (P []) d _ (m.still unmade refl)
        (λ at.
        result-cases (Desks d) (s.desks d) (λ k. desk-refuses _ m d (refused k) refl)
        (λ y e. subst (λ z. P [] (made (told y) z)) (sym (desk-still s d (told y))) (m.tells d y refl at e)))
    moved (drop d) m =
        on-desk (P []) d _ (m.still unmade refl)
        (λ at. drop-cases (Desks d) (s.desks d) (λ k. desk-refuses _ m d (refused k) refl) (λ o. m.drops d o refl at))
    moved (transfer i j e) m =
        on-server (λ z. P (gift_in (s.servers i) i j e z.answer) z) i _ (m.still unmade refl)
        (λ up.
        transfer-cases (λ o. P (gift_in (s.servers i) i j e o.answer) (made o.answer (after_server s i o))) c i (s.servers i) j e
        (λ k. server-refuses _ m i (refused k) refl)
        (m.gives i j e refl up))
    moved (share i place size) m =
        on-server (P []) i _ (m.still unmade refl)
        (λ up.
        share-cases (Servers i) c i (s.servers i) place size (λ k. server-refuses _ m i (refused k) refl) (m.shares i place size _ refl up))
    moved (crash i) m = crash-moved i m
