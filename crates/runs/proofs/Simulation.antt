-- The program does what the plain machine does, step by step: after every step its state stands for the machine's, and the answers are the same.
use Prim.Native.Nat.{ℕ, zero, suc, ◌<◌}
use native.Mathlib.Omega.{arith}
use mathlib.Core.Path.{◌≡◌, refl, sym, ap, ap₂, ◌∙◌, subst}
use mathlib.Core.Bool.{Bool, true, false, cond}
use mathlib.Core.List.{List, ◌++◌, map}
use mathlib.Core.Option.{Option, none, some}
use borrow.Author.Tests.{eqb-true, lt-ltb, ltb-true, le-leb, leb-true}
use lib.Dec.{eqb, leb, ltb}
use Rattle.config.specs.Cluster.{House, config_of, valid_of, lawful_of, server_of}
use Rattle.config.specs.Answers.{judged}
use Rattle.config.proofs.Clusters.{lawful-valid}
use Rattle.config.specs.declared.cluster.Config.{Config}
use Rattle.server.specs.declared.record.Server.{Server}
use Rattle.server.specs.Servers.{open_of as open_server}
use Rattle.desk.specs.declared.record.Desk.{Desk}
use Rattle.desk.specs.Operations.{no_operation}
use Rattle.desk.specs.Desks.{number_lawful, opens, open_of as open_desk, blank_desk, accepted, refused, fresh_desk as fresh_record}
use Rattle.machine.specs.Parties.{Replica, Message, bytes_of, Desk as PlainDesk, fresh_desk}
use Rattle.machine.specs.Runs.{done, Outcome, put, nth, when, Made, nothing, on_server, most_desk, on_desk, on_crash, after_server, after_desk, after_crash, take, opened, step, step_from, at, answer_at}
use Rattle.machine.specs.Steps.{PlainRun}
use Rattle.machine.specs.Sheets.{by-desk, by-message}
use Rattle.machine.proofs.Lists.{nth_in}
use Rattle.machine.proofs.Moves.{PlainState, PlainMade, Seated}
use Rattle.machine.proofs.Clashes.{found-includes, server-joins, desk-joins, own-count, reply-count}
use Rattle.runs.specs.Steps.{Step, begin, ask, serve, hear, hear-lent, result, drop, transfer, share, crash, plain, Typed}
use Rattle.runs.specs.Calls.{Called}
use Rattle.runs.specs.Runs.{ProgramRun, run_of}
use Rattle.runs.specs.Clauses.{plain_run}
use Rattle.runs.proofs.Records.{server_for, desk_for, called_for, ProgramState, Stands}
use Rattle.runs.proofs.Steps.{nth-map, map-append}
use Rattle.runs.proofs.Supplied.{server-held, desk-range, desk-held, message-head, message-held}
use Rattle.runs.proofs.Ledgers.{fresh-for}
use Rattle.runs.proofs.Registers.{start-for}
use Rattle.runs.proofs.Servers.{transfer-for, share-for, serve-for}
use Rattle.runs.proofs.Desks.{begin-for, ask-for, result-for, drop-for}
use Rattle.runs.proofs.Hearing.{Hearable, hear-for, lent_same}

-- what a step of the program gives
abbrev ProgramMade : Type 0
ProgramMade = Made Server Desk (List ℕ)

-- what a step gives is the same: the answer, and a state that stands for the machine's
pub record Same (c : Config) (m : PlainMade) (p : ProgramMade) : Type 0 where
  pub answer : p.answer ≡ m.answer
  pub state : Stands c m.state p.state

-- ---- one step, from states of which the one stands for the other

module _ (c : Config) (s : PlainState) (t : ProgramState) (st : Stands c s t) where
  nothing-same : Same c (nothing s) (nothing t)
  nothing-same = record { answer = refl; state = st }

  -- what is sent is sent by both
  sent-same : (l : List Message) → t.sent ++ map (bytes_of c) l ≡ map (bytes_of c) (s.sent ++ l)
  sent-same l = ap (λ z. z ++ map (bytes_of c) l) st.sent ∙ sym (map-append (bytes_of c) s.sent l)

  -- server i has been called
  after-server : (i : ℕ) (o : Outcome Message Replica) → Stands c (after_server s i o) (after_server t i (called_for c (server_for c i) o))
  after-server i o =
      record {
        servers = λ j l. server j l (eqb j i) refl;
        crashed = st.crashed;
        desks = st.desks;
        others = st.others;
        sent = sent-same o.sent;
      }
    where
      server : (j : ℕ) → j < c.n → (b : Bool) → eqb j i ≡ b
          → cond b (server_for c i o.party) (t.servers j) ≡ server_for c j (cond b o.party (s.servers j))
      server j l true e = ap (λ z. server_for c z o.party) (sym (eqb-true j i e))
      server j l false e = st.servers j l

  -- a call of server i that does what the machine's does
  server-same : (i : ℕ) (f : Replica → Outcome Message Replica) (g : Server → Called Server)
      → (i < c.n → g (server_for c i (s.servers i)) ≡ called_for c (server_for c i) (f (s.servers i)))
      → Same c (on_server c s i f) (on_server c t i g)
  unfolding on_server
  server-same i f g e =
      subst (λ z. Same c (on_server c s i f) (cond (ltb i c.n) (cond (z i) (nothing t) (made (g (t.servers i)))) (nothing t)))
      (sym st.crashed)
      (by_tests (ltb i c.n) (s.crashed i) refl)
    where
      made : Called Server → ProgramMade
      made o = record { answer = o.answer; state = after_server t i o }

      plain-made : Outcome Message Replica → PlainMade
      plain-made o = record { answer = o.answer; state = after_server s i o }

      by_tests : (b k : Bool) → ltb i c.n ≡ b
          → Same c (cond b (cond k (nothing s) (plain-made (f (s.servers i)))) (nothing s))
          (cond b (cond k (nothing t) (made (g (t.servers i)))) (nothing t))
      by_tests true true l = nothing-same
      by_tests true false l =
          subst (λ z. Same c (plain-made (f (s.servers i))) (made z))
          (sym (ap g (st.servers i (ltb-true i c.n l)) ∙ e (ltb-true i c.n l)))
          (record { answer = refl; state = after-server i (f (s.servers i)) })
      by_tests false k l = nothing-same

  -- desk d has been called
  after-desk : (d : ℕ) → Seated d → (o : Outcome Message PlainDesk) → Stands c (after_desk s d o) (after_desk t d (called_for c (desk_for c d) o))
  after-desk d seated o =
      record {
        servers = st.servers;
        crashed = st.crashed;
        desks = λ e l. desk e l (eqb e d) refl;
        others = λ e l. other e l (eqb e d) refl;
        sent = sent-same o.sent;
      }
    where
      other : (e : ℕ) → (Seated e → ⊥) → (b : Bool) → eqb e d ≡ b
          → (cond b (desk_for c d o.party) (t.desks e) ≡ blank_desk) × (cond b o.party (s.desks e) ≡ fresh_desk)
      other e l true q = absurd (l (subst Seated (sym (eqb-true e d q)) seated))
      other e l false q = st.others e l

      desk : (e : ℕ) → Seated e → (b : Bool) → eqb e d ≡ b → cond b (desk_for c d o.party) (t.desks e) ≡ desk_for c e (cond b o.party (s.desks e))
      desk e l true q = ap (λ z. desk_for c z o.party) (sym (eqb-true e d q))
      desk e l false q = st.desks e l

  -- a call of desk d that does what the machine's does
  desk-same : (d : ℕ) (f : PlainDesk → Outcome Message PlainDesk) (g : Desk → Called Desk)
      → (Seated d → g (desk_for c d (s.desks d)) ≡ called_for c (desk_for c d) (f (s.desks d)))
      → Same c (on_desk s d f) (on_desk t d g)
  unfolding on_desk
  desk-same d f g e = by_tests (leb 1 d) (leb d most_desk) refl refl
    where
      made : Called Desk → ProgramMade
      made o = record { answer = o.answer; state = after_desk t d o }

      plain-made : Outcome Message PlainDesk → PlainMade
      plain-made o = record { answer = o.answer; state = after_desk s d o }

      by_tests : (a b : Bool) → leb 1 d ≡ a → leb d most_desk ≡ b
          → Same c (cond a (cond b (plain-made (f (s.desks d))) (nothing s)) (nothing s))
          (cond a (cond b (made (g (t.desks d))) (nothing t)) (nothing t))
      by_tests true true l m =
          let seated : Seated d = record { some = leb-true 1 d l; most = leb-true d most_desk m } in
          subst (λ z. Same c (plain-made (f (s.desks d))) (made z))
          (sym (ap g (st.desks d seated) ∙ e seated))
          (record { answer = refl; state = after-desk d seated (f (s.desks d)) })
      by_tests true false l m = nothing-same
      by_tests false b l m = nothing-same

  -- the mark of a crash
  crash-same : (i : ℕ) → Same c (on_crash c s i) (on_crash c t i)
  unfolding on_crash
  crash-same i = by-test (ltb i c.n)
    where
      by-test : (b : Bool)
          → Same c (cond b (record { answer = done; state = after_crash s i }) (nothing s)) (cond b (record { answer = done; state = after_crash t i }) (nothing t))
      by-test true =
          record {
            answer = refl;
            state =
                record {
                  servers = st.servers;
                  crashed = ap (λ z. put z i true) st.crashed;
                  desks = st.desks;
                  others = st.others;
                  sent = st.sent;
                };
          }
      by-test false = nothing-same

  -- a step that takes message k of those sent
  message-same : (k : ℕ) (f : Message → PlainMade) (g : List ℕ → ProgramMade)
      → ((m : Message) → nth s.sent k ≡ some m → Same c (f m) (g (bytes_of c m)))
      → Same c (when (nth s.sent k) (nothing s) f) (when (nth t.sent k) (nothing t) g)
  message-same k f g e =
      subst (λ z. Same c (when (nth s.sent k) (nothing s) f) (when z (nothing t) g))
      (sym (ap (λ l. nth l k) st.sent ∙ nth-map (bytes_of c) s.sent k))
      (by_place (nth s.sent k) refl)
    where
      by_place : (o : Option Message) → nth s.sent k ≡ o
          → Same c (when o (nothing s) f) (when (when o none (λ m. some (bytes_of c m))) (nothing t) g)
      by_place none q = nothing-same
      by_place (some m) q = e m q

-- ---- every step of every run

module _ (house : House) (lawful : lawful_of (config_of house) ≡ true) (steps : List Step) (typed : Typed steps) where
  abbrev c : Config
  c = config_of house

  abbrev p : ProgramRun
  p = run_of house steps

  abbrev r : PlainRun
  r = plain_run p

  -- what is known of a message that was sent, at each desk
  module _ (k q : ℕ) (m : Message) (sent : nth (at r k).sent q ≡ some m) where
    hearable : (d : ℕ) → Hearable c d ((at r k).desks d) m
    hearable d =
        record {
          head = message-head house lawful steps typed k q m sent;
          held = message-held house lawful steps typed k q m sent;
          joins = desk-joins house lawful (map plain steps) k q m sent d;
          current = λ kind desk round. reply-count house lawful (map plain steps) d k m (nth_in (at r k).sent q m sent) kind desk round;
          known = found-includes house lawful (map plain steps) k k _ _ (by-desk d refl) (by-message q m sent refl);
        }

  -- one step of the run
  pub step_same : (k : ℕ) (t : ProgramState) → Stands c (at r k) t → (st : Step) → Same c (step r (at r k) (plain st)) (step p t st)
  unfolding take
  step_same k t h (begin d u note) =
      desk-same c (at r k) t h d _ _ (λ l. begin-for c lawful _ d l _ (desk-range house lawful steps typed k d) (desk-held house lawful steps typed k d) u note)
  step_same k t h (ask d i place out) =
      desk-same c (at r k) t h d _ _ (λ l. ask-for c lawful _ d l _ (desk-range house lawful steps typed k d) (desk-held house lawful steps typed k d) i place out)
  step_same k t h (serve i q place out) =
      message-same c (at r k) t h q _ _
      (λ m sent.
      server-same c (at r k) t h i _ _
      (λ l.
      serve-for c lawful i l _ (server-held house lawful steps typed k i) m (message-head house lawful steps typed k q m sent) (message-held house lawful steps typed k q m sent)
      (server-joins house lawful (map plain steps) k q m sent i)
      (own-count house lawful (map plain steps) k k _ (omega arith) (by-message q m sent refl) i) place out))
  step_same k t h (hear d q) =
      message-same c (at r k) t h q _ _
      (λ m sent.
      desk-same c (at r k) t h d _ _ (λ l. hear-for c lawful _ d l _ (desk-range house lawful steps typed k d) (desk-held house lawful steps typed k d) m (hearable k q m sent d)))
  step_same k t h (hear-lent d q) =
      message-same c (at r k) t h q _ _
      (λ m sent.
      desk-same c (at r k) t h d _ _
      (λ l. lent_same _ _ ∙ hear-for c lawful _ d l _ (desk-range house lawful steps typed k d) (desk-held house lawful steps typed k d) m (hearable k q m sent d)))
  step_same k t h (result d) = desk-same c (at r k) t h d _ _ (λ l. result-for c lawful _ d l _ (desk-range house lawful steps typed k d) (desk-held house lawful steps typed k d))
  step_same k t h (drop d) = desk-same c (at r k) t h d _ _ (λ l. drop-for c lawful _ d l _ (desk-range house lawful steps typed k d) (desk-held house lawful steps typed k d))
  step_same k t h (transfer i j amount) =
      server-same c (at r k) t h i _ _ (λ l. transfer-for c lawful i l _ (server-held house lawful steps typed k i) j amount)
  step_same k t h (share i place out) = server-same c (at r k) t h i _ _ (λ l. share-for c lawful i l _ (server-held house lawful steps typed k i) place out)
  step_same k t h (crash i) = crash-same c (at r k) t h i

  -- the step at place k, or none past the end of the list
  place_same : (k : ℕ) (t : ProgramState) → Stands c (at r k) t → Same c (step_from r (at r k) k) (step_from p t k)
  place_same k t h = rw (nth-map plain steps k) (by_place (nth steps k))
    where
      by_place : (o : Option Step)
          → Same c (when (when o none (λ st. some (plain st))) (nothing (at r k)) (step r (at r k))) (when o (nothing t) (step p t))
      by_place none = nothing-same c (at r k) t h
      by_place (some st) = step_same k t h st

  -- there is no other desk than those
  none-opened : (d : ℕ) → (Seated d → ⊥) → (open_desk house d).desk ≡ blank_desk
  unfolding open_desk opens number_lawful
  none-opened d other = by_tests (leb 1 d) (leb d 65535) (λ a b. other (record { some = leb-true 1 d a; most = leb-true d 65535 b }))
    where
      by_tests : (a b : Bool) → (a ≡ true → b ≡ true → ⊥)
          → (judged (cond (cond a b false) (valid_of c) false) c (accepted (fresh_record c d)) (λ k. refused k blank_desk)).desk ≡ blank_desk
      by_tests true true n = absurd (n refl refl)
      by_tests true false n = refl
      by_tests false b n = refl

  -- fresh records stand for what the machine starts with
  opened-stands : Stands c (opened r) (opened p)
  unfolding open_server open_desk opens server_of number_lawful
  opened-stands =
      record {
        servers =
            λ i l.
            rw (lawful-valid c lawful, lt-ltb i c.n l, lawful)
            (ap₂ {C = Server} (λ a g. record { config = c; number = i; replica = record { ledger = a; register = g } }) (sym fresh-for) (sym start-for));
        crashed = refl;
        desks =
            λ d l.
            rw (lawful-valid c lawful, le-leb 1 d l.some, le-leb d 65535 l.most, lawful)
            (ap₂ {C = Desk}
            (λ a g. record { config = c; number = d; replica = record { ledger = a; register = g }; round = 0; operation = no_operation })
            (sym fresh-for) (sym start-for));
        others = λ d l. (none-opened d l, refl);
        sent = refl;
      }

  pub stands_at : (k : ℕ) → Stands c (at r k) (at p k)
  unfolding at
  stands_at zero = opened-stands
  stands_at (suc k) = (place_same k (at p k) (stands_at k)).state

  pub answer_at_lem : (k : ℕ) → answer_at p k ≡ answer_at r k
  unfolding answer_at
  answer_at_lem k = (place_same k (at p k) (stands_at k)).answer
