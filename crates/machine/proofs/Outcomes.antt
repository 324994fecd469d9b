-- What each call of the machine can come to, with the tests that it passed: to show something of a call's outcome it is enough to show it of these.
use Prim.Native.Nat.{ℕ, ◌+◌, ◌≤◌, ◌<◌}
use native.Mathlib.Omega.{arith}
use mathlib.Core.Path.{◌≡◌}
use mathlib.Core.Logic.{⊎_elim}
use mathlib.Core.Bool.{true, false}
use mathlib.Core.List.{[], ◌∷◌}
use borrow.Author.Tests.{ltb-true, ltb-false, leb-false, eqb-true, eqb-false}
use lib.Dec.{eqb, leb, ltb}
use lib.ListN.{length}
use Rattle.quorums.proofs.Tests.{le-or-lt}
use Rattle.config.specs.declared.cluster.Config.{Config}
use Rattle.machine.specs.Sets.{count, quorum_of}
use Rattle.machine.specs.Parties.{Register, Replica, join, request, reply, share, Message, bytes_of, Task, value_of, first, second, Operation, Result, running, ended, Desk, answered}
use Rattle.machine.specs.Runs.{late, done, wrote, told, Outcome}
use Rattle.machine.specs.Calls.{most_count, most_round, most_value, accept, refuse, send, given-away, transfer_by, share_by, reply_to, answer_request, serve_by, begun, begin_by, request_of, ask_by, restarted, restart, no-stamp, moved_on, choose, finished, marked, mark, hear_by, result_by, dropped, drop_by, knows, served, spares}
use Rattle.machine.proofs.Branches.{branch, kind-cases, phase-cases, Resting, running-cases, ended-cases}

-- the outcome of a message written from a place on, after which the party is x
abbrev pub sends : {A : Type 0} → Config → A → Message → ℕ → Outcome Message A
sends c x m place = record { answer = wrote (place + length (bytes_of c m)); party = x; sent = m ∷ [] }

pub send-cases : {A : Type 0} (P : Outcome Message A → Type 0) (c : Config) (old new : A) (m : Message) (place size : ℕ) → P (refuse 13 old)
    → P (sends c new m place)
    → P (send c old new m place size)
unfolding send
send-cases P c old new m place size p q = branch P (leb (place + length (bytes_of c m)) size) _ _ (λ e. q) (λ e. p)

-- ---- servers

-- the tests that an accepted transfer passed
pub record Giving (c : Config) (i : ℕ) (r : Replica) (j e : ℕ) : Type 0 where
  pub other : j ≡ i → ⊥
  pub taker : j < c.n
  pub amount : 1 ≤ e
  pub room : count r.set i < most_count
  pub floor : spares c r i e ≡ true

pub transfer-cases : (P : Outcome Message Replica → Type 0) (c : Config) (i : ℕ) (r : Replica) (j e : ℕ) → ((k : ℕ) → P (refuse k r))
    → (Giving c i r j e → P (accept done (given-away r i j e)))
    → P (transfer_by c i r j e)
unfolding transfer_by
transfer-cases P c i r j e no_way gives =
    branch P (eqb j i) _ _ (λ a. no_way 11)
    (λ a.
    branch P (leb c.n j) _ _ (λ b. no_way 11)
    (λ b.
    branch P (eqb e 0) _ _ (λ z. no_way 11)
    (λ z.
    branch P (leb most_count (count r.set i)) _ _ (λ m. no_way 12)
    (λ m.
    branch P (spares c r i e) _ _
    (λ f.
    gives
    (record {
      other = eqb-false j i a;
      taker = leb-false c.n j b;
      amount = positive e (eqb-false e 0 z);
      room = leb-false most_count (count r.set i) m;
      floor = f;
    }))
    (λ f. no_way 10)))))
  where
    positive : (x : ℕ) → (x ≡ 0 → ⊥) → 1 ≤ x
    positive x f = ⊎_elim (λ (h : 1 ≤ x). h) (λ (h : x < 1). absurd (f (omega arith))) (le-or-lt 1 x)

abbrev pub share_of : ℕ → Replica → Message
share_of i r = record { kind = share; server = i; desk = 0; round = 0; note = 0; replica = r }

pub share-cases : (P : Outcome Message Replica → Type 0) (c : Config) (i : ℕ) (r : Replica) (place size : ℕ) → ((k : ℕ) → P (refuse k r))
    → P (sends c r (share_of i r) place)
    → P (share_by c i r place size)
unfolding share_by
share-cases P c i r place size no_way shares = send-cases P c r r (share_of i r) place size (no_way 13) shares

pub serve-cases : (P : Outcome Message Replica → Type 0) (c : Config) (i : ℕ) (r : Replica) (m : Message) (place size : ℕ) → ((k : ℕ) → P (refuse k r))
    → (m.kind ≡ share → P (accept (wrote place) (served r m)))
    → (m.kind ≡ request → m.server ≡ i → P (sends c (served r m) (reply_to m i (served r m)) place))
    → P (serve_by c i r m place size)
unfolding serve_by answer_request
serve-cases P c i r m place size no_way takes replies =
    kind-cases P m.kind _ _ _
    (λ k.
    branch P (eqb m.server i) _ _
    (λ e.
    send-cases P c r (served r m) (reply_to m i (served r m)) place size (no_way 13) (replies k (eqb-true m.server i e)))
    (λ e. no_way 7))
    (λ k. no_way 7)
    takes

-- ---- desks

pub begin-cases : (P : Outcome Message Desk → Type 0) (c : Config) (x : Desk) (t : Task) (note : ℕ) → ((k : ℕ) → P (refuse k x))
    → (length (value_of t) ≤ most_value → Resting x.activity → x.round < most_round → P (accept done (begun x t note)))
    → P (begin_by c x t note)
unfolding begin_by
begin-cases P c x t note no_way begins =
    branch P (ltb most_value (length (value_of t))) _ _ (λ l. no_way 14)
    (λ l.
    running-cases P x.activity _ _ (λ o e. no_way 8)
    (λ rests.
    branch P (leb most_round x.round) _ _ (λ m. no_way 12)
    (λ m. begins (ltb-false most_value (length (value_of t)) l) rests (leb-false most_round x.round m))))

pub ask-cases : (P : Outcome Message Desk → Type 0) (c : Config) (d : ℕ) (x : Desk) (i place size : ℕ) → ((k : ℕ) → P (refuse k x))
    → ((o : Operation) → x.activity ≡ running o → i < c.n → P (sends c x (request_of d x o i) place))
    → P (ask_by c d x i place size)
unfolding ask_by
ask-cases P c d x i place size no_way asks =
    running-cases P x.activity _ _
    (λ o e.
    branch P (ltb i c.n) _ _
    (λ l. send-cases P c x x (request_of d x o i) place size (no_way 13) (asks o e (ltb-true i c.n l)))
    (λ l. no_way 1))
    (λ rests. no_way 9)

-- a reply that is neither stray nor late, at a desk that is x
pub record Hearing (d : ℕ) (x : Desk) (m : Message) (o : Operation) : Type 0 where
  pub kind : m.kind ≡ reply
  pub desk : m.desk ≡ d
  pub round : m.round ≡ x.round
  pub runs : x.activity ≡ running o

-- the ways in which a hear can go: nothing changes, or the operation restarts, is marked, goes on to phase 2, or ends
pub record HearCases (c : Config) (d : ℕ) (x : Desk) (m : Message) (P : Outcome Message Desk → Type 0) : Type 0 where
  pub refuses : (k : ℕ) → P (refuse k x)
  pub lags : P (accept late x)
  pub restarts : (o : Operation) → Hearing d x m o → knows x m ≡ false → x.round < most_round
      → P (accept done (restarted x o m))
  pub marks : (o : Operation) → Hearing d x m o → knows x m ≡ true
      → quorum_of c (join x.replica m.replica).set (answered (m ∷ o.heard)) ≡ false
      → P (accept done (marked x o (join x.replica m.replica) m))
  pub chooses : (o : Operation) → Hearing d x m o → knows x m ≡ true
      → quorum_of c (join x.replica m.replica).set (answered (m ∷ o.heard)) ≡ true
      → o.phase ≡ first
      → x.round < most_round
      → no-stamp c o.task (join x.replica m.replica).register ≡ false
      → P (accept done (moved_on d x o (join x.replica m.replica)))
  pub ends : (o : Operation) (g : Register) → Hearing d x m o → knows x m ≡ true
      → quorum_of c (join x.replica m.replica).set (answered (m ∷ o.heard)) ≡ true
      → o.phase ≡ second g
      → P (accept done (finished x o (join x.replica m.replica) g))

module _ {c : Config} {d : ℕ} {x : Desk} {m : Message} (P : Outcome Message Desk → Type 0) (h : HearCases c d x m P) where
  restart-outcome : (o : Operation) → Hearing d x m o → knows x m ≡ false → P (restart x o m)
  unfolding restart
  restart-outcome o e i =
      branch P (leb most_round x.round) _ _ (λ l. h.refuses 12) (λ l. h.restarts o e i (leb-false most_round x.round l))

  choose-outcome : (o : Operation) → Hearing d x m o → knows x m ≡ true
      → quorum_of c (join x.replica m.replica).set (answered (m ∷ o.heard)) ≡ true
      → o.phase ≡ first
      → P (choose c d x o (join x.replica m.replica))
  unfolding choose
  choose-outcome o e i q f =
      branch P (leb most_round x.round) _ _ (λ l. h.refuses 12)
      (λ l.
      branch P (no-stamp c o.task (join x.replica m.replica).register) _ _ (λ s. h.refuses 12)
      (λ s. h.chooses o e i q f (leb-false most_round x.round l) s))

  mark-outcome : (o : Operation) → Hearing d x m o → knows x m ≡ true → P (mark c d x o m)
  unfolding mark
  mark-outcome o e i =
      branch P (quorum_of c (join x.replica m.replica).set (answered (m ∷ o.heard))) _ _
      (λ q. phase-cases P o.phase _ _ (λ f. choose-outcome o e i q f) (λ g f. h.ends o g e i q f))
      (λ q. h.marks o e i q)

  pub hear-cases : P (hear_by c d x m)
  unfolding hear_by
  hear-cases =
      kind-cases P m.kind _ _ _ (λ k. h.refuses 7)
      (λ k.
      branch P (eqb m.desk d) _ _
      (λ e.
      running-cases P x.activity _ _
      (λ o a.
      branch P (eqb m.round x.round) _ _
      (λ b.
      let hearing : Hearing d x m o = record { kind = k; desk = eqb-true m.desk d e; round = eqb-true m.round x.round b; runs = a } in
      branch P (knows x m) _ _ (mark-outcome o hearing) (restart-outcome o hearing))
      (λ b. h.lags))
      (λ rests. h.lags))
      (λ e. h.refuses 7))
      (λ k. h.refuses 7)

pub result-cases : (P : Outcome Message Desk → Type 0) (x : Desk) → ((k : ℕ) → P (refuse k x))
    → ((y : Result) → x.activity ≡ ended y → P (accept (told y) x))
    → P (result_by x)
unfolding result_by
result-cases P x no_way tells = ended-cases P x.activity _ _ tells (no_way 9)

pub drop-cases : (P : Outcome Message Desk → Type 0) (x : Desk) → ((k : ℕ) → P (refuse k x))
    → ((o : Operation) → x.activity ≡ running o → P (accept done (dropped x)))
    → P (drop_by x)
unfolding drop_by
drop-cases P x no_way drops = running-cases P x.activity _ _ drops (λ rests. no_way 9)
