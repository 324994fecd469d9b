-- What demand 3 says of every run, written out: taken from its fields alone.
use Prim.Native.Nat.{ℕ, suc, ◌*◌, ◌-◌, ◌≤◌, ◌<◌}
use native.Mathlib.Omega.{arith}
use mathlib.Core.Path.{◌≡◌, refl, sym, ap, ◌∙◌, subst}
use mathlib.Core.Logic.{inl, inr}
use mathlib.Core.Bool.{Bool, true, false, true≢false}
use mathlib.Core.List.{List, map}
use mathlib.Core.Option.{some}
use lib.IntN.{pos}
use lib.ListN.{get_or, replicate, get_or-replicate}
use Rattle.quorums.specs.Sum.{sum, size}
use Rattle.quorums.specs.Accounts.{weight_in}
use Rattle.quorums.proofs.Sums.{sum_same, sum-const}
use Rattle.config.specs.Cluster.{House, config_of, house_fault, level, total_of, above_of}
use Rattle.config.specs.declared.cluster.Config.{Config}
use Rattle.config.specs.Refusals.{granted}
use Rattle.config.proofs.Houses.{house-told}
use Rattle.ledger.specs.declared.ledger.Ledger.{Ledger}
use Rattle.ledger.specs.Ledgers.{count_of}
use Rattle.ledger.specs.Maps.{named}
use Rattle.ledger.specs.Weights.{weight_of, all_of, quorum_of}
use Rattle.message.specs.Answers.{receive_of}
use Rattle.machine.specs.Sets.{Transfers, accounts, weight_of as plain_weight, quorum_of as plain_quorum}
use Rattle.machine.specs.Parties.{Register, below, Message, Task, read, write, Result}
use Rattle.machine.specs.Runs.{nth, done, told, step, at, answer_at, desk_at}
use Rattle.machine.specs.Steps.{begin, hear, result as plain-result, PlainRun}
use Rattle.machine.specs.Views.{View, Current, Ends, Chose, SameTag, Source, Order, Values, Results, Tags, Restarts}
use Rattle.machine.specs.Sheets.{by-server as plain-server, by-desk as plain-desk, by-message as plain-message, Sound as PlainSound}
use Rattle.machine.specs.Linear.{Linear, ByTag}
use Rattle.machine.proofs.Tags.{lower-below, same_left}
use Rattle.machine.proofs.Linear.{linear}
use Rattle.runs.specs.Steps.{Step, result, plain, Typed}
use Rattle.runs.specs.Runs.{ProgramRun, run_of}
use Rattle.runs.specs.Seen.{chosen_in, ledger_in, view_of}
use Rattle.runs.specs.Clauses.{plain_run, plain_view, by-server, by-desk, by-message, Sound, Demand3}
use Rattle.runs.proofs.Demand3.{demand3}

-- ---- written out

-- Desk d began the task t at place i, by an accepted begin, and no other operation before place k.
pub record Began (p : ProgramRun) (d i : ℕ) (t : Task) (k : ℕ) : Type 0 where
  pub note : ℕ
  pub step : nth (map plain p.steps) i ≡ some (begin d t note)
  pub taken : answer_at p i ≡ done
  pub earlier : i < k
  pub last : (q : ℕ) (u : Task) (m : ℕ) → i < q → q < k → nth (map plain p.steps) q ≡ some (begin d u m) → answer_at p q ≡ done → ⊥

-- Step k is a hear of desk d before which a result call would tell nothing and after which it would tell x, of that operation.
pub record Finished (p : ProgramRun) (d i : ℕ) (t : Task) (k : ℕ) (x : Result) : Type 0 where
  pub began : Began p d i t k
  pub message : ℕ
  pub hears : nth (map plain p.steps) k ≡ some (hear d message)
  pub before : (y : Result) → (step p (at p k) (result d)).answer ≡ told y → ⊥
  pub after : (step p (at p (suc k)) (result d)).answer ≡ told x

-- At some place desk d is in phase 2 of it, with the register g.
pub record Chosen (p : ProgramRun) (d i : ℕ) (t : Task) (g : Register) : Type 0 where
  pub place : ℕ
  pub began : Began p d i t place
  pub phase-two : chosen_in (desk_at p d place).operation ≡ some g

-- A write of the list, with a tag no lower than that of the register g, was given exactly the bytes of the register h, and h has its tag.
pub record FromWrite (p : ProgramRun) (g h : Register) : Type 0 where
  pub desk : ℕ
  pub begun : ℕ
  pub register : Register
  pub chosen : Chosen p desk begun (write h.value) register
  pub tag : SameTag register h
  pub no_lower : below register g ≡ false

-- The result x that step q tells is that of its desk's last operation, which ended at an earlier place, and reports no more restarts than the desk's
-- ledger had transfers then.
pub record ToldAfter (p : ProgramRun) (q : ℕ) (x : Result) : Type 0 where
  pub desk : ℕ
  pub begun : ℕ
  pub task : Task
  pub place : ℕ
  pub asked : nth (map plain p.steps) q ≡ some (plain-result desk)
  pub last : Began p desk begun task q
  pub ended : Finished p desk begun task place x
  pub earlier : place < q
  pub most : x.restarts ≤ sum 16 (count_of (desk_at p desk (suc place)).replica.ledger)

-- W, the sum of the start weights that the house was opened with
abbrev pub listed : House → ℕ
listed h = sum h.n (λ i. get_or h.starts i 0)

-- which is 1,000 for each server of a level house
pub level-listed : (n f : ℕ) → listed (level n f) ≡ n * 1000
level-listed n f = sum_same n (λ i. get_or (replicate n 1000) i 0) (λ i. 1000) (λ i l. get_or-replicate n i 1000 0 l) ∙ sum-const n 1000

-- On a ledger of the program the weights total W, each is above the floor, and a map of at least n − f servers is a quorum.
pub record Weighed (W : ℕ) (c : Config) (l : Ledger) : Type 0 where
  pub total : all_of c l ≡ pos W
  pub floor : (i : ℕ) → i < c.n → above_of c (weight_of c l i) ≡ true
  pub majority : (m : ℕ) → c.n - c.f ≤ size c.n (named m) → quorum_of c l m ≡ true

-- the same of a set of the machine
pub record SetWeighed (W : ℕ) (c : Config) (a : Transfers) : Type 0 where
  pub total : weight_in c.n (accounts c a) (λ i. true) ≡ pos W
  pub floor : (i : ℕ) → i < c.n → above_of c (plain_weight c a i) ≡ true
  pub majority : (q : ℕ → Bool) → c.n - c.f ≤ size c.n q → plain_quorum c a q ≡ true

-- ---- the same of what is seen: each way

module _ {p : ProgramRun} {d i : ℕ} {t : Task} where
  pub current : {k : ℕ} → Began p d i t k → Current (view_of p) d i t k
  current b =
      record {
        begun = record { note = b.note; step = b.step; taken = b.taken };
        earlier = b.earlier;
        last = λ q u l m w. b.last q u w.note l m w.step w.taken;
      }

  pub began : {k : ℕ} → Current (view_of p) d i t k → Began p d i t k
  began c =
      record {
        note = c.begun.note;
        step = c.begun.step;
        taken = c.begun.taken;
        earlier = c.earlier;
        last = λ q u m l k s e. c.last q u l k (record { note = m; step = s; taken = e });
      }

  pub ends : {k : ℕ} {x : Result} → Finished p d i t k x → Ends (view_of p) d i t k x
  ends f = record { current = current f.began; message = f.message; step = f.hears; before = f.before; after = f.after }

  pub finished : {k : ℕ} {x : Result} → Ends (view_of p) d i t k x → Finished p d i t k x
  finished e = record { began = began e.current; message = e.message; hears = e.step; before = e.before; after = e.after }

  pub chose : {g : Register} → Chosen p d i t g → Chose (view_of p) d i t g
  chose h = record { place = h.place; current = current h.began; phase-two = h.phase-two }

  pub chosen : {g : Register} → Chose (view_of p) d i t g → Chosen p d i t g
  chosen h = record { place = h.place; began = began h.current; phase-two = h.phase-two }

-- ---- of every run

module _ (house : House) (none : house_fault house ≡ 0) (steps : List Step) (typed : Typed steps) where
  abbrev c : Config
  c = config_of house

  abbrev p : ProgramRun
  p = run_of house steps

  abbrev r : PlainRun
  r = plain_run p

  d3 : Demand3 p
  d3 = demand3 house none steps typed

  -- ---- the clauses of what is seen of the program itself

  -- what holds of all that is seen of the machine's run holds of the program's
  pub own : (P : View → Type 0) → P (plain_view p) → P (view_of p)
  own P h = subst P (sym d3.seen) h

  pub own-order : Order (view_of p)
  own-order = own Order d3.order

  pub own-values : Values (view_of p)
  own-values = own Values d3.values

  pub own-results : Results (view_of p)
  own-results = own Results d3.results

  pub own-tags : Tags (view_of p)
  own-tags = own Tags d3.tags

  pub own-restarts : Restarts (view_of p)
  own-restarts = own Restarts d3.restarts

  -- Every run of the program is linearizable.
  pub linearizable : Linear (view_of p) (ByTag (view_of p))
  linearizable = linear (view_of p) own-order own-values own-results own-tags

  -- ---- reads

  -- Whoever reads after a write has ended finds it, or a later one.
  pub found-again : (d i k : ℕ) (w : List ℕ) (x : Result) (e j l : ℕ) (y : Result) → Finished p d i (write w) k x → k < j → Finished p e j read l y
      → FromWrite p x.register y.register
  found-again d i k w x e j l y f after h = by-source (own-values.returned e j l y (ends h))
    where
      wrote : Chose (view_of p) d i (write w) x.register
      wrote = own-results.chose d i k (write w) x (ends f)

      low : below y.register x.register ≡ false
      low =
          (own-order d i k (write w) x x.register (ends f) wrote e j read y.register after (own-results.chose e j l read y (ends h))).0

      -- a write's tag is above the start's
      above : y.register.stamp ≡ 0 → below y.register x.register ≡ true
      above z = lower-below y.register x.register (inl (omega (arith, (own-tags.own d i w x.register wrote).1)))

      by-source : Source (view_of p) y.register y.register.value → FromWrite p x.register y.register
      by-source (inl s) = absurd (true≢false (sym (above s.0) ∙ low))
      by-source (inr o) =
          record {
            desk = o.desk;
            begun = o.begun;
            register = o.register;
            chosen = chosen o.chose;
            tag = o.tag;
            no_lower = same_left o.register y.register x.register o.tag ∙ low;
          }

  -- ---- tags

  -- a write's tag has its desk's number and a stamp of at least 1, and its register the bytes given to its begin
  pub write-tag : (d i : ℕ) (w : List ℕ) (g : Register) → Chosen p d i (write w) g → (g.desk ≡ d) × (1 ≤ g.stamp) × (g.value ≡ w)
  write-tag d i w g h = own-tags.own d i w g (chose h)

  -- at whatever places an operation is in phase 2, its register is one
  pub chosen-once : (d i : ℕ) (t : Task) (g h : Register) → Chosen p d i t g → Chosen p d i t h → g ≡ h
  chosen-once d i t g h a b = own-tags.once d i t g h (chose a) (chose b)

  -- ---- restarts

  pub told-after : (q : ℕ) (x : Result) → answer_at p q ≡ told x → ToldAfter p q x
  told-after q x e =
      let s = own-restarts in
      let t = s.reported q x e in
      let made = s.made t.desk t.begun t.end t.task x t.ends in
      let most = s.gained t.desk t.begun t.end in
      let grown = s.growth t.desk t.begun t.end t.task x t.ends in
      record {
        desk = t.desk;
        begun = t.begun;
        task = t.task;
        place = t.end;
        asked = t.step;
        last = began t.current;
        ended = finished t.ends;
        earlier = t.earlier;
        most = omega (arith, made, most, grown);
      }

  -- ---- sheets

  abbrev W : ℕ
  W = listed house

  total-listed : total_of c ≡ W
  total-listed = (house-told house none).total

  weighed : (l : Ledger) → Sound c l → Weighed W c l
  weighed l s = record { total = s.weights ∙ ap pos total-listed; floor = s.floor; majority = s.majority }

  module _ (k : ℕ) where
    pub server-weighed : (i : ℕ) → i < c.n → Weighed W c ((at p k).servers i).replica.ledger
    server-weighed i l = weighed _ (d3.sheets.sound k _ (by-server i l refl))

    pub desk-weighed : (d : ℕ) → 1 ≤ d → d ≤ 65535 → Weighed W c ((at p k).desks d).replica.ledger
    desk-weighed d l m = weighed _ (d3.sheets.sound k _ (by-desk d l m refl))

    -- a message sent passes its checks, and its sheet is such a one
    pub message-weighed : (q : ℕ) (msg : List ℕ) → nth (at p k).sent q ≡ some msg
        → ((receive_of c msg).verdict ≡ granted) × Weighed W c (ledger_in c msg)
    message-weighed q msg e = (d3.sheets.readable k q msg e, weighed _ (d3.sheets.sound k _ (by-message q msg e refl)))

  -- and the machine's sets

  set-weighed : (a : Transfers) → PlainSound c a → SetWeighed W c a
  set-weighed a s = record { total = s.weights ∙ ap pos total-listed; floor = s.floor; majority = s.majority }

  module _ (k : ℕ) where
    pub server-set : (i : ℕ) → SetWeighed W c ((at r k).servers i).set
    server-set i = set-weighed _ (d3.sets k _ (plain-server i refl))

    pub desk-set : (d : ℕ) → SetWeighed W c ((at r k).desks d).replica.set
    desk-set d = set-weighed _ (d3.sets k _ (plain-desk d refl))

    pub message-set : (q : ℕ) (m : Message) → nth (at r k).sent q ≡ some m → SetWeighed W c m.replica.set
    message-set q m e = set-weighed _ (d3.sets k _ (plain-message q m e refl))
