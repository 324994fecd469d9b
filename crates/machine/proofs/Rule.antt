-- The published restricted pairwise rule (source document 000) in the machine. In every run a quorum is Definition 1's and RP-Integrity (Definition 5)
-- holds; a transfer is accepted exactly where line 12 of Algorithm 4 lets it through, and makes its two changes (RP-Validity-I); and only a server's
-- own transfers lower its weight, since all other calls only add transfers to its set, of which none is its own.
use Prim.Native.Nat.{ℕ, suc, ◌≤◌, ◌<◌}
use native.Mathlib.Omega.{arith}
use mathlib.Core.Path.{◌≡◌, refl, sym, ap, ◌∙◌, subst}
use mathlib.Core.Logic.{◌↔◌, ◌⊎◌, inl, inr, ⊎_elim}
use mathlib.Core.Bool.{Bool, true, false, cond, false≢true}
use mathlib.Core.List.{List}
use mathlib.Core.Option.{some}
use borrow.Author.Tests.{eq-eqb, ne_eqb, lt-leb}
use lib.IntN.{ℤ, pos, ◌+ℤ◌, ◌-ℤ◌}
use lib.Signed.{◌<ℤ◌, ◌≤ℤ◌, ≤ℤ_refl, clash_ℤ}
use Rattle.quorums.specs.Accounts.{weight, total}
use Rattle.quorums.specs.Published.{WeightedMajority, RpIntegrity, Line12}
use Rattle.quorums.proofs.Tests.{test-false, chosen-first}
use Rattle.quorums.proofs.Differences.{difference-le, difference-same, difference-more}
use Rattle.quorums.proofs.Rule.{quorum-published, floor-published, gift-published}
use Rattle.config.specs.Cluster.{House, config_of, lawful_of, start_of, total_of, above_of}
use Rattle.config.specs.declared.cluster.Config.{Config}
use Rattle.machine.specs.Sets.{Transfers, has, union, tally, count, given, received, accounts, weight_of, quorum_of}
use Rattle.machine.specs.Parties.{Replica, join, Message}
use Rattle.machine.specs.Runs.{config, refused, done, put, nth, when, nothing, at, answer_at}
use Rattle.machine.specs.Calls.{most_count, accept, refuse, given-away, transfer_by}
use Rattle.machine.specs.Steps.{machine, Step, transfer, run_of, PlainRun}
use Rattle.machine.specs.Seen.{accepted}
use Rattle.machine.specs.Sheets.{Found}
use Rattle.machine.proofs.Lists.{nth_in}
use Rattle.machine.proofs.Branches.{when-cases}
use Rattle.machine.proofs.Outcomes.{transfer-cases}
use Rattle.machine.proofs.Histories.{Once, ◌⊇◌}
use Rattle.machine.proofs.Sets.{union-either, union_left, once-union}
use Rattle.machine.proofs.Closed.{AllOf, received-part, given-part, closed-total}
use Rattle.machine.proofs.Moves.{PlainState, stepped, moved}
use Rattle.machine.proofs.Desks.{put-cases}
use Rattle.machine.proofs.Invariant.{own-whole}
use Rattle.machine.proofs.GiftsKept.{weight-next}
use Rattle.machine.proofs.Always.{invariant}
use Rattle.machine.proofs.Sheets.{found-closed, sheets}

-- ---- Definitions 1 and 5, of every set found in a run

module _ (house : House) (lawful : lawful_of (config_of house) ≡ true) (steps : List Step) (k : ℕ) (a : Transfers)
    (found : Found (run_of machine house steps) k a) where
  -- Definition 1: the machine's quorums are the weighted majorities
  pub quorum-majority : (q : ℕ → Bool) → (quorum_of (config_of house) a q ≡ true) ↔ WeightedMajority house.n (accounts (config_of house) a) q
  unfolding quorum_of
  quorum-majority q =
      quorum-published house.n (accounts (config_of house) a) q
      (closed-total (invariant house lawful steps k).lawful (found-closed house lawful steps k a found))

  -- Definition 5, RP-Integrity: every weight is above W / (2(n − f))
  pub integrity : RpIntegrity house.n house.f (accounts (config_of house) a)
  unfolding total total_of above_of weight_of
  integrity = (floor-published house.n house.f (accounts (config_of house) a)).0 (sheets house lawful steps k a found).floor

-- ---- Algorithm 4, line 12

-- a refusal is no "done"
refused-apart : (k : ℕ) → refused k ≡ done → ⊥
refused-apart k e = false≢true (ap accepted e)

-- server i, which holds r, is asked to give e to j, and neither 11 nor 12 refuses that
module _ (c : Config) (i : ℕ) (r : Replica) (j e : ℕ) (other : j ≡ i → ⊥) (taker : j < c.n) (amount : 1 ≤ e)
    (room : count r.set i < most_count) where
  -- then the floor's test decides
  answer-is : (transfer_by c i r j e).answer ≡ cond (above_of c (weight_of c r.set i -ℤ pos e)) done (refused 10)
  unfolding transfer_by
  answer-is =
      rw (ne_eqb j i other, lt-leb c.n j taker, ne_eqb e 0 (λ z. omega arith), lt-leb most_count (count r.set i) room)
      (by-test (above_of c (weight_of c r.set i -ℤ pos e)))
    where
      by-test : (b : Bool) → (cond b (accept done (given-away r i j e)) (refuse 10 r)).answer ≡ cond b done (refused 10)
      by-test true = refl
      by-test false = refl

  -- which is line 12
  floor-line : (above_of c (weight_of c r.set i -ℤ pos e) ≡ true) ↔ Line12 c.n c.f (total_of c) (weight_of c r.set i) e
  unfolding above_of weight_of
  floor-line = gift-published c.n c.f (total_of c) (accounts c r.set) i e

  pub acceptance : ((transfer_by c i r j e).answer ≡ done) ↔ Line12 c.n c.f (total_of c) (weight_of c r.set i) e
  acceptance = (
    λ d. floor-line.0 (chosen-first _ done (refused 10) done (refused-apart 10) (sym answer-is ∙ d)).0,
    λ l. answer-is ∙ ap (λ b. cond b done (refused 10)) (floor-line.1 l),
  )

  -- otherwise it is refused with 10
  pub refused-otherwise : (Line12 c.n c.f (total_of c) (weight_of c r.set i) e → ⊥) → (transfer_by c i r j e).answer ≡ refused 10
  refused-otherwise over = answer-is ∙ ap (λ b. cond b done (refused 10)) (test-false _ (λ t. over (floor-line.0 t)))

-- ---- Definition 5, RP-Validity-I

-- from the set a to the set b the giver i has e less, the taker j has e more, and every other weight is the same
pub record TwoChanges (c : Config) (a b : Transfers) (i j e : ℕ) : Type 0 where
  pub giver : weight_of c b i ≡ weight_of c a i -ℤ pos e
  pub taker : weight_of c b j ≡ weight_of c a j +ℤ pos e
  pub others : (k : ℕ) → (k ≡ i → ⊥) → (k ≡ j → ⊥) → weight_of c b k ≡ weight_of c a k

pub validity : (c : Config) (r : Replica) (i j e : ℕ) → (j ≡ i → ⊥) → TwoChanges c r.set (given-away r i j e).set i j e
unfolding weight_of weight received given tally
validity c r i j e other =
    record {
      giver = weight-next r.set i j e other (suc (count r.set i)) (start_of c);
      taker = rw (difference-more, eq-eqb j j refl, ne_eqb i j (λ q. other (sym q))) (difference-same _ _ _ _ (omega arith));
      others = λ k p q. rw (ne_eqb i k (λ z. p (sym z)), ne_eqb j k (λ z. q (sym z))) (difference-same _ _ _ _ (omega arith));
    }

-- so it is of every call: an accepted one makes these two changes, and any other none
pub accepted-changes : (c : Config) (i : ℕ) (r : Replica) (j e : ℕ) → (transfer_by c i r j e).answer ≡ done
    → TwoChanges c r.set (transfer_by c i r j e).party.set i j e
accepted-changes c i r j e =
    transfer-cases (λ o. o.answer ≡ done → TwoChanges c r.set o.party.set i j e) c i r j e (λ k d. absurd (refused-apart k d))
    (λ g d. validity c r i j e g.other)

pub refused-keeps : (c : Config) (i : ℕ) (r : Replica) (j e : ℕ) → ((transfer_by c i r j e).answer ≡ done → ⊥) → (transfer_by c i r j e).party ≡ r
refused-keeps c i r j e =
    transfer-cases (λ o. (o.answer ≡ done → ⊥) → o.party ≡ r) c i r j e (λ k n. refl) (λ g n. absurd (n refl))

-- ---- only a server's own transfers lower its weight

-- a set that has more transfers, but none more of server i, gives it no lower weight
pub weight-grows : (c : Config) (a b : Transfers) → Once a → Once b → ◌⊇◌ b a → (i : ℕ) → AllOf i b a → weight_of c a i ≤ℤ weight_of c b i
unfolding weight_of weight
weight-grows c a b o p more i own = difference-le _ _ _ _ (omega (arith, received-part b a more o i, given-part b a p i own))

-- the weight of server i after the first k steps, on the set that it holds itself
abbrev pub own_weight : PlainRun → ℕ → ℕ → ℤ
own_weight r k i = weight_of (config r) ((at r k).servers i).set i

-- step k is an accepted transfer of server i
pub record OwnTransfer (r : PlainRun) (k i : ℕ) : Type 0 where
  pub taker : ℕ
  pub amount : ℕ
  pub step : nth r.steps k ≡ some (transfer i taker amount)
  pub taken : answer_at r k ≡ done

module _ (house : House) (lawful : lawful_of (config_of house) ≡ true) (steps : List Step) (k i : ℕ) where
  abbrev c : Config
  c = config_of house

  abbrev r : PlainRun
  r = run_of machine house steps

  abbrev s : PlainState
  s = at r k

  -- where server i comes to hold p, its weight is no lower than before step k, or step k is its transfer
  abbrev Kept : Replica → Type 0
  Kept p = (own_weight r k i ≤ℤ weight_of c p.set i) ⊎ OwnTransfer r k i

  same : Kept (s.servers i)
  same = inl (≤ℤ_refl (own_weight r k i))

  -- what a message brings does not lower it
  joined : (p : ℕ) (m : Message) → nth s.sent p ≡ some m → Kept (join (s.servers i) m.replica)
  unfolding join
  joined p m e =
      let a = (s.servers i).set in
      let b = m.replica.set in
      let inv = invariant house lawful steps k in
      let here = (inv.servers i).closed in
      let there = (inv.messages m (nth_in s.sent p m e)).closed in
      inl
      (weight-grows c a (union a b) here.once (once-union a b here.once there.once) (union_left a b) i
      (λ t f g. ⊎_elim (λ (p : has a t ≡ true). p) (λ (p : has b t ≡ true). own-whole inv there i t p g) (union-either a b t f)))

  -- server x comes to hold what f makes of its number
  changed : (x : ℕ) (f : ℕ → Replica) → (i ≡ x → Kept (f i)) → Kept (put s.servers x (f x) i)
  changed x f here = put-cases Kept s.servers x (f x) i (λ e. subst (λ y. Kept (f y)) e (here e)) (λ e. same)

  by-step : (st : Step) → nth steps k ≡ some st → Kept ((stepped c s st).state.servers i)
  unfolding answer_at
  by-step st is =
      moved c s (λ h z. z ≡ stepped c s st → Kept (z.state.servers i)) st
      (record {
        still = λ a e z. same;
        tells = λ d y e seated f z. same;
        crashes = λ x e l z. same;
        gives = λ x j e q up g z.
            changed x (λ y. given-away (s.servers y) y j e)
            (λ f.
            inr
            (record {
              taker = j;
              amount = e;
              step = is ∙ ap some (q ∙ ap (λ y. transfer y j e) (sym f));
              taken = ap (λ o. (when o (nothing s) (stepped c s)).answer) is ∙ sym (ap (λ y. y.answer) z);
            }));
        shares = λ x place size a e up z. changed x (λ y. s.servers y) (λ f. same);
        takes = λ x p place size m a e up f g z. changed x (λ y. join (s.servers y) m.replica) (λ h. joined p m f);
        replies = λ x p place size m a e up f g h z. changed x (λ y. join (s.servers y) m.replica) (λ h. joined p m f);
        begins = λ d t note e seated l rests room z. same;
        asks = λ d x place size o a e seated f l z. same;
        drops = λ d o e seated f z. same;
        restarts = λ d p m o x e room z. same;
        marks = λ d p m o x e q z. same;
        chooses = λ d p m o x e q f room w z. same;
        ends = λ d p m o g x e q f z. same;
      })
      refl

  -- a server's weight is lower after step k only where step k is its own accepted transfer
  pub own-transfers : own_weight (run_of machine house steps) (suc k) i <ℤ own_weight (run_of machine house steps) k i → OwnTransfer (run_of machine house steps) k i
  unfolding at
  own-transfers lower =
      ⊎_elim (λ (l : own_weight r k i ≤ℤ own_weight r (suc k) i). clash_ℤ lower l) (λ (o : OwnTransfer r k i). o)
      (when-cases (λ z. Kept (z.state.servers i)) (nth steps k) (nothing s) (stepped c s) same by-step)
