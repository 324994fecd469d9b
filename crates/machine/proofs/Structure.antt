-- The structure of a run, for every number and in every run, of the plain machine, of another store and of the program: desks 1 to 65,535 and the servers
-- below n that have not crashed make the calls that steps ask for, and nobody else; a call that takes a message takes one that was sent; and a server has
-- crashed exactly when an earlier step crashed it (paper 01: "After its crash a server takes no step").
use Prim.Native.Nat.{ℕ, zero, suc, ◌≤◌, ◌<◌}
use native.Mathlib.Omega.{arith}
use mathlib.Core.Path.{◌≡◌, refl, sym, ap, ◌∙◌, subst}
use mathlib.Core.Logic.{◌⊎◌, inl, inr, ⊎_elim}
use mathlib.Core.Bool.{true, false, false≢true}
use mathlib.Core.List.{◌++◌}
use mathlib.Core.Option.{Option, none, some}
use borrow.Author.Tests.{lt-ltb, le-ltb, ltb-true, le-leb, lt-leb, eq-eqb, ne_eqb}
use lib.Dec.{leb, ltb}
use Rattle.quorums.proofs.Sums.{below_suc}
use Rattle.config.specs.declared.cluster.Config.{Config}
use Rattle.machine.specs.Runs.{config, put, nth, when, unmade, done, Outcome, Call, of-server, of-desk, crashing, Asked, call, call-with, State, Made, nothing, after_server, on_server, after_desk, on_desk, after_crash, on_crash, perform, take, Run, step_from, at, answer_at}
use Rattle.machine.proofs.Branches.{branch}
use Rattle.machine.proofs.Desks.{put-cases}

-- ---- what is said

-- f is g but at i, where it is a
pub record ChangedAt {A : Type 0} (g : ℕ → A) (i : ℕ) (a : A) (f : ℕ → A) : Type 0 where
  pub here : f i ≡ a
  pub elsewhere : (j : ℕ) → (j ≡ i → ⊥) → f j ≡ g j

-- step k of the run asks for the call y: by itself, or with a message that was sent
pub data Calls {S D M T : Type 0} (r : Run S D M T) (k : ℕ) (y : Call S D M) : Type 0 where
  by_itself : (x : T) → nth r.steps k ≡ some x → r.asks x ≡ call y → Calls r k y
  with-message : (x : T) (p : ℕ) (f : M → Call S D M) (m : M) → nth r.steps k ≡ some x → r.asks x ≡ call-with p f → nth (at r k).sent p ≡ some m
      → f m ≡ y
      → Calls r k y

-- the call of server i at step k comes to o: its answer, what the server holds then, and what is sent; nothing else changes
pub record ServerMade {S D M T : Type 0} (r : Run S D M T) (k i : ℕ) (o : Outcome M S) : Type 0 where
  pub answer : answer_at r k ≡ o.answer
  pub servers : ChangedAt (at r k).servers i o.party (at r (suc k)).servers
  pub crashed : (at r (suc k)).crashed ≡ (at r k).crashed
  pub desks : (at r (suc k)).desks ≡ (at r k).desks
  pub sent : (at r (suc k)).sent ≡ (at r k).sent ++ o.sent

-- the same of a call of desk d
pub record DeskMade {S D M T : Type 0} (r : Run S D M T) (k d : ℕ) (o : Outcome M D) : Type 0 where
  pub answer : answer_at r k ≡ o.answer
  pub servers : (at r (suc k)).servers ≡ (at r k).servers
  pub crashed : (at r (suc k)).crashed ≡ (at r k).crashed
  pub desks : ChangedAt (at r k).desks d o.party (at r (suc k)).desks
  pub sent : (at r (suc k)).sent ≡ (at r k).sent ++ o.sent

-- step k crashes server i: its mark is set, and nothing else changes
pub record CrashMade {S D M T : Type 0} (r : Run S D M T) (k i : ℕ) : Type 0 where
  pub answer : answer_at r k ≡ done
  pub servers : (at r (suc k)).servers ≡ (at r k).servers
  pub crashed : ChangedAt (at r k).crashed i true (at r (suc k)).crashed
  pub desks : (at r (suc k)).desks ≡ (at r k).desks
  pub sent : (at r (suc k)).sent ≡ (at r k).sent

-- step k makes no call
pub record Unmade {S D M T : Type 0} (r : Run S D M T) (k : ℕ) : Type 0 where
  pub answer : answer_at r k ≡ unmade
  pub state : at r (suc k) ≡ at r k

-- a step before place k crashed server i
pub record Crashed {S D M T : Type 0} (r : Run S D M T) (k i : ℕ) : Type 0 where
  pub place : ℕ
  pub earlier : place < k
  pub step : Calls r place (crashing i)
  pub below : i < (config r).n

pub record Structure {S D M T : Type 0} (r : Run S D M T) : Type 0 where
  -- who makes a call
  pub server-made : (k i : ℕ) (f : S → Outcome M S) → Calls r k (of-server i f) → i < (config r).n → (at r k).crashed i ≡ false
      → ServerMade r k i (f ((at r k).servers i))
  pub desk-made : (k d : ℕ) (f : D → Outcome M D) → Calls r k (of-desk d f) → 1 ≤ d → d ≤ 65535 → DeskMade r k d (f ((at r k).desks d))
  pub crash-made : (k i : ℕ) → Calls r k (crashing i) → i < (config r).n → CrashMade r k i
  -- and who does not
  pub no-server : (k i : ℕ) (f : S → Outcome M S) → Calls r k (of-server i f) → ((config r).n ≤ i) ⊎ ((at r k).crashed i ≡ true) → Unmade r k
  pub no-desk : (k d : ℕ) (f : D → Outcome M D) → Calls r k (of-desk d f) → (d ≡ 0) ⊎ (65535 < d) → Unmade r k
  pub no-crash : (k i : ℕ) → Calls r k (crashing i) → (config r).n ≤ i → Unmade r k
  pub no-message : (k : ℕ) (x : T) (p : ℕ) (f : M → Call S D M) → nth r.steps k ≡ some x → r.asks x ≡ call-with p f → nth (at r k).sent p ≡ none
      → Unmade r k
  -- a server has crashed at place k exactly when a step before crashed it
  pub crashed-by : (k i : ℕ) → (at r k).crashed i ≡ true → Crashed r k i
  pub by-crashed : (k i : ℕ) → Crashed r k i → (at r k).crashed i ≡ true

-- ---- one step

changed-put : {A : Type 0} (g : ℕ → A) (i : ℕ) (a : A) → ChangedAt g i a (put g i a)
changed-put g i a = record { here = rw (eq-eqb i i refl) refl; elsewhere = λ j ne. rw (ne_eqb j i ne) refl }

module _ {S D M T : Type 0} (r : Run S D M T) (k : ℕ) where
  abbrev s : State S D M
  s = at r k

  abbrev c : Config
  c = config r

  -- a step that asks for a call performs it
  performs : (y : Call S D M) → Calls r k y → step_from r s k ≡ perform c s y
  unfolding take
  performs y (by_itself x e f) = ap (λ o. when o (nothing s) (λ z. take c s (r.asks z))) e ∙ ap (take c s) f
  performs y (with-message x p f m e q sent is) =
      ap (λ o. when o (nothing s) (λ z. take c s (r.asks z))) e ∙ ap (take c s) q ∙ ap (λ o. when o (nothing s) (λ n. perform c s (f n))) sent
      ∙ ap (perform c s) is

  -- what is found of what it performs holds of the step
  becomes : (z : Made S D M) → step_from r s k ≡ z → (answer_at r k ≡ z.answer) × (at r (suc k) ≡ z.state)
  unfolding at answer_at
  becomes z e = (ap (λ y. y.answer) e, ap (λ y. y.state) e)

  unmade-by : step_from r s k ≡ nothing s → Unmade r k
  unmade-by e = let b = becomes (nothing s) e in record { answer = b.0; state = b.1 }

  server-made : (i : ℕ) (f : S → Outcome M S) → Calls r k (of-server i f) → i < c.n → s.crashed i ≡ false → ServerMade r k i (f (s.servers i))
  unfolding on_server
  server-made i f y below up =
      let o = f (s.servers i) in
      let b = becomes (record { answer = o.answer; state = after_server s i o }) (performs (of-server i f) y ∙ rw (lt-ltb i c.n below, up) refl) in
      record {
        answer = b.0;
        servers = subst (λ z. ChangedAt s.servers i o.party z.servers) (sym b.1) (changed-put s.servers i o.party);
        crashed = ap (λ z. z.crashed) b.1;
        desks = ap (λ z. z.desks) b.1;
        sent = ap (λ z. z.sent) b.1;
      }

  desk-made : (d : ℕ) (f : D → Outcome M D) → Calls r k (of-desk d f) → 1 ≤ d → d ≤ 65535 → DeskMade r k d (f (s.desks d))
  unfolding on_desk
  desk-made d f y low high =
      let o = f (s.desks d) in
      let b = becomes (record { answer = o.answer; state = after_desk s d o }) (performs (of-desk d f) y ∙ rw (le-leb 1 d low, le-leb d 65535 high) refl) in
      record {
        answer = b.0;
        servers = ap (λ z. z.servers) b.1;
        crashed = ap (λ z. z.crashed) b.1;
        desks = subst (λ z. ChangedAt s.desks d o.party z.desks) (sym b.1) (changed-put s.desks d o.party);
        sent = ap (λ z. z.sent) b.1;
      }

  no-server : (i : ℕ) (f : S → Outcome M S) → Calls r k (of-server i f) → (c.n ≤ i) ⊎ (s.crashed i ≡ true) → Unmade r k
  unfolding on_server
  no-server i f y (inl above) = unmade-by (performs (of-server i f) y ∙ rw (le-ltb i c.n above) refl)
  no-server i f y (inr down) =
      unmade-by (performs (of-server i f) y ∙ branch (λ z. z ≡ nothing s) (ltb i c.n) _ _ (λ e. rw down refl) (λ e. refl))

  no-desk : (d : ℕ) (f : D → Outcome M D) → Calls r k (of-desk d f) → (d ≡ 0) ⊎ (65535 < d) → Unmade r k
  unfolding on_desk
  no-desk d f y (inl zeroth) = unmade-by (performs (of-desk d f) y ∙ rw (lt-leb 1 d (omega arith)) refl)
  no-desk d f y (inr past) =
      unmade-by (performs (of-desk d f) y ∙ branch (λ z. z ≡ nothing s) (leb 1 d) _ _ (λ e. rw (lt-leb d 65535 past) refl) (λ e. refl))

  crash-made : (i : ℕ) → Calls r k (crashing i) → i < c.n → CrashMade r k i
  unfolding on_crash
  crash-made i y below =
      let b = becomes (record { answer = done; state = after_crash s i }) (performs (crashing i) y ∙ rw (lt-ltb i c.n below) refl) in
      record {
        answer = b.0;
        servers = ap (λ z. z.servers) b.1;
        crashed = subst (λ z. ChangedAt s.crashed i true z.crashed) (sym b.1) (changed-put s.crashed i true);
        desks = ap (λ z. z.desks) b.1;
        sent = ap (λ z. z.sent) b.1;
      }

  no-crash : (i : ℕ) → Calls r k (crashing i) → c.n ≤ i → Unmade r k
  unfolding on_crash
  no-crash i y above = unmade-by (performs (crashing i) y ∙ rw (le-ltb i c.n above) refl)

  no-message : (x : T) (p : ℕ) (f : M → Call S D M) → nth r.steps k ≡ some x → r.asks x ≡ call-with p f → nth s.sent p ≡ none → Unmade r k
  unfolding take
  no-message x p f e q unsent =
      unmade-by
      (ap (λ o. when o (nothing s) (λ z. take c s (r.asks z))) e ∙ ap (take c s) q ∙ ap (λ o. when o (nothing s) (λ n. perform c s (f n))) unsent)

  -- ---- crashes

  -- a call of a server or of a desk leaves the marks as they were
  server-marks : (i : ℕ) (f : S → Outcome M S) → (on_server c s i f).state.crashed ≡ s.crashed
  unfolding on_server
  server-marks i f =
      branch (λ (z : Made S D M). z.state.crashed ≡ s.crashed) (ltb i c.n) _ _
      (λ a. branch (λ (z : Made S D M). z.state.crashed ≡ s.crashed) (s.crashed i) _ _ (λ b. refl) (λ b. refl))
      (λ a. refl)

  desk-marks : (d : ℕ) (f : D → Outcome M D) → (on_desk s d f).state.crashed ≡ s.crashed
  unfolding on_desk
  desk-marks d f =
      branch (λ (z : Made S D M). z.state.crashed ≡ s.crashed) (leb 1 d) _ _
      (λ a. branch (λ (z : Made S D M). z.state.crashed ≡ s.crashed) (leb d 65535) _ _ (λ b. refl) (λ b. refl))
      (λ a. refl)

  -- a mark was there, or the call is the crash that sets it
  abbrev Marked : ℕ → Call S D M → Type 0
  Marked i y = (s.crashed i ≡ true) ⊎ ((y ≡ crashing i) × (i < c.n))

  marks : (i : ℕ) (y : Call S D M) → (perform c s y).state.crashed i ≡ true → Marked i y
  unfolding on_crash
  marks i (of-server j f) = λ e. inl (subst (λ z. z i ≡ true) (server-marks j f) e)
  marks i (of-desk d f) = λ e. inl (subst (λ z. z i ≡ true) (desk-marks d f) e)
  marks i (crashing j) =
      branch (λ (z : Made S D M). z.state.crashed i ≡ true → Marked i (crashing j)) (ltb j c.n) _ _
      (λ a.
      put-cases (λ b. b ≡ true → Marked i (crashing j)) s.crashed j true i
      (λ is q. let same : ◌≡◌ {A = Call S D M} (crashing j) (crashing i) = rw is refl in inr (same, subst (λ z. z < c.n) (sym is) (ltb-true j c.n a)))
      (λ ne q. inl q))
      (λ a q. inl q)

  -- and stays
  keeps : (i : ℕ) (y : Call S D M) → s.crashed i ≡ true → (perform c s y).state.crashed i ≡ true
  unfolding on_crash
  keeps i (of-server j f) e = subst (λ z. z i ≡ true) (sym (server-marks j f)) e
  keeps i (of-desk d f) e = subst (λ z. z i ≡ true) (sym (desk-marks d f)) e
  keeps i (crashing j) e =
      branch (λ (z : Made S D M). z.state.crashed i ≡ true) (ltb j c.n) _ _
      (λ a. put-cases (λ b. b ≡ true) s.crashed j true i (λ is. refl) (λ ne. e))
      (λ a. e)

  -- what every call that step k can ask for leaves is left by the step; one that makes no call leaves what was there
  after : (P : State S D M → Type 0) → P s → ((y : Call S D M) → Calls r k y → P (perform c s y).state) → P (at r (suc k))
  unfolding at take
  after P still called = by_place (nth r.steps k) refl
    where
      by-sent : (x : T) (p : ℕ) (f : M → Call S D M) → nth r.steps k ≡ some x → r.asks x ≡ call-with p f → (o : Option M) → nth s.sent p ≡ o
          → P (when o (nothing s) (λ m. perform c s (f m))).state
      by-sent x p f e q none u = still
      by-sent x p f e q (some m) u = called (f m) (with-message x p f m e q u refl)

      by-asked : (x : T) → nth r.steps k ≡ some x → (a : Asked S D M) → r.asks x ≡ a → P (take c s a).state
      by-asked x e (call y) q = called y (by_itself x e q)
      by-asked x e (call-with p f) q = by-sent x p f e q (nth s.sent p) refl

      by_place : (o : Option T) → nth r.steps k ≡ o → P (when o (nothing s) (λ z. take c s (r.asks z))).state
      by_place none e = still
      by_place (some x) e = by-asked x e (r.asks x) refl

-- ---- every place

module _ {S D M T : Type 0} (r : Run S D M T) where
  later : (k i : ℕ) → Crashed r k i → Crashed r (suc k) i
  later k i h = record { place = h.place; earlier = omega (arith, h.earlier); step = h.step; below = h.below }

  crashed-by : (k i : ℕ) → (at r k).crashed i ≡ true → Crashed r k i
  unfolding at
  crashed-by zero i e = absurd (false≢true e)
  crashed-by (suc k) i e =
      after r k (λ t. t.crashed i ≡ true → Crashed r (suc k) i) (λ q. later k i (crashed-by k i q))
      (λ y m q.
      ⊎_elim (λ (o : (at r k).crashed i ≡ true). later k i (crashed-by k i o))
      (λ (o : (y ≡ crashing i) × (i < (config r).n)).
      record { place = k; earlier = omega arith; step = subst (Calls r k) o.0 m; below = o.1 })
      (marks r k i y q))
      e

  stays : (i p k : ℕ) → (at r (suc p)).crashed i ≡ true → p < k → (at r k).crashed i ≡ true
  stays i p zero e l = absurd (omega arith)
  stays i p (suc k) e l =
      ⊎_elim (λ (same : p ≡ k). subst (λ z. (at r (suc z)).crashed i ≡ true) same e)
      (λ (more : p < k). after r k (λ t. t.crashed i ≡ true) (stays i p k e more) (λ y m. keeps r k i y (stays i p k e more)))
      (below_suc l)

  pub structure : Structure r
  structure =
      record {
        server-made = server-made r;
        desk-made = desk-made r;
        crash-made = crash-made r;
        no-server = no-server r;
        no-desk = no-desk r;
        no-crash = no-crash r;
        no-message = no-message r;
        crashed-by = crashed-by;
        by-crashed = λ k i h. stays i h.place k (crash-made r h.place i h.step h.below).crashed.here h.earlier;
      }
