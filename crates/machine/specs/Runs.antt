-- The structure of a run (paper 01, "The runs of demand 3"): who takes a step, which desks there are, which messages a call can take, and what a crash
-- does. It stands once, for the plain machine, for other stores and for the program: S is what a server holds, D what a desk holds, M a message and T a
-- step.
use Rattle.std.specs.Prelude.{ℕ, zero, suc, Bool, true, false, cond, List, [], ◌∷◌, ◌++◌, eqb, leb, ltb}
use Rattle.std.proofs.Math.Option.{Option, none, some}
use Rattle.config.specs.Cluster.{House, config_of}
use Rattle.config.specs.declared.cluster.Config.{Config}
use Rattle.machine.specs.Parties.{Result}

-- f with the value a at i
abbrev pub put : {A : Type 0} → (ℕ → A) → ℕ → A → ℕ → A
put f i a x = cond (eqb x i) a (f x)

-- element k of a list
abbrev pub nth : {A : Type 0} → List A → ℕ → Option A
nth [] k = none
nth (x ∷ l) zero = some x
nth (x ∷ l) (suc k) = nth l k

-- what is done with an element that is there, and otherwise
abbrev pub when : {A B : Type 0} → Option A → B → (A → B) → B
when none y f = y
when (some x) y f = f x

-- ---- calls

-- What a step gives: nothing where no call was made; "late"; for a refusal its number (paper 01, "Numbers handed out"); or accepted, with what is
-- handed back besides the record: the place after the message, or the result.
pub data Answer : Type 0 where
  unmade : Answer
  late : Answer
  refused : ℕ → Answer
  done : Answer
  wrote : ℕ → Answer
  told : Result → Answer

-- what a call comes to: its answer, what the party holds then, and the messages sent
pub record Outcome (M A : Type 0) : Type 0 where
  pub answer : Answer
  pub party : A
  pub sent : List M

-- a call of server i or of desk d, from what that party holds; or the crash of server i
pub data Call (S D M : Type 0) : Type 0 where
  of-server : (server : ℕ) → (S → Outcome M S) → Call S D M
  of-desk : (desk : ℕ) → (D → Outcome M D) → Call S D M
  crashing : (server : ℕ) → Call S D M

-- what a step asks for: a call, or a call with a message, which is given by its place among those sent
pub data Asked (S D M : Type 0) : Type 0 where
  call : Call S D M → Asked S D M
  call-with : (message : ℕ) → (M → Call S D M) → Asked S D M

-- ---- steps

-- what servers and desks hold, by number; which servers have crashed; and the messages sent, in their order
pub record State (S D M : Type 0) : Type 0 where
  pub servers : ℕ → S
  pub crashed : ℕ → Bool
  pub desks : ℕ → D
  pub sent : List M

-- what a step gives
pub record Made (S D M : Type 0) : Type 0 where
  pub answer : Answer
  pub state : State S D M

-- no call is made
abbrev pub nothing : {S D M : Type 0} → State S D M → Made S D M
nothing s = record { answer = unmade; state = s }

-- the state after a call of server i
abbrev pub after_server : {S D M : Type 0} → State S D M → ℕ → Outcome M S → State S D M
after_server s i o = record { servers = put s.servers i o.party; crashed = s.crashed; desks = s.desks; sent = s.sent ++ o.sent }

-- a call of server i, unless there is none or it has crashed
unfoldable pub on_server : {S D M : Type 0} → Config → State S D M → ℕ → (S → Outcome M S) → Made S D M
on_server c s i f =
    cond (ltb i c.n)
    (cond (s.crashed i) (nothing s) (let o = f (s.servers i) in record { answer = o.answer; state = after_server s i o }))
    (nothing s)

-- the state after a call of desk d
abbrev pub after_desk : {S D M : Type 0} → State S D M → ℕ → Outcome M D → State S D M
after_desk s d o = record { servers = s.servers; crashed = s.crashed; desks = put s.desks d o.party; sent = s.sent ++ o.sent }

-- desks have the numbers 1 to 65,535
abbrev pub most_desk : ℕ
most_desk = 65535

-- a call of desk d, unless there is none
unfoldable pub on_desk : {S D M : Type 0} → State S D M → ℕ → (D → Outcome M D) → Made S D M
on_desk s d f =
    cond (leb 1 d)
    (cond (leb d most_desk) (let o = f (s.desks d) in record { answer = o.answer; state = after_desk s d o }) (nothing s))
    (nothing s)

-- the state after server i crashed
abbrev pub after_crash : {S D M : Type 0} → State S D M → ℕ → State S D M
after_crash s i = record { servers = s.servers; crashed = put s.crashed i true; desks = s.desks; sent = s.sent }

-- the mark is set, crashed already or not
unfoldable pub on_crash : {S D M : Type 0} → Config → State S D M → ℕ → Made S D M
on_crash c s i = cond (ltb i c.n) (record { answer = done; state = after_crash s i }) (nothing s)

-- a call, of whichever party
abbrev pub perform : {S D M : Type 0} → Config → State S D M → Call S D M → Made S D M
perform c s (of-server i f) = on_server c s i f
perform c s (of-desk d f) = on_desk s d f
perform c s (crashing i) = on_crash c s i

-- what a step asks for: a call takes any message already sent, as often as the list says
unfoldable pub take : {S D M : Type 0} → Config → State S D M → Asked S D M → Made S D M
take c s (call x) = perform c s x
take c s (call-with k f) = when (nth s.sent k) (nothing s) (λ m. perform c s (f m))

-- ---- a run

-- what opening gets (n, f and the start weights), which is the same for all parties; what each server and each desk holds then, what a step asks for, and
-- the list of steps
pub record Run (S D M T : Type 0) : Type 0 where
  pub house : House
  pub server : ℕ → S
  pub desk : ℕ → D
  pub asks : T → Asked S D M
  pub steps : List T

-- the cluster that is made of what opening gets
abbrev pub config : {S D M T : Type 0} → Run S D M T → Config
config r = config_of r.house

-- all is as it was opened, no server has crashed, and nothing is sent
abbrev pub opened : {S D M T : Type 0} → Run S D M T → State S D M
opened r = record { servers = r.server; crashed = λ i. false; desks = r.desk; sent = [] }

-- what a step gives in the state s
abbrev pub step : {S D M T : Type 0} → Run S D M T → State S D M → T → Made S D M
step r s x = take (config r) s (r.asks x)

-- step k, from state s; a place past the end of the list changes nothing
abbrev pub step_from : {S D M T : Type 0} → Run S D M T → State S D M → ℕ → Made S D M
step_from r s k = when (nth r.steps k) (nothing s) (step r s)

-- the state after the first k steps, and what step k answers
unfoldable pub at : {S D M T : Type 0} → Run S D M T → ℕ → State S D M
at r zero = opened r
at r (suc k) = (step_from r (at r k) k).state

unfoldable pub answer_at : {S D M T : Type 0} → Run S D M T → ℕ → Answer
answer_at r k = (step_from r (at r k) k).answer

-- f 0, … , f (n − 1), by the places of a list of n elements
unfoldable pub in_turn : {A B : Type 0} → List A → (ℕ → B) → List B
in_turn [] f = []
in_turn (x ∷ l) f = f 0 ∷ in_turn l (λ k. f (suc k))

-- the answers to all steps
abbrev pub answers_of : {S D M T : Type 0} → Run S D M T → List Answer
answers_of r = in_turn r.steps (answer_at r)

-- desk d after the first k steps
abbrev pub desk_at : {S D M T : Type 0} → Run S D M T → ℕ → ℕ → D
desk_at r d k = (at r k).desks d
