-- How runs are written here, and the equality of answers that demand 3 asks of a store.
use Rattle.std.specs.Prelude.{ℕ, suc, ◌+◌, ◌≡◌, true, false, List, [], ◌∷◌, ◌++◌}
use Rattle.config.specs.Cluster.{House, house_fault, level}
use Rattle.machine.specs.Parties.{Register, Replica, Message, read, Result, Desk}
use Rattle.machine.specs.Runs.{State, Answer, opened, step, answer_at}
use Rattle.machine.specs.Steps.{Step, begin, ask, serve, hear, result, transfer, share, Store, machine, PlainRun, run_of}

-- the run of a store, with n servers that start level, of which f may crash
abbrev pub run_by : Store → ℕ → ℕ → List Step → PlainRun
run_by p n f l = run_of p (level n f) l

-- room for the longest message
abbrev pub room : ℕ
room = 1111

-- desk d asks server i, which replies, and hears the reply; m messages were sent before
abbrev pub trip : ℕ → ℕ → ℕ → List Step
trip d i m = ask d i 0 room ∷ serve i m 0 room ∷ hear d (suc m) ∷ []

-- servers 0 and 1 each give 374 to server 2 and tell it; m messages were sent before. Of n = 5 and f = 1, servers 2 and 4 are a quorum then.
abbrev pub pass_on : ℕ → List Step
pass_on m = transfer 0 2 374 ∷ transfer 1 2 374 ∷ share 0 0 room ∷ share 1 0 room ∷ serve 2 m 0 room ∷ serve 2 (suc m) 0 room ∷ []

-- desk d reads through 2 and 4, where its first reply brings it the sheet that 2 holds; m messages were sent before
abbrev pub read_after : ℕ → ℕ → List Step
read_after d m =
    (begin d read 0 ∷ []) ++ trip d 2 m ++ trip d 2 (m + 2) ++ trip d 4 (m + 4) ++ trip d 2 (m + 6) ++ trip d 4 (m + 8) ++ (result d ∷ [])

-- results: a read that returned a register, a write that wrote one, after so many restarts
abbrev pub returned : Register → ℕ → Result
returned g restarts = record { is-write = false; register = g; restarts = restarts }

abbrev pub written : Register → ℕ → Result
written g restarts = record { is-write = true; register = g; restarts = restarts }

-- the answers of a run, one after the other (proofs/Answers: answer k is `answer_at` of the run at k)
unfoldable pub answers_from : PlainRun → State Replica Desk Message → List Step → List Answer
answers_from r s [] = []
answers_from r s (x ∷ l) = let m = step r s x in m.answer ∷ answers_from r m.state l

abbrev pub answers : PlainRun → List Answer
answers r = answers_from r (opened r) r.steps

-- every answer of a store, in every house that opening takes and on every list of steps, is the plain machine's
abbrev pub SameAnswers : Store → Type 0
SameAnswers p =
    (h : House) → house_fault h ≡ 0 → (l : List Step) (k : ℕ) → answer_at (run_of p h l) k ≡ answer_at (run_of machine h l) k
