-- A desk that says "spent" before the limit, at whatever round below the last one, breaks the equality with the plain machine: beginning and dropping
-- reads brings it to that round.
use Prim.Native.Nat.{ℕ, zero, suc, ◌+◌, ◌<◌}
use native.Mathlib.Omega.{arith}
use native.Mathlib.Nat.{le_refl}
use mathlib.Core.Path.{◌≡◌, refl, ap, ◌∙◌}
use mathlib.Core.List.{List, [], ◌∷◌}
use mathlib.Core.Option.{some}
use borrow.Author.Tests.{lt-leb, le-leb}
use Rattle.config.specs.Cluster.{House, config_of, level}
use Rattle.config.specs.declared.cluster.Config.{Config}
use Rattle.machine.specs.Parties.{fresh, Message, Task, read, first, running, idle, Desk}
use Rattle.machine.specs.Runs.{refused, done, Outcome, nth, on_desk, take, step}
use Rattle.machine.specs.Calls.{accept, begin_by, drop_by, most_round}
use Rattle.machine.specs.Steps.{Step, begin, drop, machine, PlainRun, run_of}
use Rattle.machine.proofs.Moves.{PlainState}
use Rattle.nearmiss.specs.Steps.{run_by, answers_from}
use Rattle.nearmiss.specs.Parts.{with_begin}
use Rattle.nearmiss.specs.SpentEarly.{begin_until, spent_early}
use Rattle.nearmiss.proofs.Answers.{answers_at}
use Rattle.nearmiss.proofs.Refuting.{Unequal, unequal}

-- desk 1 begins a read and drops it, so many times, and begins one more
unfoldable pub begins : ℕ → List Step
begins zero = begin 1 read 0 ∷ []
begins (suc k) = begin 1 read 0 ∷ drop 1 ∷ begins k

-- the place of that one
unfoldable pub double : ℕ → ℕ
double zero = zero
double (suc k) = suc (suc (double k))

-- a desk that runs nothing, and one that has just begun a read, in round k
abbrev idle-in : ℕ → Desk
idle-in k = record { replica = fresh; round = k; activity = idle }

abbrev begun-in : ℕ → Desk
begun-in k = record { replica = fresh; round = k; activity = running (record { task = read; note = 0; phase = first; heard = []; restarts = 0 }) }

abbrev cluster : Config
cluster = config_of (level 3 1)

-- of any begin that goes on up to a round
module _ (call : Config → Desk → Task → ℕ → Outcome Message Desk) (house : House) (last : ℕ)
    (goes : (m : ℕ) → m < last → call (config_of house) (idle-in m) read 0 ≡ accept done (begun-in (suc m))) where
  abbrev r : PlainRun
  r = run_of (with_begin call) house (begins last)

  reaches : (k m : ℕ) (s : PlainState) → s.desks 1 ≡ idle-in m → m + k ≡ last
      → nth (answers_from r s (begins k)) (double k) ≡ some (call (config_of house) (idle-in last) read 0).answer
  unfolding answers_from begins double take on_desk drop_by
  reaches zero m s e l =
      let there : m ≡ last = omega arith in
      rw (e, there)
  reaches (suc k) m s e l =
      let then = (step r (step r s (begin 1 read 0)).state (drop 1)).state in
      let next : then.desks 1 ≡ idle-in (suc m) = rw (e, goes m (omega arith)) in
      reaches k (suc m) then next (omega arith)

machine-goes : (c : Config) (m : ℕ) → m < most_round → begin_by c (idle-in m) read 0 ≡ accept done (begun-in (suc m))
unfolding begin_by
machine-goes c m l = rw (lt-leb most_round m l)

until-goes : (c : Config) (last m : ℕ) → last < most_round → m < last → begin_until last c (idle-in m) read 0 ≡ accept done (begun-in (suc m))
unfolding begin_until
until-goes c last m l h = rw (machine-goes c m (omega arith), lt-leb last m h)

until-spent : (c : Config) (last : ℕ) → last < most_round → (begin_until last c (idle-in last) read 0).answer ≡ refused 12
unfolding begin_until
until-spent c last l = rw (machine-goes c last l, le-leb last last (le_refl last))

-- n = 3, f = 1, and any round below the last: the plain machine begins there.
pub spent-early : (last : ℕ) → last < most_round → Unequal (spent_early last) 3 1 (begins last) (double last) (refused 12) done
spent-early last l =
    unequal
    (answers_at (run_by (spent_early last) 3 1 (begins last)) (double last) (refused 12)
    (reaches (begin_until last) (level 3 1) last (λ m h. until-goes cluster last m l h) last 0 _ refl (omega arith) ∙ ap some (until-spent cluster last l)))
    (answers_at (run_by machine 3 1 (begins last)) (double last) done
    (reaches begin_by (level 3 1) last (λ m h. machine-goes cluster m (omega arith)) last 0 _ refl (omega arith)
    ∙ ap some (ap (λ (o : Outcome Message Desk). o.answer) (machine-goes cluster last l))))
    refl
    refl
