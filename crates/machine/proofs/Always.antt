-- The invariant holds after every step of every run of the machine.
use Prim.Native.Nat.{ℕ, zero, suc}
use mathlib.Core.Path.{◌≡◌}
use mathlib.Core.Bool.{true}
use mathlib.Core.List.{List, [], ◌++◌}
use mathlib.Core.Option.{Option, none, some}
use Rattle.config.specs.Cluster.{House, config_of, lawful_of}
use Rattle.config.specs.declared.cluster.Config.{Config}
use Rattle.machine.specs.Runs.{wrote, opened, nth, when, nothing, at}
use Rattle.machine.specs.Steps.{machine, Step, run_of}
use Rattle.machine.proofs.Lists.{nth_in}
use Rattle.machine.proofs.Histories.{History}
use Rattle.machine.proofs.Replicas.{good-fresh}
use Rattle.machine.proofs.Moves.{PlainState, stepped, gift_of, moved}
use Rattle.machine.proofs.Invariant.{Invariant}
use Rattle.machine.proofs.DesksKept.{begins-kept, drops-kept, asks-kept, restarts-kept, chooses-kept, ends-kept, marks-kept}
use Rattle.machine.proofs.ServersKept.{crashes-kept, shares-kept, takes-kept, replies-kept}
use Rattle.machine.proofs.GiftsKept.{gives-kept}

-- the transfers made by the first k steps, latest first
unfoldable pub history_at : House → List Step → ℕ → History
history_at house steps zero = []
history_at house steps (suc k) = when (nth steps k) [] (gift_of (config_of house) (at (run_of machine house steps) k)) ++ history_at house steps k

pub fresh-invariant : (house : House) (steps : List Step) → Invariant (config_of house) [] (opened (run_of machine house steps))
fresh-invariant house steps =
    record {
      lawful = record { each = λ g m. absurd m; ordered = tt };
      own = λ g m. absurd m;
      servers = λ i. good-fresh [];
      desks = λ d. good-fresh [];
      messages = λ m i. absurd i;
      since = λ m i. absurd i;
      rounds = λ m i. absurd i;
      spreading = λ d. tt;
    }

pub step_keeps : (c : Config) → lawful_of c ≡ true → (h : History) (s : PlainState) → Invariant c h s → (st : Step)
    → Invariant c (gift_of c s st ++ h) (stepped c s st).state
step_keeps c lawful h s inv st =
    moved c s (λ g z. Invariant c (g ++ h) z.state) st
    (record {
      still = λ a e. inv;
      tells = λ d y e at f. inv;
      crashes = λ i e l. crashes-kept inv i;
      gives = λ i j e q up g. gives-kept c lawful inv i j e up.below g;
      shares = λ i place size a e up. shares-kept inv i (wrote a);
      takes = λ i k place size m a e up f g. takes-kept inv i m (nth_in s.sent k m f) (wrote a);
      replies = λ i k place size m a e up f g z. replies-kept inv i m (nth_in s.sent k m f) (wrote a) g;
      begins = λ d t note e at l rests room. begins-kept inv d t note;
      asks = λ d i place size o a e at f l. asks-kept inv d (wrote a) o i;
      drops = λ d o e at f. drops-kept inv d;
      restarts = λ d k m o x i room. restarts-kept inv d o m (nth_in s.sent k m x.sent) x.hearing;
      marks = λ d k m o x i q. marks-kept inv d o m (nth_in s.sent k m x.sent) x.hearing;
      chooses = λ d k m o x i q f room w. chooses-kept inv d o m (nth_in s.sent k m x.sent) x.hearing;
      ends = λ d k m o g x i q f. ends-kept inv d o m (nth_in s.sent k m x.sent) x.hearing g;
    })

place-keeps : (c : Config) → lawful_of c ≡ true → (h : History) (s : PlainState) → Invariant c h s → (o : Option Step)
    → Invariant c (when o [] (gift_of c s) ++ h) (when o (nothing s) (stepped c s)).state
place-keeps c lawful h s inv none = inv
place-keeps c lawful h s inv (some st) = step_keeps c lawful h s inv st

pub invariant : (house : House) → lawful_of (config_of house) ≡ true → (steps : List Step) (k : ℕ)
    → Invariant (config_of house) (history_at house steps k) (at (run_of machine house steps) k)
unfolding history_at at
invariant house lawful steps zero = fresh-invariant house steps
invariant house lawful steps (suc k) =
    place-keeps (config_of house) lawful (history_at house steps k) (at (run_of machine house steps) k) (invariant house lawful steps k) (nth steps k)
