-- None of the five causes of 6 arises in a run of the machine. Rows never clash, since all sets held or sent are parts of one history; equal tags come
-- with equal values; no join is light, since a union of closed sets is closed; nobody has a transfer that its giver lacks; and a reply of the current
-- round has the desk's set.
use Prim.Native.Nat.{ℕ, ◌+◌, ◌≤◌, ◌<◌}
use native.Mathlib.Omega.{arith}
use mathlib.Core.Path.{◌≡◌, refl, sym, ◌∙◌}
use mathlib.Core.Logic.{◌↔◌}
use mathlib.Core.Bool.{true}
use mathlib.Core.List.{List}
use mathlib.Core.Option.{some}
use Rattle.config.specs.Cluster.{House, config_of, lawful_of, start_of}
use Rattle.config.specs.declared.cluster.Config.{Config}
use Rattle.machine.specs.Sets.{Transfers, includes, union, count}
use Rattle.machine.specs.Parties.{Replica, reply, Message}
use Rattle.machine.specs.Runs.{nth, at, desk_at}
use Rattle.machine.specs.Steps.{Step, run_of, PlainRun, machine}
use Rattle.machine.specs.Views.{SameTag}
use Rattle.machine.specs.Sheets.{Found, by-server, by-desk, by-message, Sound}
use Rattle.machine.proofs.Lists.{In, nth_in}
use Rattle.machine.proofs.Histories.{Lawfully, Closed, ◌⊇◌}
use Rattle.machine.proofs.Closed.{AllOf, part_count}
use Rattle.machine.proofs.DesksKept.{kinds-apart}
use Rattle.machine.proofs.Invariant.{own-whole}
use Rattle.machine.proofs.Always.{history_at, invariant}
use Rattle.machine.proofs.Traces.{by-server as held-by-server, by-desk as held-by-desk, by-message as sent-by}
use Rattle.machine.proofs.Values.{same-tag-same-register}
use Rattle.machine.proofs.Sheets.{sound, found-closed, found-later, union-closed}
use Rattle.machine.proofs.Rows.{Agree, closed-agree, closed-includes}
use Rattle.machine.proofs.SetRanges.{SetRange, union-range}
use Rattle.machine.proofs.Replies.{current-has}

-- two replicas join: no row clashes, equal tags have equal values, and the joined set is within the ranges of the byte table and not light
pub record Joins (c : Config) (x y : Replica) : Type 0 where
  pub rows : (i : ℕ) → Agree x.set y.set i
  pub registers : SameTag x.register y.register → x.register ≡ y.register
  pub range : SetRange c (union x.set y.set)
  pub sound : Sound c (union x.set y.set)

module _ (house : House) (lawful : lawful_of (config_of house) ≡ true) (steps : List Step) where
  abbrev c : Config
  c = config_of house

  abbrev r : PlainRun
  r = run_of machine house steps

  -- ---- sets held or sent at whatever places k and l of the run

  module _ (k l : ℕ) (a b : Transfers) (f : Found r k a) (g : Found r l b) where
    law : Lawfully c.n c.f (start_of c) (history_at house steps (k + l))
    law = (invariant house lawful steps (k + l)).lawful

    left : Closed (history_at house steps (k + l)) a
    left = found-later house lawful steps k (k + l) a (omega arith) f

    right : Closed (history_at house steps (k + l)) b
    right = found-later house lawful steps l (k + l) b (omega arith) g

    -- rows never clash
    pub found-agree : (i : ℕ) → Agree a b i
    found-agree = closed-agree law left right

    -- one set has every transfer of the other exactly when no count is lower
    pub found-includes : (includes a b ≡ true) ↔ ((i : ℕ) → i < c.n → count b i ≤ count a i)
    found-includes = closed-includes law left right

    -- a join is never light
    pub found-sound : Sound c (union a b)
    found-sound = sound c lawful (history_at house steps (k + l)) (union a b) law (union-closed house lawful steps k l a b f g)

  -- ---- a party's replica and a message sent

  module _ (k p : ℕ) (m : Message) (sent : nth (at r k).sent p ≡ some m) where
    pub server-joins : (i : ℕ) → Joins c ((at r k).servers i) m.replica
    server-joins i =
        record {
          rows = found-agree k k _ _ (by-server i refl) (by-message p m sent refl);
          registers = same-tag-same-register house steps k k _ _ (held-by-server i refl) (sent-by m (nth_in (at r k).sent p m sent) refl);
          range = union-range house lawful steps k k _ _ (by-server i refl) (by-message p m sent refl);
          sound = found-sound k k _ _ (by-server i refl) (by-message p m sent refl);
        }

    pub desk-joins : (d : ℕ) → Joins c (desk_at r d k).replica m.replica
    desk-joins d =
        record {
          rows = found-agree k k _ _ (by-desk d refl) (by-message p m sent refl);
          registers = same-tag-same-register house steps k k _ _ (held-by-desk d refl) (sent-by m (nth_in (at r k).sent p m sent) refl);
          range = union-range house lawful steps k k _ _ (by-desk d refl) (by-message p m sent refl);
          sound = found-sound k k _ _ (by-desk d refl) (by-message p m sent refl);
        }

  -- ---- a server's own row

  -- every transfer of server i, wherever it is held or was sent, is in i's own set, then and later
  pub own_row : (k l : ℕ) (a : Transfers) → k ≤ l → Found r k a → (i : ℕ) → AllOf i a ((at r l).servers i).set
  own_row k l a e f i = own-whole (invariant house lawful steps l) (found-later house lawful steps k l a e f) i

  -- so no row of the server's own is above its own count
  pub own-count : (k l : ℕ) (a : Transfers) → k ≤ l → Found r k a → (i : ℕ) → count a i ≤ count ((at r l).servers i).set i
  own-count k l a e f i = part_count a ((at r l).servers i).set (found-closed house lawful steps k a f).once i (own_row k l a e f i)

  -- ---- a reply of the current round

  module _ (d k : ℕ) (m : Message) (sent : In m (at r k).sent) (kind : m.kind ≡ reply) (desk : m.desk ≡ d)
      (round : m.round ≡ (desk_at r d k).round) where
    pub reply-has : ◌⊇◌ m.replica.set (desk_at r d k).replica.set
    reply-has = current-has house lawful steps d k m sent (λ e. kinds-apart (sym kind ∙ e) (λ f. omega arith)) desk round

    -- so no count of the reply is below the desk's
    pub reply-count : (i : ℕ) → count (desk_at r d k).replica.set i ≤ count m.replica.set i
    reply-count i =
        part_count (desk_at r d k).replica.set m.replica.set ((invariant house lawful steps k).desks d).closed.once i (λ t e s. reply-has t e)
