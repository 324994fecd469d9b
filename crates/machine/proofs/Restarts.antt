-- The restarts that a result reports are those made. A desk's set has what its hears brought, so a hear restarts where its reply has a transfer that
-- no earlier hear brought: the counter of the operation that runs goes along with the sum over places, from 0 at its begin.
use Prim.Native.Nat.{ℕ, zero, suc, ◌+◌, ◌≤◌, ◌<◌}
use native.Mathlib.Omega.{arith}
use mathlib.Core.Path.{◌≡◌, refl, sym, ap, ◌∙◌, subst}
use mathlib.Core.Bool.{Bool, true, false, cond, false≢true}
use mathlib.Core.List.{List, [], ◌∷◌}
use mathlib.Core.Option.{Option, none, some}
use borrow.Author.Tests.{lt-ltb, le-ltb}
use lib.Dec.{ltb}
use lib.ListN.{length, length-append}
use Rattle.quorums.specs.Sum.{sum}
use Rattle.quorums.proofs.Tests.{or-false}
use Rattle.quorums.proofs.Sums.{sum-suc, sum-le, sum-zero}
use Rattle.format.specs.Bytes.{stands}
use Rattle.format.proofs.Marks.{stands-pos, stands-most}
use Rattle.config.specs.Cluster.{House}
use Rattle.machine.specs.Sets.{Transfer, Transfers, has, includes, missing, union}
use Rattle.machine.specs.Parties.{Message, join, Task, Operation, Result, Activity, idle, running, ended, Desk}
use Rattle.machine.specs.Runs.{config, Answer, unmade, done, wrote, told, nth, when, at, answer_at, desk_at}
use Rattle.machine.specs.Steps.{Step, result, run_of, PlainRun, machine}
use Rattle.machine.specs.Seen.{accepted, hears, heard, transfers_of, view_of}
use Rattle.machine.specs.Views.{Current, Ends, restarts_made, gain, Told, Restarts}
use Rattle.machine.proofs.Branches.{when-cases}
use Rattle.machine.proofs.Sets.{has-append, has-union, missing-none, missing-some, missing-same}
use Rattle.machine.proofs.Moves.{PlainMade, moved}
use Rattle.machine.proofs.Desks.{brings, desk-moved}
use Rattle.machine.proofs.Performed.{NoBegin, telling, tells-nothing, told_is, current-earlier, current-ended, during, begins-is, gives-ended, ended-origin}

-- ---- how a reply counts: 1 where it has a transfer that the desk's set lacks

brings-more : (a b : Transfers) → includes a b ≡ false → stands (length (missing a b)) ≡ 1
brings-more a b e = stands-pos (length (missing a b)) (missing-some a b e)

brings-none : (a b : Transfers) → includes a b ≡ true → stands (length (missing a b)) ≡ 0
unfolding stands
brings-none a b e = ap (λ l. stands (length l)) (missing-none a b e)

-- the counter of the operation that runs, or of its result, is n
abbrev Counts : ℕ → Activity → Type 0
Counts n idle = Unit
Counts n (running o) = o.restarts ≡ n
Counts n (ended x) = x.restarts ≡ n

module _ (house : House) (steps : List Step) where
  abbrev r : PlainRun
  r = run_of machine house steps

  -- ---- what a desk's set has

  -- what a step brings is added
  held_next : (d k : ℕ) (t : Transfer)
      → has (desk_at r d (suc k)).replica.set t ≡ cond (has (desk_at r d k).replica.set t) true (has (brings r d k) t)
  unfolding join has
  held_next d k t =
      desk-moved house steps d k (λ a y. has y.replica.set t ≡ cond (has (desk_at r d k).replica.set t) true (has a t))
      (record {
        still = or-false (has (desk_at r d k).replica.set t);
        begins = λ u note b l rests room. or-false (has (desk_at r d k).replica.set t);
        drops = λ o e. or-false (has (desk_at r d k).replica.set t);
        restarts = λ p m o f i room. has-union (desk_at r d k).replica.set m.replica.set t;
        marks = λ p m o f i q. has-union (desk_at r d k).replica.set m.replica.set t;
        chooses = λ p m o f i q g room w. has-union (desk_at r d k).replica.set m.replica.set t;
        ends = λ p m o g s f i q z. has-union (desk_at r d k).replica.set m.replica.set t;
      })

  -- what the hears before step k brought
  abbrev pub brought : ℕ → ℕ → Transfers
  brought d k = transfers_of (heard r d k)

  brought-next : (d k : ℕ) (t : Transfer) → has (brought d (suc k)) t ≡ cond (has (brought d k) t) true (has (brings r d k) t)
  unfolding heard has
  brought-next d k t = by-message (hears r d k)
    where
      by-message : (o : Option Message)
          → has (transfers_of (when o (heard r d k) (λ m. m ∷ heard r d k))) t
          ≡ cond (has (brought d k) t) true (has (when o [] (λ m. m.replica.set)) t)
      by-message none = or-false (has (brought d k) t)
      by-message (some m) = has-append (brought d k) m.replica.set t

  -- the set has what the hears brought
  pub held : (d k : ℕ) (t : Transfer) → has (brought d k) t ≡ has (desk_at r d k).replica.set t
  unfolding heard at has
  held d zero t = refl
  held d (suc k) t = rw (brought-next d k t, held d k t) (sym (held_next d k t))

  -- the transfers that step k is the first to bring
  abbrev pub first_brought : ℕ → ℕ → Transfers
  first_brought d k = missing (brought d k) (brings r d k)

  pub brings-is : (d k : ℕ) → (view_of r).brings d k ≡ length (first_brought d k)
  unfolding missing
  brings-is d k = by-message (hears r d k)
    where
      by-message : (o : Option Message)
          → when o 0 (λ m. length (missing (brought d k) m.replica.set)) ≡ length (missing (brought d k) (when o [] (λ m. m.replica.set)))
      by-message none = refl
      by-message (some m) = refl

  -- ---- the counter

  -- what place p counts for the operation from place i
  abbrev counted : ℕ → ℕ → ℕ → ℕ
  counted d i p = cond (ltb i p) (stands ((view_of r).brings d p)) 0

  counted_is : (d i k : ℕ) → i < k → counted d i k ≡ stands (length (missing (desk_at r d k).replica.set (brings r d k)))
  counted_is d i k l =
      rw (lt-ltb i k l, brings-is d k) (ap (λ a. stands (length a)) (missing-same (brought d k) (desk_at r d k).replica.set (brings r d k) (held d k)))

  -- a restart counts one, any other step of the operation nothing
  counts-next : (d k n : ℕ) → NoBegin (view_of r) d k → Counts n (desk_at r d k).activity
      → Counts (n + stands (length (missing (desk_at r d k).replica.set (brings r d k)))) (desk_at r d (suc k)).activity
  unfolding missing stands
  counts-next d k n none_here h =
      desk-moved house steps d k (λ a y. Counts (n + stands (length (missing (desk_at r d k).replica.set a))) y.activity)
      (record {
        still = subst (λ a. Counts a (desk_at r d k).activity) same h;
        begins = λ u note b l rests room. absurd (none_here u b);
        drops = λ o e. tt;
        restarts = λ p m o f i room. omega (arith, so_far o f.hearing.runs, brings-more (desk_at r d k).replica.set m.replica.set i);
        marks = λ p m o f i q. goes_on o m f.hearing.runs i;
        chooses = λ p m o f i q g room w. goes_on o m f.hearing.runs i;
        ends = λ p m o g s f i q z. goes_on o m f.hearing.runs i;
      })
    where
      same : n ≡ n + 0
      same = omega arith

      so_far : (o : Operation) → (desk_at r d k).activity ≡ running o → o.restarts ≡ n
      so_far o e = subst (Counts n) e h

      goes_on : (o : Operation) (m : Message) → (desk_at r d k).activity ≡ running o → includes (desk_at r d k).replica.set m.replica.set ≡ true
          → o.restarts ≡ n + stands (length (missing (desk_at r d k).replica.set m.replica.set))
      goes_on o m e i = omega (arith, so_far o e, brings-none (desk_at r d k).replica.set m.replica.set i)

  counts-first : (d i : ℕ) (t : Task) → Current (view_of r) d i t (suc i) → Counts (sum (suc i) (counted d i)) (desk_at r d (suc i)).activity
  counts-first d i t h =
      let b = begins-is house steps d i t h.begun in
      subst (λ (y : Desk). Counts (sum (suc i) (counted d i)) y.activity) (sym b.after)
      (sym (sum-zero (suc i) (counted d i) (λ p l. rw (le-ltb i p (omega arith)))))

  -- the counter is the sum of the places so far
  counts : (d i k : ℕ) (t : Task) → Current (view_of r) d i t k → Counts (sum k (counted d i)) (desk_at r d k).activity
  counts d i k t h =
      during (λ q. Counts (sum q (counted d i)) (desk_at r d q).activity) (suc i) k (omega arith) h.earlier h
      (λ q l a n e.
      subst (λ x. Counts x (desk_at r d (suc q)).activity) (sym (sum-suc q (counted d i) ∙ ap (λ x. sum q (counted d i) + x) (counted_is d i q l)))
      (counts-next d q (sum q (counted d i)) n e))
      (counts-first d i t (current-earlier h (suc i) (omega arith) h.earlier))

  made : (d i k : ℕ) (t : Task) (x : Result) → Ends (view_of r) d i t k x → x.restarts ≡ restarts_made (view_of r) d i k
  unfolding restarts_made
  made d i k t x h =
      subst (Counts (sum (suc k) (counted d i))) (gives-ended house steps d (suc k) x h.after).1 (counts d i (suc k) t (current-ended h))

  gained : (d i k : ℕ) → restarts_made (view_of r) d i k ≤ gain (view_of r) d i k
  unfolding restarts_made gain
  gained d i k =
      sum-le (suc k) (counted d i) (λ p. cond (ltb i p) ((view_of r).brings d p) 0) (λ p l. at_most (ltb i p) ((view_of r).brings d p))
    where
      at_most : (b : Bool) (x : ℕ) → cond b (stands x) 0 ≤ cond b x 0
      at_most true x = stands-most x
      at_most false x = omega arith

  -- ---- the gain

  -- what place p gains for the operation from place i
  abbrev gains : ℕ → ℕ → ℕ → ℕ
  gains d i p = cond (ltb i p) ((view_of r).brings d p) 0

  gains-is : (d i k : ℕ) → i < k → gains d i k ≡ length (missing (desk_at r d k).replica.set (brings r d k))
  gains-is d i k l =
      rw (lt-ltb i k l, brings-is d k) (ap (λ a. length a) (missing-same (brought d k) (desk_at r d k).replica.set (brings r d k) (held d k)))

  union-size : (a b : Transfers) → length (union a b) ≡ length a + length (missing a b)
  unfolding union
  union-size a b = length-append a (missing a b)

  -- a desk's set grows by what it lacked of what a step brings
  pub size-next : (d k : ℕ)
      → length (desk_at r d (suc k)).replica.set ≡ length (desk_at r d k).replica.set + length (missing (desk_at r d k).replica.set (brings r d k))
  unfolding join missing
  size-next d k =
      desk-moved house steps d k
      (λ a y. length y.replica.set ≡ length (desk_at r d k).replica.set + length (missing (desk_at r d k).replica.set a))
      (record {
        still = omega arith;
        begins = λ u note b l rests room. omega arith;
        drops = λ o e. omega arith;
        restarts = λ p m o f i room. union-size (desk_at r d k).replica.set m.replica.set;
        marks = λ p m o f i q. union-size (desk_at r d k).replica.set m.replica.set;
        chooses = λ p m o f i q g room w. union-size (desk_at r d k).replica.set m.replica.set;
        ends = λ p m o g s f i q z. union-size (desk_at r d k).replica.set m.replica.set;
      })

  sizes : (d i k : ℕ) (t : Task) → Current (view_of r) d i t k
      → length (desk_at r d i).replica.set + sum k (gains d i) ≡ length (desk_at r d k).replica.set
  sizes d i k t h =
      during (λ q. length (desk_at r d i).replica.set + sum q (gains d i) ≡ length (desk_at r d q).replica.set) (suc i) k (omega arith) h.earlier h
      (λ q l a n e. omega (arith, e, sum-suc q (gains d i), gains-is d i q l, size-next d q))
      (let none : sum (suc i) (gains d i) ≡ 0 = sum-zero (suc i) (gains d i) (λ p l. rw (le-ltb i p (omega arith))) in
      omega (arith, ap (λ y. length y.replica.set) (begins-is house steps d i t h.begun).after))

  growth : (d i k : ℕ) (t : Task) (x : Result) → Ends (view_of r) d i t k x
      → length (desk_at r d i).replica.set + gain (view_of r) d i k ≡ length (desk_at r d (suc k)).replica.set
  unfolding gain
  growth d i k t x h = sizes d i (suc k) t (current-ended h)

  -- ---- results told

  -- only a result call tells, at a desk whose operation has ended
  reported : (q : ℕ) (x : Result) → answer_at r q ≡ told x → Told (view_of r) q x
  unfolding answer_at
  reported q x =
      when-cases (λ (z : PlainMade). z.answer ≡ told x → Told (view_of r) q x) (nth steps q) _ _ (apart unmade refl)
      (λ st s.
      moved (config r) (at r q) (λ h z. z.answer ≡ told x → Told (view_of r) q x) st
      (record {
        still = λ a e f. absurd (false≢true (sym e ∙ ap accepted f));
        tells = λ d y e at f g. told-by d (s ∙ ap some e) (f ∙ ap ended (told_is g));
        crashes = λ i e l. apart done refl;
        gives = λ i j e z up g. apart done refl;
        shares = λ i place size next e up. apart (wrote next) refl;
        takes = λ i k place size m next e up f g. apart (wrote next) refl;
        replies = λ i k place size m next e up f g l. apart (wrote next) refl;
        begins = λ d t note e at l rests room. apart done refl;
        asks = λ d i place size o next e at f l. apart (wrote next) refl;
        drops = λ d o e at f. apart done refl;
        restarts = λ d k m o f i room. apart done refl;
        marks = λ d k m o f i q. apart done refl;
        chooses = λ d k m o f i g e room w. apart done refl;
        ends = λ d k m o g f i z e. apart done refl;
      }))
    where
      told-by : (d : ℕ) → nth steps q ≡ some (result d) → (desk_at r d q).activity ≡ ended x → Told (view_of r) q x
      told-by d s e =
          let from = ended-origin house steps d q x e in
          record {
            desk = d;
            begun = from.begun;
            task = from.task;
            end = from.end;
            step = s;
            current = from.current;
            ends = from.ends;
            earlier = from.earlier;
          }

      apart : (a : Answer) → telling a ≡ false → a ≡ told x → Told (view_of r) q x
      apart a e f = absurd (tells-nothing a e x f)

pub restarts : (house : House) (steps : List Step) → Restarts (view_of (run_of machine house steps))
restarts house steps = record { reported = reported house steps; made = made house steps; gained = gained house steps; growth = growth house steps }
