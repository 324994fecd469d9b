-- The transfers that hears bring, counted by giver, are the machine's: a reply's counts are those of its set, a desk's set has of each giver the most that
-- any hear brought, and a set has as many transfers as its counts together. So a step is the first to bring as many as the machine's.
use Prim.Native.Nat.{ℕ, zero, suc, ◌+◌, ◌-◌, ◌≤◌, ◌<◌, max}
use native.Mathlib.Omega.{arith}
use mathlib.Core.Path.{◌≡◌, refl, sym, ap, ap₂, ◌∙◌}
use mathlib.Core.Logic.{⊎_elim}
use mathlib.Core.Bool.{Bool, true, false, cond}
use mathlib.Core.List.{List, [], ◌∷◌, map}
use mathlib.Core.Option.{Option, none, some}
use lib.Dec.{eqb}
use lib.ListN.{length}
use Rattle.quorums.specs.Sum.{sum}
use Rattle.quorums.proofs.Tests.{le-or-lt}
use Rattle.quorums.proofs.Sums.{sum_same, sum-add, sum_one, sum-zero}
use Rattle.config.specs.Cluster.{House, config_of, lawful_of}
use Rattle.config.specs.declared.cluster.Config.{Config}
use Rattle.config.proofs.Clusters.{lawful-bounds}
use Rattle.ledger.specs.Ledgers.{count_of}
use Rattle.machine.specs.Sets.{Transfer, Transfers, has, union, tally, count}
use Rattle.machine.specs.Parties.{join, Message, bytes_of}
use Rattle.machine.specs.Runs.{at, answer_at, nth, when, desk_at}
use Rattle.machine.specs.Steps.{asked_of, machine, PlainRun}
use Rattle.machine.specs.Seen.{accepted, heard_in, hears, heard, view_of as plain_view_of}
use Rattle.machine.specs.Sheets.{Found as PlainFound, by-desk as plain-desk, by-message as plain-message}
use Rattle.machine.proofs.Branches.{when-none}
use Rattle.machine.proofs.Sets.{tally-same, tally-sum, missing-same}
use Rattle.machine.proofs.Closed.{count-some}
use Rattle.machine.proofs.Moves.{Seated}
use Rattle.machine.proofs.Desks.{brings as plain_brings, desk-moved}
use Rattle.machine.proofs.Restarts.{brought as plain_brought, held, brings-is, size-next}
use Rattle.machine.proofs.Clashes.{found-agree}
use Rattle.machine.proofs.SetRanges.{found-range}
use Rattle.runs.specs.Steps.{Step, begin, ask, serve, hear, hear-lent, result, drop, transfer, share, crash, plain, Typed}
use Rattle.runs.specs.Runs.{asked, ProgramRun, run_of}
use Rattle.runs.specs.Seen.{ledger_in, most_of, view_of}
use Rattle.runs.specs.Clauses.{plain_run}
use Rattle.runs.proofs.Ledgers.{count-below}
use Rattle.runs.proofs.Steps.{nth-map}
use Rattle.runs.proofs.Simulation.{stands_at, answer_at_lem}
use Rattle.runs.proofs.Sheets.{sent-at, sent-carries}

-- ---- how many transfers a set has

-- one for each
tally-length : (a : Transfers) → tally (λ t. 1) a ≡ length a
unfolding tally
tally-length [] = refl
tally-length (t ∷ a) = omega (arith, tally-length a)

-- as many as its counts together, where all givers are below n
pub counts-length : (n : ℕ) (a : Transfers) → ((i : ℕ) → n ≤ i → count a i ≡ 0) → sum n (count a) ≡ length a
unfolding count
counts-length n a h =
    tally-sum n (λ i t. cond (eqb t.giver i) 1 0) a
    ∙ tally-same _ (λ t. 1) a (λ t e. sum_one n t.giver 1 (inside t e))
    ∙ tally-length a
  where
    inside : (t : Transfer) → has a t ≡ true → t.giver < n
    inside t e =
        ⊎_elim (λ (l : n ≤ t.giver). absurd (omega (arith, h t.giver l, count-some a t e))) (λ (l : t.giver < n). l) (le-or-lt n t.giver)

module _ (house : House) (lawful : lawful_of (config_of house) ≡ true) (steps : List Step) (typed : Typed steps) where
  abbrev c : Config
  c = config_of house

  abbrev p : ProgramRun
  p = run_of house steps

  abbrev r : PlainRun
  r = plain_run p

  -- so it is of every set held or sent
  pub size_counts : (k : ℕ) (a : Transfers) → PlainFound r k a → sum 16 (count a) ≡ length a
  size_counts k a f =
      counts-length 16 a
      (λ i l. (found-range house lawful (map plain steps) k a f).counts-inside i (omega (arith, (lawful-bounds c lawful).most)))

  -- ---- what a step brings

  -- the transfers of giver i that step k brings to desk d, and the most of them that a step before it brought
  abbrev brings_of : ℕ → ℕ → ℕ → ℕ
  brings_of d k i = when (hears p d k) 0 (λ msg. count_of (ledger_in c msg) i)

  abbrev brought_of : ℕ → ℕ → ℕ → ℕ
  brought_of d k i = most_of c (heard p d k) i

  -- a reply heard has as many transfers of giver i as the machine's
  reply-for : (d k i : ℕ) → i < 16 → (e q : ℕ)
      → when (when (nth (at p k).sent q) none (λ msg. cond (eqb e d) (some msg) none)) 0 (λ msg. count_of (ledger_in c msg) i)
      ≡ count (when (when (nth (at r k).sent q) none (λ m. cond (eqb e d) (some m) none)) [] (λ m. m.replica.set)) i
  unfolding count tally
  reply-for d k i l e q = rw (sent-at house lawful steps typed k q) (by_place (nth (at r k).sent q) refl (eqb e d))
    where
      by_place : (o : Option Message) → nth (at r k).sent q ≡ o → (b : Bool)
          → when (when (when o none (λ m. some (bytes_of c m))) none (λ msg. cond b (some msg) none)) 0 (λ msg. count_of (ledger_in c msg) i)
          ≡ count (when (when o none (λ m. cond b (some m) none)) [] (λ m. m.replica.set)) i
      by_place none f b = refl
      by_place (some m) f true = ap (λ x. count_of x i) (sent-carries house lawful steps typed k q m f) ∙ count-below m.replica.set i l
      by_place (some m) f false = refl

  -- what is counted of the message that a step has a desk hear
  heard-for : (d k i : ℕ) → i < 16 → (st : Step)
      → when (heard_in d (at p k).sent (asked st)) 0 (λ msg. count_of (ledger_in c msg) i)
      ≡ count (when (heard_in d (at r k).sent (asked_of machine c (plain st))) [] (λ m. m.replica.set)) i
  unfolding count tally
  heard-for d k i l (begin e t note) = refl
  heard-for d k i l (ask e j place out) = refl
  heard-for d k i l (serve j q place out) =
      rw (when-none {B = List ℕ} (nth (at p k).sent q), when-none {B = Message} (nth (at r k).sent q)) refl
  heard-for d k i l (result e) = refl
  heard-for d k i l (drop e) = refl
  heard-for d k i l (transfer j q amount) = refl
  heard-for d k i l (share j place out) = refl
  heard-for d k i l (crash j) = refl
  heard-for d k i l (hear e q) = reply-for d k i l e q
  heard-for d k i l (hear-lent e q) = reply-for d k i l e q

  -- of each giver as many as the machine's step
  brings-for : (d k i : ℕ) → i < 16 → brings_of d k i ≡ count (plain_brings r d k) i
  unfolding hears count tally
  brings-for d k i l = rw (answer_at_lem house lawful steps typed k, nth-map plain steps k) (by-step (nth steps k))
    where
      by_answer : (b : Bool) (st : Step)
          → when (cond b (heard_in d (at p k).sent (asked st)) none) 0 (λ msg. count_of (ledger_in c msg) i)
          ≡ count (when (cond b (heard_in d (at r k).sent (asked_of machine c (plain st))) none) [] (λ m. m.replica.set)) i
      by_answer true st = heard-for d k i l st
      by_answer false st = refl

      by-step : (o : Option Step)
          → when (when o none (λ st. cond (accepted (answer_at r k)) (heard_in d (at p k).sent (asked st)) none)) 0 (λ msg. count_of (ledger_in c msg) i)
          ≡ count
          (when
          (when (when o none (λ st. some (plain st))) none
          (λ st. cond (accepted (answer_at r k)) (heard_in d (at r k).sent (asked_of machine c st)) none))
          [] (λ m. m.replica.set))
          i
      by-step none = refl
      by-step (some st) = by_answer (accepted (answer_at r k)) st

  -- ---- what a desk's set has

  -- of each giver the larger of what it had and what the step brings
  count_next : (d k i : ℕ)
      → count (desk_at r d (suc k)).replica.set i ≡ max (count (desk_at r d k).replica.set i) (count (plain_brings r d k) i)
  unfolding join count tally
  count_next d k i =
      desk-moved house (map plain steps) d k
      (λ a y. count y.replica.set i ≡ max (count (desk_at r d k).replica.set i) (count a i))
      (record {
        still = same;
        begins = λ u note b l rests room. same;
        drops = λ o e. same;
        restarts = λ q m o f e room. larger q m f.sent;
        marks = λ q m o f e short. larger q m f.sent;
        chooses = λ q m o f e g h room w. larger q m f.sent;
        ends = λ q m o g s f e h z. larger q m f.sent;
      })
    where
      same : count (desk_at r d k).replica.set i ≡ max (count (desk_at r d k).replica.set i) (count [] i)
      same = omega arith

      larger : (q : ℕ) (m : Message) → nth (at r k).sent q ≡ some m
          → count (union (desk_at r d k).replica.set m.replica.set) i ≡ max (count (desk_at r d k).replica.set i) (count m.replica.set i)
      larger q m e = (found-agree house lawful (map plain steps) k k _ _ (plain-desk d refl) (plain-message q m e refl) i).counts

  -- so it has the most that the hears brought
  brought-next : (d k i : ℕ) → brought_of d (suc k) i ≡ max (brought_of d k i) (brings_of d k i)
  unfolding heard
  brought-next d k i = by-message (hears p d k)
    where
      by-message : (o : Option (List ℕ))
          → most_of c (when o (heard p d k) (λ msg. msg ∷ heard p d k)) i ≡ max (brought_of d k i) (when o 0 (λ msg. count_of (ledger_in c msg) i))
      by-message none = omega arith
      by-message (some msg) = refl

  brought-for : (d k i : ℕ) → i < 16 → brought_of d k i ≡ count (desk_at r d k).replica.set i
  unfolding heard at count tally
  brought-for d zero i l = refl
  brought-for d (suc k) i l =
      brought-next d k i ∙ ap₂ {C = ℕ} (λ x y. max x y) (brought-for d k i l) (brings-for d k i l) ∙ sym (count_next d k i)

  -- ---- what a step is the first to bring

  -- giver by giver
  brings-each : (d k : ℕ) → (view_of p).brings d k ≡ sum 16 (λ i. brings_of d k i - brought_of d k i)
  brings-each d k = by-message (hears p d k)
    where
      by-message : (o : Option (List ℕ))
          → when o 0 (λ msg. sum 16 (λ i. count_of (ledger_in c msg) i - brought_of d k i))
          ≡ sum 16 (λ i. when o 0 (λ msg. count_of (ledger_in c msg) i) - brought_of d k i)
      by-message none = sym (sum-zero 16 _ (λ i l. omega arith))
      by-message (some msg) = refl

  -- the counts of a desk's set grow by what the step is the first to bring
  counts-grow : (d k : ℕ)
      → sum 16 (count (desk_at r d (suc k)).replica.set) ≡ sum 16 (count (desk_at r d k).replica.set) + (view_of p).brings d k
  counts-grow d k =
      sum_same 16 _ _ (λ i l. omega (arith, count_next d k i, brings-for d k i l, brought-for d k i l))
      ∙ sum-add 16 (count (desk_at r d k).replica.set) (λ i. brings_of d k i - brought_of d k i)
      ∙ ap (λ x. sum 16 (count (desk_at r d k).replica.set) + x) (sym (brings-each d k))

  -- as many as the machine's set lacked
  pub first-for : (d k : ℕ) → (view_of p).brings d k ≡ (plain_view_of r).brings d k
  first-for d k =
      omega (
        arith,
        counts-grow d k,
        size_counts k (desk_at r d k).replica.set (plain-desk d refl),
        size_counts (suc k) (desk_at r d (suc k)).replica.set (plain-desk d refl),
        size-next house (map plain steps) d k,
        brings-is house (map plain steps) d k,
        ap (λ a. length a)
            (missing-same (plain_brought house (map plain steps) d k) (desk_at r d k).replica.set (plain_brings r d k) (held house (map plain steps) d k)),
      )

  -- ---- what a desk holds

  -- the ledger that a desk holds has as many transfers as the machine's set
  pub transfers-for : (d k : ℕ) → Seated d → sum 16 (count_of (desk_at p d k).replica.ledger) ≡ length (desk_at r d k).replica.set
  transfers-for d k seated =
      ap (λ x. sum 16 (count_of x.replica.ledger)) ((stands_at house lawful steps typed k).desks d seated)
      ∙ sum_same 16 _ _ (count-below (desk_at r d k).replica.set)
      ∙ size_counts k (desk_at r d k).replica.set (plain-desk d refl)
