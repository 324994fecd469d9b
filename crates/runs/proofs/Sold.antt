-- A sale, and whatever follows it: what demand 3 says of every list of steps that begins with it. One server (n = 1, f = 0); desk 1 writes `sale`.
use Prim.Native.Nat.{ℕ, zero, suc, ◌<◌}
use native.Mathlib.Omega.{arith}
use mathlib.Core.Path.{◌≡◌, refl, sym, ap, ◌∙◌, subst}
use mathlib.Core.Logic.{inl, inr}
use mathlib.Core.Bool.{true, false, true≢false}
use mathlib.Core.List.{List, [], ◌∷◌, ◌++◌, map}
use mathlib.Core.Option.{Option, some}
use lib.ListN.{replicate}
use Rattle.config.proofs.Houses.{level-fault}
use Rattle.config.specs.Cluster.{level, house_fault, House}
use Rattle.machine.specs.Parties.{Register, below, Task, read, write, writes, Result}
use Rattle.machine.specs.Runs.{nth, told, answer_at}
use Rattle.machine.specs.Steps.{Step as PlainStep, begin as plain-begin, result as plain-result}
use Rattle.machine.specs.Views.{Current, Ends, Chose, SameTag, Source, Told}
use Rattle.machine.proofs.Computing.{computing}
use Rattle.machine.proofs.Blocks.{sale, sold, full}
use Rattle.machine.proofs.Tags.{lower-below, same-sym, same-trans, same-register}
use Rattle.machine.proofs.Performed.{current-unique}
use Rattle.machine.proofs.Concrete.{ends_of_lem, chose-of, are_bytes, typed_steps, typed-before, all_typed}
use Rattle.runs.specs.Steps.{Step, begin, ask, serve, hear, hear-lent, drop, plain, Typed}
use Rattle.runs.specs.Runs.{ProgramRun, run_of}
use Rattle.runs.specs.Seen.{view_of}
use Rattle.runs.specs.Clauses.{plain_run, plain_view}
use Rattle.runs.proofs.Consequences.{Began, Chosen, current, chose, chosen, own, own-order, own-values, own-results, own-tags, own-restarts}

-- ---- the sale

abbrev alone : House
alone = level 1 0

taken : house_fault alone ≡ 0
taken = level-fault 1 0 refl

abbrev buffer : List ℕ
buffer = replicate 32 0

-- what desk 1 is told of it
abbrev pub sale-told : Result
sale-told = record { is-write = true; register = sold; restarts = 0 }

-- it ends at place 6
abbrev sale-steps : List Step
sale-steps =
    begin 1 (write sale) 0
    ∷ ask 1 0 0 buffer
    ∷ serve 0 0 0 buffer
    ∷ hear 1 1
    ∷ ask 1 0 0 buffer
    ∷ serve 0 2 0 buffer
    ∷ hear-lent 1 3
    ∷ []

-- and is followed by anything
abbrev pub selling : List Step → List Step
selling rest = sale-steps ++ rest

selling-typed : (rest : List Step) → Typed rest → Typed (selling rest)
unfolding typed_steps are_bytes
selling-typed rest t = typed-before (map plain sale-steps) (map plain rest) refl t

-- no write is begun but at place 0
abbrev pub NoOther : ProgramRun → Type 0
NoOther p = (k d : ℕ) (w : List ℕ) (m : ℕ) → 0 < k → nth (map plain p.steps) k ≡ some (plain-begin d (write w) m) → ⊥

-- ---- what follows

module _ (rest : List Step) (rest_Typed : Typed rest) where
  typed : Typed (selling rest)
  typed = selling-typed rest rest_Typed

  abbrev p : ProgramRun
  p = run_of alone (selling rest)

  plain-ends : Ends (plain_view p) 1 0 (write sale) 6 sale-told
  unfolding computing
  plain-ends = ends_of_lem (plain_run p) 1 0 (write sale) 6 sale-told 0 3 refl refl refl refl refl refl refl

  sale-ends : Ends (view_of p) 1 0 (write sale) 6 sale-told
  sale-ends = own alone taken (selling rest) typed (λ v. Ends v 1 0 (write sale) 6 sale-told) plain-ends

  sale-chose : Chose (view_of p) 1 0 (write sale) sold
  sale-chose = (own-results alone taken (selling rest) typed).chose 1 0 6 (write sale) sale-told sale-ends

  -- An operation that begins after the sale, of whatever desk, and has a tag, running, ended or dropped, has one no lower than (1, 1); a write's is
  -- higher.
  pub later-tags : (d i : ℕ) (t : Task) (g : Register) → 6 < i → Chosen p d i t g → (below g sold ≡ false) × (writes t ≡ true → below sold g ≡ true)
  later-tags d i t g l h =
      own-order alone taken (selling rest) typed 1 0 6 (write sale) sale-told sold sale-ends sale-chose d i t g l (chose h)

  -- ---- the one write of the sale

  -- where no other is begun, a write is the sale
  only-begin : NoOther p → (k d : ℕ) (w : List ℕ) (m : ℕ) → nth (map plain (selling rest)) k ≡ some (plain-begin d (write w) m)
      → (d ≡ 1) × (k ≡ 0) × (w ≡ sale)
  only-begin none zero d w m e = (cc, refl, cc)
  only-begin none (suc k) d w m e = absurd (none (suc k) d w m (omega arith) e)

  -- so a register that is no start's and comes from a write is the sale's
  from-sale : NoOther p → (g : Register) → below g sold ≡ false → Source (view_of p) g g.value → g ≡ sold
  from-sale none g low (inl s) = absurd (true≢false (sym (lower-below g sold (inl (omega (arith, s.0)))) ∙ low))
  from-sale none g low (inr o) = same-register g sold (same-trans g o.register sold (same-sym o.register g o.tag) tag) is.2
    where
      is : (o.desk ≡ 1) × (o.begun ≡ 0) × (g.value ≡ sale)
      is = let b = o.chose.current.begun in only-begin none o.begun o.desk g.value b.note b.step

      one : o.register ≡ sold
      one =
          (own-tags alone taken (selling rest) typed).once 1 0 (write sale) o.register sold
          (subst (λ d. Chose (view_of p) d 0 (write sale) o.register) is.0
          (subst (λ j. Chose (view_of p) o.desk j (write sale) o.register) is.1
          (subst (λ w. Chose (view_of p) o.desk o.begun (write w) o.register) is.2 o.chose)))
          sale-chose

      tag : SameTag o.register sold
      tag = (ap (λ y. y.stamp) one, ap (λ y. y.desk) one)

  -- ---- reads

  -- where no other write is begun, a read that begins after the sale, and has a tag, running, ended or dropped, has the sale's register
  pub later-chosen : NoOther p → (d i : ℕ) (g : Register) → 6 < i → Chosen p d i read g → g ≡ sold
  later-chosen none d i g l h = from-sale none g (later-tags d i read g l h).0 ((own-values alone taken (selling rest) typed).source d i g (chose h))

  -- Where no other write is begun, the result that a desk is told of a read which it began after the sale is the sale.
  pub later-told : NoOther p → (d i q : ℕ) (x : Result) → 6 < i → Began p d i read q → nth (map plain (selling rest)) q ≡ some (plain-result d)
      → answer_at p q ≡ told x
      → (x.is-write ≡ false) × (x.register ≡ sold)
  later-told none d i q x l b s e = (
    (own-results alone taken (selling rest) typed).kind d i t.end read x ends,
    from-sale none x.register low ((own-values alone taken (selling rest) typed).returned d i t.end x ends),
  )
    where
      t : Told (view_of p) q x
      t = (own-restarts alone taken (selling rest) typed).reported q x e

      same-desk : {o : Option PlainStep} {y z : ℕ} → o ≡ some (plain-result y) → o ≡ some (plain-result z) → y ≡ z
      same-desk u w = cc

      at-desk : t.desk ≡ d
      at-desk = same-desk t.step s

      same : (t.begun ≡ i) × (t.task ≡ read)
      same = current-unique (subst (λ y. Current (view_of p) y t.begun t.task q) at-desk t.current) (current b)

      ends : Ends (view_of p) d i read t.end x
      ends =
          subst (λ u. Ends (view_of p) d i u t.end x) same.1
          (subst (λ j. Ends (view_of p) d j t.task t.end x) same.0
          (subst (λ y. Ends (view_of p) y t.begun t.task t.end x) at-desk t.ends))

      low : below x.register sold ≡ false
      low =
          (own-order alone taken (selling rest) typed 1 0 6 (write sale) sale-told sold sale-ends sale-chose d i read x.register l
          ((own-results alone taken (selling rest) typed).chose d i t.end read x ends)).0

-- ---- a read of the sale

-- desk 2 reads it, from place 7 to place 13
abbrev read-steps : List Step
read-steps =
    begin 2 read 0
    ∷ ask 2 0 0 buffer
    ∷ serve 0 4 0 buffer
    ∷ hear 2 5
    ∷ ask 2 0 0 buffer
    ∷ serve 0 6 0 buffer
    ∷ hear 2 7
    ∷ []

abbrev pub reading : List Step → List Step
reading rest = read-steps ++ rest

reading-typed : (rest : List Step) → Typed rest → Typed (reading rest)
unfolding typed_steps are_bytes
reading-typed rest t = typed-before (map plain read-steps) (map plain rest) refl t

abbrev pub read_told : Result
read_told = record { is-write = false; register = sold; restarts = 0 }

module _ (rest : List Step) (rest_Typed : Typed rest) where
  read-typed : Typed (selling (reading rest))
  read-typed = selling-typed (reading rest) (reading-typed rest rest_Typed)

  abbrev q : ProgramRun
  q = run_of alone (selling (reading rest))

  plain-read : Ends (plain_view q) 2 7 read 13 read_told
  unfolding computing
  plain-read = ends_of_lem (plain_run q) 2 7 read 13 read_told 0 7 refl refl refl refl refl refl refl

  read-ends : Ends (view_of q) 2 7 read 13 read_told
  read-ends = own alone taken (selling (reading rest)) read-typed (λ v. Ends v 2 7 read 13 read_told) plain-read

  -- Whatever follows: no other write ever has the tag (1, 1) that was read.
  pub only-sale : (d i : ℕ) (w : List ℕ) (g : Register) → Chosen q d i (write w) g → g.stamp ≡ 1 → g.desk ≡ 1 → (d ≡ 1) × (i ≡ 0)
  only-sale d i w g h stamp desk =
      by-source ((own-values alone taken (selling (reading rest)) read-typed).returned 2 7 13 read_told read-ends)
    where
      by-source : Source (view_of q) sold sale → (d ≡ 1) × (i ≡ 0)
      by-source (inl s) = absurd (omega (arith, s.0))
      by-source (inr o) =
          let here = o.only 1 0 sale sold (sale-chose (reading rest) (reading-typed rest rest_Typed)) (refl, refl) in
          let there = o.only d i w g (chose h) (stamp, desk) in
          (there.0 ∙ sym here.0, there.1 ∙ sym here.1)

-- ---- two desks, one after the other

-- the register of desk 2's write
abbrev over : Register
over = record { stamp = 2; desk = 2; value = full }

-- after the sale desk 2 begins a write, at place 7, has a tag after place 10, and drops it
abbrev drop-steps : List Step
drop-steps = begin 2 (write full) 0 ∷ ask 2 0 0 buffer ∷ serve 0 4 0 buffer ∷ hear 2 5 ∷ drop 2 ∷ []

drop-typed : Typed drop-steps
unfolding typed_steps are_bytes
drop-typed = all_typed (map plain drop-steps) refl

abbrev o : ProgramRun
o = run_of alone (selling drop-steps)

plain-dropped : Chose (plain_view o) 2 7 (write full) over
unfolding computing
plain-dropped = chose-of (plain_run o) 2 7 (write full) 11 over 0 refl refl refl refl refl

-- it chose, and was dropped; and its tag is above the sale's
pub dropped-chosen : Chosen o 2 7 (write full) over
dropped-chosen =
    chosen (own alone taken (selling drop-steps) (selling-typed drop-steps drop-typed) (λ v. Chose v 2 7 (write full) over) plain-dropped)

pub dropped-higher : below sold over ≡ true
dropped-higher = (later-tags drop-steps drop-typed 2 7 (write full) over (omega arith) dropped-chosen).1 refl
