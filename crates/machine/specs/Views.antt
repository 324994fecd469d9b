-- What the clauses of demand 3 look at in a run, whether of the plain machine, of another store or of the program; and, seen so, when an operation begins
-- and ends, what its tag is, the restarts that it made, and the clauses (paper 01, "The runs of demand 3").
use Rattle.std.specs.Prelude.{ℕ, suc, ◌+◌, ◌≤◌, ◌<◌, ◌≡◌, ◌⊎◌, true, false, cond, List, [], ltb}
use Rattle.std.proofs.Math.Option.{Option, some}
use Rattle.quorums.specs.Sum.{sum}
use Rattle.format.specs.Bytes.{stands}
use Rattle.machine.specs.Parties.{Register, below, Task, read, write, writes, Result}
use Rattle.machine.specs.Runs.{nth, Answer, done, told}
use Rattle.machine.specs.Steps.{Step, begin, hear, result}

pub record View : Type 0 where
  pub steps : List Step
  -- what step k answers
  pub answers : ℕ → Answer
  -- what a result call of desk d would answer after the first k steps
  pub gives : ℕ → ℕ → Answer
  -- what phase 1 chose, where the operation of desk d is in phase 2 after the first k steps
  pub chosen : ℕ → ℕ → Option Register
  -- how many transfers step k is the first to bring to desk d, of all the hears of that desk, in whatever operation, that were neither refused nor late
  pub brings : ℕ → ℕ → ℕ
  -- how many transfers the sheet of desk d has after the first k steps
  pub holds : ℕ → ℕ → ℕ

-- ---- operations

-- An operation is a desk and the place of its begin in the list.

-- desk d begins an operation at place i: an accepted begin
pub record Begins (v : View) (d i : ℕ) (t : Task) : Type 0 where
  pub note : ℕ
  pub step : nth v.steps i ≡ some (begin d t note)
  pub taken : v.answers i ≡ done

-- the operation that desk d began at place i is the last one that it began before place k
pub record Current (v : View) (d i : ℕ) (t : Task) (k : ℕ) : Type 0 where
  pub begun : Begins v d i t
  pub earlier : i < k
  pub last : (p : ℕ) (u : Task) → i < p → p < k → Begins v d p u → ⊥

-- The operation of desk d from place i ends at place k with the result x: step k is the hear before which a result call would tell nothing, and after
-- which it would tell x.
pub record Ends (v : View) (d i : ℕ) (t : Task) (k : ℕ) (x : Result) : Type 0 where
  pub current : Current v d i t k
  pub message : ℕ
  pub step : nth v.steps k ≡ some (hear d message)
  pub before : (y : Result) → v.gives d k ≡ told y → ⊥
  pub after : v.gives d (suc k) ≡ told x

-- The operation of desk d from place i chose the register g in phase 1: at some place it is in phase 2 with g. Its tag is that of g.
pub record Chose (v : View) (d i : ℕ) (t : Task) (g : Register) : Type 0 where
  pub place : ℕ
  pub current : Current v d i t place
  pub phase-two : v.chosen d place ≡ some g

-- The restarts made by the operation of desk d from place i up to place k: the hears during it whose reply had a transfer that no earlier hear of
-- that desk had brought.
unfoldable pub restarts_made : View → ℕ → ℕ → ℕ → ℕ
restarts_made v d i k = sum (suc k) (λ p. cond (ltb i p) (stands (v.brings d p)) 0)

-- the gain: how many transfers were first brought by them
unfoldable pub gain : View → ℕ → ℕ → ℕ → ℕ
gain v d i k = sum (suc k) (λ p. cond (ltb i p) (v.brings d p) 0)

-- ---- order of tags

infix 50 ◌≼◌
-- the tag of a is no higher than that of b
abbrev pub ◌≼◌ : Register → Register → Type 0
a ≼ b = below b a ≡ false

-- If A ended before B began, B's tag is no lower than A's, and higher where B writes.
abbrev pub Order : View → Type 0
Order v =
    (d i k : ℕ) (t : Task) (x : Result) (a : Register) → Ends v d i t k x → Chose v d i t a
    → (e j : ℕ) (u : Task) (b : Register) → k < j → Chose v e j u b → (a ≼ b) × (writes u ≡ true → below a b ≡ true)

-- ---- values

-- two registers with one tag
abbrev pub SameTag : Register → Register → Type 0
SameTag a b = (a.stamp ≡ b.stamp) × (a.desk ≡ b.desk)

-- exactly one write in the list has the tag of g: desk e's, begun at place j with `bytes`
pub record OneWrite (v : View) (g : Register) (bytes : List ℕ) : Type 0 where
  pub desk : ℕ
  pub begun : ℕ
  pub register : Register
  pub chose : Chose v desk begun (write bytes) register
  pub tag : SameTag register g
  pub only : (e j : ℕ) (w : List ℕ) (h : Register) → Chose v e j (write w) h → SameTag h g → (e ≡ desk) × (j ≡ begun)

-- g has the start's tag and w is empty, or exactly one write has its tag, and w are the bytes given to that write's begin
abbrev pub Source : View → Register → List ℕ → Type 0
Source v g w = ((g.stamp ≡ 0) × (g.desk ≡ 0) × (w ≡ [])) ⊎ OneWrite v g w

-- The tag of every read that has one, running, ended or dropped, is the start's, or exactly one write has it; and one that ended returned the empty
-- start, or exactly the bytes given to that write.
pub record Values (v : View) : Type 0 where
  pub source : (d i : ℕ) (g : Register) → Chose v d i read g → Source v g g.value
  pub returned : (d i k : ℕ) (x : Result) → Ends v d i read k x → Source v x.register x.register.value

-- ---- results, tags and restarts

-- what an operation that ended tells: its kind and its own tag
pub record Results (v : View) : Type 0 where
  pub kind : (d i k : ℕ) (t : Task) (x : Result) → Ends v d i t k x → x.is-write ≡ writes t
  pub chose : (d i k : ℕ) (t : Task) (x : Result) → Ends v d i t k x → Chose v d i t x.register
  pub tag : (d i k : ℕ) (t : Task) (x : Result) (g : Register) → Ends v d i t k x → Chose v d i t g → g ≡ x.register

-- A write's tag is its own: it has its desk's number, a stamp of at least 1, and the bytes given to its begin; and an operation, ended or not, chooses
-- once.
pub record Tags (v : View) : Type 0 where
  pub own : (d i : ℕ) (w : List ℕ) (g : Register) → Chose v d i (write w) g → (g.desk ≡ d) × (1 ≤ g.stamp) × (g.value ≡ w)
  pub once : (d i : ℕ) (t : Task) (g h : Register) → Chose v d i t g → Chose v d i t h → g ≡ h

-- the operation whose result desk d tells at place q
pub record Told (v : View) (q : ℕ) (x : Result) : Type 0 where
  pub desk : ℕ
  pub begun : ℕ
  pub task : Task
  pub end : ℕ
  pub step : nth v.steps q ≡ some (result desk)
  pub current : Current v desk begun task q
  pub ends : Ends v desk begun task end x
  pub earlier : end < q

-- Every result told is that of the desk's last operation, and the restarts that it reports are those made, and at most the gain, which is by how
-- much the desk's sheet grew during the operation.
pub record Restarts (v : View) : Type 0 where
  pub reported : (q : ℕ) (x : Result) → v.answers q ≡ told x → Told v q x
  pub made : (d i k : ℕ) (t : Task) (x : Result) → Ends v d i t k x → x.restarts ≡ restarts_made v d i k
  pub gained : (d i k : ℕ) → restarts_made v d i k ≤ gain v d i k
  pub growth : (d i k : ℕ) (t : Task) (x : Result) → Ends v d i t k x → v.holds d i + gain v d i k ≡ v.holds d (suc k)
