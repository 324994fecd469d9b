-- Linearizability of a run, over what is seen of it: the operations that take effect stand in one order, which keeps that of the list, and in which
-- each read returns what the last write before it wrote.
use Rattle.std.specs.Prelude.{ℕ, ◌<◌, ◌≡◌, ◌⊎◌, true, cond, List, []}
use Rattle.machine.specs.Parties.{Register, below, Task, read, write, writes, Result}
use Rattle.machine.specs.Views.{View, Ends, Chose, SameTag}

-- ---- effects

-- An operation takes effect if it ended, or if it is a write that has a tag, which may still run or have been dropped.
pub data Takes (v : View) (d i : ℕ) (t : Task) : Type 0 where
  by_end : (k : ℕ) (x : Result) → Ends v d i t k x → Takes v d i t
  by-tag : (g : Register) → writes t ≡ true → Chose v d i t g → Takes v d i t

-- an effect is a desk and the place of its begin
pub record Effect (v : View) : Type 0 where
  pub desk : ℕ
  pub begun : ℕ
  pub task : Task
  pub takes : Takes v desk begun task

-- both are one operation
abbrev pub Same : {v : View} → Effect v → Effect v → Type 0
Same a b = (a.desk ≡ b.desk) × (a.begun ≡ b.begun)

-- ---- an order of effects

module _ (v : View) (Before : Effect v → Effect v → Type 0) where
  -- the last write before a wrote the bytes w
  pub record LastWrite (a : Effect v) (w : List ℕ) : Type 0 where
    pub by : Effect v
    pub wrote : by.task ≡ write w
    pub before : Before by a
    pub last : (b : Effect v) → writes b.task ≡ true → Before b a → Before b by ⊎ Same b by

  -- no write is before a
  abbrev pub Unwritten : Effect v → Type 0
  Unwritten a = (b : Effect v) → writes b.task ≡ true → Before b a → ⊥

  pub record Linear : Type 0 where
    -- it is a strict total order
    pub strict : (a b : Effect v) → Before a b → Same a b → ⊥
    pub transitive : (a b e : Effect v) → Before a b → Before b e → Before a e
    pub total : (a b : Effect v) → Before a b ⊎ (Before b a ⊎ Same a b)
    -- what ended before another began comes before it
    pub real-time : (a b : Effect v) (k : ℕ) (x : Result) → Ends v a.desk a.begun a.task k x → k < b.begun → Before a b
    -- a read that ended returned what the last write before it wrote, or the empty start where there is none
    pub reads : (a : Effect v) (k : ℕ) (x : Result) → Ends v a.desk a.begun read k x
        → LastWrite a x.register.value ⊎ (Unwritten a × (x.register.value ≡ []))

-- ---- the order of tags

-- the register that an effect chose
abbrev pub register_in : {v : View} {d i : ℕ} {t : Task} → Takes v d i t → Register
register_in (by_end k x e) = x.register
register_in (by-tag g w h) = g

abbrev pub register_of : {v : View} → Effect v → Register
register_of a = register_in a.takes

-- of one tag the write stands first
abbrev pub rank : Task → ℕ
rank t = cond (writes t) 0 1

-- then the reads by the place of their begin
abbrev pub Next : {v : View} → Effect v → Effect v → Type 0
Next a b = (rank a.task < rank b.task) ⊎ ((rank a.task ≡ rank b.task) × (a.begun < b.begun))

-- by tag, and of one tag so
abbrev pub ByTag : (v : View) → Effect v → Effect v → Type 0
ByTag v a b = (below (register_of a) (register_of b) ≡ true) ⊎ (SameTag (register_of a) (register_of b) × Next a b)
