-- How a clause is refuted on a run, and how a store is told from the plain machine.
use Prim.Native.Nat.{ℕ, ◌+◌}
use mathlib.Core.Path.{◌≡◌, refl, ap, sym, ◌∙◌}
use mathlib.Core.Bool.{true, false, true≢false}
use mathlib.Core.List.{List}
use borrow.Author.Tests.{ltb-true, eqb-false}
use lib.Dec.{eqb, ltb}
use Rattle.config.specs.Cluster.{in_bounds, level}
use Rattle.config.proofs.Houses.{level-fault}
use Rattle.machine.specs.Parties.{Register, below, Task, write, Result}
use Rattle.machine.specs.Runs.{Answer, unmade, late, refused, done, wrote, told, answer_at}
use Rattle.machine.specs.Steps.{Step, Store, machine}
use Rattle.machine.specs.Views.{View, Ends, Chose, Order}
use Rattle.nearmiss.specs.Steps.{run_by, SameAnswers}

-- an operation that ended, and a later one with a lower tag
pub lower-tag : {v : View} {d i k : ℕ} {t : Task} {x : Result} {a : Register} {e j : ℕ} {u : Task} {b : Register}
    → Ends v d i t k x → Chose v d i t a → ltb k j ≡ true → Chose v e j u b → below b a ≡ true → Order v → ⊥
lower-tag {v} {d} {i} {k} {t} {x} {a} {e} {j} {u} {b} ends chose l later lower order =
    true≢false (sym lower ∙ (order d i k t x a ends chose e j u b (ltb-true k j l) later).0)

-- an operation that ended, and a later write whose tag is no higher
pub not-higher : {v : View} {d i k : ℕ} {t : Task} {x : Result} {a : Register} {e j : ℕ} {w : List ℕ} {b : Register}
    → Ends v d i t k x → Chose v d i t a → ltb k j ≡ true → Chose v e j (write w) b → below a b ≡ false → Order v → ⊥
not-higher {v} {d} {i} {k} {t} {x} {a} {e} {j} {w} {b} ends chose l later lower order =
    true≢false (sym ((order d i k t x a ends chose e j (write w) b (ltb-true k j l) later).1 refl) ∙ lower)

-- ---- the equality of answers

-- answers told apart by a number
abbrev pub code_of : Answer → ℕ
code_of unmade = 0
code_of late = 1
code_of (refused k) = 2
code_of done = 3
code_of (told x) = 4
code_of (wrote k) = 5 + k

-- on a list of steps a store answers a at place k where the plain machine answers b, and so it is not the machine's equal
pub record Unequal (p : Store) (n f : ℕ) (l : List Step) (k : ℕ) (a b : Answer) : Type 0 where
  pub theirs : answer_at (run_by p n f l) k ≡ a
  pub ours : answer_at (run_by machine n f l) k ≡ b
  pub differs : SameAnswers p → ⊥

pub unequal : {p : Store} {n f : ℕ} {l : List Step} {k : ℕ} {a b : Answer} → answer_at (run_by p n f l) k ≡ a → answer_at (run_by machine n f l) k ≡ b
    → in_bounds n f ≡ true → eqb (code_of a) (code_of b) ≡ false → Unequal p n f l k a b
unequal {p} {n} {f} {l} {k} {a} {b} theirs ours v apart =
    record {
      theirs = theirs;
      ours = ours;
      differs = λ h. eqb-false (code_of a) (code_of b) apart (ap code_of (sym theirs ∙ h (level n f) (level-fault n f v) l k ∙ ours));
    }
