-- While an operation runs, the servers that its desk heard in this round are no quorum on the desk's own set: on a quorum the phase has ended, and the next
-- one begins with nobody. So what desk staff see is never above zero (paper 02, N1).
use Prim.Native.Nat.{ℕ, zero, suc}
use native.Mathlib.Omega.{arith}
use mathlib.Core.Path.{◌≡◌, refl, sym, ap, ◌∙◌, subst}
use mathlib.Core.Bool.{false}
use mathlib.Core.List.{List, []}
use mathlib.Core.Option.{none, some, none-ne-some, some-injective}
use lib.IntN.{ℤ, pos}
use lib.Signed.{lt_z}
use Rattle.quorums.specs.Accounts.{margin, quorum}
use Rattle.quorums.proofs.Margins.{nobody-quorum}
use Rattle.config.specs.Cluster.{House, config_of}
use Rattle.config.specs.declared.cluster.Config.{Config}
use Rattle.machine.specs.Sets.{Transfers, accounts, quorum_of}
use Rattle.machine.specs.Parties.{Operation, Activity, idle, running, ended, if-running, Desk, answered}
use Rattle.machine.specs.Runs.{at, desk_at}
use Rattle.machine.specs.Margins.{margin_of, margin_by}
use Rattle.machine.specs.Steps.{machine, Step, run_of}
use Rattle.machine.proofs.Desks.{desk-moved}
use Rattle.machine.proofs.Performed.{running-ended}

module _ (c : Config) where
  -- the servers heard are no quorum on a set
  abbrev Short : Transfers → Operation → Type 0
  Short a o = quorum_of c a (answered o.heard) ≡ false

  abbrev pub Waits : Desk → Type 0
  Waits x = (o : Operation) → x.activity ≡ running o → Short x.replica.set o

  -- nobody was heard
  nobody : (a : Transfers) → quorum_of c a (answered []) ≡ false
  unfolding quorum_of answered
  nobody a = nobody-quorum c.n _ (answered []) (λ i l. refl)

  -- the operation that runs
  waiting : (a : Transfers) (p : Operation) → Short a p → (o : Operation) → running p ≡ running o → Short a o
  waiting a p short o e = let same : p ≡ o = cc in subst (Short a) same short

module _ (house : House) where
  abbrev c : Config
  c = config_of house

  pub waits : (steps : List Step) (d k : ℕ) → Waits c (desk_at (run_of machine house steps) d k)
  unfolding at
  waits steps d zero = λ o e. let z : ◌≡◌ {A = ℕ} 0 1 = cc in absurd (omega arith)
  waits steps d (suc k) =
      desk-moved house steps d k (λ t. Waits c)
      (record {
        still = waits steps d k;
        begins = λ t note b l rests room. waiting c _ _ (nobody c _);
        drops = λ o f p e. let z : ◌≡◌ {A = ℕ} 0 1 = cc in absurd (omega arith);
        restarts = λ p m o h i room. waiting c _ _ (nobody c _);
        marks = λ p m o h i q. waiting c _ _ q;
        chooses = λ p m o h i q f room w. waiting c _ _ (nobody c _);
        ends = λ p m o g s h i q f u e. absurd (running-ended e refl);
      })

  -- so the number shown is never above zero
  pub shown-below : (steps : List Step) (d k : ℕ) (y : ℤ) → margin_by c (desk_at (run_of machine house steps) d k) ≡ some y → lt_z (pos 0) y ≡ false
  unfolding margin_by margin_of quorum_of quorum
  shown-below steps d k y = by-activity x.activity refl
    where
      x : Desk
      x = desk_at (run_of machine house steps) d k

      by-activity : (a : Activity) → x.activity ≡ a
          → if-running a (λ o. some (margin c.n (accounts c x.replica.set) (answered o.heard))) none ≡ some y
          → lt_z (pos 0) y ≡ false
      by-activity idle e f = absurd (none-ne-some y f)
      by-activity (running o) e f = ap (lt_z (pos 0)) (sym (some-injective _ _ f)) ∙ waits steps d k o e
      by-activity (ended z) e f = absurd (none-ne-some y f)
