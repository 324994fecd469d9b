-- Every field of every message that a run of the machine sends is within the ranges of the byte table, and every record that it holds is one that the
-- record test takes. A register comes from the start or from a write, which was given its bytes at its begin and found a stamp left; sets are within
-- their ranges because they are closed.
use Prim.Native.Nat.{ℕ, ◌≤◌, ◌<◌, ◌^◌}
use native.Mathlib.Omega.{arith}
use mathlib.Core.Path.{◌≡◌, refl, sym, ap, ◌∙◌, subst}
use mathlib.Core.Logic.{◌⊎◌, inl, inr, ⊎_elim}
use mathlib.Core.Bool.{true}
use mathlib.Core.List.{List}
use lib.ListN.{length}
use Rattle.config.specs.Cluster.{House, config_of, lawful_of, stamp_bytes, most_stamp}
use Rattle.config.specs.declared.cluster.Config.{Config}
use Rattle.machine.specs.Parties.{Register, start, Replica, Message, write, value_of, second, Operation, Result, running, ended, Desk}
use Rattle.machine.specs.Runs.{at, desk_at}
use Rattle.machine.specs.Calls.{most_value}
use Rattle.machine.specs.Steps.{Step, run_of, PlainRun, machine}
use Rattle.machine.specs.Typed.{Bytes, Typed}
use Rattle.machine.proofs.Lists.{In}
use Rattle.machine.proofs.Moves.{PlainState, Seated}
use Rattle.machine.proofs.Performed.{running-origin, current-unique, chosen-runs}
use Rattle.machine.proofs.Registers.{write-own}
use Rattle.machine.proofs.Traces.{Written, Carries, by-server, by-desk, by-operation, by_result, by-message, traced}
use Rattle.machine.proofs.Histories.{Closed}
use Rattle.machine.proofs.Always.{history_at, invariant}
use Rattle.machine.proofs.WorkRanges.{HeadRange, WorkRange, OperationRange, ActivityRange, kept}
use Rattle.machine.proofs.SetRanges.{SetRange, closed-range}

-- ---- the ranges

-- a register is the start, or has a stamp and a desk from 1; its value has up to 64 bytes
pub record RegisterRange (c : Config) (g : Register) : Type 0 where
  pub tag : (g ≡ start) ⊎ ((1 ≤ g.stamp) × (g.stamp ≤ most_stamp c) × Seated g.desk)
  pub short : length g.value ≤ most_value
  pub bytes : Bytes g.value

-- what a party holds or a message carries
pub record ReplicaRange (c : Config) (x : Replica) : Type 0 where
  pub register : RegisterRange c x.register
  pub set : SetRange c x.set

-- a message: its head, and what it carries
pub record MessageRange (c : Config) (m : Message) : Type 0 where
  pub head : HeadRange c m
  pub replica : ReplicaRange c m.replica

-- desk d: what it does, what it holds, and the register that phase 1 chose, while phase 2 runs and as a result
pub record DeskRange (c : Config) (sent : List Message) (d : ℕ) (x : Desk) : Type 0 where
  pub work : WorkRange c sent d x
  pub replica : ReplicaRange c x.replica
  pub chosen : (o : Operation) (g : Register) → x.activity ≡ running o → o.phase ≡ second g → RegisterRange c g
  pub told : (y : Result) → x.activity ≡ ended y → RegisterRange c y.register

-- servers, desks, and the messages sent
pub record StateRange (c : Config) (s : PlainState) : Type 0 where
  pub servers : (i : ℕ) → ReplicaRange c (s.servers i)
  pub desks : (d : ℕ) → DeskRange c s.sent d (s.desks d)
  pub messages : (m : Message) → In m s.sent → MessageRange c m

-- a stamp has 32 bits
pub stamp-fits : (c : Config) (g : Register) → RegisterRange c g → g.stamp < 2 ^ 32
unfolding most_stamp stamp_bytes
stamp-fits c g w =
    ⊎_elim (λ (e : g ≡ start). omega (arith, ap (λ z. z.stamp) e))
    (λ (e : (1 ≤ g.stamp) × (g.stamp ≤ most_stamp c) × Seated g.desk). omega (arith, e.1))
    w.tag

module _ (house : House) (steps : List Step) (typed : Typed steps) where
  abbrev c : Config
  c = config_of house

  abbrev r : PlainRun
  r = run_of machine house steps

  -- ---- registers

  start-range : (g : Register) → g ≡ start → RegisterRange c g
  start-range g e = subst (RegisterRange c) (sym e) (record { tag = inl refl; short = omega arith; bytes = λ k. omega arith })

  -- a write's register has its desk's number and its bytes, and a stamp that was left
  written-range : (g : Register) → Written r g → RegisterRange c g
  written-range g w =
      let two = chosen-runs (desk_at r w.desk w.chose.place).activity g w.chose.phase-two in
      let o = two.operation in
      let own = write-own house steps w.desk w.begun w.bytes g w.chose in
      let task : o.task ≡ write w.bytes =
      (current-unique (running-origin house steps w.desk w.chose.place o two.runs).current w.chose.current).1 in
      let range : OperationRange c (at r w.chose.place).sent w.desk (desk_at r w.desk w.chose.place).round o =
      subst (ActivityRange c (at r w.chose.place).sent w.desk (desk_at r w.desk w.chose.place).round) two.runs
      ((kept house steps typed w.chose.place).desks w.desk).activity in
      let value : value_of o.task ≡ g.value = ap value_of task ∙ sym own.2 in
      record {
        tag = inr (own.1, range.stamp w.bytes g task two.phase-two, subst Seated (sym own.0) range.seated);
        short = subst (λ v. length v ≤ most_value) value range.short;
        bytes = subst Bytes value range.bytes;
      }

  pub register-range : (k : ℕ) (g : Register) → Carries r k g → RegisterRange c g
  register-range k g p = ⊎_elim (λ (e : g ≡ start). start-range g e) (λ (w : Written r g). written-range g w) (traced house steps k g p)

-- ---- after every step of every run

pub ranges : (house : House) → lawful_of (config_of house) ≡ true → (steps : List Step) → Typed steps → (k : ℕ)
    → StateRange (config_of house) (at (run_of machine house steps) k)
ranges house lawful steps typed k =
    let inv = invariant house lawful steps k in
    let now = kept house steps typed k in
    let replica : (x : Replica) → Carries (run_of machine house steps) k x.register → Closed (history_at house steps k) x.set → ReplicaRange (config_of house) x =
    λ x g a. record { register = register-range house steps typed k x.register g; set = closed-range (config_of house) lawful inv.lawful a } in
    record {
      servers = λ i. replica _ (by-server i refl) (inv.servers i).closed;
      desks =
          λ d.
          record {
            work = now.desks d;
            replica = replica _ (by-desk d refl) (inv.desks d).closed;
            chosen = λ o g e f. register-range house steps typed k g (by-operation d o e f);
            told = λ y e. register-range house steps typed k y.register (by_result d y e refl);
          };
      messages = λ m i. record { head = now.heads m i; replica = replica _ (by-message m i refl) (inv.messages m i).closed };
    }
