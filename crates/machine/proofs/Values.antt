-- Values in every run of the machine: what a read returns is the empty start or the bytes of the one write with its tag. Each register comes from the
-- start or from a write, and no two writes have one tag; so registers with one tag are one.
use Prim.Native.Nat.{ℕ, suc, ◌≤◌}
use native.Mathlib.Omega.{arith}
use mathlib.Core.Path.{◌≡◌, refl, sym, ap, ◌∙◌, subst}
use mathlib.Core.Logic.{inl, inr}
use mathlib.Core.List.{List}
use Rattle.config.specs.Cluster.{House}
use Rattle.machine.specs.Parties.{Register, start, write}
use Rattle.machine.specs.Runs.{desk_at}
use Rattle.machine.specs.Steps.{Step, run_of, PlainRun, machine}
use Rattle.machine.specs.Seen.{view_of}
use Rattle.machine.specs.Views.{View, Begins, Chose, SameTag, Source, Values}
use Rattle.machine.proofs.Tags.{same-register}
use Rattle.machine.proofs.Performed.{gives-ended, chosen-runs}
use Rattle.machine.proofs.Registers.{write-own, write-once}
use Rattle.machine.proofs.Traces.{Written, Traced, Carries, by-operation, by_result, traced}

-- a begin is given one list of bytes
same_bytes : {v : View} {d e i j : ℕ} {a b : List ℕ} → Begins v d i (write a) → Begins v e j (write b) → i ≡ j → a ≡ b
same_bytes p q same = cc

module _ (house : House) (steps : List Step) where
  abbrev r : PlainRun
  r = run_of machine house steps

  -- the value of a register that a write chose are the bytes given to its begin
  written-value : (g : Register) (w : Written r g) → g.value ≡ w.bytes
  written-value g w = (write-own house steps w.desk w.begun w.bytes g w.chose).2

  -- ---- one tag, one register

  write-above-start : (g h : Register) → g ≡ start → Written r h → SameTag g h → ⊥
  write-above-start g h e w s =
      let positive : 1 ≤ h.stamp = (write-own house steps w.desk w.begun w.bytes h w.chose).1 in
      let z : g.stamp ≡ 0 = ap (λ y. y.stamp) e in
      omega (arith, s.0)

  written_same : (g h : Register) → Written r g → Written r h → SameTag g h → g ≡ h
  written_same g h a b s =
      let one = write-once house steps a.desk a.begun b.desk b.begun a.bytes b.bytes g h a.chose b.chose s in
      let bytes : a.bytes ≡ b.bytes = same_bytes a.chose.current.begun b.chose.current.begun one.1 in
      same-register g h s (written-value g a ∙ bytes ∙ sym (written-value h b))

  traced-same : (g h : Register) → Traced r g → Traced r h → SameTag g h → g ≡ h
  traced-same g h (inl a) (inl b) s = a ∙ sym b
  traced-same g h (inl a) (inr b) s = absurd (write-above-start g h a b s)
  traced-same g h (inr a) (inl b) s = absurd (write-above-start h g b a (sym s.0, sym s.1))
  traced-same g h (inr a) (inr b) s = written_same g h a b s

  -- of the registers held, chosen, told or sent at whatever places of a run, those with one tag are one
  pub same-tag-same-register : (k l : ℕ) (a b : Register) → Carries r k a → Carries r l b → SameTag a b → a ≡ b
  same-tag-same-register k l a b p q s = traced-same a b (traced house steps k a p) (traced house steps l b q) s

  -- ---- what a read returns

  source : (g : Register) → Traced r g → Source (view_of r) g g.value
  source g (inl e) = inl (ap (λ y. y.stamp) e, ap (λ y. y.desk) e, ap (λ y. y.value) e)
  source g (inr w) =
      inr
      (record {
        desk = w.desk;
        begun = w.begun;
        register = g;
        chose = subst (λ v. Chose (view_of r) w.desk w.begun (write v) g) (sym (written-value g w)) w.chose;
        tag = (refl, refl);
        only = λ e j v h p s. write-once house steps e j w.desk w.begun v w.bytes h g p w.chose s;
      })

  pub values : Values (view_of r)
  values =
      record {
        source =
            λ d i g h.
            let two = chosen-runs (desk_at r d h.place).activity g h.phase-two in
            source g (traced house steps h.place g (by-operation d two.operation two.runs two.phase-two));
        returned =
            λ d i k x h.
            let is = (gives-ended house steps d (suc k) x h.after).1 in
            source x.register (traced house steps (suc k) x.register (by_result d x is refl));
      }
