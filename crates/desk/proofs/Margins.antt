-- What desk staff see of an operation that runs (paper 02, N1): a number from −W to W, and one that is not above zero tells how much weight is missing. In a
-- record that was opened and has been through calls only it is never above zero.
use Rattle.std.specs.Prelude.{Ok, Err}
use Rattle.std.specs.Result.{result_or}
use Prim.Native.Nat.{ℕ, ◌/◌, ◌<◌}
use native.Mathlib.Omega.{arith}
use mathlib.Core.Path.{◌≡◌, refl, sym, ap, ◌∙◌}
use mathlib.Core.Bool.{Bool, true, false, cond, false≢true}
use mathlib.Core.List.{List}
use borrow.Author.Tests.{eqb-true}
use lib.Dec.{eqb}
use lib.IntN.{ℤ, pos}
use lib.Signed.{lt_z}
use Rattle.quorums.specs.Difference.{difference}
use Rattle.quorums.proofs.Tests.{chosen-first, test-false}
use Rattle.quorums.proofs.Margins.{missing-one, nobody-quorum}
use Rattle.config.specs.Cluster.{House, config_of, lawful_of}
use Rattle.config.proofs.Clusters.{lawful-valid}
use Rattle.config.specs.Refusals.{Verdict, refusal, by-verdict}
use Rattle.config.specs.declared.answer.Refusal.{Refusal}
use Rattle.config.specs.declared.cluster.Config.{Config}
use Rattle.ledger.specs.declared.ledger.Ledger.{Ledger}
use Rattle.ledger.specs.Ledgers.{accounts_of}
use Rattle.ledger.specs.Checks.{check_answer}
use Rattle.ledger.specs.Maps.{named}
use Rattle.ledger.specs.Sums.{margin_answer}
use Rattle.ledger.specs.Weights.{weight_of, margin_of as margin_on, quorum_of}
use Rattle.ledger.proofs.Answers.{signed-not-refused, quorum-margin}
use Rattle.ledger.proofs.Maps.{below-named}
use Rattle.ledger.proofs.Margins.{Within, margin-within}
use Rattle.replica.specs.Replicas.{fits as fits_replica}
use Rattle.replica.specs.Registers.{register_fits}
use Rattle.replica.proofs.Replicas.{fits_told as holds-told}
use Rattle.replica.proofs.Told.{passed-fits, refused-fits}
use Rattle.desk.specs.declared.record.Desk.{Desk}
use Rattle.desk.specs.declared.record.DeskAnswer.{DeskAnswer}
use Rattle.desk.specs.declared.record.Heard.{Heard}
use Rattle.desk.specs.Operations.{running}
use Rattle.desk.specs.Desks.{fits, sound, accepted, refused, fresh_desk, blank_desk, opens, open_of}
use Rattle.desk.specs.Begins.{begin_of, drop_of}
use Rattle.desk.specs.Hears.{marked, hear_of}
use Rattle.desk.specs.Margins.{margin_of, weighed_of}
use Rattle.desk.proofs.Desks.{fits_told, sound-first}
use Rattle.desk.proofs.Begins.{begin-cases, drop-cases}
use Rattle.desk.proofs.Marks.{marked-names}
use Rattle.desk.proofs.Heeded.{hear-cases}

-- a number is told of a record that passes its test, while an operation runs
pub record MarginTold (x : Desk) (y : ℤ) : Type 0 where
  pub sound : fits x ≡ true
  pub runs : x.operation.mode ≡ running
  pub is : y ≡ margin_on x.config x.replica.ledger x.operation.answered

pub margin-told : (x : Desk) (y : ℤ) → margin_of x ≡ Ok y → MarginTold x y
unfolding margin_of
margin-told x y e =
    let passes = chosen-first (fits x) _ _ _ (λ d. signed-not-refused _ _ (sym d)) e in
    let runs = chosen-first (eqb x.operation.mode running) _ _ _ (λ d. signed-not-refused _ _ (sym d)) passes.1 in
    record { sound = passes.0; runs = eqb-true _ _ runs.0; is = cc }

-- from −W to W, whatever else the record holds
pub told-within : (x : Desk) (y : ℤ) → margin_of x ≡ Ok y → Within x.config y
told-within x y e =
    let t = margin-told x y e in
    let held = holds-told x.config x.replica (fits_told x t.sound).replica-fits in
    rw t.is (margin-within x.config x.replica.ledger x.operation.answered (lawful-valid x.config held.lawful) held.ledger-bounded held.ledger-above)

-- Where it is −y, one server more that answers on the desk's sheet makes a quorum exactly when it weighs more than y / 2, rounded down: the weight still
-- missing is that and one more.
pub told-missing : (x : Desk) (y i : ℕ) → margin_of x ≡ Ok (difference 0 y) → i < x.config.n → named x.operation.answered i ≡ false
    → quorum_of x.config x.replica.ledger (marked x.operation.answered i) ≡ lt_z (pos (y / 2)) (weight_of x.config x.replica.ledger i)
unfolding margin_on quorum_of weight_of
told-missing x y i e l new =
    missing-one x.config.n (accounts_of x.config x.replica.ledger) (named x.operation.answered) y i l new
    (sym (margin-told x _ e).is) (named (marked x.operation.answered i)) (marked-names x.operation.answered i)

-- ---- what is weighed is the record test, and finds the margin

module _ (x : Desk) (m : ℕ) where
  pub unfit-weighed : fits x ≡ false → Err (refusal 1) ≡ weighed_of x m
  unfolding weighed_of
  unfit-weighed e = rw e refl

  pub unheld-weighed : register_fits x.config x.replica.register ≡ false → Err (refusal 1) ≡ weighed_of x m
  unheld-weighed e =
      unfit-weighed
      (test-false (fits x) (λ t. false≢true (sym e ∙ (holds-told x.config x.replica (fits_told x t).replica-fits).register-fits)))

  -- a light ledger, or one out of its ranges, is told by one refusal with all else
  pub held-weighed : sound x ≡ true → register_fits x.config x.replica.register ≡ true
      → result_or (margin_answer x.config x.replica.ledger m) (Err (refusal 1)) ≡ weighed_of x m
  unfolding margin_answer weighed_of
  held-weighed s r = rw (sound-first x, s) (by-verdicts (check_answer x.config x.replica.ledger) refl)
    where
      by-verdicts : (v : Verdict) → check_answer x.config x.replica.ledger ≡ v
          → result_or (by-verdict v (Ok (margin_on x.config x.replica.ledger m)) Err) (Err (refusal 1))
          ≡ cond (fits_replica x.config x.replica) (Ok (margin_on x.config x.replica.ledger m)) (Err (refusal 1))
      by-verdicts (Ok _) e = rw (← passed-fits x.config x.replica e, r) refl
      by-verdicts (Err k) e = rw (← refused-fits x.config x.replica k e) refl

-- what was weighed of a record that passes its test
pub weighed-told : (x : Desk) (m : ℕ) (y : ℤ) → weighed_of x m ≡ Ok y → (fits x ≡ true) × (y ≡ margin_on x.config x.replica.ledger m)
unfolding weighed_of
weighed-told x m y e = let t = chosen-first (fits x) _ _ _ (λ d. signed-not-refused _ _ (sym d)) e in (t.0, cc)

pub weighed-unfit : (x : Desk) (m : ℕ) (k : Refusal) → weighed_of x m ≡ Err k → (fits x ≡ false) × (k ≡ refusal 1)
unfolding weighed_of
weighed-unfit x m k = by-test (fits x) refl
  where
    by-test : (b : Bool) → fits x ≡ b → cond b (Ok (margin_on x.config x.replica.ledger m)) (Err (refusal 1)) ≡ Err k → (b ≡ false) × (k ≡ refusal 1)
    by-test true d e = cc
    by-test false d e = (refl, cc)

-- ---- through the calls

-- while an operation runs, no quorum has answered
abbrev pub Waits : Desk → Type 0
Waits x = x.operation.mode ≡ running → quorum_of x.config x.replica.ledger x.operation.answered ≡ false

nobody : (c : Config) (l : Ledger) → quorum_of c l 0 ≡ false
unfolding quorum_of
nobody c l = nobody-quorum c.n (accounts_of c l) (named 0) (λ i h. below-named 0 0 i (omega arith) (omega arith))

-- A record that was opened and has been through calls only is such a one, whatever bytes it heard.

pub open-waits : (h : House) (d : ℕ) → Waits (open_of h d).desk
unfolding open_of
open-waits h d = by_tests (opens (config_of h) d) (lawful_of (config_of h))
  where
    by_tests : (b l : Bool) → Waits (cond b (cond l (accepted (fresh_desk (config_of h) d)) (refused (refusal 15) blank_desk)) (refused (refusal 1) blank_desk)).desk
    by_tests true true = λ m. let z : ◌≡◌ {A = ℕ} 0 1 = m in absurd (omega arith)
    by_tests true false = λ m. let z : ◌≡◌ {A = ℕ} 0 1 = m in absurd (omega arith)
    by_tests false l = λ m. let z : ◌≡◌ {A = ℕ} 0 1 = m in absurd (omega arith)

pub begin-waits : (x : Desk) (kind : ℕ) (v : List ℕ) (note : ℕ) → Waits x → Waits (begin_of x kind v note).desk
begin-waits x kind v note w =
    begin-cases (λ (a : DeskAnswer). Waits a.desk) x kind v note (λ k. w) (λ l r m. nobody x.config x.replica.ledger)

pub hear-waits : (x : Desk) (msg : List ℕ) → Waits x → Waits (hear_of x msg).desk
hear-waits x msg w =
    hear-cases (λ (h : Heard). Waits h.desk) x (λ k. w) msg w
    (λ f a s.
    record {
      restarts = λ r m. nobody x.config _;
      chooses = λ r n m. nobody x.config _;
      finishes = λ m. let z : ◌≡◌ {A = ℕ} 2 1 = m in absurd (omega arith);
      waits = λ q m. q;
    })

pub drop-waits : (x : Desk) → Waits x → Waits (drop_of x).desk
drop-waits x w = drop-cases (λ (a : DeskAnswer). Waits a.desk) x (λ k. w) (λ r m. let z : ◌≡◌ {A = ℕ} 0 1 = m in absurd (omega arith))

-- so its number is never above zero
pub waits-below : (x : Desk) (y : ℤ) → Waits x → margin_of x ≡ Ok y → lt_z (pos 0) y ≡ false
waits-below x y w e =
    let t = margin-told x y e in
    ap (lt_z (pos 0)) t.is ∙ sym (quorum-margin x.config x.replica.ledger x.operation.answered) ∙ w t.runs
