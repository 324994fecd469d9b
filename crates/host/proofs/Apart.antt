-- No answer is taken for a refusal: a refusal's code is below −1,000,000; every weight that is told is above 0, and every margin (paper 02, N1) lies from
-- −W to W, where W is at most 16,000.
use Rattle.std.specs.Prelude.{Ok}
use Prim.Native.Nat.{ℕ, ◌+◌, ◌*◌, ◌-◌, ◌≤◌, ◌<◌}
use native.Mathlib.Nat.{mul-le-mul_right}
use native.Mathlib.Omega.{arith}
use mathlib.Core.Path.{◌≡◌, sym, ap, ◌∙◌}
use mathlib.Core.Logic.{⊎_elim}
use mathlib.Core.Bool.{true, false}
use mathlib.Core.List.{List}
use borrow.Author.Tests.{eqb-true, ltb-true, lt-ltb}
use lib.Dec.{eqb}
use lib.IntN.{ℤ, pos, negsuc}
use lib.Signed.{lt_z}
use Rattle.quorums.proofs.Tests.{both, le-or-lt, chosen-first}
use Rattle.quorums.specs.Accounts.{held, weight}
use Rattle.quorums.proofs.Differences.{lt-difference, difference-down, difference-back}
use Rattle.quorums.proofs.Margins.{lacks}
use Rattle.quorums.proofs.Weights.{above-lt}
use Rattle.config.specs.Cluster.{valid_of, lawful_of, server_of, total_of, above_of}
use Rattle.config.specs.Refusals.{number_of}
use Rattle.config.proofs.Clusters.{lawful-valid, total-small}
use Rattle.config.specs.declared.cluster.Config.{Config}
use Rattle.config.specs.declared.answer.Refusal.{Refusal}
use Rattle.ledger.specs.Ledgers.{accounts_of, given_of}
use Rattle.ledger.specs.Weights.{weight_of, weight_answer}
use Rattle.ledger.proofs.Answers.{signed-not-refused, quorum-number}
use Rattle.ledger.proofs.Majorities.{each-above}
use Rattle.ledger.proofs.Margins.{Within, margin-within}
use Rattle.ledger.specs.declared.ledger.Ledger.{Ledger}
use Rattle.message.specs.Answers.{check, receive_of}
use Rattle.message.proofs.Bounds.{passed-bounded, passed-above}
use Rattle.message.proofs.Rounds.{check-told}
use Rattle.reader.specs.Weighings.{weight_in, quorum_in}
use Rattle.desk.specs.declared.record.Desk.{Desk}
use Rattle.desk.specs.Margins.{margin_of}
use Rattle.desk.proofs.Desks.{fits_told}
use Rattle.desk.proofs.Margins.{margin-told, told-within}
use Rattle.replica.proofs.Replicas.{fits_told as holds-told}
use Rattle.host.specs.Codes.{refusal_code}

-- the refusal k has the code −1,000,000 − k
pub refusal_is : (r : Refusal) → refusal_code r ≡ negsuc (999999 + number_of r)
unfolding refusal_code
refusal_is r = difference-down 0 (1000000 + number_of r) (omega arith) ∙ ap negsuc (omega arith)

-- a weight above the floor is above 0
above_zero : (c : Config) (l : Ledger) (i : ℕ) → above_of c (weight_of c l i) ≡ true → lt_z (pos 0) (weight_of c l i) ≡ true
unfolding above_of weight_of weight
above_zero c l i e =
    let d = 2 * (c.n - c.f) in
    let more : given_of l i * d + total_of c < held (accounts_of c l) i * d = above-lt c.n c.f (accounts_of c l) i (total_of c) e in
    lt-difference 0 (held (accounts_of c l) i) (given_of l i)
    ∙ lt-ltb (given_of l i + 0) (held (accounts_of c l) i)
    (⊎_elim (λ (h : held (accounts_of c l) i ≤ given_of l i). absurd (omega (arith, more, mul-le-mul_right d h)))
    (λ (h : given_of l i < held (accounts_of c l) i). omega arith)
    (le-or-lt (held (accounts_of c l) i) (given_of l i)))

-- A weight is told of a message that passes, and on its sheet all are above the floor.
pub weight-above : (c : Config) (server : ℕ) (msg : List ℕ) (w : ℤ) → weight_in c server msg ≡ Ok w → lt_z (pos 0) w ≡ true
unfolding weight_in weight_answer server_of
weight-above c server msg w e =
    let passes = chosen-first (eqb (check c msg) 0) _ _ _ (λ d. signed-not-refused _ _ (sym d)) e in
    let none : check c msg ≡ 0 = eqb-true _ _ passes.0 in
    let known = chosen-first (server_of c server) _ _ _ (λ d. signed-not-refused _ _ (sym d)) passes.1 in
    let server-is = both (valid_of c) _ known.0 in
    let house = chosen-first (lawful_of c) _ _ _ (λ d. signed-not-refused _ _ (sym d)) known.1 in
    let told : weight_of c (receive_of c msg).replica.ledger server ≡ w = cc house.1 in
    let above = each-above c (receive_of c msg).replica.ledger (passed-above c msg none) server (ltb-true _ _ server-is.1) in
    rw (sym told) (above_zero c (receive_of c msg).replica.ledger server above)

-- ---- margins

-- a number from −W to W is no refusal's code
within-apart : (c : Config) (y : ℤ) (r : Refusal) → lawful_of c ≡ true → Within c y → y ≡ refusal_code r → ⊥
unfolding refusal_code
within-apart c y r valid w e =
    let code = 1000000 + number_of r in
    let negative : lt_z (pos 0) y ≡ false = ap (lt_z (pos 0)) (e ∙ difference-down 0 code (omega arith)) in
    let low = lacks (total_of c) y w.least negative in
    omega (arith, difference-back 0 low.by 0 code (sym low.is ∙ e), low.most, total-small c valid)

-- A margin is told of a message that passes, on whose sheet no weight is negative and all together are W.
pub quorum-within : (c : Config) (map : ℕ) (msg : List ℕ) (y : ℤ) → quorum_in c map msg ≡ Ok y → (lawful_of c ≡ true) × Within c y
unfolding quorum_in
quorum-within c map msg y e =
    let passes = chosen-first (eqb (check c msg) 0) _ _ _ (λ d. signed-not-refused _ _ (sym d)) e in
    let none : check c msg ≡ 0 = eqb-true _ _ passes.0 in
    let valid = (check-told c msg none).0 in (
      valid,
      rw (quorum-number c (receive_of c msg).replica.ledger map y passes.1).2
          (margin-within c (receive_of c msg).replica.ledger map (lawful-valid c valid) (passed-bounded c msg none) (passed-above c msg none)),
    )

pub quorum-apart : (c : Config) (map : ℕ) (msg : List ℕ) (y : ℤ) (r : Refusal) → quorum_in c map msg ≡ Ok y → y ≡ refusal_code r → ⊥
quorum-apart c map msg y r e = let t = quorum-within c map msg y e in within-apart c y r t.0 t.1

-- So it is with a desk's, told of a record that passes its test.
pub margin-apart : (x : Desk) (y : ℤ) (r : Refusal) → margin_of x ≡ Ok y → y ≡ refusal_code r → ⊥
margin-apart x y r e =
    let valid = (holds-told x.config x.replica (fits_told x (margin-told x y e).sound).replica-fits).lawful in
    within-apart x.config y r valid (told-within x y e)
