-- Begin and drop keep a desk one that passes the record test, and one that a call can have. A refusal leaves it as it was; after an accepted begin the
-- operation runs, and after an accepted drop there is none. Neither changes anything but the round and the operation.
use Rattle.std.specs.Prelude.{Err}
use Prim.Native.Nat.{ℕ, suc, ◌≤◌, ◌<◌}
use native.Mathlib.Omega.{arith}
use mathlib.Core.Path.{◌≡◌, refl, sym, ◌∙◌}
use mathlib.Core.Bool.{Bool, true, false, cond}
use mathlib.Core.List.{List}
use borrow.Author.Tests.{eqb-true, leb-true, ltb-true, lt-leb, le-leb, eq-eqb}
use lib.Dec.{eqb, ltb}
use lib.ListN.{length, get_or}
use Rattle.config.specs.Refusals.{refusal, granted}
use Rattle.config.specs.declared.answer.Refusal.{Refusal}
use Rattle.ledger.proofs.Checks.{accepted-not-refused}
use Rattle.message.specs.Cursors.{within}
use Rattle.replica.specs.declared.value.Value.{Value}
use Rattle.replica.specs.Values.{value_fits, value_of, Typed as TypedValue}
use Rattle.replica.proofs.Values.{value-fits, value-typed}
use Rattle.replica.proofs.Registers.{start-typed, start_fits}
use Rattle.desk.specs.declared.record.Desk.{Desk}
use Rattle.desk.specs.declared.record.DeskAnswer.{DeskAnswer}
use Rattle.desk.specs.Operations.{running, reading, writing, no_operation, begun_operation, phase_lawful}
use Rattle.desk.specs.Desks.{most_round, fits, accepted, refused, turned, Typed}
use Rattle.desk.specs.Begins.{begun, start_of, begin_of, dropped, drop_of}
use Rattle.desk.proofs.Operations.{told-operation, mode-later, kind_fits, none-answered, none-fits, none-typed}
use Rattle.desk.proofs.Desks.{fits_told, told-fits, fits-valid}

-- ---- what the calls come to

-- a begin is refused, or starts an operation with a value that fits, before the last round
pub begin-cases : (P : DeskAnswer → Type 0) (x : Desk) (kind : ℕ) (v : List ℕ) (note : ℕ)
    → ((k : Refusal) → P (refused k x))
    → (value_fits (value_of v) ≡ true → x.round < most_round → P (accepted (begun x kind (value_of v) note)))
    → P (begin_of x kind v note)
unfolding begin_of start_of
begin-cases P x kind v note refuses accepts =
    by_tests (fits x) (value_fits (value_of v)) (eqb x.operation.mode running) (ltb x.round most_round) refl refl
  where
    by_tests : (f l m r : Bool) → value_fits (value_of v) ≡ l → ltb x.round most_round ≡ r
        → P (cond f
        (cond l (cond m (refused (refusal 8) x) (cond r (accepted (begun x kind (value_of v) note)) (refused (refusal 12) x))) (refused (refusal 14) x))
        (refused (refusal 1) x))
    by_tests true true true r a b = refuses (refusal 8)
    by_tests true true false true a b = accepts a (ltb-true x.round most_round b)
    by_tests true true false false a b = refuses (refusal 12)
    by_tests true false m r a b = refuses (refusal 14)
    by_tests false l m r a b = refuses (refusal 1)

-- a drop is refused, or an operation runs and is gone
pub drop-cases : (P : DeskAnswer → Type 0) (x : Desk)
    → ((k : Refusal) → P (refused k x)) → (x.operation.mode ≡ running → P (accepted (dropped x)))
    → P (drop_of x)
unfolding drop_of
drop-cases P x refuses accepts = by_tests (fits x) (eqb x.operation.mode running) refl
  where
    by_tests : (f m : Bool) → eqb x.operation.mode running ≡ m
        → P (cond f (cond m (accepted (dropped x)) (refused (refusal 9) x)) (refused (refusal 1) x))
    by_tests true true e = accepts (eqb-true x.operation.mode running e)
    by_tests true false e = refuses (refusal 9)
    by_tests false m e = refuses (refusal 1)

-- ---- what a verdict tells

pub begin-refused : (x : Desk) (kind : ℕ) (v : List ℕ) (note : ℕ) (k : Refusal) → (begin_of x kind v note).verdict ≡ Err k
    → (begin_of x kind v note).desk ≡ x
begin-refused x kind v note k =
    begin-cases (λ (a : DeskAnswer). a.verdict ≡ Err k → a.desk ≡ x) x kind v note (λ n e. refl) (λ l r e. accepted-not-refused k e)

pub drop-refused : (x : Desk) (k : Refusal) → (drop_of x).verdict ≡ Err k → (drop_of x).desk ≡ x
drop-refused x k =
    drop-cases (λ (a : DeskAnswer). a.verdict ≡ Err k → a.desk ≡ x) x (λ n e. refl) (λ m e. accepted-not-refused k e)

pub begin-runs : (x : Desk) (kind : ℕ) (v : List ℕ) (note : ℕ) → (begin_of x kind v note).verdict ≡ granted
    → ((begin_of x kind v note).desk ≡ begun x kind (value_of v) note) × (length v ≤ 64)
begin-runs x kind v note =
    begin-cases (λ (a : DeskAnswer). a.verdict ≡ granted → (a.desk ≡ begun x kind (value_of v) note) × (length v ≤ 64)) x kind v note
    (λ n e. accepted-not-refused n (sym e)) (λ l r e. (refl, leb-true (length v) 64 (sym (value-fits v) ∙ l)))

pub drop-idle : (x : Desk) → (drop_of x).verdict ≡ granted → ((drop_of x).desk.operation ≡ no_operation) × (x.operation.mode ≡ running)
drop-idle x =
    drop-cases (λ (a : DeskAnswer). a.verdict ≡ granted → (a.desk.operation ≡ no_operation) × (x.operation.mode ≡ running)) x
    (λ n e. accepted-not-refused n (sym e)) (λ m e. (refl, m))

-- ---- the parts that change

-- Nothing else changes: the record with the round and the operation that a call leaves is the record that it leaves.

pub begin-whole : (x : Desk) (kind : ℕ) (v : List ℕ) (note : ℕ) → let y = (begin_of x kind v note).desk in turned x y.round y.operation ≡ y
begin-whole x kind v note = begin-cases (λ (a : DeskAnswer). turned x a.desk.round a.desk.operation ≡ a.desk) x kind v note (λ k. refl) (λ l r. refl)

pub drop-whole : (x : Desk) → let y = (drop_of x).desk in turned x y.round y.operation ≡ y
drop-whole x = drop-cases (λ (a : DeskAnswer). turned x a.desk.round a.desk.operation ≡ a.desk) x (λ k. refl) (λ m. refl)

-- ---- a desk stays one

begun-fits : (x : Desk) (kind : ℕ) (value : Value) (note : ℕ) → within reading writing kind ≡ true → value_fits value ≡ true → fits x ≡ true
    → fits (begun x kind value note) ≡ true
unfolding phase_lawful within
begun-fits x kind value note w l e =
    let t = fits_told x e in
    told-fits (begun x kind value note) (record {
      number_in = t.number_in;
      replica-fits = t.replica-fits;
      operation-fits = told-operation x.config (suc x.round) (begun_operation kind value note) (record {
        mode-in = mode-later running (suc x.round) (omega arith) (omega arith);
        kind-in = kind_fits running kind w;
        phase-in = refl;
        answered-in = none-answered x.config (fits-valid x e);
        restarts-in = omega arith;
        value-fits = l;
        chosen-fits = start_fits x.config;
      });
    })

begun-typed : (x : Desk) (kind : ℕ) (value : Value) (note : ℕ) → kind ≤ 65535 → TypedValue value → note ≤ 4294967295 → x.round < most_round → Typed x
    → Typed (begun x kind value note)
begun-typed x kind value note k v n r t = record {
  config-typed = t.config-typed;
  number_fits = t.number_fits;
  replica-typed = t.replica-typed;
  round-fits = r;
  operation-typed = record {
    mode-fits = omega arith;
    note-fits = n;
    restarts-fits = omega arith;
    kind_fits = k;
    phase-fits = omega arith;
    answered-fits = omega arith;
    value-typed = v;
    chosen-typed = start-typed;
  };
}

pub begin-fits : (x : Desk) (kind : ℕ) (v : List ℕ) (note : ℕ) → within reading writing kind ≡ true → fits x ≡ true
    → fits (begin_of x kind v note).desk ≡ true
begin-fits x kind v note w e =
    begin-cases (λ (a : DeskAnswer). fits a.desk ≡ true) x kind v note (λ k. e) (λ l r. begun-fits x kind (value_of v) note w l e)

pub begin-typed : (x : Desk) (kind : ℕ) (v : List ℕ) (note : ℕ) → kind ≤ 65535 → ((k : ℕ) → get_or v k 0 < 256) → note ≤ 4294967295 → Typed x
    → Typed (begin_of x kind v note).desk
begin-typed x kind v note p b q t =
    begin-cases (λ (a : DeskAnswer). Typed a.desk) x kind v note (λ k. t)
    (λ l r. begun-typed x kind (value_of v) note p (value-typed v b) q r t)

pub drop-fits : (x : Desk) → fits x ≡ true → fits (drop_of x).desk ≡ true
drop-fits x e =
    let t = fits_told x e in
    drop-cases (λ (a : DeskAnswer). fits a.desk ≡ true) x (λ k. e)
    (λ m.
    told-fits (dropped x) (record {
      number_in = t.number_in;
      replica-fits = t.replica-fits;
      operation-fits = none-fits x.config x.round (fits-valid x e);
    }))

pub drop-typed : (x : Desk) → Typed x → Typed (drop_of x).desk
drop-typed x t =
    drop-cases (λ (a : DeskAnswer). Typed a.desk) x (λ k. t)
    (λ m. record {
      config-typed = t.config-typed;
      number_fits = t.number_fits;
      replica-typed = t.replica-typed;
      round-fits = t.round-fits;
      operation-typed = none-typed;
    })

-- ---- the order of the tests

-- a value that is too long is told before an operation that runs, and that before the last round
pub begin-long : (x : Desk) (kind : ℕ) (v : List ℕ) (note : ℕ) → fits x ≡ true → 64 < length v → begin_of x kind v note ≡ refused (refusal 14) x
unfolding begin_of
begin-long x kind v note f l = rw (f, value-fits v ∙ lt-leb (length v) 64 l) refl

pub begin-busy : (x : Desk) (kind : ℕ) (v : List ℕ) (note : ℕ) → fits x ≡ true → length v ≤ 64 → x.operation.mode ≡ running
    → begin_of x kind v note ≡ refused (refusal 8) x
unfolding begin_of start_of
begin-busy x kind v note f l m = rw (f, value-fits v ∙ le-leb (length v) 64 l, eq-eqb x.operation.mode running m) refl

-- an operation that may begin does so before the last round
pub begin-early : (x : Desk) (kind : ℕ) (v : List ℕ) (note : ℕ) → (begin_of x kind v note).verdict ≡ granted → x.round < most_round
begin-early x kind v note =
    begin-cases (λ (a : DeskAnswer). a.verdict ≡ granted → x.round < most_round) x kind v note
    (λ n e. accepted-not-refused n (sym e)) (λ l r e. r)
