-- The reader gives no number but 1 to 5, so that a verdict has the number that the check found.
use Rattle.std.specs.Prelude.{Err}
use Prim.Native.Nat.{ℕ, zero, suc, ◌+◌, ◌<◌, ◌≤◌}
use native.Mathlib.Omega.{arith}
use mathlib.Core.Path.{◌≡◌, refl, sym, ap}
use mathlib.Core.Bool.{Bool, true, false, cond}
use mathlib.Core.List.{List}
use borrow.Author.Tests.{eq-eqb, ne_eqb, eqb-true}
use lib.Dec.{eqb, leb}
use lib.ListN.{length}
use Rattle.quorums.proofs.Tests.{chosen-first, chosen-second}
use Rattle.config.specs.Cluster.{lawful_of, cluster_fault}
use Rattle.config.proofs.Clusters.{fault-some}
use Rattle.config.specs.Refusals.{number_of, refusal, granted}
use Rattle.config.proofs.Refusals.{number-back}
use Rattle.config.specs.declared.cluster.Config.{Config}
use Rattle.config.specs.declared.answer.Refusal.{Refusal}
use Rattle.ledger.proofs.Checks.{accepted-not-refused}
use Rattle.message.specs.Cursors.{Cursor}
use Rattle.message.specs.Cursors.{start, number_at, within, read_bytes, read_number, skip, require}
use Rattle.message.specs.Scans.{cells_after, read_count, cell_map_of, row_of, rows_after, read_map, read_kind, head_of, register_of, sheet_of, read_note, end_of, scan_of}
use Rattle.message.specs.Answers.{check, verdict_of, check_answer, accepted_of, refused_of, receive_of}

either : (b : Bool) (x y : Cursor) → x.number ≤ 5 → y.number ≤ 5 → (cond b x y).number ≤ 5
either true x y p q = p
either false x y p q = q

-- ---- the steps

bytes_most : (msg : List ℕ) (w low high : ℕ) (c : Cursor) → (read_bytes msg w low high c).number ≤ 5
unfolding read_bytes
bytes_most msg w low high c =
    either (leb (c.at + w) (length msg)) _ _ (either (within low high (number_at msg c.at w)) _ _ (omega arith) (omega arith)) (omega arith)

number-most : (msg : List ℕ) (s w low high : ℕ) (c : Cursor) → c.number ≤ 5 → (read_number msg s w low high c).number ≤ 5
unfolding read_number
number-most msg s w low high c h = either (eqb c.number 0) _ _ (either (eqb s 0) _ _ (omega arith) (bytes_most msg w low high c)) h

skip-most : (msg : List ℕ) (w : ℕ) (c : Cursor) → c.number ≤ 5 → (skip msg w c).number ≤ 5
unfolding skip
skip-most msg w c h = either (eqb c.number 0) _ _ (either (leb (c.at + w) (length msg)) _ _ (omega arith) (omega arith)) h

require-most : (ok : Bool) (k : ℕ) (c : Cursor) → k ≤ 5 → c.number ≤ 5 → (require ok k c).number ≤ 5
unfolding require
require-most ok k c l h = either (eqb c.number 0) _ _ (either ok _ _ h l) h

-- ---- the parts of a message

cells-most : (msg : List ℕ) (m : ℕ) (c : Cursor) → c.number ≤ 5 → (j : ℕ) → (cells_after msg m c j).number ≤ 5
unfolding cells_after
cells-most msg m c h zero = h
cells-most msg m c h (suc j) = number-most msg _ _ _ _ _ (cells-most msg m c h j)

row-most : (c : Config) (msg : List ℕ) (i s : ℕ) (from : Cursor) → from.number ≤ 5 → (row_of c msg i s from).cursor.number ≤ 5
unfolding row_of cell_map_of read_count
row-most c msg i s from h =
    require-most _ 4 _ (omega arith)
    (cells-most msg _ _ (require-most _ 4 _ (omega arith) (number-most msg _ _ _ _ _ (number-most msg _ _ _ _ _ h))) 16)

rows-most : (c : Config) (msg : List ℕ) (m : ℕ) (from : Cursor) → from.number ≤ 5 → (i : ℕ) → (rows_after c msg m from i).number ≤ 5
unfolding rows_after
rows-most c msg m from h zero = h
rows-most c msg m from h (suc i) = row-most c msg i _ _ (rows-most c msg m from h i)

head-most : (c : Config) (msg : List ℕ) → (head_of c msg).cursor.number ≤ 5
unfolding head_of read_kind read_map
head-most c msg =
    number-most msg _ _ _ _ _
    (number-most msg _ _ _ _ _
    (number-most msg _ _ _ _ _
    (require-most _ 3 _ (omega arith) (number-most msg _ _ _ _ _ (require-most _ 3 _ (omega arith) (number-most msg _ _ _ _ start (omega arith)))))))

register-most : (c : Config) (msg : List ℕ) (s : ℕ) (from : Cursor) → from.number ≤ 5 → (register_of c msg s from).cursor.number ≤ 5
unfolding register_of
register-most c msg s from h = skip-most msg _ _ (number-most msg _ _ _ _ _ (number-most msg _ _ _ _ _ (number-most msg _ _ _ _ _ h)))

sheet-most : (c : Config) (msg : List ℕ) (s : ℕ) (from : Cursor) → from.number ≤ 5 → (sheet_of c msg s from).cursor.number ≤ 5
unfolding sheet_of
sheet-most c msg s from h = rows-most c msg _ _ (number-most msg _ _ _ _ _ h) 16

pub scan-most : (c : Config) (msg : List ℕ) → (scan_of c msg).number ≤ 5
unfolding scan_of end_of read_note
scan-most c msg =
    require-most _ 5 _ (omega arith)
    (require-most _ 2 _ (omega arith)
    (number-most msg _ _ _ _ _ (sheet-most c msg _ _ (register-most c msg _ _ (head-most c msg)))))

pub check-most : (c : Config) (msg : List ℕ) → check c msg ≤ 15
unfolding check
check-most c msg = by_lawful (lawful_of c) refl
  where
    by_lawful : (v : Bool) → lawful_of c ≡ v → cond v (scan_of c msg).number (cluster_fault c) ≤ 15
    by_lawful true v = omega (arith, scan-most c msg)
    by_lawful false v = (fault-some c v).1

-- ---- the answer

-- 0 is accepted
pub check-accepted : (c : Config) (msg : List ℕ) → check c msg ≡ 0 → check_answer c msg ≡ granted
unfolding check_answer verdict_of
check-accepted c msg e = simp (eq-eqb (check c msg) 0 e)

-- every other number is that of the refusal
pub check-refused : (c : Config) (msg : List ℕ) → 0 < check c msg
    → (check_answer c msg ≡ Err (refusal (check c msg))) × (number_of (refusal (check c msg)) ≡ check c msg)
unfolding check_answer verdict_of
check-refused c msg p = (simp (ne_eqb (check c msg) 0 (λ e. omega arith)), number-back (check c msg) p (omega (arith, check-most c msg)))

-- and a verdict tells whether there was a number
pub accepted-check : (k : ℕ) → verdict_of k ≡ granted → k ≡ 0
unfolding verdict_of
accepted-check k e =
    eqb-true k 0
    (chosen-first (eqb k 0) granted (Err (refusal k)) granted (λ d. accepted-not-refused (refusal k) (sym d)) e).0

pub refused-check : (k : ℕ) (n : Refusal) → verdict_of k ≡ Err n → eqb k 0 ≡ false
unfolding verdict_of
refused-check k n e = chosen-second (eqb k 0) granted (Err (refusal k)) (Err n) (accepted-not-refused n) e

-- what is received has the verdict of the check
pub received-verdict : (c : Config) (msg : List ℕ) → (receive_of c msg).verdict ≡ verdict_of (check c msg)
unfolding receive_of verdict_of
received-verdict c msg = by-test (eqb (check c msg) 0)
  where
    by-test : (b : Bool) → (cond b (accepted_of (scan_of c msg) msg) (refused_of (refusal (check c msg)))).verdict ≡ cond b granted (Err (refusal (check c msg)))
    by-test true = refl
    by-test false = refl

-- where it is a refusal, an answer that is made of the refusal of the number is made of this one
pub verdict-refused : {A : Type 0} (k : ℕ) (r : Refusal) (x : A) (f : Refusal → A) → verdict_of k ≡ Err r → f r ≡ cond (eqb k 0) x (f (refusal k))
unfolding verdict_of
verdict-refused k r x f e =
    let some = refused-check k r e in
    let same : Err (refusal k) ≡ Err r = rw some at e in
    let is : r ≡ refusal k = cc in
    rw some (ap f is)
