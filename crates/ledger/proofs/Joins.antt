-- What `take` goes by: a row of the union is the other ledger's where that has more transfers, and else stays as it is. What `lacks` goes by.
use Prim.Native.Nat.{ℕ, ◌+◌, ◌*◌, ◌/◌, ◌≤◌, ◌<◌}
use native.Mathlib.Omega.{arith}
use mathlib.Core.Path.{◌≡◌, refl, sym, ◌∙◌}
use mathlib.Core.List.{[]}
use lib.ListN.{length, get_or}
use Rattle.ledger.specs.declared.ledger.Ledger.{Ledger}
use Rattle.quorums.specs.Tables.{table}
use Rattle.ledger.specs.Ledgers.{count_of, row_of, ledger_of}
use Rattle.ledger.specs.Joins.{later_at, lacks}
use Rattle.ledger.proofs.Rows.{row-cell}
use Rattle.ledger.proofs.Unions.{later_first, later_second}
use Rattle.quorums.proofs.Tables.{is-table}

pub row-taken : (a b : Ledger) (i : ℕ) → length (row_of b i) ≡ 16 → count_of a i < count_of b i → row_of b i ≡ table 16 (λ j. later_at a b (i * 16 + j))
row-taken a b i size more =
    is-table 16 _ _ size
    (λ j l.
    let e : (i * 16 + j) / 16 ≡ i = omega arith in
    row-cell b i j l ∙ sym (later_second _ _ _ _ (rw e more)))

pub row-kept : (a b : Ledger) (i k : ℕ) → count_of b i ≤ count_of a i → i * 16 ≤ k → k < (i + 1) * 16 → later_at a b k ≡ get_or a.cells k 0
row-kept a b i k few from to =
    let e : k / 16 ≡ i = omega arith in
    later_first _ _ _ _ (rw e few)

-- what a ledger lacks is a matter of the counts alone
pub lacks-counts : (a b : Ledger) → lacks (ledger_of a.counts []) (ledger_of b.counts []) ≡ lacks a b
unfolding lacks
lacks-counts a b = refl
