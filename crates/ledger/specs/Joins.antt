-- The union of two ledgers (paper 01, "Sheets": two sheets join to their union, per giver the row with the larger count; it needs equal rows at
-- equal counts and no cell smaller in the later row), and how two ledgers compare. The cell at k is one of row k / 16.
use Rattle.std.specs.Prelude.{ℕ, ◌/◌, min, max, Bool, true, false, cond, not, leb, ltb, eqb, get_or, Result, Ok, Err}
use Rattle.quorums.specs.Sum.{all}
use Rattle.config.specs.Refusals.{refusal}
use Rattle.config.specs.declared.answer.Refusal.{Refusal}
use Rattle.ledger.specs.declared.ledger.Ledger.{Ledger}
use Rattle.ledger.specs.declared.ledger.Changed.{Changed}
use Rattle.ledger.specs.declared.join.Compared.{Compared}
use Rattle.quorums.specs.Tables.{table}
use Rattle.ledger.specs.Ledgers.{count_of, cell_of, refused, accepted}

-- of two rows with counts m and n, whether the cells x and y may stand at one place: equal at equal counts, and else the later no smaller
unfoldable pub agree : ℕ → ℕ → ℕ → ℕ → Bool
agree m n x y = cond (ltb m n) (leb x y) (cond (ltb n m) (leb y x) (eqb x y))

-- the cell of the later row
unfoldable pub later : ℕ → ℕ → ℕ → ℕ → ℕ
later m n x y = cond (ltb m n) y x

abbrev pub agree_at : Ledger → Ledger → ℕ → Bool
agree_at a b k = agree (count_of a (k / 16)) (count_of b (k / 16)) (get_or a.cells k 0) (get_or b.cells k 0)

abbrev pub later_at : Ledger → Ledger → ℕ → ℕ
later_at a b k = later (count_of a (k / 16)) (count_of b (k / 16)) (get_or a.cells k 0) (get_or b.cells k 0)

abbrev pub larger_at : Ledger → Ledger → ℕ → ℕ
larger_at a b i = max (count_of a i) (count_of b i)

-- whether two ledgers join
unfoldable pub joins : Ledger → Ledger → Bool
joins a b = all 256 (agree_at a b)

-- what they join to
unfoldable pub joined : Ledger → Ledger → Ledger
joined a b = record { counts = table 16 (larger_at a b); cells = table 256 (later_at a b) }

-- whether two ledgers are the same
abbrev pub same_count_at : Ledger → Ledger → ℕ → Bool
same_count_at a b i = eqb (count_of a i) (count_of b i)

abbrev pub same_cell_at : Ledger → Ledger → ℕ → Bool
same_cell_at a b k = eqb (get_or a.cells k 0) (get_or b.cells k 0)

unfoldable pub equal : Ledger → Ledger → Bool
equal a b = cond (all 16 (same_count_at a b)) (all 256 (same_cell_at a b)) false

-- whether a lacks a transfer of b: some giver's count in b is above that in a
abbrev pub has_at : Ledger → Ledger → ℕ → Bool
has_at a b i = leb (count_of b i) (count_of a i)

unfoldable pub lacks : Ledger → Ledger → Bool
lacks a b = not (all 16 (has_at a b))

-- How two ledgers are compared, giver by giver: where neither made a transfer there is nothing to compare.

-- whether two rows with the counts m and n agree
unfoldable pub row_agrees : ℕ → ℕ → (ℕ → ℕ) → (ℕ → ℕ) → Bool
row_agrees m n x y = cond (eqb m 0) (cond (eqb n 0) true (all 16 (λ j. agree m n (x j) (y j)))) (all 16 (λ j. agree m n (x j) (y j)))

abbrev pub row_agrees_at : Ledger → Ledger → ℕ → Bool
row_agrees_at a b i = row_agrees (count_of a i) (count_of b i) (cell_of a i) (cell_of b i)

-- the first n rows
unfoldable pub rows_compared : ℕ → Ledger → Ledger → Result Compared Refusal
rows_compared n a b =
    cond (all n (row_agrees_at a b)) (Ok (record { lacks = not (all n (has_at a b)); ahead = not (all n (has_at b a)) })) (Err (refusal 6))

-- of a cluster of n servers; a ledger has 16 rows
unfoldable pub compared_of : ℕ → Ledger → Ledger → Result Compared Refusal
compared_of n a b = rows_compared (min n 16) a b

-- What the call answers. A refusal leaves the first ledger as it was.

unfoldable pub join_answer : Ledger → Ledger → Changed
join_answer a b = cond (joins a b) (accepted (joined a b)) (refused (refusal 6) a)
