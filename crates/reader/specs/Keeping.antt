-- What it is to keep counts and cells.
use Rattle.std.specs.Prelude.{ℕ, ◌≡◌, ◌<◌, cond, eqb, length}
use Rattle.ledger.specs.declared.ledger.Ledger.{Ledger}
use Rattle.ledger.specs.Ledgers.{count_of, cell_of}
use Rattle.reader.specs.declared.keep.Nothing.{Nothing}

-- f with x in the place of its value at i
unfoldable pub put : {A : Type 0} → (ℕ → A) → ℕ → A → ℕ → A
put f i x k = cond (eqb k i) x (f k)

-- The ledger has these counts and cells.
pub record KeptIn (l : Ledger) (counts : ℕ → ℕ) (cells : ℕ → ℕ → ℕ) : Type 0 where
  pub sixteen : length l.counts ≡ 16
  pub square : length l.cells ≡ 256
  pub counted : (i : ℕ) → i < 16 → count_of l i ≡ counts i
  pub filled : (i j : ℕ) → i < 16 → j < 16 → cell_of l i j ≡ cells i j

-- nothing is asked of who keeps nothing
abbrev pub Nowhere : Nothing → (ℕ → ℕ) → (ℕ → ℕ → ℕ) → Type 0
Nowhere s counts cells = Unit
