-- What reading a whole message answers, and what is kept of its sheet.
use Rattle.std.specs.Prelude.{ℕ, cond, List, Result}
use Rattle.config.specs.Cluster.{lawful_of}
use Rattle.config.specs.declared.cluster.Config.{Config}
use Rattle.config.specs.declared.answer.Refusal.{Refusal}
use Rattle.format.specs.Bytes.{bit}
use Rattle.message.specs.Answers.{check}
use Rattle.message.specs.Cursors.{Cursor}
use Rattle.message.specs.declared.envelope.Envelope.{Envelope}
use Rattle.message.specs.Scans.{head_of, register_of, scan_of}
use Rattle.reader.specs.declared.whole.Found.{Found}
use Rattle.reader.specs.Registers.{Shown, shown, register_at}
use Rattle.reader.specs.Sheets.{no_counts, no_cells, sheet_counts, sheet_cells}
use Rattle.reader.specs.Steps.{outcome}

-- What a clause sees of what was found beside the sheet.
pub record ShownFound : Type 0 where
  pub envelope : Envelope
  pub register : Shown

abbrev pub shown_found : Found → ShownFound
shown_found f = record { envelope = f.envelope; register = shown f.register }

unfoldable pub found_answer : Config → List ℕ → Result ShownFound Refusal
found_answer c msg = let s = scan_of c msg in outcome (check c msg) (record { envelope = s.envelope; register = register_at msg s.register })

-- the cursor behind the register, where the sheet begins
abbrev pub sheet_from : Config → List ℕ → Cursor
sheet_from c msg = let h = head_of c msg in (register_of c msg (bit h.map 4) h.cursor).cursor

-- the counts and cells of the sheet, as far as it was read
unfoldable pub counts_taken : Config → List ℕ → ℕ → ℕ
counts_taken c msg = cond (lawful_of c) (sheet_counts c msg (bit (head_of c msg).map 5) (sheet_from c msg)) no_counts

unfoldable pub cells_taken : Config → List ℕ → ℕ → ℕ → ℕ
cells_taken c msg = cond (lawful_of c) (sheet_cells c msg (bit (head_of c msg).map 5) (sheet_from c msg)) no_cells
