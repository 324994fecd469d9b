-- A whole message, part by part: where a part is refused the message is, with what was kept of its sheet; and where none is, each was read.
use Rattle.std.specs.Prelude.{Ok, Err}
use Prim.Native.Nat.{ℕ}
use native.Mathlib.Omega.{arith}
use mathlib.Core.Path.{◌≡◌, refl, sym, ap, ◌∙◌}
use mathlib.Core.Bool.{Bool, true, false}
use mathlib.Core.List.{List}
use borrow.Author.Tests.{eq-eqb, ne_eqb}
use lib.Dec.{eqb}
use lib.ListN.{length}
use Rattle.config.specs.Cluster.{lawful_of, cluster_fault}
use Rattle.config.specs.Refusals.{refusal}
use Rattle.config.specs.declared.cluster.Config.{Config}
use Rattle.config.specs.declared.answer.Refusal.{Refusal}
use Rattle.config.proofs.Clusters.{lawful-valid, fault-some}
use Rattle.ledger.specs.Checks.{above_floor}
use Rattle.ledger.specs.Sums.{all_above}
use Rattle.ledger.proofs.Weights.{sums-above}
use Rattle.format.specs.Bytes.{bit}
use Rattle.message.specs.Answers.{check}
use Rattle.message.specs.Cursors.{Cursor, read_number, require}
use Rattle.message.specs.Scans.{HeadRead, RegisterRead, SheetRead, head_of, register_of, sheet_of, read_note, end_of, scan_of}
use Rattle.message.proofs.Stuck.{register-stuck, sheet-stuck}
use Rattle.reader.specs.Heads.{head_at, head_answer}
use Rattle.reader.specs.Registers.{Shown, register_at, register_answer}
use Rattle.reader.specs.Sheets.{no_counts, no_cells, sheet_end, sheet_counts, sheet_cells}
use Rattle.reader.specs.Steps.{at_place, read_answer, place_answer}
use Rattle.reader.specs.Tallies.{SumsOf}
use Rattle.reader.specs.Wholes.{found_answer, counts_taken, cells_taken}
use Rattle.reader.specs.declared.head.Head.{Head}
use Rattle.reader.specs.declared.step.Read.{Read}
use Rattle.reader.specs.declared.tally.Tally.{Tally}
use Rattle.reader.proofs.Outcomes.{Clean, Refused, outcome-ok, outcome-err, answer-ok, answer-err, keeps-refused, number-refused, require-refused, same-number, stood-clean, stood-refused, test-clean, test-refused}
use Rattle.reader.proofs.RowTurns.{sheet-blank}

-- a part is read from the place of its cursor
module _ (c : Config) (msg : List ℕ) {d : Cursor} {at x : ℕ} (h : Clean d at x) where
  same-register : (s : ℕ) → register_of c msg s (at_place at) ≡ register_of c msg s d
  unfolding register_of
  same-register s = rw (same-number h msg s) refl

  same-sheet : (s : ℕ) → sheet_of c msg s (at_place at) ≡ sheet_of c msg s d
  unfolding sheet_of
  same-sheet s = rw (same-number h msg s) refl

  same-kept : (s : ℕ) → (sheet_counts c msg s (at_place at) ≡ sheet_counts c msg s d) × (sheet_cells c msg s (at_place at) ≡ sheet_cells c msg s d)
  unfolding sheet_counts sheet_cells
  same-kept s = (rw (same-number h msg s) refl, rw (same-number h msg s) refl)

module _ (c : Config) (msg : List ℕ) where
  abbrev head_is : HeadRead
  head_is = head_of c msg

  abbrev register_is : RegisterRead
  register_is = register_of c msg (bit head_is.map 4) head_is.cursor

  abbrev pub sheet_is : SheetRead
  sheet_is = sheet_of c msg (bit head_is.map 5) register_is.cursor

  abbrev pub note_is : Cursor
  note_is = read_note msg (bit head_is.map 6) sheet_is.cursor

  abbrev end_is : Cursor
  end_is = end_of c msg sheet_is.ledger note_is

  -- ---- a cluster that is not lawful
  module _ (unlawful : lawful_of c ≡ false) where
    fault-is : check c msg ≡ cluster_fault c
    unfolding check
    fault-is = simp unlawful

    pub found-unlawful : (r : Refusal) → r ≡ refusal (cluster_fault c) → Err r ≡ found_answer c msg
    unfolding found_answer
    found-unlawful r e = answer-err _ _ r (λ z. omega (arith, z, fault-is, (fault-some c unlawful).0)) (e ∙ ap refusal (sym fault-is))

    pub kept-unlawful : (counts_taken c msg ≡ no_counts) × (cells_taken c msg ≡ no_cells)
    unfolding counts_taken cells_taken
    kept-unlawful = (simp unlawful, simp unlawful)

  module _ (lawful : lawful_of c ≡ true) where
    pub check-is : check c msg ≡ end_is.number
    unfolding check scan_of
    check-is = simp lawful

    pub kept-is : (counts_taken c msg ≡ sheet_counts c msg (bit head_is.map 5) register_is.cursor) × (cells_taken c msg ≡ sheet_cells c msg (bit head_is.map 5) register_is.cursor)
    unfolding counts_taken cells_taken
    kept-is = (simp lawful, simp lawful)

    -- ---- where a part is refused
    module _ (r : Refusal) where
      pub refused_at-end : Refused end_is r → Err r ≡ found_answer c msg
      unfolding found_answer
      refused_at-end h = answer-err _ _ r (λ z. h.some (sym check-is ∙ z)) (h.is ∙ ap refusal (sym check-is))

      pub refused_at-note : Refused note_is r → Err r ≡ found_answer c msg
      unfolding end_of
      refused_at-note h = refused_at-end (require-refused _ 5 (require-refused _ 2 h))

      pub refused_at-sheet : Refused sheet_is.cursor r → Err r ≡ found_answer c msg
      unfolding read_note
      refused_at-sheet h = refused_at-note (number-refused msg _ _ _ _ h)

      pub refused_at-register : Refused register_is.cursor r → Err r ≡ found_answer c msg
      refused_at-register h = refused_at-sheet (keeps-refused (sheet-stuck c msg _ register_is.cursor) h)

      pub refused_at-head : Refused head_is.cursor r → Err r ≡ found_answer c msg
      refused_at-head h = refused_at-register (keeps-refused (register-stuck c msg _ head_is.cursor) h)

      -- before the sheet nothing is kept
      pub blank_at-register : Refused register_is.cursor r → (counts_taken c msg ≡ no_counts) × (cells_taken c msg ≡ no_cells)
      blank_at-register h =
          let none = sheet-blank c msg (bit head_is.map 5) register_is.cursor r (number-refused msg _ _ _ _ h) in
          (kept-is.0 ∙ none.0, kept-is.1 ∙ none.1)

      pub blank_at-head : Refused head_is.cursor r → (counts_taken c msg ≡ no_counts) × (cells_taken c msg ≡ no_cells)
      blank_at-head h = blank_at-register (keeps-refused (register-stuck c msg _ head_is.cursor) h)

  -- ---- the head

  pub head-refused : (r : Refusal) → Err r ≡ head_answer c msg → Refused head_is.cursor r
  unfolding head_answer
  head-refused r e = let told = outcome-err _ _ r e in record { some = told.0; is = told.1 }

  pub record HeadFound (h : Head) : Type 0 where
    pub none : head_is.cursor.number ≡ 0
    pub fields : h ≡ head_at head_is

  -- and the register
  pub record RegisterFound (g : Shown) : Type 0 where
    pub clear : register_is.cursor.number ≡ 0
    pub parts : g ≡ register_at msg register_is

  pub head-found : (h : Head) → Ok h ≡ head_answer c msg → HeadFound h
  unfolding head_answer
  head-found h e = let told = outcome-ok _ _ h e in record { none = told.0; fields = told.1 }

  module _ {h : Head} (p : HeadFound h) where
    map-is : h.map ≡ head_is.map
    map-is = ap (λ (x : Head). x.map) p.fields

    head-clean : Clean head_is.cursor h.at head_is.cursor.x
    head-clean = record { none = p.none; here = sym (ap (λ (x : Head). x.at) p.fields); found = refl }

    -- ---- the register

    register-same : {t : ℕ} → t ≡ bit h.map 4 → register_of c msg t (at_place h.at) ≡ register_is
    register-same t = ap (λ s. register_of c msg s (at_place h.at)) (t ∙ ap (λ x. bit x 4) map-is) ∙ same-register c msg head-clean _

    pub register-refused : (r : Refusal) {t : ℕ} → t ≡ bit h.map 4 → Err r ≡ register_answer c msg t (at_place h.at) → Refused register_is.cursor r
    unfolding register_answer
    register-refused r t e =
        let told = outcome-err _ _ r e in
        rw (← register-same t) (record { some = told.0; is = told.1 })

    pub register-found : (g : Shown) {t : ℕ} → t ≡ bit h.map 4 → Ok g ≡ register_answer c msg t (at_place h.at)
        → RegisterFound g
    unfolding register_answer
    register-found g t e =
        let told = outcome-ok _ _ g e in
        record {
          clear = ap (λ (x : RegisterRead). x.cursor.number) (sym (register-same t)) ∙ told.0;
          parts = told.1 ∙ ap (register_at msg) (register-same t);
        }

    -- ---- the sheet

    module _ {g : Shown} (q : RegisterFound g) where
      register-clean : Clean register_is.cursor g.end register_is.cursor.x
      register-clean = record { none = q.clear; here = sym (ap (λ (x : Shown). x.end) q.parts); found = refl }

      module _ {t : ℕ} (stands : t ≡ bit h.map 5) where
        sheet-same : sheet_of c msg t (at_place g.end) ≡ sheet_is
        sheet-same = ap (λ s. sheet_of c msg s (at_place g.end)) (stands ∙ ap (λ x. bit x 5) map-is) ∙ same-sheet c msg register-clean _

        pub ledger-same : (sheet_of c msg t (at_place g.end)).ledger ≡ (scan_of c msg).ledger
        unfolding scan_of
        ledger-same = ap (λ (x : SheetRead). x.ledger) sheet-same

        pub sheet-refused : (r : Refusal) → Err r ≡ place_answer (sheet_end c msg t (at_place g.end)) → Refused sheet_is.cursor r
        sheet-refused r e = rw (← sheet-same) (let told = outcome-err _ _ r e in record { some = told.0; is = told.1 })

        pub sheet-clean : (at : ℕ) → Ok at ≡ place_answer (sheet_end c msg t (at_place g.end)) → Clean sheet_is.cursor at sheet_is.cursor.x
        sheet-clean at e = rw (← sheet-same) (let told = outcome-ok _ _ at e in record { none = told.0; here = sym told.1; found = refl })

        pub kept-same : lawful_of c ≡ true → (sheet_counts c msg t (at_place g.end) ≡ counts_taken c msg) × (sheet_cells c msg t (at_place g.end) ≡ cells_taken c msg)
        kept-same lawful =
            let same = same-kept c msg register-clean t in
            let is = stands ∙ ap (λ x. bit x 5) map-is in
            let whole = kept-is lawful in (
              same.0 ∙ ap (λ s. sheet_counts c msg s register_is.cursor) is ∙ sym whole.0,
              same.1 ∙ ap (λ s. sheet_cells c msg s register_is.cursor) is ∙ sym whole.1,
            )

    -- ---- the note

    module _ {at : ℕ} (s : Clean sheet_is.cursor at sheet_is.cursor.x) {t : ℕ} (stands : t ≡ bit h.map 6) where
      pub note-refused : (r : Refusal) → Err r ≡ read_answer (read_number msg t 4 1 4294967295 (at_place at)) → Refused note_is r
      unfolding read_note
      note-refused r e = stood-refused s msg _ 4 1 4294967295 r (stands ∙ ap (λ x. bit x 6) map-is) e

      pub note-clean : (note : Read) → Ok note ≡ read_answer (read_number msg t 4 1 4294967295 (at_place at)) → Clean note_is note.at note.x
      unfolding read_note
      note-clean note e = stood-clean s msg _ 4 1 4294967295 note (stands ∙ ap (λ x. bit x 6) map-is) e

  -- ---- the end

  module _ {at x : ℕ} (note : Clean note_is at x) where
    pub end-torn : (at ≡ length msg → ⊥) → Refused end_is (refusal 2)
    unfolding end_of
    end-torn n = require-refused _ 5 (test-refused note _ 1 (rw note.here (ne_eqb at (length msg) n)))

    module _ (all : at ≡ length msg) (ok : Bool) (is : ok ≡ above_floor c sheet_is.ledger) where
      all-read : Clean (require (eqb note_is.at (length msg)) 2 note_is) at x
      all-read = test-clean note _ 2 (rw note.here (eq-eqb at (length msg) all))

      pub end-light : ok ≡ false → Refused end_is (refusal 5)
      unfolding end_of
      end-light e = test-refused all-read _ 4 (sym is ∙ e)

      pub end-passes : ok ≡ true → end_is.number ≡ 0
      unfolding end_of
      end-passes e = (test-clean all-read _ 5 (sym is ∙ e)).none

  -- the sums of the sheet decide
  pub floor-is : lawful_of c ≡ true → (sums : Tally) → SumsOf (scan_of c msg).ledger sums → all_above c sums.received sums.given ≡ above_floor c sheet_is.ledger
  unfolding scan_of
  floor-is lawful sums e = rw (e.0, e.1) (sums-above c _ (lawful-valid c lawful))

  -- ---- and all of it
  pub found-is : {h : Head} {g : Shown} {at x : ℕ} → HeadFound h → RegisterFound g → Clean note_is at x
      → lawful_of c ≡ true → end_is.number ≡ 0
      → Ok (record { envelope = record { kind = h.envelope.kind; server = h.envelope.server; desk = h.envelope.desk; round = h.envelope.round; note = x }; register = g }) ≡ found_answer c msg
  unfolding found_answer scan_of
  found-is p q note lawful e = answer-ok _ _ _ (check-is lawful ∙ e) (rw (p.fields, q.parts, ← note.found) refl)
