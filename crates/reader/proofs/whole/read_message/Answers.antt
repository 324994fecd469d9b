-- `read_message` meets its contract: each part in turn, from the place behind the one before it.
use Rattle.std.proofs.Common.{rules, ◌≡◌, sym, ◌∙◌, true}
use Rattle.config.specs.Cluster.{lawful_of, least_of}
use Rattle.config.proofs.Clusters.{least-told, least-refused}
use Rattle.message.specs.Scans.{scan_of}
use Rattle.reader.specs.Registers.{shown}
use Rattle.reader.specs.Tallies.{SumsOf}
use Rattle.reader.specs.Wholes.{shown_found, counts_taken, cells_taken}
use Rattle.reader.proofs.Outcomes.{Clean, handed-on}
use Rattle.reader.proofs.Scanned.{HeadFound, RegisterFound, sheet_is, note_is, found-unlawful, kept-unlawful, head-refused, head-found, register-refused, register-found, sheet-refused, sheet-clean, ledger-same, kept-same, note-refused, note-clean, refused_at-head, blank_at-head, refused_at-register, blank_at-register, refused_at-sheet, refused_at-note, refused_at-end, end-torn, end-light, end-passes, floor-is, found-is}
use Rattle.reader.proofs.whole.read_message.Goals.{In_ok-least, In_ok-head, In_ok-register, In_ok-at, In_ok-note, After-read_sheet}
use Rattle.reader.proofs.whole.read_message.Goals as goal

least : (g : _) (c : In_ok-least g) → (lawful_of c.args.config.now ≡ true) × (c.in_ok-least.least ≡ least_of c.args.config.now)
least g c = least-told _ _ (sym c.in_ok-least.ensures)

lawful : (g : _) (c : In_ok-least g) → lawful_of c.args.config.now ≡ true
lawful g c = (least g c).0

-- what each part found
head : (g : _) (c : In_ok-head g) → HeadFound c.args.config.now c.args.msg.now c.in_ok-head.head
head g c = head-found _ _ _ c.in_ok-head.ensures.0

pub returns-in_err-least-clause-ends : goal.returns-in_err-least-clause-ends
returns-in_err-least-clause-ends g c =
    let out = least-refused _ _ (sym c.in_err-least.ensures) in
    handed-on shown_found _ c.from_residual.ensures (found-unlawful _ _ out.0 _ out.1)

pub returns-in_err-least-clause-keeps : goal.returns-in_err-least-clause-keeps
returns-in_err-least-clause-keeps g c =
    let none = kept-unlawful _ c.args.msg.now (least-refused _ _ (sym c.in_err-least.ensures)).0 in
    rw (none.0, none.1) c.requires.1

pub read_head-requires : goal.read_head-requires
read_head-requires g c = lawful g (goal.at.read_head-requires g c).In_ok-least

pub returns-in_err-head-clause-ends : goal.returns-in_err-head-clause-ends
returns-in_err-head-clause-ends g c =
    let l = lawful g (goal.at.returns-in_err-head-clause-ends g c).In_ok-least in
    handed-on shown_found _ c.from_residual-in_err-head.ensures (refused_at-head _ _ l _ (head-refused _ _ _ c.in_err-head.ensures.0))

pub returns-in_err-head-clause-keeps : goal.returns-in_err-head-clause-keeps
returns-in_err-head-clause-keeps g c =
    let l = lawful g (goal.at.returns-in_err-head-clause-keeps g c).In_ok-least in
    let none = blank_at-head _ _ l _ (head-refused _ _ _ c.in_err-head.ensures.0) in
    rw (none.0, none.1) c.requires.1

pub returns-in_err-register-clause-ends : goal.returns-in_err-register-clause-ends
returns-in_err-register-clause-ends g c =
    let p = goal.at.returns-in_err-register-clause-ends g c in
    handed-on shown_found _ c.from_residual-in_err-register.ensures (refused_at-register _ _ (lawful g p.In_ok-least) _ (register-refused _ _ (head g p.In_ok-head) _ c.bit.ensures.0 c.in_err-register.ensures.0))

pub returns-in_err-register-clause-keeps : goal.returns-in_err-register-clause-keeps
returns-in_err-register-clause-keeps g c =
    let p = goal.at.returns-in_err-register-clause-keeps g c in
    let none = blank_at-register _ _ (lawful g p.In_ok-least) _ (register-refused _ _ (head g p.In_ok-head) _ c.bit.ensures.0 c.in_err-register.ensures.0) in
    rw (none.0, none.1) c.requires.1

pub read_sheet-requires : goal.read_sheet-requires
read_sheet-requires g c =
    (lawful g (goal.at.read_sheet-requires g c).In_ok-least, c.in_ok-register.ensures.1, c.requires.0, c.requires.1)

register : (g : _) (c : In_ok-register g) → (h : HeadFound c.args.config.now c.args.msg.now c.in_ok-head.head) → RegisterFound c.args.config.now c.args.msg.now (shown c.in_ok-register.register)
register g c h = register-found _ _ h _ c.bit.ensures.0 c.in_ok-register.ensures.0

pub returns-in_err-at-clause-ends : goal.returns-in_err-at-clause-ends
returns-in_err-at-clause-ends g c =
    let p = goal.at.returns-in_err-at-clause-ends g c in
    let h = head g p.In_ok-head in
    handed-on shown_found _ c.from_residual-in_err-at.ensures (refused_at-sheet _ _ (lawful g p.In_ok-least) _ (sheet-refused _ _ h (register g p.In_ok-register h) c.bit-2.ensures.0 _ c.in_err-at.ensures.ends.0))

-- what is kept of the sheet, however the message ends
kept : (g : _) (c : After-read_sheet g) → lawful_of c.args.config.now ≡ true → HeadFound c.args.config.now c.args.msg.now c.in_ok-head.head
    → RegisterFound c.args.config.now c.args.msg.now (shown c.in_ok-register.register)
    → g.K.Keep.keeps c.read_sheet.new.keep (counts_taken c.args.config.now c.args.msg.now) (cells_taken c.args.config.now c.args.msg.now)
kept g c l h q =
    let same = kept-same _ _ h q c.bit-2.ensures.0 l in
    rw (← same.0, ← same.1) c.read_sheet.ensures.keeps

pub returns-in_err-at-clause-keeps : goal.returns-in_err-at-clause-keeps
returns-in_err-at-clause-keeps g c =
    let p = goal.at.returns-in_err-at-clause-keeps g c in
    let h = head g p.In_ok-head in
    kept g p.After-read_sheet (lawful g p.In_ok-least) h (register g p.In_ok-register h)

sheet : (g : _) (c : In_ok-at g) → (h : HeadFound c.args.config.now c.args.msg.now c.in_ok-head.head) → RegisterFound c.args.config.now c.args.msg.now (shown c.in_ok-register.register)
    → let s = sheet_is c.args.config.now c.args.msg.now in Clean s.cursor c.in_ok-at.at s.cursor.x
sheet g c h q = sheet-clean _ _ h q c.bit-2.ensures.0 _ c.in_ok-at.ensures.ends.0

pub returns-in_err-note-clause-ends : goal.returns-in_err-note-clause-ends
returns-in_err-note-clause-ends g c =
    let p = goal.at.returns-in_err-note-clause-ends g c in
    let h = head g p.In_ok-head in
    let s = sheet g p.In_ok-at h (register g p.In_ok-register h) in
    handed-on shown_found _ c.from_residual-in_err-note.ensures (refused_at-note _ _ (lawful g p.In_ok-least) _ (note-refused _ _ h s c.bit-3.ensures.0 _ c.in_err-note.ensures.0))

pub returns-in_err-note-clause-keeps : goal.returns-in_err-note-clause-keeps
returns-in_err-note-clause-keeps g c =
    let p = goal.at.returns-in_err-note-clause-keeps g c in
    let h = head g p.In_ok-head in
    kept g p.After-read_sheet (lawful g p.In_ok-least) h (register g p.In_ok-register h)

note : (g : _) (c : In_ok-note g) → (h : HeadFound c.args.config.now c.args.msg.now c.in_ok-head.head)
    → (let s = sheet_is c.args.config.now c.args.msg.now in Clean s.cursor c.in_ok-at.at s.cursor.x)
    → Clean (note_is c.args.config.now c.args.msg.now) c.in_ok-note.note.at c.in_ok-note.note.x
note g c h s = note-clean _ _ h s c.bit-3.ensures.0 _ c.in_ok-note.ensures.0

pub returns-then-note-msg-clause-ends : goal.returns-then-note-msg-clause-ends
returns-then-note-msg-clause-ends g c =
    let p = goal.at.returns-then-note-msg-clause-ends g c in
    let h = head g p.In_ok-head in
    let n = note g p.In_ok-note h (sheet g p.In_ok-at h (register g p.In_ok-register h)) in
    refused_at-end _ _ (lawful g p.In_ok-least) _ (end-torn _ _ n c.if-note-msg.true)

pub returns-then-note-msg-clause-keeps : goal.returns-then-note-msg-clause-keeps
returns-then-note-msg-clause-keeps g c =
    let p = goal.at.returns-then-note-msg-clause-keeps g c in
    let h = head g p.In_ok-head in
    kept g p.After-read_sheet (lawful g p.In_ok-least) h (register g p.In_ok-register h)

-- the sums of the sheet
summed : (g : _) (c : In_ok-at g) → (h : HeadFound c.args.config.now c.args.msg.now c.in_ok-head.head) → RegisterFound c.args.config.now c.args.msg.now (shown c.in_ok-register.register)
    → SumsOf (scan_of c.args.config.now c.args.msg.now).ledger c.read_sheet.new.sums
summed g c h q = rw (ledger-same _ _ h q c.bit-2.ensures.0) at c.in_ok-at.ensures.adds

pub above_floor-requires : goal.above_floor-requires
above_floor-requires g c =
    let p = goal.at.above_floor-requires g c in
    least g p.In_ok-least

pub returns-then-not-above_floor-clause-ends : goal.returns-then-not-above_floor-clause-ends
returns-then-not-above_floor-clause-ends g c =
    let p = goal.at.returns-then-not-above_floor-clause-ends g c in
    let h = head g p.In_ok-head in
    let q = register g p.In_ok-register h in
    let n = note g p.In_ok-note h (sheet g p.In_ok-at h q) in
    let l = lawful g p.In_ok-least in
    let floor = floor-is _ _ l p.In_ok-at.read_sheet.new.sums (summed g p.In_ok-at h q) in
    refused_at-end _ _ l _ (end-light _ _ n (c.if-note-msg.false) _ (c.above_floor.ensures ∙ floor) (search rules))

pub returns-then-not-above_floor-clause-keeps : goal.returns-then-not-above_floor-clause-keeps
returns-then-not-above_floor-clause-keeps g c =
    let p = goal.at.returns-then-not-above_floor-clause-keeps g c in
    let h = head g p.In_ok-head in
    kept g p.After-read_sheet (lawful g p.In_ok-least) h (register g p.In_ok-register h)

pub returns-clause-ends : goal.returns-clause-ends
returns-clause-ends g c =
    let p = goal.at.returns-clause-ends g c in
    let h = head g p.In_ok-head in
    let q = register g p.In_ok-register h in
    let n = note g p.In_ok-note h (sheet g p.In_ok-at h q) in
    let l = lawful g p.In_ok-least in
    let floor = floor-is _ _ l p.In_ok-at.read_sheet.new.sums (summed g p.In_ok-at h q) in
    let end = end-passes _ _ n (c.if-note-msg.false) _ (c.above_floor.ensures ∙ floor) (search rules) in
    found-is _ _ h q n l end

pub returns-clause-adds : goal.returns-clause-adds
returns-clause-adds g c =
    let p = goal.at.returns-clause-adds g c in
    let h = head g p.In_ok-head in
    summed g p.In_ok-at h (register g p.In_ok-register h)

pub returns-clause-keeps : goal.returns-clause-keeps
returns-clause-keeps g c =
    let p = goal.at.returns-clause-keeps g c in
    let h = head g p.In_ok-head in
    kept g p.After-read_sheet (lawful g p.In_ok-least) h (register g p.In_ok-register h)
