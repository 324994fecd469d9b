-- What the calls answer, from what the message was found to say.
use Rattle.std.specs.Prelude.{Result, Ok, Err}
use Prim.Native.Nat.{ℕ, ◌+◌, ◌*◌, ◌/◌, ◌%◌, ◌≤◌}
use native.Mathlib.Omega.{arith}
use mathlib.Core.Path.{◌≡◌, refl, sym, ap, ap₂, ◌∙◌}
use mathlib.Core.Bool.{Bool, true, false, cond}
use mathlib.Core.List.{List, []}
use borrow.Author.Tests.{eq-eqb, ne_eqb, le-ltb}
use lib.Dec.{eqb}
use lib.ListN.{get_or, replicate, length-replicate, get_or-replicate}
use Rattle.quorums.specs.Accounts.{weight, margin}
use Rattle.quorums.specs.Tables.{table}
use Rattle.quorums.proofs.Tables.{is-table}
use Rattle.config.specs.Cluster.{lawful_of, server_of}
use Rattle.config.proofs.Clusters.{lawful-valid}
use Rattle.config.specs.Refusals.{refusal, granted}
use Rattle.config.specs.declared.answer.Refusal.{Refusal}
use Rattle.config.specs.declared.cluster.Config.{Config}
use Rattle.ledger.specs.Ledgers.{fresh_ledger, Typed, received_of, given_of}
use Rattle.ledger.specs.Maps.{named, map_of}
use Rattle.ledger.specs.Sums.{accounts_in, Sums}
use Rattle.ledger.specs.Weights.{weight_answer, quorum_answer}
use Rattle.ledger.specs.declared.ledger.Ledger.{Ledger}
use Rattle.ledger.proofs.Weights.{sums-weight, sums-margin, received-sums, given-sums}
use Rattle.replica.specs.declared.register.Register.{Register}
use Rattle.message.specs.Answers.{Received, check, verdict_of, check_answer, receive_of, message_answer, taken_answer, taken_ledger, fields_in, fields_answer, value_answer}
use Rattle.message.specs.Scans.{sheet_of, ledger_read, scan_of}
use Rattle.message.specs.declared.answer.Message.{Message}
use Rattle.message.specs.declared.answer.Taken.{Taken}
use Rattle.message.specs.declared.envelope.Envelope.{Envelope}
use Rattle.message.proofs.Rounds.{check-told, received}
use Rattle.message.proofs.SheetBacks.{ledger-typed}
use Rattle.message.proofs.TakenLemmas.{message-received, message-refused as received-refused, taken-refused, taken-received}
use Rattle.reader.specs.Keeping.{KeptIn}
use Rattle.reader.specs.Registers.{Shown, register_at, kept_at}
use Rattle.reader.specs.Sheets.{sheet_counts, sheet_cells}
use Rattle.reader.specs.Tallies.{SumsOf}
use Rattle.reader.specs.Weighings.{weight_in, quorum_in}
use Rattle.reader.specs.Wholes.{ShownFound, found_answer, counts_taken, cells_taken}
use Rattle.reader.specs.declared.tally.Tally.{Tally}
use Rattle.reader.proofs.Outcomes.{outcome-ok, outcome-err}

-- ---- the sums of a message's sheet are small, also where the message is refused

ledger-small : (c : Config) (msg : List ℕ) → Typed (scan_of c msg).ledger
unfolding scan_of
ledger-small c msg = ledger-typed c msg _ _

pub received-small : (c : Config) (msg : List ℕ) {xs : List ℕ} → xs ≡ table 16 (received_of (scan_of c msg).ledger) → Sums 68719476720 xs
received-small c msg e = rw e (received-sums _ (ledger-small c msg))

pub given-small : (c : Config) (msg : List ℕ) {xs : List ℕ} → xs ≡ table 16 (given_of (scan_of c msg).ledger) → Sums 68719476720 xs
given-small c msg e = rw e (given-sums _ (ledger-small c msg))

-- ---- the message is refused

-- its number is that of the refusal
pub record Fails (c : Config) (msg : List ℕ) (r : Refusal) : Type 0 where
  pub some : check c msg ≡ 0 → ⊥
  pub is : r ≡ refusal (check c msg)

module _ (c : Config) (msg : List ℕ) (r : Refusal) (e : Err r ≡ found_answer c msg) where
  pub fails : Fails c msg r
  unfolding found_answer
  fails = let told = outcome-err _ _ r e in record { some = told.0; is = told.1 }

  some : eqb (check c msg) 0 ≡ false
  some = ne_eqb (check c msg) 0 fails.some

  pub check-refused : Err r ≡ check_answer c msg
  unfolding check_answer verdict_of
  check-refused = simp some (ap Err fails.is)

  pub taken_refused : Err r ≡ taken_answer c msg
  unfolding taken_answer receive_of
  taken_refused = simp some (ap Err fails.is)

  pub value-refused : [] ≡ value_answer c msg
  unfolding value_answer
  value-refused = simp some

  pub weight-refused : (i : ℕ) → Err r ≡ weight_in c i msg
  unfolding weight_in
  weight-refused i = simp some (ap Err fails.is)

  pub quorum-refused : (m : ℕ) → Err r ≡ quorum_in c m msg
  unfolding quorum_in
  quorum-refused m = simp some (ap Err fails.is)

-- ---- or it passes

module _ (c : Config) (msg : List ℕ) (f : ShownFound) (e : Ok f ≡ found_answer c msg) where
  pub passes : check c msg ≡ 0
  unfolding found_answer
  passes = (outcome-ok _ _ f e).0

  envelope-is : f.envelope ≡ (scan_of c msg).envelope
  unfolding found_answer
  envelope-is = ap (λ (x : ShownFound). x.envelope) (outcome-ok _ _ f e).1

  register-is : f.register ≡ register_at msg (scan_of c msg).register
  unfolding found_answer
  register-is = ap (λ (x : ShownFound). x.register) (outcome-ok _ _ f e).1

  none : eqb (check c msg) 0 ≡ true
  none = eq-eqb (check c msg) 0 passes

  pub check-passed : granted ≡ check_answer c msg
  unfolding check_answer verdict_of
  check-passed = simp none

  pub value-passed : f.register.value ≡ value_answer c msg
  unfolding value_answer
  value-passed = simp none (ap (λ (g : Shown). g.value) register-is)

  pub taken-passed : Ok (record { envelope = f.envelope; register = kept_at f.register }) ≡ taken_answer c msg
  unfolding taken_answer receive_of
  taken-passed = simp none (ap₂ (λ (e : Envelope) (g : Register). taken e g) envelope-is (ap kept_at register-is))
    where
      taken : Envelope → Register → Result Taken Refusal
      taken e g = Ok (record { envelope = e; register = g })

  -- the sums of the sheet
  ledger-is : (scan_of c msg).ledger ≡ (receive_of c msg).replica.ledger
  ledger-is = ap (λ (x : Received). x.replica.ledger) (sym (received c msg passes))

  module _ (sums : Tally) (adds : SumsOf (scan_of c msg).ledger sums) where
    sums-are : SumsOf (receive_of c msg).replica.ledger sums
    sums-are = rw (← ledger-is) adds

    pub weight-passed : (i : ℕ) → server_of c i ≡ true → Ok (weight (accounts_in c sums.received sums.given) i) ≡ weight_in c i msg
    unfolding weight_in weight_answer
    weight-passed i s =
        rw (none, s, (check-told c msg passes).0)
        (ap Ok (ap₂ (λ r g. weight (accounts_in c r g) i) sums-are.0 sums-are.1 ∙ sums-weight c _ i s))

    pub quorum-passed : (m : ℕ) → map_of c m ≡ true → Ok (margin c.n (accounts_in c sums.received sums.given) (named m)) ≡ quorum_in c m msg
    unfolding quorum_in quorum_answer
    quorum-passed m s =
        rw (none, s, (check-told c msg passes).0)
        (ap Ok
        (ap₂ (λ r g. margin c.n (accounts_in c r g) (named m)) sums-are.0 sums-are.1
        ∙ sums-margin c _ m (lawful-valid c (check-told c msg passes).0)))

  -- a server that there isn't, and a map with a bit from n on

  pub server-refused : (i : ℕ) → c.n ≤ i → Err (refusal 1) ≡ weight_in c i msg
  unfolding weight_in weight_answer server_of
  server-refused i h = simp (none, lawful-valid c (check-told c msg passes).0, le-ltb i c.n h)

  pub map-refused : (m : ℕ) → map_of c m ≡ false → Err (refusal 1) ≡ quorum_in c m msg
  unfolding quorum_in quorum_answer
  map-refused m n = simp (none, n)

-- ---- the ledger that was kept

tables : (l : Ledger) (f : ℕ → ℕ) (g : ℕ → ℕ → ℕ) → KeptIn l f g → l ≡ record { counts = table 16 f; cells = table 256 (λ k. g (k / 16) (k % 16)) }
tables l f g h =
    ap₂ {C = Ledger} (λ x y. record { counts = x; cells = y }) (is-table 16 f l.counts h.sixteen h.counted)
    (is-table 256 _ l.cells h.square
    (λ k b.
    let place : k ≡ k / 16 * 16 + k % 16 = omega arith in
    ap (λ n. get_or l.cells n 0) place ∙ h.filled (k / 16) (k % 16) (omega arith) (omega arith)))

zeros : (n : ℕ) → table n (λ k. 0) ≡ replicate n 0
zeros n = sym (is-table n (λ k. 0) (replicate n 0) (length-replicate {A = ℕ} n 0) (λ k b. get_or-replicate n k 0 0 b))

pub ledger-kept : (c : Config) (msg : List ℕ) (l : Ledger) → KeptIn l (counts_taken c msg) (cells_taken c msg) → l ≡ taken_ledger c msg
unfolding taken_ledger scan_of sheet_of ledger_read counts_taken cells_taken sheet_counts sheet_cells
ledger-kept c msg l h = by_lawful (lawful_of c) refl
  where
    by_lawful : (b : Bool) → lawful_of c ≡ b → l ≡ cond b (scan_of c msg).ledger fresh_ledger
    by_lawful true e = tables l _ _ (simp e at h)
    by_lawful false e = tables l _ _ (simp e at h) ∙ ap₂ {C = Ledger} (λ x y. record { counts = x; cells = y }) (zeros 16) (zeros 256)

-- ---- what is received, by what was taken

pub message-refused : (c : Config) (msg : List ℕ) (r : Refusal) → taken_answer c msg ≡ Err r → Err r ≡ message_answer c msg
unfolding message_answer
message-refused c msg r e = rw (ap (λ (x : Received). x.verdict) (taken-refused c msg r e)) refl

pub message-passed : (c : Config) (msg : List ℕ) (t : Taken) (l : Ledger) → taken_answer c msg ≡ Ok t → l ≡ taken_ledger c msg
    → Ok (record { envelope = t.envelope; replica = record { ledger = l; register = t.register } }) ≡ message_answer c msg
unfolding message_answer
message-passed c msg t l e g = rw (taken-received c msg t e l g) refl

-- all but the value of it
pub fields-refused : (c : Config) (msg : List ℕ) (r : Refusal) → message_answer c msg ≡ Err r → Err r ≡ fields_answer c msg
unfolding fields_answer
fields-refused c msg r e = rw (ap (λ (x : Received). x.verdict) (received-refused c msg r e)) refl

pub fields-passed : (c : Config) (msg : List ℕ) (m : Message) → message_answer c msg ≡ Ok m → Ok (fields_in m.envelope m.replica) ≡ fields_answer c msg
unfolding fields_answer
fields-passed c msg m e = rw (message-received c msg m e) refl
