-- A message of the machine and the program's: what is sent is the byte table at the message's fields, reading it finds the record for each field again,
-- and a replica that is held joins with one that was sent.
use Rattle.std.specs.Prelude.{Ok}
use Prim.Native.Nat.{ℕ, ◌+◌, ◌≤◌}
use native.Mathlib.Nat.{le_refl}
use native.Mathlib.Omega.{arith}
use mathlib.Core.Path.{◌≡◌, refl, sym, ap, ap₂, ◌∙◌}
use mathlib.Core.Bool.{Bool, true, false, cond}
use mathlib.Core.List.{List, [], ◌∷◌, map}
use borrow.Author.Tests.{eq-eqb, ne_eqb, lt-ltb, le-ltb}
use lib.Dec.{leb}
use lib.ListN.{length}
use Rattle.config.specs.Cluster.{lawful_of}
use Rattle.config.specs.declared.cluster.Config.{Config}
use Rattle.config.specs.Refusals.{granted}
use Rattle.config.proofs.Clusters.{lawful-bounds}
use Rattle.ledger.specs.Checks.{above_floor}
use Rattle.format.specs.Table.{encode_fields}
use Rattle.format.proofs.Same.{encode_same}
use Rattle.format.proofs.Sizes.{fields-length}
use Rattle.message.specs.Envelopes.{fields_with as program_fields, message_of, Typed as TypedEnvelope}
use Rattle.message.specs.Cursors.{within}
use Rattle.message.specs.Faults.{kind_number_fits, lawful}
use Rattle.message.specs.Answers.{fits as room, place, between, receive_of}
use Rattle.replica.specs.declared.replica.Replica.{Replica as Kept}
use Rattle.message.specs.Answers.{Received}
use Rattle.replica.specs.Replicas.{fits, joinable, join, Typed}
use Rattle.replica.proofs.Replicas.{told-fits, told-joinable}
use Rattle.message.proofs.Lawful.{told-lawful}
use Rattle.message.proofs.Envelopes.{received-back}
use Rattle.message.proofs.Placed.{place-room, placed-message}
use Rattle.machine.specs.Sets.{union}
use Rattle.machine.specs.Parties.{Replica, join as plain_join, Kind, request, reply, share, kind_number, Message, fields_of, bytes_of}
use Rattle.machine.specs.Runs.{wrote}
use Rattle.machine.specs.Calls.{refuse, send}
use Rattle.machine.proofs.Moves.{Seated}
use Rattle.machine.proofs.DesksKept.{kinds-apart}
use Rattle.machine.proofs.Clashes.{Joins}
use Rattle.machine.proofs.WorkRanges.{HeadRange}
use Rattle.machine.proofs.Ranges.{RegisterRange}
use Rattle.runs.specs.Calls.{number_answer, sent_by}
use Rattle.runs.proofs.Records.{ledger_for, replica_for, envelope_for, Held}
use Rattle.runs.proofs.Ledgers.{sheet-for, ledger-typed, ledger-bounded, above-for, joins-for, joined-for}
use Rattle.runs.proofs.Registers.{higher-for, agree-for, value-back, trimmed-for, register-fits, register-typed}

-- ---- replicas

module _ (c : Config) (valid : lawful_of c ≡ true) (x : Replica) (h : Held c x) where
  pub replica-fits : fits c (replica_for x) ≡ true
  replica-fits =
      told-fits c (replica_for x)
      (record {
        lawful = valid;
        ledger-bounded = ledger-bounded c valid x.set h.range.set;
        ledger-above = above-for c valid x.set h.range.set h.sound;
        register-fits = register-fits c x.register h.range.register;
      })

  pub replica-typed : Typed (replica_for x)
  replica-typed =
      record {
        ledger-typed = ledger-typed c valid x.set h.range.set;
        register-typed = register-typed c x.register h.range.register;
      }

-- replicas that join in the machine join in the program, to the same
pub join-for : (c : Config) (x y : Replica) → Joins c x y → join (replica_for x) (replica_for y) ≡ replica_for (plain_join x y)
unfolding join plain_join
join-for c x y j =
    ap₂ {C = Kept} (λ l g. record { ledger = l; register = g }) (joined-for x.set y.set j.rows) (higher-for x.register y.register)

pub joinable-for : (c : Config) → lawful_of c ≡ true → (x y : Replica) → Joins c x y
    → joinable c (replica_for x) (replica_for y) ≡ true
joinable-for c valid x y j =
    told-joinable c (replica_for x) (replica_for y)
    (record {
      agreeing = agree-for x.register y.register j.registers;
      joining = joins-for x.set y.set j.rows;
      above =
          ap (above_floor c) (joined-for x.set y.set j.rows)
          ∙ above-for c valid (union x.set y.set) j.range j.sound;
    })

-- ---- the bytes of a message

-- those that the program writes are those of the byte table
pub message-for : (c : Config) (m : Message) → RegisterRange c m.replica.register → message_of c (envelope_for m) (replica_for m.replica) ≡ bytes_of c m
unfolding message_of bytes_of
message-for c m w =
    let x = program_fields (envelope_for m) (replica_for m.replica) in
    ap (λ v. encode_fields c (x v)) (value-back c m.replica.register w)
    ∙ encode_same c (x m.replica.register.value) (fields_of m).count (fields_of m).cell (sheet-for m.replica.set)

-- no message is empty
pub message-some : (c : Config) (m : Message) → 1 ≤ length (bytes_of c m)
unfolding bytes_of
message-some c m = omega (arith, fields-length c (fields_of m))

-- each kind is one of the byte table
kind-within : (k : Kind) → within 1 3 (kind_number k) ≡ true
unfolding within
kind-within request = refl
kind-within reply = refl
kind-within share = refl

kind-small : (k : Kind) → kind_number k ≤ 255
kind-small request = omega arith
kind-small reply = omega arith
kind-small share = omega arith

module _ (c : Config) (valid : lawful_of c ≡ true) (m : Message) (h : HeadRange c m) (k : Held c m.replica) where
  -- a message that is no share has a desk and a round
  asked : (n : Kind) → m.kind ≡ n → (kind_number n ≡ 3 → ⊥) → Seated m.desk × (1 ≤ m.round) × (m.round ≤ 4294967295)
  asked n e f = h.asked (λ s. kinds-apart (sym e ∙ s) f)

  -- it has the fields that its kind has
  fields-stand : (n : Kind) → m.kind ≡ n → kind_number_fits (kind_number n) m.desk m.round m.note ≡ true
  unfolding kind_number_fits
  fields-stand request e =
      let a = asked request e (λ f. omega arith) in
      simp (ne_eqb m.desk 0 (λ z. omega (arith, a.0.some)), ne_eqb m.round 0 (λ z. omega (arith, a.1)))
  fields-stand reply e =
      let a = asked reply e (λ f. omega arith) in
      simp (ne_eqb m.desk 0 (λ z. omega (arith, a.0.some)), ne_eqb m.round 0 (λ z. omega (arith, a.1)))
  fields-stand share e =
      let s = h.shared e in
      simp (eq-eqb m.desk 0 s.0, eq-eqb m.round 0 s.1, eq-eqb m.note 0 s.2)

  -- and they are small
  fields-small : (n : Kind) → m.kind ≡ n → (m.desk ≤ 65535) × (m.round ≤ 4294967295)
  fields-small request e = let a = asked request e (λ f. omega arith) in (a.0.most, a.2)
  fields-small reply e = let a = asked reply e (λ f. omega arith) in (a.0.most, a.2)
  fields-small share e = let s = h.shared e in (omega (arith, s.0), omega (arith, s.1))

  pub envelope-lawful : lawful c (envelope_for m) ≡ true
  envelope-lawful =
      told-lawful c (envelope_for m)
      (record { kind-good = kind-within m.kind; fields-good = fields-stand m.kind refl; server-good = lt-ltb m.server c.n h.server })

  pub envelope-typed : TypedEnvelope (envelope_for m)
  envelope-typed =
      record {
        kind_fits = kind-small m.kind;
        server-fits = omega (arith, h.server, (lawful-bounds c valid).most);
        desk-fits = (fields-small m.kind refl).0;
        round-fits = (fields-small m.kind refl).1;
        note-fits = omega (arith, h.note);
      }

  -- reading them finds the message again
  pub received-for : receive_of c (bytes_of c m) ≡ record { verdict = granted; envelope = envelope_for m; replica = replica_for m.replica }
  received-for =
      ap (receive_of c) (sym (message-for c m k.range.register))
      ∙ received-back c (envelope_for m) (replica_for m.replica) envelope-typed (replica-typed c valid m.replica k) envelope-lawful
      (replica-fits c valid m.replica k)
      ∙ ap {B = Received} (λ g. record { verdict = granted; envelope = envelope_for m; replica = record { ledger = ledger_for m.replica.set; register = g } })
      (trimmed-for c m.replica.register k.range.register)

-- ---- a message written into a buffer

-- who hands back the place that it was given wrote nothing, and sends nothing
pub nothing-sent : (out : List ℕ) (at : ℕ) → sent_by (Ok at) out at ≡ []
nothing-sent out at = ap (λ b. cond b (between out at at ∷ []) []) (le-ltb at at (le_refl at))

module _ {A : Type 0} (c : Config) (old new : A) (m : Message) (at : ℕ) (out : List ℕ) where
  -- the answer, and what is sent
  pub placed-answer : number_answer (place (bytes_of c m) out at).answer ≡ (send c old new m at (length out)).answer
  unfolding place room send
  placed-answer = by-test (leb (at + length (bytes_of c m)) (length out)) refl
    where
      by-test : (b : Bool) → leb (at + length (bytes_of c m)) (length out) ≡ b
          → number_answer (place (bytes_of c m) out at).answer ≡ (send c old new m at (length out)).answer
      by-test true e = rw e refl
      by-test false e = rw e refl

  pub placed-sent : sent_by (place (bytes_of c m) out at).answer (place (bytes_of c m) out at).out at ≡ map (bytes_of c) (send c old new m at (length out)).sent
  unfolding place room send
  placed-sent = by-test (leb (at + length (bytes_of c m)) (length out)) refl
    where
      next : ℕ
      next = at + length (bytes_of c m)

      by-test : (b : Bool) → leb (at + length (bytes_of c m)) (length out) ≡ b
          → sent_by (place (bytes_of c m) out at).answer (place (bytes_of c m) out at).out at ≡ map (bytes_of c) (send c old new m at (length out)).sent
      by-test true e =
          let is = placed-message (bytes_of c m) out at next (place-room (bytes_of c m) out at e) in
          let more = lt-ltb at next (omega (arith, message-some c m)) in
          rw (e, more) (ap (λ l. l ∷ []) (rw e at is))
      by-test false e = rw e refl

-- who sends and does nothing else is as before
pub send-same : {A : Type 0} (c : Config) (x : A) (m : Message) (at size : ℕ) → (send c x x m at size).party ≡ x
unfolding send
send-same c x m at size = by-room (leb (at + length (bytes_of c m)) size)
  where
    by-room : (b : Bool) → (cond b (record { answer = wrote (at + length (bytes_of c m)); party = x; sent = m ∷ [] }) (refuse 13 x)).party ≡ x
    by-room true = refl
    by-room false = refl
