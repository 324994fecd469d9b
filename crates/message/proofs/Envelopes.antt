-- Messages whole. A replica that fits travels with every lawful envelope: the reader takes the message, and finds both again, the value with zeros
-- after its bytes. What a reader takes is a lawful envelope and a replica that fits, and writing them gives the bytes back; what it refuses says nothing.
use Rattle.std.specs.Prelude.{Err}
use Prim.Native.Nat.{ℕ}
use mathlib.Core.Path.{◌≡◌, refl, sym, ap, ◌∙◌}
use mathlib.Core.Bool.{Bool, true, false, cond}
use mathlib.Core.List.{List, []}
use lib.Dec.{eqb}
use Rattle.config.specs.declared.cluster.Config.{Config}
use Rattle.config.specs.Refusals.{refusal, granted}
use Rattle.config.specs.declared.answer.Refusal.{Refusal}
use Rattle.replica.specs.declared.replica.Replica.{Replica}
use Rattle.quorums.specs.Tables.{run, table}
use Rattle.replica.specs.Values.{bytes_of, empty_value}
use Rattle.replica.specs.Replicas.{fresh_replica, fits, Typed as TypedReplica}
use Rattle.replica.proofs.Values.{bytes-of-value, trimmed-bytes, fits-short}
use Rattle.replica.proofs.Registers.{fits-value}
use Rattle.replica.proofs.Replicas.{fits_told}
use Rattle.message.specs.declared.envelope.Envelope.{Envelope}
use Rattle.message.specs.Answers.{Received}
use Rattle.message.specs.Envelopes.{blank_envelope, carried, message_of, trimmed_replica, Typed, Bytes}
use Rattle.message.specs.Scans.{scan_of}
use Rattle.message.specs.Answers.{check, verdict_of, value_part, accepted_of, refused_of, receive_of, value_answer}
use Rattle.message.specs.Faults.{lawful, Passed}
use Rattle.message.proofs.Found.{taken-told, received-found}
use Rattle.message.proofs.Numbers.{accepted-check, refused-check, received-verdict}
use Rattle.message.proofs.Parts.{value-short}
use Rattle.message.proofs.Rounds.{message-again, received-typed}

-- ---- the value

-- an empty value has no bytes
start-bytes : bytes_of empty_value ≡ []
unfolding bytes_of table run
start-bytes = refl

-- the value that is received has the bytes of the part that is the value
pub value-received : (c : Config) (msg : List ℕ) → bytes_of (receive_of c msg).replica.register.value ≡ value_answer c msg
unfolding receive_of value_answer
value-received c msg = by-test (eqb (check c msg) 0)
  where
    part : List ℕ
    part = value_part msg (scan_of c msg).register

    by-test : (b : Bool)
        → bytes_of (cond b (accepted_of (scan_of c msg) msg) (refused_of (refusal (check c msg)))).replica.register.value ≡ cond b part []
    by-test true = bytes-of-value part (value-short c msg)
    by-test false = start-bytes

-- ---- writing

module _ (c : Config) (e : Envelope) (r : Replica) (t : Typed e) (s : TypedReplica r) (l : lawful c e ≡ true) (f : fits c r ≡ true) where
  -- the reader takes the message
  pub sent-check : check c (message_of c e r) ≡ 0
  sent-check = (taken-told c e r t s).1 (l, f)

  -- and found again
  pub received-back : receive_of c (message_of c e r) ≡ record { verdict = granted; envelope = e; replica = trimmed_replica r }
  received-back = received-found c e r t s sent-check

  -- and so are the bytes of the value
  pub value-back : value_answer c (message_of c e r) ≡ carried r
  value-back =
      let short = fits-short r.register.value (fits-value c r.register (fits_told c r f).register-fits) in
      sym (value-received c (message_of c e r))
      ∙ ap (λ (x : Received). bytes_of x.replica.register.value) received-back
      ∙ trimmed-bytes r.register.value short

-- ---- reading

-- what is refused says nothing
pub receive-refused : (c : Config) (msg : List ℕ) (k : Refusal) → (receive_of c msg).verdict ≡ Err k → receive_of c msg ≡ refused_of k
unfolding receive_of verdict_of
receive-refused c msg k e =
    let told = sym (received-verdict c msg) ∙ e in
    let none = refused-check (check c msg) k told in
    rw none (ap {B = Received} (λ v. record { verdict = v; envelope = blank_envelope; replica = fresh_replica }) (rw none at told))

module _ (c : Config) (msg : List ℕ) (b : Bytes msg) (a : (receive_of c msg).verdict ≡ granted) where
  clean : check c msg ≡ 0
  clean = accepted-check (check c msg) (sym (received-verdict c msg) ∙ a)

  typed : Typed (receive_of c msg).envelope × TypedReplica (receive_of c msg).replica
  typed = received-typed c msg b clean

  -- what is taken is a lawful envelope and a replica that fits
  pub receive-told : Passed c (receive_of c msg).envelope (receive_of c msg).replica
  receive-told =
      let taken = (taken-told c _ _ typed.0 typed.1).0 (ap (check c) (message-again c msg b clean) ∙ clean) in
      record { envelope-lawful = taken.0; envelope-typed = typed.0; replica-typed = typed.1; replica-fits = taken.1 }
