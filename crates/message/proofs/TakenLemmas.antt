-- What the calls that read answer says what is received: the message of one that passes, which has passed the checks, and otherwise the refusal; and the
-- sender is a number below 16.
use Rattle.std.specs.Prelude.{Ok, Err}
use Prim.Native.Nat.{ℕ, ◌-◌, ◌<◌}
use native.Mathlib.Omega.{arith}
use mathlib.Core.Path.{◌≡◌, refl, sym, ap, ap₂, subst, ◌∙◌}
use mathlib.Core.Bool.{true}
use mathlib.Core.List.{List}
use Rattle.config.specs.Cluster.{valid_of}
use Rattle.config.specs.Refusals.{Verdict, granted, by-verdict}
use Rattle.config.specs.declared.answer.Refusal.{Refusal}
use Rattle.config.specs.declared.cluster.Config.{Config}
use Rattle.config.proofs.Clusters.{valid-bounds}
use Rattle.ledger.specs.declared.ledger.Ledger.{Ledger}
use Rattle.replica.specs.declared.register.Register.{Register}
use Rattle.replica.specs.declared.replica.Replica.{Replica}
use Rattle.message.specs.declared.answer.Message.{Message}
use Rattle.message.specs.declared.answer.Taken.{Taken}
use Rattle.message.specs.declared.envelope.Envelope.{Envelope}
use Rattle.message.specs.Envelopes.{Bytes}
use Rattle.message.specs.Faults.{Passed}
use Rattle.message.specs.Scans.{read_map, read_kind, head_of, scan_of}
use Rattle.message.specs.Answers.{Received, check, refused_of, receive_of, message_answer, taken_answer, taken_ledger}
use Rattle.message.proofs.Backs.{number-most}
use Rattle.message.proofs.Numbers.{accepted-check, received-verdict}
use Rattle.message.proofs.Rounds.{check-told, received}
use Rattle.message.proofs.Envelopes.{receive-told, receive-refused}

-- ---- an answer by a verdict

pub answer-passed : {A : Type 0} (v : Verdict) (x y : A) → by-verdict v (Ok x) Err ≡ Ok y → (v ≡ granted) × (x ≡ y)
answer-passed (Ok _) x y e = (refl, cc)
answer-passed (Err k) x y e = cc

pub answer-refused : {A : Type 0} (v : Verdict) (x : A) (r : Refusal) → by-verdict v (Ok x) Err ≡ Err r → v ≡ Err r
answer-refused (Ok _) x r e = cc
answer-refused (Err k) x r e = cc

-- ---- a message that passes

abbrev passed_with : Envelope → Replica → Received
passed_with e r = record { verdict = granted; envelope = e; replica = r }

abbrev with_ledger : Ledger → Register → Replica
with_ledger l g = record { ledger = l; register = g }

made : (x : Received) (e : Envelope) (r : Replica) → x.verdict ≡ granted → x.envelope ≡ e → x.replica ≡ r → x ≡ passed_with e r
made x e r p q s = rw (← p, ← q, ← s) refl

pub message-received : (c : Config) (msg : List ℕ) (m : Message) → message_answer c msg ≡ Ok m → receive_of c msg ≡ passed_with m.envelope m.replica
unfolding message_answer
message-received c msg m d =
    let told = answer-passed (receive_of c msg).verdict _ _ d in
    made (receive_of c msg) _ _ told.0 (ap (λ (x : Message). x.envelope) told.1) (ap (λ (x : Message). x.replica) told.1)

pub message-refused : (c : Config) (msg : List ℕ) (r : Refusal) → message_answer c msg ≡ Err r → receive_of c msg ≡ refused_of r
unfolding message_answer
message-refused c msg r d = receive-refused c msg r (answer-refused (receive_of c msg).verdict _ r d)

pub taken-ledger : (c : Config) (msg : List ℕ) → (receive_of c msg).verdict ≡ granted → taken_ledger c msg ≡ (receive_of c msg).replica.ledger
unfolding taken_ledger
taken-ledger c msg a =
    let clean : check c msg ≡ 0 = accepted-check (check c msg) (sym (received-verdict c msg) ∙ a) in
    rw (check-told c msg clean).0 (ap (λ (x : Received). x.replica.ledger) (sym (received c msg clean)))

pub taken-refused : (c : Config) (msg : List ℕ) (r : Refusal) → taken_answer c msg ≡ Err r → receive_of c msg ≡ refused_of r
unfolding taken_answer
taken-refused c msg r d = receive-refused c msg r (answer-refused (receive_of c msg).verdict _ r d)

-- of t and the ledger l, which were taken of a message
module _ (c : Config) (msg : List ℕ) (t : Taken) (d : taken_answer c msg ≡ Ok t) where
  pub taken-verdict : (receive_of c msg).verdict ≡ granted
  unfolding taken_answer
  taken-verdict = (answer-passed (receive_of c msg).verdict _ _ d).0

  pub taken-received : (l : Ledger) → l ≡ taken_ledger c msg → receive_of c msg ≡ passed_with t.envelope (with_ledger l t.register)
  unfolding taken_answer
  taken-received l g =
      let told = answer-passed (receive_of c msg).verdict _ _ d in
      let same : (receive_of c msg).replica.ledger ≡ l = sym (g ∙ taken-ledger c msg told.0) in
      made (receive_of c msg) _ _ told.0 (ap (λ (x : Taken). x.envelope) told.1)
      (ap₂ (λ (x : Ledger) (y : Register). with_ledger x y) same (ap (λ (x : Taken). x.register) told.1))

  pub taken-passed : (l : Ledger) → l ≡ taken_ledger c msg → Bytes msg → Passed c t.envelope (with_ledger l t.register)
  taken-passed l g b =
      subst (λ (x : Received). Passed c x.envelope x.replica) (taken-received l g) (receive-told c msg b taken-verdict)

-- a server that is read is below n
server-found : (c : Config) (msg : List ℕ) → valid_of c ≡ true → (scan_of c msg).envelope.server < 16
unfolding scan_of head_of
server-found c msg valid = omega (arith, number-most msg 1 1 0 (c.n - 1) (read_kind msg (read_map msg)), (valid-bounds c valid).most)

pub taken-server : (c : Config) (msg : List ℕ) (t : Taken) → valid_of c ≡ true → taken_answer c msg ≡ Ok t → t.envelope.server < 16
unfolding taken_answer
taken-server c msg t valid d =
    let clean : check c msg ≡ 0 = accepted-check (check c msg) (sym (received-verdict c msg) ∙ taken-verdict c msg t d) in
    let told = (answer-passed (receive_of c msg).verdict _ _ d).1 in
    let same : t.envelope.server ≡ (scan_of c msg).envelope.server =
    ap (λ (x : Taken). x.envelope.server) (sym told) ∙ ap (λ (x : Received). x.envelope.server) (received c msg clean) in
    omega (arith, server-found c msg valid)
