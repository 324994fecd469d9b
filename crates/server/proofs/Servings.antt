-- Serve is what is done step by step. What becomes of a message is known before the record is tested, and the record test is made where it is: of what is
-- held where nothing else tests it, and by what is answered where that carries what is held.
use Rattle.std.specs.Prelude.{Result, Ok, Err}
use Rattle.std.proofs.Common.{Fits, w8, get_or}
use Prim.Native.Nat.{ℕ, ◌+◌}
use mathlib.Core.Path.{◌≡◌, refl, sym, ap, ◌∙◌}
use mathlib.Core.Bool.{Bool, true, false, cond, false≢true}
use mathlib.Core.List.{List, ◌++◌}
use native.Mathlib.Omega.{arith}
use lib.Dec.{eqb}
use lib.ListN.{length, take, drop}
use Rattle.config.specs.Cluster.{server_of}
use Rattle.config.proofs.Clusters.{server-small}
use Rattle.config.specs.Refusals.{Verdict, by-verdict, refusal, granted}
use Rattle.config.specs.declared.cluster.Config.{Config}
use Rattle.config.specs.declared.answer.Refusal.{Refusal}
use Rattle.ledger.specs.Ledgers.{Shaped}
use Rattle.ledger.specs.Joins.{joined}
use Rattle.ledger.specs.declared.join.Compared.{Compared}
use Rattle.ledger.proofs.Unions.{joined-comm}
use Rattle.message.specs.Answers.{fits as room, Received, Written, over, place, receive_of}
use Rattle.message.specs.declared.envelope.Envelope.{Envelope}
use Rattle.message.specs.Envelopes.{message_of}
use Rattle.message.specs.Faults.{lawful, send_of, Passed}
use Rattle.message.proofs.Found.{sends-held}
use Rattle.message.proofs.Envelopes.{receive-told}
use Rattle.replica.specs.declared.register.Register.{Register}
use Rattle.replica.specs.declared.replica.Replica.{Replica}
use Rattle.replica.specs.Registers.{register_fits, higher}
use Rattle.replica.specs.Replicas.{fits as fits_replica, joinable, join, compared_of}
use Rattle.replica.proofs.Replicas.{fits_told as replica-told}
use Rattle.replica.proofs.Comparisons.{with_higher, compared-apart, compared-joinable, known-join, rows_join, higher-fits}
use Rattle.server.specs.declared.record.Server.{Server}
use Rattle.server.specs.declared.serve.Serving.{Serving}
use Rattle.server.specs.declared.serve.Considered.{Considered}
use Rattle.server.specs.Servers.{fits, holding}
use Rattle.server.specs.Serves.{Outcome, refuse, stray, knows_more, clashes, reply_by, reply_of, serve_fields, serve_of}
use Rattle.server.specs.Servings.{by_answer, serving_of, considered_of, answer_in, unwritten, light_of, lightened, settled, known_in, more_in}
use Rattle.server.proofs.Considered.{brings, tested, with-refused, with-told}
use Rattle.server.proofs.Servers.{fits-replica}
use Rattle.server.proofs.Serves.{reply-lawful}
use Rattle.server.proofs.Told.{clash-own, clash-rest, fields-stray, fields-clash, fields_share, fields-reply}

-- ---- what is answered

-- where the replica does not fit, 1
unfit-answer : (c : Config) (i : ℕ) (e : Envelope) (p : Replica) (out : List ℕ) (at : ℕ) → fits_replica c p ≡ false
    → answer_in c i e p out at ≡ unwritten (refusal 1) out
unfolding answer_in send_of
unfit-answer c i e p out at f = rw f (by_tests (eqb e.kind 3) (lawful c (reply_by i e)))
  where
    by_tests : (k l : Bool) → cond k (unwritten (refusal 1) out) (cond (cond l false false) (place (message_of c (reply_by i e) p) out at) (unwritten (refusal 1) out)) ≡ unwritten (refusal 1) out
    by_tests true l = refl
    by_tests false true = refl
    by_tests false false = refl

-- a message that is placed, or has no room, which is no reason for 6
placed : (s : Server) (p : Replica) (m out : List ℕ) (at : ℕ) → settled s p (place m out at) ≡ reply_of s (holding s p) m out at
unfolding settled place reply_of
placed s p m out at = by-room (room (length out) at (length m))
  where
    w : Bool → Written
    w b = cond b (record { answer = Ok (at + length m); out = take at out ++ over m (drop at out) }) (unwritten (refusal 13) out)

    by-room : (b : Bool) → settled s p (w b) ≡ cond b (record { answer = (w b).answer; server = holding s p; out = (w b).out }) (refuse (refusal 13) s out)
    by-room true = refl
    by-room false = refl

placed-light : (m out : List ℕ) (at : ℕ) → lightened (place m out at) ≡ place m out at
unfolding place light_of
placed-light m out at = by-room (room (length out) at (length m))
  where
    w : Bool → Written
    w b = cond b (record { answer = Ok (at + length m); out = take at out ++ over m (drop at out) }) (unwritten (refusal 13) out)

    by-room : (b : Bool) → lightened (w b) ≡ w b
    by-room true = refl
    by-room false = refl

-- a refusal leaves all as it was, and 1 of both together is 6

refused-left : (s : Server) (p : Replica) (k : Refusal) (out : List ℕ) → settled s p (unwritten k out) ≡ refuse k s out
unfolding settled
refused-left s p k out = refl

light-left : (s : Server) (p : Replica) (out : List ℕ) → settled s p (lightened (unwritten (refusal 1) out)) ≡ refuse (refusal 6) s out
unfolding settled light_of
light-left s p out = refl

-- a share is taken
share-taken : (s : Server) (p : Replica) (out : List ℕ) (at : ℕ)
    → settled s p (record { answer = Ok at; out = out }) ≡ record { answer = Ok at; server = holding s p; out = out }
unfolding settled
share-taken s p out at = refl

-- what serve comes to by what is answered

settled-done : (s : Server) (p : Replica) (w : Written) (k : ℕ) → w.answer ≡ Ok k
    → settled s p w ≡ record { answer = Ok k; server = holding s p; out = w.out }
unfolding settled
settled-done s p w k d = rw d refl

settled-left : (s : Server) (p : Replica) (w : Written) (k : Refusal) → w.answer ≡ Err k → settled s p w ≡ refuse k s w.out
unfolding settled
settled-left s p w k d = rw d refl

light-done : (w : Written) (k : ℕ) → w.answer ≡ Ok k → lightened w ≡ w
light-done w k d = rw d refl

light-refused : (w : Written) (k : Refusal) → w.answer ≡ Err k → lightened w ≡ unwritten (light_of k) w.out
light-refused w k d = rw d refl

-- a message that brings no transfer, where h is held afterwards
module _ (s : Server) (e : Envelope) (h : Register) (out : List ℕ) (at : ℕ) where
  abbrev keeps : Replica
  keeps = record { ledger = s.replica.ledger; register = h }

  pub known-unfit : register_fits s.config s.replica.register ≡ false → known_in s e h out at ≡ refuse (refusal 1) s out
  unfolding known_in
  known-unfit f = rw f (refused-left s keeps (refusal 1) out)

  module _ (f : register_fits s.config s.replica.register ≡ true) where
    pub known-done : (k : ℕ) → (answer_in s.config s.number e keeps out at).answer ≡ Ok k
        → known_in s e h out at ≡ record { answer = Ok k; server = holding s keeps; out = (answer_in s.config s.number e keeps out at).out }
    unfolding known_in
    known-done k d = rw f (settled-done s keeps _ k d)

    pub known-left : (k : Refusal) → (answer_in s.config s.number e keeps out at).answer ≡ Err k
        → known_in s e h out at ≡ refuse k s (answer_in s.config s.number e keeps out at).out
    unfolding known_in
    known-left k d = rw f (settled-left s keeps _ k d)

  -- the ledger stays
  pub known-ledger : (known_in s e h out at).server.replica.ledger ≡ s.replica.ledger
  unfolding known_in settled
  known-ledger = by-answer (cond (register_fits s.config s.replica.register) (answer_in s.config s.number e keeps out at) (unwritten (refusal 1) out))
    where
      outcome : Written → Result ℕ Refusal → Outcome
      outcome w n = by_answer n (λ x. record { answer = Ok x; server = holding s keeps; out = w.out }) (λ k. refuse k s w.out)

      by-answer-of : (w : Written) (n : Result ℕ Refusal) → (outcome w n).server.replica.ledger ≡ s.replica.ledger
      by-answer-of w (Ok x) = refl
      by-answer-of w (Err k) = refl

      by-answer : (w : Written) → (outcome w w.answer).server.replica.ledger ≡ s.replica.ledger
      by-answer w = by-answer-of w w.answer

-- a message that brings transfers
module _ (s : Server) (e : Envelope) (r : Replica) (out : List ℕ) (at : ℕ) where
  abbrev pub gained : Replica
  gained = record { ledger = joined r.ledger s.replica.ledger; register = r.register }

  pub more-unfit : fits_replica s.config s.replica ≡ false → more_in s e r out at ≡ refuse (refusal 1) s out
  unfolding more_in
  more-unfit f = rw f (refused-left s gained (refusal 1) out)

  module _ (f : fits_replica s.config s.replica ≡ true) where
    pub more-done : (k : ℕ) → (answer_in s.config s.number e gained out at).answer ≡ Ok k
        → more_in s e r out at ≡ record { answer = Ok k; server = holding s gained; out = (answer_in s.config s.number e gained out at).out }
    unfolding more_in
    more-done k d = rw f (ap (settled s gained) (light-done _ k d) ∙ settled-done s gained _ k d)

    pub more_left : (k : Refusal) → (answer_in s.config s.number e gained out at).answer ≡ Err k
        → more_in s e r out at ≡ refuse (light_of k) s (answer_in s.config s.number e gained out at).out
    unfolding more_in
    more_left k d = rw f (ap (settled s gained) (light-refused _ k d) ∙ refused-left s gained (light_of k) _)

-- ---- what becomes of a message

-- what is known of a message that is not refused, and whether it brings a transfer
pub record Serves (s : Server) (v : Verdict) (e : Envelope) (r : Replica) (more : Bool) : Type 0 where
  pub taken : v ≡ granted
  pub addressed : stray s e ≡ false
  pub fewer : knows_more s r ≡ false
  pub compared : Compared
  pub joining : compared_of s.config.n s.replica r ≡ Ok compared
  pub lacking : compared.lacks ≡ more

not-refused : (more : Bool) (k : Refusal) → Err k ≡ brings more → ⊥
not-refused true k d = cc
not-refused false k d = cc

same_more : (x more : Bool) → brings x ≡ brings more → x ≡ more
same_more true true d = refl
same_more true false d = cc
same_more false true d = cc
same_more false false d = refl

pub serves-told : (s : Server) (v : Verdict) (e : Envelope) (r : Replica) (more : Bool) → serving_of s v e r ≡ brings more → Serves s v e r more
unfolding serving_of
serves-told s v e r more = by-verdicts v refl
  where
    x : Result Compared Refusal
    x = compared_of s.config.n s.replica r

    by_tests : v ≡ granted → (t m : Bool) (z : Result Compared Refusal) → stray s e ≡ t → knows_more s r ≡ m → x ≡ z
        → tested t m z ≡ brings more
        → Serves s v e r more
    by_tests a true m z p q o d = absurd (not-refused more _ d)
    by_tests a false true z p q o d = absurd (not-refused more _ d)
    by_tests a false false (Ok y) p q o d = record { taken = a; addressed = p; fewer = q; compared = y; joining = o; lacking = same_more y.lacks more d }
    by_tests a false false (Err k) p q o d = absurd (not-refused more k d)

    by-verdicts : (w : Verdict) → v ≡ w → by-verdict w (tested (stray s e) (knows_more s r) x) Err ≡ brings more → Serves s v e r more
    by-verdicts (Ok _) a d = by_tests a (stray s e) (knows_more s r) x refl refl refl d
    by-verdicts (Err k) a d = absurd (not-refused more k d)

-- ---- serve of a message that was read

abbrev pub serve_read : Server → Verdict → Envelope → Replica → List ℕ → ℕ → Outcome
serve_read s v e r out at = cond (fits s) (by-verdict v (serve_fields s e r out at) (λ k. refuse k s out)) (refuse (refusal 1) s out)

module _ (s : Server) (own : server_of s.config s.number ≡ true) (v : Verdict) (e : Envelope) (r : Replica) (out : List ℕ) (at : ℕ)
    (passed : v ≡ granted → Passed s.config e r) where
  -- the record test is that of the replica
  record-test : (b : Bool) → fits_replica s.config s.replica ≡ b → fits s ≡ b
  record-test b f = fits-replica s own ∙ f

  -- a refusal, which comes after 1
  pub serving-refused : (k : Refusal) → serving_of s v e r ≡ Err k
      → serve_read s v e r out at ≡ refuse (cond (fits_replica s.config s.replica) k (refusal 1)) s out
  unfolding serving_of
  serving-refused k d = by-fit (fits_replica s.config s.replica) refl
    where
      x : Result Compared Refusal
      x = compared_of s.config.n s.replica r

      same : (i : Refusal) → ◌≡◌ {A = Result Serving Refusal} (Err i) (Err k) → refuse i s out ≡ refuse k s out
      same i g = let n : i ≡ k = cc in ap (λ m. refuse m s out) n

      by_tests : fits_replica s.config s.replica ≡ true → Passed s.config e r → (t m : Bool) (z : Result Compared Refusal) → stray s e ≡ t
          → knows_more s r ≡ m → x ≡ z → tested t m z ≡ Err k
          → serve_fields s e r out at ≡ refuse k s out
      by_tests f a true m z p q o g = fields-stray s e r out at p ∙ same _ g
      by_tests f a false true z p q o g = fields-clash s e r out at p (clash-own s r q) ∙ same _ g
      by_tests f a false false (Ok y) p q o g = absurd (not-refused y.lacks k (sym g))
      by_tests f a false false (Err i) p q o g =
          let c = compared-apart s.config s.replica r f a.replica-fits i o in
          fields-clash s e r out at p (clash-rest s r false q c.1) ∙ same _ (ap (λ h. Err h) (sym c.0) ∙ g)

      by-verdicts : fits_replica s.config s.replica ≡ true → (w : Verdict) → v ≡ w
          → by-verdict w (tested (stray s e) (knows_more s r) x) Err ≡ Err k
          → by-verdict w (serve_fields s e r out at) (λ i. refuse i s out) ≡ refuse k s out
      by-verdicts f (Ok _) a g = by_tests f (passed a) (stray s e) (knows_more s r) x refl refl refl g
      by-verdicts f (Err i) a g = same i g

      by-fit : (b : Bool) → fits_replica s.config s.replica ≡ b → serve_read s v e r out at ≡ refuse (cond b k (refusal 1)) s out
      by-fit true f = rw (record-test true f) (by-verdicts f v refl d)
      by-fit false f = rw (record-test false f) refl

  module _ (more : Bool) (z : Serves s v e r more) (f : fits_replica s.config s.replica ≡ true) where
    fields : serve_read s v e r out at ≡ serve_fields s e r out at
    fields = rw (record-test true f, z.taken) refl

    -- what is answered by a server that holds both together is what serve comes to
    answers : (p : Replica) → p ≡ join s.replica r → fits_replica s.config p ≡ true
        → (lightened (answer_in s.config s.number e p out at) ≡ answer_in s.config s.number e p out at)
        × (settled s p (answer_in s.config s.number e p out at) ≡ serve_fields s e r out at)
    unfolding answer_in
    answers p d q = by_kind (eqb e.kind 3) refl
      where
        joins : joinable s.config s.replica r ≡ true
        joins =
            compared-joinable s.config s.replica r f (passed z.taken).replica-fits z.compared z.joining
            ∙ ap (fits_replica s.config) (sym d) ∙ q

        clear : clashes s r ≡ false
        clear = clash-rest s r true z.fewer joins

        message : Replica → List ℕ
        message x = message_of s.config (reply_by s.number e) x

        sent : eqb e.kind 3 ≡ false → send_of s.config (reply_by s.number e) p out at ≡ place (message p) out at
        sent k =
            sends-held s.config (reply_by s.number e) p (reply-lawful s e (record-test true f) (passed z.taken).envelope-lawful k) out at
            ∙ rw q refl

        w : Bool → Written
        w k = cond k (record { answer = cond (fits_replica s.config p) (Ok at) (Err (refusal 1)); out = out }) (send_of s.config (reply_by s.number e) p out at)

        by_kind : (k : Bool) → eqb e.kind 3 ≡ k → (lightened (w k) ≡ w k) × (settled s p (w k) ≡ serve_fields s e r out at)
        by_kind true k = (
          rw q refl,
          rw q (share-taken s p out at ∙ ap (λ x. record { answer = Ok at; server = holding s x; out = out }) d ∙ sym (fields_share s e r out at z.addressed clear k)),
        )
        by_kind false k = (
          rw (sent k) (placed-light (message p) out at),
          rw (sent k)
              (placed s p (message p) out at
              ∙ ap (λ x. reply_of s (holding s x) (message x) out at) d
              ∙ sym (fields-reply s e r out at z.addressed clear k)),
        )

  -- a message that brings no transfer
  pub serving-known : Shaped s.replica.ledger → Serves s v e r false
      → serve_read s v e r out at ≡ known_in s e (higher s.replica.register r.register) out at
  unfolding known_in
  serving-known l z = by-fit (fits_replica s.config s.replica) (register_fits s.config g) refl refl
    where
      g : Register
      g = s.replica.register

      p : Replica
      p = with_higher s.replica.ledger g r.register

      fit : register_fits s.config g ≡ true → fits_replica s.config p ≡ fits_replica s.config s.replica
      fit h = higher-fits s.config s.replica.ledger g r.register h (replica-told s.config r (passed z.taken).replica-fits).register-fits

      by-fit : (b h : Bool) → fits_replica s.config s.replica ≡ b → register_fits s.config g ≡ h
          → serve_read s v e r out at ≡ settled s p (cond h (answer_in s.config s.number e p out at) (unwritten (refusal 1) out))
      by-fit true true f h =
          fields false z f
          ∙ sym (answers false z f p (sym (known-join s.config s.replica r f (passed z.taken).replica-fits z.compared z.joining l.sixteen-counts l.all-cells z.lacking)) (fit h ∙ f)).1
      by-fit true false f h = absurd (false≢true (sym h ∙ (replica-told s.config s.replica f).register-fits))
      by-fit false true f h = rw (record-test false f, unfit-answer s.config s.number e p out at (fit h ∙ f)) (sym (refused-left s p (refusal 1) out))
      by-fit false false f h = rw (record-test false f) (sym (refused-left s p (refusal 1) out))

  -- a message that brings transfers
  pub serving-more : Serves s v e r true
      → serve_read s v e r out at ≡ more_in s e (record { ledger = r.ledger; register = higher s.replica.register r.register }) out at
  unfolding more_in join
  serving-more z = by-fit (fits_replica s.config s.replica) refl
    where
      p : Replica
      p = with_higher (joined r.ledger s.replica.ledger) s.replica.register r.register

      together : fits_replica s.config s.replica ≡ true → p ≡ join s.replica r
      together f =
          ap (λ l. with_higher l s.replica.register r.register)
          (sym (joined-comm s.replica.ledger r.ledger (rows_join s.config s.replica r f (passed z.taken).replica-fits z.compared z.joining)))

      by-light : fits_replica s.config s.replica ≡ true → (b : Bool) → fits_replica s.config p ≡ b
          → serve_read s v e r out at ≡ settled s p (lightened (answer_in s.config s.number e p out at))
      by-light f true q =
          let a = answers true z f p (together f) q in
          fields true z f ∙ sym (ap (settled s p) a.0 ∙ a.1)
      by-light f false q =
          fields true z f
          ∙ fields-clash s e r out at z.addressed
          (clash-rest s r false z.fewer
          (compared-joinable s.config s.replica r f (passed z.taken).replica-fits z.compared z.joining ∙ ap (fits_replica s.config) (sym (together f)) ∙ q))
          ∙ sym (ap (λ w. settled s p (lightened w)) (unfit-answer s.config s.number e p out at q) ∙ light-left s p out)

      by-fit : (b : Bool) → fits_replica s.config s.replica ≡ b
          → serve_read s v e r out at ≡ settled s p (cond b (lightened (answer_in s.config s.number e p out at)) (unwritten (refusal 1) out))
      by-fit true f = by-light f (fits_replica s.config p) refl
      by-fit false f = rw (record-test false f) (sym (refused-left s p (refusal 1) out))

-- of a server whose number is none, 1
pub serve-none : (s : Server) (msg out : List ℕ) (at : ℕ) → server_of s.config s.number ≡ false → serve_of s msg out at ≡ refuse (refusal 1) s out
unfolding serve_of fits
serve-none s msg out at o = rw o refl

-- ---- serve of a message, by what becomes of it

module _ (s : Server) (own : server_of s.config s.number ≡ true) (msg out : List ℕ) (at : ℕ)
    (b : (k : ℕ) → Fits w8 (get_or msg k 0)) where
  -- what the message says
  abbrev x : Received
  x = receive_of s.config msg

  read : serve_of s msg out at ≡ serve_read s x.verdict x.envelope x.replica out at
  unfolding serve_of
  read = refl

  passed : x.verdict ≡ granted → Passed s.config x.envelope x.replica
  passed = receive-told s.config msg (record { byte = λ k. omega (arith, b k) })

  -- a refusal, which comes after 1
  module _ (k : Refusal) (d : considered_of s msg ≡ Err k) where
    refused : serve_of s msg out at ≡ refuse (cond (fits_replica s.config s.replica) k (refusal 1)) s out
    unfolding considered_of
    refused = read ∙ serving-refused s own x.verdict x.envelope x.replica out at passed k (with-refused x.envelope _ k d)

    pub refuses : fits_replica s.config s.replica ≡ true → serve_of s msg out at ≡ refuse k s out
    refuses f = refused ∙ rw f refl

    pub refuses-unfit : fits_replica s.config s.replica ≡ false → serve_of s msg out at ≡ refuse (refusal 1) s out
    refuses-unfit f = refused ∙ rw f refl

  -- a message that is taken, of which d is known and whose replica is r
  module _ (d : Considered) (r : Replica) (e : considered_of s msg ≡ Ok d) (g : r ≡ x.replica) where
    told : (more : Bool) → Ok d.serving ≡ brings more → (d.envelope ≡ x.envelope) × Serves s x.verdict x.envelope x.replica more
    unfolding considered_of
    told more h =
        let t = with-told x.envelope _ d e in
        (t.0, serves-told s x.verdict x.envelope x.replica more (t.1 ∙ h))

    -- one that brings no transfer
    pub knows : Shaped s.replica.ledger → d.serving ≡ Serving.Known
        → serve_of s msg out at ≡ known_in s d.envelope (higher s.replica.register r.register) out at
    knows l h =
        let t = told false (ap Ok h) in
        rw (t.0, g) (read ∙ serving-known s own x.verdict x.envelope x.replica out at passed l t.1)

    -- one that brings transfers
    pub gains : d.serving ≡ Serving.More
        → serve_of s msg out at ≡ more_in s d.envelope (record { ledger = r.ledger; register = higher s.replica.register r.register }) out at
    gains h =
        let t = told true (ap Ok h) in
        rw (t.0, g) (read ∙ serving-more s own x.verdict x.envelope x.replica out at passed t.1)

-- by which the check proves `serve_lent`
pub ruleset serving = (server-small, serve-none, refuses, refuses-unfit, knows, gains)
