-- Serve: a server that fits stays one and loses nothing, and a refusal leaves all as it was. A request that passed its checks is answered with a
-- message that the reader takes: it reads back to the request's desk, round and note and to what the server holds once it has joined what the request
-- carries.
use Rattle.std.specs.Prelude.{Ok, Err}
use Prim.Native.Nat.{ℕ}
use native.Mathlib.Omega.{arith}
use mathlib.Core.Path.{◌≡◌, refl, sym, ◌∙◌}
use mathlib.Core.Bool.{Bool, true, false, cond}
use mathlib.Core.List.{List}
use borrow.Author.Tests.{lt-ltb, eq-eqb, ne_eqb}
use lib.Dec.{eqb}
use Rattle.config.specs.Refusals.{refusal, granted}
use Rattle.config.specs.declared.answer.Refusal.{Refusal}
use Rattle.config.proofs.Clusters.{server-valid, server-small, value-not-refused}
use Rattle.message.specs.Envelopes.{Bytes, trimmed_replica, Typed as TypedEnvelope}
use Rattle.message.specs.Cursors.{within}
use Rattle.message.specs.Faults.{kind_number_fits, lawful, Passed}
use Rattle.message.specs.declared.envelope.Envelope.{Envelope}
use Rattle.message.specs.Answers.{Received}
use Rattle.replica.specs.declared.replica.Replica.{Replica}
use Rattle.replica.specs.Replicas.{fits as fits_replica, join, Typed as TypedReplica}
use Rattle.message.specs.Answers.{receive_of}
use Rattle.replica.proofs.Replicas.{join-typed, join-fits, Grows, grows-left, grows-right}
use Rattle.message.proofs.Lawful.{lawful-told, told-lawful}
use Rattle.message.proofs.Envelopes.{received-back, receive-told}
use Rattle.message.proofs.Placed.{place-room}
use Rattle.server.specs.declared.record.Server.{Server}
use Rattle.server.specs.Servers.{fits, Typed}
use Rattle.server.specs.Serves.{refuse, stray, clashes, joined_server, reply_envelope, reply_message, serve_fields, serve_of}
use Rattle.server.proofs.Servers.{fits_told, told-fits}
use Rattle.server.proofs.Told.{clear-joinable}
use Rattle.server.proofs.Outcomes.{reply, shared, serve-cases, serve-either}

-- ---- the server after joining

pub joined-fits : (s : Server) (r : Replica) → fits s ≡ true → fits_replica s.config r ≡ true → clashes s r ≡ false → fits (joined_server s r) ≡ true
joined-fits s r f g e =
    let t = fits_told s f in
    told-fits (joined_server s r)
    (record { server-in = t.server-in; replica-fits = join-fits s.config s.replica r t.replica-fits g (clear-joinable s r e) })

pub joined_typed : (s : Server) (r : Replica) → Typed s → TypedReplica r → Typed (joined_server s r)
joined_typed s r t u = record {
  config-typed = t.config-typed;
  number_fits = t.number_fits;
  replica-typed = join-typed s.replica r t.replica-typed u;
}

-- ---- the reply's envelope

-- the fields that a request has are those that its reply has
reply-kind : (kind desk round note : ℕ) → eqb kind 3 ≡ false → kind_number_fits kind desk round note ≡ true → kind_number_fits 2 desk round note ≡ true
unfolding kind_number_fits
reply-kind kind desk round note k e = rw k at e

pub reply-lawful : (s : Server) (e : Envelope)
    → fits s ≡ true
    → lawful s.config e ≡ true
    → eqb e.kind 3 ≡ false
    → lawful s.config (reply_envelope s e) ≡ true
unfolding within
reply-lawful s e f l k =
    told-lawful s.config (reply_envelope s e) (record {
      kind-good = refl;
      fields-good = reply-kind e.kind e.desk e.round e.note k (lawful-told s.config e l).fields-good;
      server-good = lt-ltb _ _ (server-valid s.config s.number (fits_told s f).server-in).1;
    })

pub reply-typed : (s : Server) (e : Envelope) → fits s ≡ true → TypedEnvelope e → TypedEnvelope (reply_envelope s e)
reply-typed s e f t = record {
  kind_fits = omega arith;
  server-fits = omega (arith, server-small s.config s.number (fits_told s f).server-in);
  desk-fits = t.desk-fits;
  round-fits = t.round-fits;
  note-fits = t.note-fits;
}

-- ---- the reply

module _ (s : Server) (e : Envelope) (r : Replica) (t : Typed s) (f : fits s ≡ true) (p : Passed s.config e r) where
  -- what the server holds after joining is what a call can have, and fits
  held-typed : TypedReplica (join s.replica r)
  held-typed = join-typed s.replica r t.replica-typed p.replica-typed

  held_fits : clashes s r ≡ false → fits_replica s.config (join s.replica r) ≡ true
  held_fits c = (fits_told (joined_server s r) (joined-fits s r f p.replica-fits c)).replica-fits

  -- the reply reads back to the request's desk, round and note and what the server holds after joining, with zeros after the bytes of the value
  pub reply-back : e.kind ≡ 1
      → clashes s r ≡ false
      → receive_of s.config (reply_message (joined_server s r) e)
      ≡ record { verdict = granted; envelope = reply_envelope s e; replica = trimmed_replica (joined_server s r).replica }
  reply-back k c =
      received-back s.config (reply_envelope s e) (join s.replica r) (reply-typed s e f p.envelope-typed) held-typed
      (reply-lawful s e f p.envelope-lawful (ne_eqb e.kind 3 (λ d. omega arith)))
      (held_fits c)

-- ---- what serve keeps

module _ (s : Server) (msg out : List ℕ) (at : ℕ) where
  -- what the message says
  abbrev got : Received
  got = receive_of s.config msg

  -- a server that fits stays one
  pub serve-fits : Bytes msg → fits s ≡ true → fits (serve_of s msg out at).server ≡ true
  serve-fits b f =
      serve-either (λ o. fits o.server ≡ true) s msg out at (λ k. f)
      (λ a c x y. joined-fits s got.replica f (receive-told s.config msg b a).replica-fits c)

  -- and one that a call can have stays one
  pub serve-typed : Bytes msg → Typed s → Typed (serve_of s msg out at).server
  serve-typed b t =
      serve-either (λ o. Typed o.server) s msg out at (λ k. t)
      (λ a c x y. joined_typed s got.replica t (receive-told s.config msg b a).replica-typed)

  -- A message that is accepted leaves all that the server had and all that the message had.
  pub serve-grows : (x : ℕ)
      → (serve_of s msg out at).answer ≡ Ok x
      → Grows s.replica (serve_of s msg out at).server.replica × Grows got.replica (serve_of s msg out at).server.replica
  serve-grows x =
      serve-either (λ o. o.answer ≡ Ok x → Grows s.replica o.server.replica × Grows got.replica o.server.replica) s msg out at
      (λ k d. absurd (value-not-refused x k (sym d)))
      (λ a c n b d.
      let j = clear-joinable s got.replica c in
      (grows-left s.config s.replica got.replica j, grows-right s.config s.replica got.replica j))

  -- A refusal leaves the record and the buffer as they were.
  pub serve-refused : (k : Refusal)
      → (serve_of s msg out at).answer ≡ Err k
      → ((serve_of s msg out at).server ≡ s) × ((serve_of s msg out at).out ≡ out)
  serve-refused k =
      serve-cases (λ o. o.answer ≡ Err k → (o.server ≡ s) × (o.out ≡ out)) s msg out at (λ n d. (refl, refl))
      (λ f a. record {
        strays = λ t d. (refl, refl);
        clash = λ t c d. (refl, refl);
        shares = λ j e d. absurd (value-not-refused at k d);
        replies = λ j e q d. absurd (value-not-refused _ k (sym (place-room (reply s got.envelope got.replica) out at q) ∙ d));
        narrow = λ j e q d. (refl, refl);
      })

-- a share leaves the buffer as it was
pub serve-share : (s : Server) (e : Envelope) (r : Replica) (out : List ℕ) (at : ℕ) → e.kind ≡ 3 → (serve_fields s e r out at).out ≡ out
unfolding serve_fields
serve-share s e r out at k = rw (eq-eqb e.kind 3 k) (by_tests (stray s e) (clashes s r))
  where
    by_tests : (t c : Bool)
        → (cond t (refuse (refusal 7) s out) (cond c (refuse (refusal 6) s out) (shared s r out at))).out ≡ out
    by_tests true c = refl
    by_tests false true = refl
    by_tests false false = refl
