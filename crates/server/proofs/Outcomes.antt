-- What serve can come to, as one principle for the fields of a message and one for a message: whoever shows P of each outcome has it of serve.
use Rattle.std.specs.Prelude.{Ok, Err}
use Prim.Native.Nat.{ℕ}
use mathlib.Core.Path.{◌≡◌, refl}
use mathlib.Core.Bool.{Bool, true, false, cond}
use mathlib.Core.List.{List}
use borrow.Author.Tests.{eqb-true}
use lib.Dec.{eqb}
use lib.ListN.{length}
use Rattle.config.specs.Refusals.{by-verdict, refusal, granted}
use Rattle.config.specs.declared.answer.Refusal.{Refusal}
use Rattle.config.specs.Refusals.{Verdict}
use Rattle.config.specs.Refusals.{Number}
use Rattle.message.specs.Answers.{fits as room, place, receive_of}
use Rattle.message.specs.declared.envelope.Envelope.{Envelope}
use Rattle.message.specs.Answers.{Received}
use Rattle.replica.specs.declared.replica.Replica.{Replica}
use Rattle.server.specs.declared.record.Server.{Server}
use Rattle.server.specs.Servers.{fits, holding}
use Rattle.server.specs.Serves.{Outcome, refuse, stray, clashes, joined_server, reply_message, reply_of, serve_fields, serve_of}

-- what is known of a message that is joined
pub record Joins (s : Server) (e : Envelope) (r : Replica) : Type 0 where
  pub addressed : stray s e ≡ false
  pub clear : clashes s r ≡ false

-- the reply's bytes
abbrev pub reply : Server → Envelope → Replica → List ℕ
reply s e r = reply_message (joined_server s r) e

-- a share that is joined, and a request that is joined and replied to
abbrev pub shared : Server → Replica → List ℕ → ℕ → Outcome
shared s r out at = record { answer = Ok at; server = joined_server s r; out = out }

abbrev pub replied : Server → Envelope → Replica → List ℕ → ℕ → Outcome
replied s e r out at = record { answer = (place (reply s e r) out at).answer; server = joined_server s r; out = (place (reply s e r) out at).out }

-- P of each outcome of the fields of a message: 7, 6, a share, a reply, and 13
pub record Does (P : Outcome → Type 0) (s : Server) (e : Envelope) (r : Replica) (out : List ℕ) (at : ℕ) : Type 0 where
  pub strays : stray s e ≡ true → P (refuse (refusal 7) s out)
  pub clash : stray s e ≡ false → clashes s r ≡ true → P (refuse (refusal 6) s out)
  pub shares : Joins s e r → e.kind ≡ 3 → P (shared s r out at)
  pub replies : Joins s e r → eqb e.kind 3 ≡ false → room (length out) at (length (reply s e r)) ≡ true → P (replied s e r out at)
  pub narrow : Joins s e r → eqb e.kind 3 ≡ false → room (length out) at (length (reply s e r)) ≡ false → P (refuse (refusal 13) s out)

module _ (P : Outcome → Type 0) (s : Server) (e : Envelope) (r : Replica) (out : List ℕ) (at : ℕ) (does : Does P s e r out at) where
  reply-cases : Joins s e r → eqb e.kind 3 ≡ false → P (reply_of s (joined_server s r) (reply s e r) out at)
  unfolding reply_of
  reply-cases j k = by-room (room (length out) at (length (reply s e r))) refl
    where
      by-room : (b : Bool) → room (length out) at (length (reply s e r)) ≡ b → P (cond b (replied s e r out at) (refuse (refusal 13) s out))
      by-room true q = does.replies j k q
      by-room false q = does.narrow j k q

  pub fields-cases : P (serve_fields s e r out at)
  unfolding serve_fields
  fields-cases = by_tests (stray s e) refl (clashes s r) refl (eqb e.kind 3) refl
    where
      by_tests : (t : Bool) → stray s e ≡ t → (c : Bool) → clashes s r ≡ c → (k : Bool) → eqb e.kind 3 ≡ k
          → P (cond t (refuse (refusal 7) s out)
          (cond c (refuse (refusal 6) s out) (cond k (shared s r out at) (reply_of s (joined_server s r) (reply s e r) out at))))
      by_tests true a c b k d = does.strays a
      by_tests false a true b k d = does.clash a b
      by_tests false a false b true d = does.shares (record { addressed = a; clear = b }) (eqb-true e.kind 3 d)
      by_tests false a false b false d = reply-cases (record { addressed = a; clear = b }) d

-- P of each outcome of a message: a refusal of the record or of the message, or what its fields come to
module _ (P : Outcome → Type 0) (s : Server) (msg out : List ℕ) (at : ℕ) where
  -- what the message says
  abbrev got : Received
  got = receive_of s.config msg

  pub serve-cases : ((k : Refusal) → P (refuse k s out))
      → (fits s ≡ true → got.verdict ≡ granted → Does P s got.envelope got.replica out at)
      → P (serve_of s msg out at)
  unfolding serve_of
  serve-cases left does = by-fit (fits s) refl
    where
      by-taken : fits s ≡ true → (v : Verdict) → got.verdict ≡ v
          → P (by-verdict v (serve_fields s got.envelope got.replica out at) (λ k. refuse k s out))
      by-taken f (Ok _) d = fields-cases P s got.envelope got.replica out at (does f d)
      by-taken f (Err k) d = left k

      by-fit : (b : Bool) → fits s ≡ b
          → P (cond b (by-verdict got.verdict (serve_fields s got.envelope got.replica out at) (λ k. refuse k s out)) (refuse (refusal 1) s out))
      by-fit true f = by-taken f got.verdict refl
      by-fit false f = left (refusal 1)

-- The same where an accepted message needs no telling apart: a refusal that leaves all as it was, or the server after joining with a value and some
-- buffer.
abbrev pub served : Server → Replica → Number → List ℕ → Outcome
served s r n b = record { answer = n; server = joined_server s r; out = b }

module _ (P : Outcome → Type 0) (s : Server) (msg out : List ℕ) (at : ℕ) where
  pub serve-either : ((k : Refusal) → P (refuse k s out))
      → ((receive_of s.config msg).verdict ≡ granted
      → clashes s (receive_of s.config msg).replica ≡ false
      → (n : Number) (b : List ℕ)
      → P (served s (receive_of s.config msg).replica n b))
      → P (serve_of s msg out at)
  serve-either left joins =
      serve-cases P s msg out at left
      (λ f a. record {
        strays = λ t. left (refusal 7);
        clash = λ t c. left (refusal 6);
        shares = λ j k. joins a j.clear _ _;
        replies = λ j k q. joins a j.clear _ _;
        narrow = λ j k q. left (refusal 13);
      })

-- serve changes nothing of a record but what it holds
pub serve-kept : (s : Server) (msg out : List ℕ) (at : ℕ) → (serve_of s msg out at).server ≡ holding s (serve_of s msg out at).server.replica
serve-kept s msg out at =
    serve-either (λ o. o.server ≡ holding s o.server.replica) s msg out at (λ k. refl) (λ a c n b. refl)
