-- Share: a server that fits writes a message that the reader takes, and that reads back to what the server holds.
use Rattle.std.specs.Prelude.{Ok, Err}
use Prim.Native.Nat.{ℕ}
use native.Mathlib.Omega.{arith}
use mathlib.Core.Path.{◌≡◌, refl, sym, ap, ◌∙◌}
use mathlib.Core.Bool.{Bool, true, false, cond}
use mathlib.Core.List.{List}
use borrow.Author.Tests.{lt-ltb}
use Rattle.config.specs.Cluster.{server_of}
use Rattle.config.specs.Refusals.{refusal, granted}
use Rattle.config.proofs.Clusters.{server-valid, server-small, value-not-refused}
use Rattle.message.specs.Cursors.{within}
use Rattle.message.specs.Faults.{kind_number_fits, lawful, send_of}
use Rattle.message.specs.Envelopes.{trimmed_replica, Typed as TypedEnvelope}
use Rattle.message.specs.Answers.{Written, place, between, receive_of}
use Rattle.message.proofs.Lawful.{told-lawful}
use Rattle.message.proofs.Found.{sends-held}
use Rattle.message.proofs.Envelopes.{received-back}
use Rattle.message.proofs.Placed.{placed-message}
use Rattle.server.specs.declared.record.Server.{Server}
use Rattle.server.specs.Servers.{fits, Typed}
use Rattle.server.specs.Shares.{share_envelope, share_message, share_of}
use Rattle.server.proofs.Servers.{fits_told}

-- the kind and the sender stand, and nothing else
share-lawful : (s : Server) → server_of s.config s.number ≡ true → lawful s.config (share_envelope s) ≡ true
unfolding within kind_number_fits
share-lawful s o =
    told-lawful s.config (share_envelope s) (record {
      kind-good = refl;
      fields-good = refl;
      server-good = lt-ltb _ _ (server-valid s.config s.number o).1;
    })

-- what a server sends of what it holds is the share
pub share-sends : (s : Server) → server_of s.config s.number ≡ true → (out : List ℕ) (at : ℕ)
    → send_of s.config (share_envelope s) s.replica out at ≡ share_of s out at
unfolding share_of fits
share-sends s o out at = rw o (sends-held s.config (share_envelope s) s.replica (share-lawful s o) out at)

share_typed : (s : Server) → fits s ≡ true → TypedEnvelope (share_envelope s)
share_typed s f = record {
  kind_fits = omega arith;
  server-fits = omega (arith, server-small s.config s.number (fits_told s f).server-in);
  desk-fits = omega arith;
  round-fits = omega arith;
  note-fits = omega arith;
}

module _ (s : Server) (t : Typed s) (f : fits s ≡ true) where
  -- a share reads back to its sender and what that holds, with zeros after the bytes of the value
  pub share_back : receive_of s.config (share_message s)
      ≡ record { verdict = granted; envelope = share_envelope s; replica = trimmed_replica s.replica }
  share_back =
      received-back s.config (share_envelope s) s.replica (share_typed s f) t.replica-typed (share-lawful s (fits_told s f).server-in) (fits_told s f).replica-fits

-- a share that is accepted is one of a server that fits, and stands in the buffer
accepted-told : (s : Server) (out : List ℕ) (at next : ℕ) → (share_of s out at).answer ≡ Ok next
    → (fits s ≡ true) × (share_of s out at ≡ place (share_message s) out at)
unfolding share_of
accepted-told s out at next = by-fit (fits s)
  where
    left : Written
    left = record { answer = Err (refusal 1); out = out }

    by-fit : (b : Bool) → (cond b (place (share_message s) out at) left).answer ≡ Ok next
        → (b ≡ true) × (cond b (place (share_message s) out at) left ≡ place (share_message s) out at)
    by-fit true d = (refl, refl)
    by-fit false d = absurd (value-not-refused next (refusal 1) (sym d))

-- The bytes that an accepted share left in the buffer, from the place given up to the place handed back, read back to what was meant.
pub share-shares : (s : Server) (out : List ℕ) (at next : ℕ) → Typed s → (share_of s out at).answer ≡ Ok next
    → receive_of s.config (between (share_of s out at).out at next)
    ≡ record { verdict = granted; envelope = share_envelope s; replica = trimmed_replica s.replica }
share-shares s out at next t e =
    let a = accepted-told s out at next e in
    ap (λ (w : Written). receive_of s.config (between w.out at next)) a.1
    ∙ ap (receive_of s.config) (placed-message (share_message s) out at next (sym (ap (λ (w : Written). w.answer) a.1) ∙ e))
    ∙ share_back s t a.0

-- by which the check proves `share`
pub ruleset sharing = (server-small, share-sends)
