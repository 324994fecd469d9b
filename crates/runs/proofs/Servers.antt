-- A server does what the machine's does: transfer, share and serve, on the record for what the machine's server holds.
use Prim.Native.Nat.{ℕ, suc, ◌≤◌, ◌<◌}
use native.Mathlib.Omega.{arith}
use mathlib.Core.Path.{◌≡◌, refl}
use mathlib.Core.Bool.{Bool, true, false, cond, not}
use mathlib.Core.List.{List}
use borrow.Author.Tests.{eq-eqb, ne_eqb, le-ltb, ltb-true, leb-true, leb-false}
use lib.Dec.{eqb, leb, ltb}
use lib.ListN.{length}
use Rattle.quorums.proofs.Tests.{eqb_comm, leb-not}
use Rattle.config.specs.Cluster.{lawful_of}
use Rattle.config.specs.declared.cluster.Config.{Config}
use Rattle.config.specs.Refusals.{refusal}
use Rattle.config.proofs.Clusters.{valid-server, lawful-valid}
use Rattle.ledger.specs.Changes.{lawful, spares}
use Rattle.message.specs.Answers.{fits as room}
use Rattle.server.specs.declared.record.Server.{Server}
use Rattle.server.specs.Servers.{fits, accepted, refused}
use Rattle.server.specs.Transfers.{gave, give_of, transfer_of}
use Rattle.server.specs.Shares.{share_of}
use Rattle.server.specs.Serves.{stray, clashes, joined_server, reply_message, reply_of, serve_fields, serve_of}
use Rattle.server.proofs.Servers.{told-fits}
use Rattle.server.proofs.Told.{fields-stray, fields_share, fields-reply, reply-written, reply-narrow}
use Rattle.machine.specs.Sets.{count}
use Rattle.machine.specs.Parties.{Replica, join, Kind, request, reply, share, Message, by_kind, bytes_of}
use Rattle.machine.specs.Runs.{done, wrote}
use Rattle.machine.specs.Calls.{most_count, accept, refuse, send, given-away, spares as plain_spares, transfer_by, share_by, reply_to, served, answer_request, serve_by}
use Rattle.machine.proofs.Joins.{join-either}
use Rattle.machine.proofs.Clashes.{Joins}
use Rattle.machine.proofs.Ranges.{RegisterRange}
use Rattle.machine.proofs.WorkRanges.{HeadRange}
use Rattle.runs.specs.Calls.{server_called, served_called, transfer_call, share_call, serve_call}
use Rattle.runs.proofs.Records.{replica_for, server_for, envelope_for, called_for, Held}
use Rattle.runs.proofs.Ledgers.{count-below, server-below, weight-for, added-for}
use Rattle.runs.proofs.Messages.{replica-fits, join-for, joinable-for, message-for, received-for, placed-answer, placed-sent, send-same, nothing-sent}

-- none, and not at least one
none-not : (d : ℕ) → eqb d 0 ≡ not (leb 1 d)
none-not d = by-test (leb 1 d) refl
  where
    by-test : (t : Bool) → leb 1 d ≡ t → eqb d 0 ≡ not t
    by-test true e = ne_eqb d 0 (λ q. omega (arith, leb-true 1 d e))
    by-test false e = eq-eqb d 0 (omega (arith, leb-false 1 d e))

-- a reply of server i, written where it fits
reply-for : (c : Config) (i : ℕ) (old new : Replica) (m : Message) (place : ℕ) (out : List ℕ)
    → served_called (reply_of (server_for c i old) (server_for c i new) (bytes_of c m) out place) place
    ≡ called_for c (server_for c i) (send c old new m place (length out))
unfolding send room
reply-for c i old new m place out = by-room (room (length out) place (length (bytes_of c m))) refl
  where
    by-room : (b : Bool) → room (length out) place (length (bytes_of c m)) ≡ b
        → served_called (reply_of (server_for c i old) (server_for c i new) (bytes_of c m) out place) place
        ≡ called_for c (server_for c i) (send c old new m place (length out))
    by-room true e =
        rw (
          reply-written (server_for c i old) (server_for c i new) (bytes_of c m) out place e,
          placed-answer c old new m place out,
          placed-sent c old new m place out,
          e,
        )
        refl
    by-room false e = rw (reply-narrow (server_for c i old) (server_for c i new) (bytes_of c m) out place e, e) refl

module _ (c : Config) (valid : lawful_of c ≡ true) (i : ℕ) (below : i < c.n) (x : Replica) (h : Held c x) where
  -- the record test passes
  pub server-fits : fits (server_for c i x) ≡ true
  server-fits = told-fits _ (record { server-in = valid-server c i (lawful-valid c valid) below; replica-fits = replica-fits c valid x h })

  -- the server's record
  abbrev s : Server
  s = server_for c i x

  -- ---- transfer

  -- the tests after the record's own are the machine's
  give-for : (j d : ℕ) → server_called (give_of (server_for c i x) j d) ≡ called_for c (server_for c i) (transfer_by c i x j d)
  unfolding give_of lawful spares transfer_by
  give-for j d =
      rw (
        eqb_comm j i,
        leb-not c.n j,
        none-not d,
        leb-not most_count (count x.set i),
        count-below x.set i (server-below c valid i below),
        weight-for c valid x.set h.range.set i below,
      )
      (by_tests (eqb i j) (ltb j c.n) (leb 1 d) (ltb (count x.set i) most_count) (plain_spares c x i d)
      (λ e. server-below c valid j (ltb-true j c.n e)))
    where
      -- whether the taker is the giver, is one of the servers, the amount is at least 1, a number is left, and what is kept is above the floor
      by_tests : (same inside some left above : Bool) → (inside ≡ true → j < 16)
          → server_called
          (cond (cond same false (cond inside some false))
          (cond left (cond above (accepted (gave s j d)) (refused (refusal 10) s)) (refused (refusal 12) s))
          (refused (refusal 11) s))
          ≡ called_for c (server_for c i)
          (cond same (refuse 11 x)
          (cond (not inside) (refuse 11 x)
          (cond (not some) (refuse 11 x)
          (cond (not left) (refuse 12 x) (cond above (accept done (given-away x i j d)) (refuse 10 x))))))
      by_tests true inside some left above l = refl
      by_tests false false some left above l = refl
      by_tests false true false left above l = refl
      by_tests false true true false above l = refl
      by_tests false true true true false l = refl
      by_tests false true true true true l = rw (added-for x.set i j (suc (count x.set i)) d (server-below c valid i below) (l refl)) refl

  pub transfer-for : (j d : ℕ) → transfer_call (server_for c i x) j d ≡ called_for c (server_for c i) (transfer_by c i x j d)
  unfolding transfer_call transfer_of
  transfer-for j d = rw server-fits (give-for j d)

  -- ---- share

  -- the message
  abbrev shares : Message
  shares = record { kind = share; server = i; desk = 0; round = 0; note = 0; replica = x }

  pub share-for : (place : ℕ) (out : List ℕ) → share_call (server_for c i x) place out ≡ called_for c (server_for c i) (share_by c i x place (length out))
  unfolding share_call share_of share_by
  share-for place out =
      rw (
        server-fits,
        message-for c shares h.range.register,
        placed-answer c x x shares place out,
        placed-sent c x x shares place out,
        send-same c x shares place (length out),
      )
      refl

  -- ---- serve

  module _ (m : Message) (k : Held c m.replica) (j : Joins c x m.replica) where
    -- what is joined does not clash
    clear : count m.replica.set i ≤ count x.set i → clashes s (replica_for m.replica) ≡ false
    unfolding clashes
    clear own =
        rw (
          count-below x.set i (server-below c valid i below),
          count-below m.replica.set i (server-below c valid i below),
          le-ltb (count x.set i) (count m.replica.set i) own,
          joinable-for c valid x m.replica j,
        )
        refl

    -- the server after joining
    abbrev joins : Server
    joins = joined_server s (replica_for m.replica)

    -- its register is within the ranges
    joined-range : RegisterRange c (join x m.replica).register
    joined-range = join-either (RegisterRange c) x m.replica h.range.register k.range.register

    -- a request is joined, then replied to
    answer-for : (place : ℕ) (out : List ℕ)
        → served_called (reply_of s joins (reply_message joins (envelope_for m)) out place) place
        ≡ called_for c (server_for c i) (answer_request c i x m place (length out))
    unfolding answer_request
    answer-for place out =
        rw (join-for c x m.replica j, message-for c (reply_to m i (served x m)) joined-range)
        (reply-for c i x (served x m) (reply_to m i (served x m)) place out)

    -- the fields of a message that does not clash
    fields-for : clashes s (replica_for m.replica) ≡ false
        → (place : ℕ) (out : List ℕ)
        → served_called (serve_fields s (envelope_for m) (replica_for m.replica) out place) place
        ≡ called_for c (server_for c i) (serve_by c i x m place (length out))
    unfolding serve_by stray
    fields-for free place out = by-kinds m.kind refl
      where
        -- a request for this server, and for another
        by_address : m.kind ≡ request → (b : Bool) → eqb m.server i ≡ b
            → served_called (serve_fields s (envelope_for m) (replica_for m.replica) out place) place
            ≡ called_for c (server_for c i) (cond b (answer_request c i x m place (length out)) (refuse 7 x))
        by_address e true a =
            rw (fields-reply s (envelope_for m) (replica_for m.replica) out place (rw (e, a) refl) free (rw e refl)) (answer-for place out)
        by_address e false a = rw (fields-stray s (envelope_for m) (replica_for m.replica) out place (rw (e, a) refl)) refl

        by-kinds : (t : Kind) → m.kind ≡ t
            → served_called (serve_fields s (envelope_for m) (replica_for m.replica) out place) place
            ≡ called_for c (server_for c i)
            (by_kind t (cond (eqb m.server i) (answer_request c i x m place (length out)) (refuse 7 x)) (refuse 7 x)
            (accept (wrote place) (served x m)))
        by-kinds request e = by_address e (eqb m.server i) refl
        by-kinds reply e = rw (fields-stray s (envelope_for m) (replica_for m.replica) out place (rw e refl)) refl
        by-kinds share e =
            rw (
              fields_share s (envelope_for m) (replica_for m.replica) out place (rw e refl) free (rw e refl),
              join-for c x m.replica j,
              nothing-sent out place,
            )
            refl

  -- serve of a message that was sent: it joins, and has no more of the server's own transfers than the server made
  pub serve-for : (m : Message) → HeadRange c m → Held c m.replica → Joins c x m.replica
      → count m.replica.set i ≤ count x.set i
      → (place : ℕ) (out : List ℕ)
      → serve_call (server_for c i x) (bytes_of c m) place out ≡ called_for c (server_for c i) (serve_by c i x m place (length out))
  unfolding serve_call serve_of
  serve-for m w k j own place out = rw (server-fits, received-for c valid m w k) (fields-for m k j (clear m k j own) place out)
