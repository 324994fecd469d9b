-- Transfers: their tests are those of `add` on the server's ledger, and a transfer keeps the record one that a party may hold.
use Rattle.std.specs.Prelude.{Err}
use Prim.Native.Nat.{ℕ, ◌≤◌, ◌<◌}
use mathlib.Core.Path.{◌≡◌, refl}
use mathlib.Core.Bool.{Bool, true, false, cond}
use borrow.Author.Tests.{lt-ltb, le-ltb, ltb-true}
use lib.Dec.{ltb}
use Rattle.config.specs.Cluster.{lawful_of, server_of}
use Rattle.config.specs.Refusals.{refusal}
use Rattle.config.specs.declared.answer.Refusal.{Refusal}
use Rattle.config.proofs.Clusters.{server-valid}
use Rattle.ledger.specs.declared.ledger.Changed.{Changed}
use Rattle.ledger.specs.Ledgers.{count_of, accepted as added-ledger, refused as same-ledger}
use Rattle.ledger.specs.Checks.{bounded, above_floor, fits as fits_ledger}
use Rattle.ledger.specs.Changes.{lawful, most_count, spares, added, give_answer, held_answer}
use Rattle.ledger.proofs.Checks.{accepted-not-refused, ledger-told, told-ledger}
use Rattle.ledger.proofs.Spared.{add-fits, add_typed}
use Rattle.replica.specs.Registers.{register_fits}
use Rattle.replica.specs.Replicas.{fits as fits_replica}
use Rattle.replica.proofs.Replicas.{Fits as Holds, fits_told as holds-told, told-fits as told-holds}
use Rattle.server.specs.declared.record.Server.{Server}
use Rattle.server.specs.declared.record.ServerAnswer.{ServerAnswer}
use Rattle.server.specs.Servers.{fits, holding, accepted, refused, Typed}
use Rattle.server.specs.Transfers.{gave, give_of, transfer_of}
use Rattle.server.proofs.Servers.{fits_told, told-fits}

-- ---- a server that fits

-- what the record test says of its number and its ledger
pub record Standing (s : Server) : Type 0 where
  pub lawful-house : lawful_of s.config ≡ true
  pub one_of : s.number < s.config.n
  pub held : Holds s.config s.replica

pub standing : (s : Server) → fits s ≡ true → Standing s
standing s e =
    let t = fits_told s e in
    let i = server-valid s.config s.number t.server-in in
    record {
      lawful-house = (holds-told s.config s.replica t.replica-fits).lawful;
      one_of = i.1;
      held = holds-told s.config s.replica t.replica-fits;
    }

-- ---- what a transfer comes to

-- the tests that a transfer passes
pub record Gives (s : Server) (j d : ℕ) : Type 0 where
  pub legal : lawful s.config s.number j d ≡ true
  pub counted : count_of s.replica.ledger s.number < most_count
  pub spared : spares s.config s.replica.ledger s.number d ≡ true

-- one that passes them is added
pub transfer-done : (s : Server) (j d : ℕ) → fits s ≡ true → Gives s j d → transfer_of s j d ≡ accepted (gave s j d)
unfolding transfer_of give_of
transfer-done s j d e g = simp (e, g.legal, lt-ltb _ _ g.counted, g.spared)

-- otherwise the first test that fails gives the number, 1, 11, 12 or 10, and the record is as it was

pub transfer-unfit : (s : Server) (j d : ℕ) → fits s ≡ false → transfer_of s j d ≡ refused (refusal 1) s
unfolding transfer_of
transfer-unfit s j d e = simp e

pub transfer-unlawful : (s : Server) (j d : ℕ) → fits s ≡ true → lawful s.config s.number j d ≡ false → transfer_of s j d ≡ refused (refusal 11) s
unfolding transfer_of give_of
transfer-unlawful s j d e w = simp (e, w)

pub transfer-spent : (s : Server) (j d : ℕ) → fits s ≡ true → lawful s.config s.number j d ≡ true
    → most_count ≤ count_of s.replica.ledger s.number
    → transfer_of s j d ≡ refused (refusal 12) s
unfolding transfer_of give_of
transfer-spent s j d e w h = simp (e, w, le-ltb _ _ h)

pub transfer-unspared : (s : Server) (j d : ℕ) → fits s ≡ true → lawful s.config s.number j d ≡ true
    → count_of s.replica.ledger s.number < most_count
    → spares s.config s.replica.ledger s.number d ≡ false
    → transfer_of s j d ≡ refused (refusal 10) s
unfolding transfer_of give_of
transfer-unspared s j d e w h p = simp (e, w, lt-ltb _ _ h, p)

-- so it is one or the other
pub transfer-cases : (P : ServerAnswer → Type 0) (s : Server) (j d : ℕ)
    → (fits s ≡ true → Gives s j d → P (accepted (gave s j d)))
    → ((k : Refusal) → P (refused k s))
    → P (transfer_of s j d)
unfolding transfer_of give_of
transfer-cases P s j d done left =
    by_tests (fits s) (lawful s.config s.number j d) (ltb (count_of s.replica.ledger s.number) most_count)
    (spares s.config s.replica.ledger s.number d) refl refl refl refl
  where
    by_tests : (f w t p : Bool) → fits s ≡ f → lawful s.config s.number j d ≡ w
        → ltb (count_of s.replica.ledger s.number) most_count ≡ t
        → spares s.config s.replica.ledger s.number d ≡ p
        → P (cond f (cond w (cond t (cond p (accepted (gave s j d)) (refused (refusal 10) s)) (refused (refusal 12) s)) (refused (refusal 11) s)) (refused (refusal 1) s))
    by_tests true true true true e a b c = done e (record { legal = a; counted = ltb-true _ _ b; spared = c })
    by_tests true true true false e a b c = left (refusal 10)
    by_tests true true false p e a b c = left (refusal 12)
    by_tests true false t p e a b c = left (refusal 11)
    by_tests false w t p e a b c = left (refusal 1)

-- a refusal leaves the record as it was
pub transfer-refused : (s : Server) (j d : ℕ) (k : Refusal) → (transfer_of s j d).verdict ≡ Err k → (transfer_of s j d).server ≡ s
transfer-refused s j d k =
    transfer-cases (λ r. r.verdict ≡ Err k → r.server ≡ s) s j d (λ e g t. accepted-not-refused k t) (λ r t. refl)

-- a transfer changes nothing but the ledger
pub transfer-ledger : (s : Server) (j d : ℕ)
    → (transfer_of s j d).server ≡ holding s (record { ledger = (transfer_of s j d).server.replica.ledger; register = s.replica.register })
transfer-ledger s j d =
    transfer-cases (λ x. x.server ≡ holding s (record { ledger = x.server.replica.ledger; register = s.replica.register })) s j d
    (λ e g. refl) (λ k. refl)

-- ---- a transfer is `add` on the server's ledger

-- the server with what `add` hands back, which is its own ledger where it refuses
abbrev pub changed_to : Server → Changed → ServerAnswer
changed_to s x = record { verdict = x.verdict; server = holding s (record { ledger = x.ledger; register = s.replica.register }) }

give-adds : (s : Server) (j d : ℕ) → give_of s j d ≡ changed_to s (give_answer s.config s.replica.ledger s.number j d)
unfolding give_of give_answer
give-adds s j d =
    by_tests (lawful s.config s.number j d) (ltb (count_of s.replica.ledger s.number) most_count)
    (spares s.config s.replica.ledger s.number d)
  where
    by_tests : (w t p : Bool)
        → cond w (cond t (cond p (accepted (gave s j d)) (refused (refusal 10) s)) (refused (refusal 12) s)) (refused (refusal 11) s)
        ≡ changed_to s (cond w (cond t (cond p (added-ledger (added s.replica.ledger s.number j d)) (same-ledger (refusal 10) s.replica.ledger)) (same-ledger (refusal 12) s.replica.ledger)) (same-ledger (refusal 11) s.replica.ledger))
    by_tests true true true = refl
    by_tests true true false = refl
    by_tests true false p = refl
    by_tests false t p = refl

-- The tests of a transfer are the register's, and those of `add`.
pub transfer-adds : (s : Server) (j d : ℕ)
    → transfer_of s j d
    ≡ cond (register_fits s.config s.replica.register) (changed_to s (held_answer s.config s.replica.ledger s.number j d)) (refused (refusal 1) s)
unfolding transfer_of held_answer fits fits_replica fits_ledger
transfer-adds s j d =
    rw (give-adds s j d)
    (by_tests (server_of s.config s.number) (lawful_of s.config) (bounded s.config s.replica.ledger) (above_floor s.config s.replica.ledger)
    (register_fits s.config s.replica.register) (give_answer s.config s.replica.ledger s.number j d))
  where
    by_tests : (o v b a g : Bool) (x : Changed)
        → cond (cond o (cond v (cond b (cond a g false) false) false) false) (changed_to s x) (refused (refusal 1) s)
        ≡ cond g (changed_to s (cond o (cond v (cond (cond b a false) x (same-ledger (refusal 1) s.replica.ledger)) (same-ledger (refusal 1) s.replica.ledger)) (same-ledger (refusal 1) s.replica.ledger))) (refused (refusal 1) s)
    by_tests true true true true true x = refl
    by_tests true true true true false x = refl
    by_tests true true true false true x = refl
    by_tests true true true false false x = refl
    by_tests true true false a true x = refl
    by_tests true true false a false x = refl
    by_tests true false b a true x = refl
    by_tests true false b a false x = refl
    by_tests false v b a true x = refl
    by_tests false v b a false x = refl

-- by which the check proves `give`
pub ruleset giving = (transfer-adds)

-- ---- what a transfer keeps, as `add` does

-- A server that fits still does after a transfer.
pub transfer-fits : (s : Server) (j d : ℕ) → Typed s → fits s ≡ true → fits (transfer_of s j d).server ≡ true
transfer-fits s j d t e =
    let c = s.config in
    let l = s.replica.ledger in
    let x = standing s e in
    let after = (held_answer c l s.number j d).ledger in
    let k =
    ledger-told c after (add-fits c l s.number j d t.replica-typed.ledger-typed (told-ledger c l x.held.ledger-bounded x.held.ledger-above)) in
    rw (transfer-adds s j d, x.held.register-fits)
    (told-fits (holding s (record { ledger = after; register = s.replica.register })) (record {
      server-in = (fits_told s e).server-in;
      replica-fits = told-holds c (record { ledger = after; register = s.replica.register })
          (record { lawful = x.lawful-house; ledger-bounded = k.0; ledger-above = k.1; register-fits = x.held.register-fits });
    }))

-- And its record is still one that a call can have.
pub transfer-typed : (s : Server) (j d : ℕ) → Typed s → Typed (transfer_of s j d).server
transfer-typed s j d t = rw (transfer-adds s j d) (by_register (register_fits s.config s.replica.register))
  where
    by_register : (g : Bool) → Typed (cond g (changed_to s (held_answer s.config s.replica.ledger s.number j d)) (refused (refusal 1) s)).server
    by_register true = record {
      config-typed = t.config-typed;
      number_fits = t.number_fits;
      replica-typed = record {
        ledger-typed = add_typed s.config s.replica.ledger s.number j d t.replica-typed.ledger-typed;
        register-typed = t.replica-typed.register-typed;
      };
    }
    by_register false = t
