-- Every ledger held or sent in a run of the program is sound, and every message sent passes its checks: each is the record for a set or a message of the
-- machine's run, where it is so.
use Prim.Native.Nat.{ℕ}
use mathlib.Core.Path.{◌≡◌, refl, sym, ap, ◌∙◌, subst}
use mathlib.Core.Bool.{true}
use mathlib.Core.List.{List, map}
use mathlib.Core.Option.{Option, none, some, none-ne-some, some-injective}
use Rattle.config.specs.Cluster.{House, config_of, lawful_of, above_of}
use Rattle.config.specs.declared.cluster.Config.{Config}
use Rattle.config.specs.Refusals.{granted}
use Rattle.ledger.specs.declared.ledger.Ledger.{Ledger}
use Rattle.ledger.specs.Maps.{named}
use Rattle.message.specs.Answers.{receive_of}
use Rattle.machine.specs.Sets.{Transfers}
use Rattle.machine.specs.Parties.{Message, bytes_of}
use Rattle.machine.specs.Runs.{at, nth, when, config}
use Rattle.machine.specs.Steps.{PlainRun}
use Rattle.machine.specs.Sheets.{Found as PlainFound, Sound as PlainSound, by-server as plain-server, by-desk as plain-desk, by-message as plain-message}
use Rattle.machine.proofs.Sheets.{sheets as plain-sheets}
use Rattle.machine.proofs.SetRanges.{SetRange, found-range}
use Rattle.runs.specs.Steps.{Step, Typed, plain}
use Rattle.runs.specs.Runs.{ProgramRun, run_of}
use Rattle.runs.specs.Seen.{ledger_in}
use Rattle.runs.specs.Clauses.{plain_run, Found, by-server, by-desk, by-message, Sound, Sheets}
use Rattle.runs.proofs.Records.{ledger_for}
use Rattle.runs.proofs.Ledgers.{weight-for, all-for, quorum-for}
use Rattle.runs.proofs.Messages.{received-for}
use Rattle.runs.proofs.Supplied.{message-head, message-held}
use Rattle.runs.proofs.Steps.{nth-map}
use Rattle.runs.proofs.Simulation.{stands_at}

-- the ledger for a sound set is sound
pub sound-for : (c : Config) → lawful_of c ≡ true → (a : Transfers) → SetRange c a → PlainSound c a → Sound c (ledger_for a)
sound-for c valid a w s =
    record {
      weights = all-for c valid a w ∙ s.weights;
      floor = λ i l. ap (above_of c) (weight-for c valid a w i l) ∙ s.floor i l;
      majority = λ m l. quorum-for c valid a w m (named m) (λ i k. refl) ∙ s.majority (named m) l;
    }

-- the message of the machine that bytes of the program's run stand for, at the same place among those sent
pub record Sent (r : PlainRun) (k q : ℕ) (msg : List ℕ) : Type 0 where
  pub message : Message
  pub sent : nth (at r k).sent q ≡ some message
  pub bytes : bytes_of (config r) message ≡ msg

module _ (house : House) (lawful : lawful_of (config_of house) ≡ true) (steps : List Step) (typed : Typed steps) where
  abbrev c : Config
  c = config_of house

  abbrev p : ProgramRun
  p = run_of house steps

  abbrev r : PlainRun
  r = plain_run p

  -- ---- messages

  -- what is sent at each place
  pub sent-at : (k q : ℕ) → nth (at p k).sent q ≡ when (nth (at r k).sent q) none (λ m. some (bytes_of c m))
  sent-at k q = ap (λ l. nth l q) (stands_at house lawful steps typed k).sent ∙ nth-map (bytes_of c) (at r k).sent q

  -- so all bytes sent are those of a message
  pub sent-from : (k q : ℕ) (msg : List ℕ) → nth (at p k).sent q ≡ some msg → Sent r k q msg
  sent-from k q msg e = by_place (nth (at r k).sent q) refl (sym (sent-at k q) ∙ e)
    where
      by_place : (o : Option Message) → nth (at r k).sent q ≡ o → when o none (λ m. some (bytes_of c m)) ≡ some msg → Sent r k q msg
      by_place none f g = absurd (none-ne-some msg g)
      by_place (some m) f g = record { message = m; sent = f; bytes = some-injective (bytes_of c m) msg g }

  module _ (k q : ℕ) (m : Message) (e : nth (at r k).sent q ≡ some m) where
    -- they pass their checks, and carry the ledger for the message's set
    pub sent-passes : (receive_of c (bytes_of c m)).verdict ≡ granted
    sent-passes = ap (λ x. x.verdict) (received-for c lawful m (message-head house lawful steps typed k q m e) (message-held house lawful steps typed k q m e))

    pub sent-carries : ledger_in c (bytes_of c m) ≡ ledger_for m.replica.set
    sent-carries = ap (λ x. x.replica.ledger) (received-for c lawful m (message-head house lawful steps typed k q m e) (message-held house lawful steps typed k q m e))

  -- ---- ledgers

  -- the ledger for a set that is found is sound
  set-sound : (k : ℕ) (a : Transfers) (l : Ledger) → PlainFound r k a → ledger_for a ≡ l → Sound c l
  set-sound k a l f e =
      subst (Sound c) e
      (sound-for c lawful a (found-range house lawful (map plain steps) k a f) (plain-sheets house lawful (map plain steps) k a f))

  found-sound : (k : ℕ) (l : Ledger) → Found p k l → Sound c l
  found-sound k l (by-server i below e) =
      set-sound k _ l (plain-server i refl) (sym (ap (λ x. x.replica.ledger) ((stands_at house lawful steps typed k).servers i below)) ∙ e)
  found-sound k l (by-desk d least most e) =
      set-sound k _ l (plain-desk d refl)
      (sym (ap (λ x. x.replica.ledger) ((stands_at house lawful steps typed k).desks d (record { some = least; most = most }))) ∙ e)
  found-sound k l (by-message q msg e f) =
      let s = sent-from k q msg e in
      set-sound k _ l (plain-message q s.message s.sent refl)
      (sym (sent-carries k q s.message s.sent) ∙ ap (ledger_in c) s.bytes ∙ f)

  -- ---- the clause

  pub sheets : Sheets p
  sheets =
      record {
        sound = found-sound;
        readable =
            λ k q msg e.
            let s = sent-from k q msg e in
            sym (ap (λ l. (receive_of c l).verdict) s.bytes) ∙ sent-passes k q s.message s.sent;
      }
