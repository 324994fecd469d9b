-- What the plain machine's invariant supplies at every place of a run: what servers and desks hold and what was sent is within the ranges of the byte
-- table, and no set is light.
use Prim.Native.Nat.{ℕ}
use mathlib.Core.Path.{◌≡◌, refl}
use mathlib.Core.Bool.{true}
use mathlib.Core.List.{List, map}
use mathlib.Core.Option.{some}
use Rattle.config.specs.Cluster.{House, config_of, lawful_of}
use Rattle.config.specs.declared.cluster.Config.{Config}
use Rattle.machine.specs.Parties.{Message}
use Rattle.machine.specs.Runs.{nth, at}
use Rattle.machine.specs.Steps.{PlainRun}
use Rattle.machine.specs.Sheets.{by-server, by-desk, by-message}
use Rattle.machine.proofs.Lists.{nth_in}
use Rattle.machine.proofs.Sheets.{sheets}
use Rattle.machine.proofs.WorkRanges.{HeadRange}
use Rattle.machine.proofs.Ranges.{StateRange, DeskRange, ranges}
use Rattle.runs.specs.Steps.{Step, plain, Typed}
use Rattle.runs.specs.Runs.{run_of}
use Rattle.runs.specs.Clauses.{plain_run}
use Rattle.runs.proofs.Records.{Held}

module _ (house : House) (lawful : lawful_of (config_of house) ≡ true) (steps : List Step) (typed : Typed steps) where
  abbrev c : Config
  c = config_of house

  abbrev r : PlainRun
  r = plain_run (run_of house steps)

  state-range : (k : ℕ) → StateRange c (at r k)
  state-range k = ranges house lawful (map plain steps) typed k

  -- a server
  pub server-held : (k i : ℕ) → Held c ((at r k).servers i)
  server-held k i = record { range = (state-range k).servers i; sound = sheets house lawful (map plain steps) k _ (by-server i refl) }

  -- a desk
  pub desk-range : (k d : ℕ) → DeskRange c (at r k).sent d ((at r k).desks d)
  desk-range k d = (state-range k).desks d

  pub desk-held : (k d : ℕ) → Held c ((at r k).desks d).replica
  desk-held k d = record { range = (desk-range k d).replica; sound = sheets house lawful (map plain steps) k _ (by-desk d refl) }

  -- a message
  module _ (k q : ℕ) (m : Message) (sent : nth (at r k).sent q ≡ some m) where
    pub message-head : HeadRange c m
    message-head = ((state-range k).messages m (nth_in (at r k).sent q m sent)).head

    pub message-held : Held c m.replica
    message-held =
        record {
          range = ((state-range k).messages m (nth_in (at r k).sent q m sent)).replica;
          sound = sheets house lawful (map plain steps) k _ (by-message q m sent refl);
        }
