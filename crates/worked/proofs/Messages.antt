-- The number that the reader gives to the bytes of a share without a register, found without the bytes.
use Prim.Native.Nat.{ℕ, ◌≤◌}
use native.Mathlib.Omega.{arith}
use mathlib.Core.Path.{◌≡◌}
use Rattle.config.specs.declared.cluster.Config.{Config}
use Rattle.ledger.specs.declared.ledger.Ledger.{Ledger}
use Rattle.ledger.specs.Ledgers.{Typed as TypedLedger}
use Rattle.replica.specs.declared.replica.Replica.{Replica}
use Rattle.replica.specs.Registers.{start_register}
use Rattle.replica.proofs.Registers.{start-typed}
use Rattle.message.specs.declared.envelope.Envelope.{Envelope}
use Rattle.message.specs.Envelopes.{message_of}
use Rattle.message.specs.Answers.{check}
use Rattle.message.specs.Faults.{fault_of}
use Rattle.message.proofs.Faults.{fault-is-check}

-- a share from server i, and what it carries: the ledger l and no register
abbrev pub share : ℕ → Envelope
share i = record { kind = 3; server = i; desk = 0; round = 0; note = 0 }

abbrev pub sheet-only : Ledger → Replica
sheet-only l = record { ledger = l; register = start_register }

pub share-number : (c : Config) (i : ℕ) (l : Ledger) → i ≤ 255 → TypedLedger l
    → check c (message_of c (share i) (sheet-only l)) ≡ fault_of c (share i) (sheet-only l)
share-number c i l h t =
    fault-is-check c (share i) (sheet-only l)
    (record { kind_fits = omega arith; server-fits = h; desk-fits = omega arith; round-fits = omega arith; note-fits = omega arith })
    (record { ledger-typed = t; register-typed = start-typed })
