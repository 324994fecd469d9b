-- The arguments that a call can have. In antt every argument is a natural number without a bound; of those of the calls two matter: a value to be written
-- is made of bytes, and a note has 32 bits. The theorems ask nothing of the others.
use Rattle.std.specs.Prelude.{ℕ, ◌<◌, ◌^◌, ◌≡◌, List, get_or}
use Rattle.std.proofs.Math.Option.{some}
use Rattle.machine.specs.Parties.{Task, value_of}
use Rattle.machine.specs.Runs.{nth}
use Rattle.machine.specs.Steps.{Step, begin}

-- a list of bytes
abbrev pub Bytes : List ℕ → Type 0
Bytes v = (k : ℕ) → get_or v k 0 < 256

-- what the value and the note of a begin are
abbrev pub TypedBegin : Task → ℕ → Type 0
TypedBegin t note = Bytes (value_of t) × (note < 2 ^ 32)

-- so it is at every begin of a list of steps
abbrev pub Typed : List Step → Type 0
Typed steps = (k d : ℕ) (t : Task) (note : ℕ) → nth steps k ≡ some (begin d t note) → TypedBegin t note
