-- The steps of a run of the program (paper 01, "The runs of demand 3"). A step is one of the plain machine's, with the contents of each buffer in place
-- of its length; and hear comes in two forms, for a record that goes in and comes back by value and for one that is lent.
use Rattle.std.specs.Prelude.{ℕ, List, map, length}
use Rattle.machine.specs.Parties.{Task}
use Rattle.machine.specs.Steps.{Step as PlainStep, begin as plain-begin, ask as plain-ask, serve as plain-serve, hear as plain-hear, result as plain-result, drop as plain-drop, transfer as plain-transfer, share as plain-share, crash as plain-crash}
use Rattle.machine.specs.Typed.{Typed as TypedPlain}

pub data Step : Type 0 where
  begin : (desk : ℕ) → Task → (note : ℕ) → Step
  ask : (desk server place : ℕ) (out : List ℕ) → Step
  serve : (server message place : ℕ) (out : List ℕ) → Step
  hear : (desk message : ℕ) → Step
  -- paper 01: "hear (on a lent record too, once offered)"
  hear-lent : (desk message : ℕ) → Step
  result : (desk : ℕ) → Step
  drop : (desk : ℕ) → Step
  transfer : (server taker amount : ℕ) → Step
  share : (server place : ℕ) (out : List ℕ) → Step
  crash : (server : ℕ) → Step

-- the plain machine's step, which has the length of the buffer alone, and one hear: whether the record was lent does not show in it
abbrev pub plain : Step → PlainStep
plain (begin d t note) = plain-begin d t note
plain (ask d i place out) = plain-ask d i place (length out)
plain (serve i k place out) = plain-serve i k place (length out)
plain (hear d k) = plain-hear d k
plain (hear-lent d k) = plain-hear d k
plain (result d) = plain-result d
plain (drop d) = plain-drop d
plain (transfer i j amount) = plain-transfer i j amount
plain (share i place out) = plain-share i place (length out)
plain (crash i) = plain-crash i

-- A list of steps whose arguments a call can have: the machine's steps have them. What a lent buffer holds does not matter.
abbrev pub Typed : List Step → Type 0
Typed steps = TypedPlain (map plain steps)
