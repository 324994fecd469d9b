-- `register` meets its contract: stamp, desk, length, value, one after the other. Each call writes one field more, so each field has room, and at the end all
-- are written.
use Prim.Native.Nat.{ℕ, ◌+◌, ◌≤◌}
use native.Mathlib.Omega.{arith}
use mathlib.Core.Path.{◌≡◌, refl}
use mathlib.Core.List.{List, [], ◌∷◌}
use lib.ListN.{get_or}
use Rattle.config.specs.Cluster.{stamp_bytes}
use Rattle.config.specs.declared.cluster.Config.{Config}
use Rattle.format.specs.Bytes.{number, series}
use Rattle.format.specs.Table.{register}
use Rattle.replica.specs.declared.register.Register.{Register}
use Rattle.replica.specs.Values.{bytes_of}
use Rattle.writer.proofs.Places.{Written, written_none, written-room, written_next, written_all}
use Rattle.writer.proofs.Messages.{register-written, lent_value}
use Rattle.writer.proofs.pen.Pen.register.Goals.{Start}
use Rattle.writer.proofs.pen.Pen.register.Goals as goal

-- the fields in order
abbrev fields : Config → Register → ℕ → List ℕ
fields config g k =
    let v = g.value in
    let mark = g.stamp + g.desk + v.length in
    get_or (number mark (stamp_bytes config) g.stamp ∷ number mark 2 g.desk ∷ number mark 1 v.length ∷ bytes_of v ∷ []) k []

whole : (config : Config) (g : Register) → g.value.length ≤ 64 → series 4 (fields config g) ≡ register config g.stamp g.desk (bytes_of g.value)
unfolding series
whole config g short = register-written config g.stamp g.desk g.value short

-- no field is written yet
none : (s : Start) → Written 0 4 (fields s.args.config.now s.args.register.now) s.args.self.now s.args.self.now
none s =
    let config = s.args.config.now in
    let g = s.args.register.now in
    written_none 4 (fields config g) s.args.self.now (rw (whole config g s.requires.short) s.requires.room)

pub number-requires-clause-width : goal.number-requires-clause-width
unfolding stamp_bytes
number-requires-clause-width c = rw c.stamp_bytes.ensures (omega arith)

pub number-requires-clause-room : goal.number-requires-clause-room
number-requires-clause-room c =
    rw (c.from-stamp.ensures, c.from-desk.ensures, c.from-length.ensures, c.stamp_bytes.ensures) (written-room (none (goal.at.number-requires-clause-room c).Start) (omega arith))

pub number-requires-2-clause-room : goal.number-requires-2-clause-room
number-requires-2-clause-room c =
    let stamp-put = written_next (none (goal.at.number-requires-2-clause-room c).Start) (rw (c.from-stamp.ensures, c.from-desk.ensures, c.from-length.ensures, c.stamp_bytes.ensures) at c.number.ensures) in
    rw (c.from-stamp.ensures, c.from-desk.ensures, c.from-length.ensures) (written-room stamp-put (omega arith))

pub number-requires-3-clause-room : goal.number-requires-3-clause-room
number-requires-3-clause-room c =
    let stamp-put = written_next (none (goal.at.number-requires-3-clause-room c).Start) (rw (c.from-stamp.ensures, c.from-desk.ensures, c.from-length.ensures, c.stamp_bytes.ensures) at c.number.ensures) in
    let desk-put = written_next stamp-put (rw (c.from-stamp.ensures, c.from-desk.ensures, c.from-length.ensures) at c.number-2.ensures) in
    rw (c.from-stamp.ensures, c.from-desk.ensures, c.from-length.ensures) (written-room desk-put (omega arith))

pub put-requires : goal.put-requires
put-requires c =
    let stamp-put = written_next (none (goal.at.put-requires c).Start) (rw (c.from-stamp.ensures, c.from-desk.ensures, c.from-length.ensures, c.stamp_bytes.ensures) at c.number.ensures) in
    let desk-put = written_next stamp-put (rw (c.from-stamp.ensures, c.from-desk.ensures, c.from-length.ensures) at c.number-2.ensures) in
    let length-put = written_next desk-put (rw (c.from-stamp.ensures, c.from-desk.ensures, c.from-length.ensures) at c.number-3.ensures) in
    rw (lent_value c.args.register.now.value _ c.requires.short c.bytes.ensures) (written-room length-put (omega arith))

pub returns : goal.returns
returns c =
    let stamp-put = written_next (none (goal.at.returns c).Start) (rw (c.from-stamp.ensures, c.from-desk.ensures, c.from-length.ensures, c.stamp_bytes.ensures) at c.number.ensures) in
    let desk-put = written_next stamp-put (rw (c.from-stamp.ensures, c.from-desk.ensures, c.from-length.ensures) at c.number-2.ensures) in
    let length-put = written_next desk-put (rw (c.from-stamp.ensures, c.from-desk.ensures, c.from-length.ensures) at c.number-3.ensures) in
    let value-put = written_next length-put (rw (lent_value c.args.register.now.value _ c.requires.short c.bytes.ensures) at c.put.ensures) in
    written_all value-put refl (whole c.args.config.now c.args.register.now c.requires.short)
