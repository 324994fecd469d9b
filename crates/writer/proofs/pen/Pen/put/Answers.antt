-- `put` meets its contract: the part of the buffer that is as long as the bytes becomes the bytes.
use Prim.Native.Nat.{ℕ, ◌+◌, ◌-◌}
use native.Mathlib.Omega.{arith}
use mathlib.Core.Path.{◌≡◌, refl, ap₂}
use mathlib.Core.List.{List, ◌++◌}
use lib.ListN.{length, take, drop}
use Rattle.message.specs.Answers.{over}
use Rattle.writer.specs.Places.{onto}
use Rattle.writer.proofs.pen.Pen.put.Goals as goal

pub returns : goal.returns
unfolding onto over
returns c =
    let p = c.args.self.now in
    let part = c.args.part.now in
    let n : p.at + length part - p.at ≡ length part = omega arith in
    record {
      written = ap₂ (λ (k : ℕ) (v : List ℕ). take p.at p.out.now ++ (v ++ drop k (drop p.at p.out.now))) n c.copy_from_slice.ensures.after;
      place = refl;
      same = refl;
    }
