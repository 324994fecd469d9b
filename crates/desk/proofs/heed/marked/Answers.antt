-- `marked` meets its contract: the shift loses nothing, since the server's bit is one of 16.
use Prim.Native.Nat.{◌*◌, ◌%◌, ◌^◌, ◌≤◌}
use native.Mathlib.Omega.{arith}
use mathlib.Core.Path.{◌≡◌}
use lib.Pow.{pow_mono}
use Rattle.desk.proofs.Marks.{marked-or}
use Rattle.desk.proofs.heed.marked.Goals as goal

pub returns : goal.returns
returns c =
    let most : 2 ^ c.args.server ≤ 32768 = pow_mono {j = 15} (omega (arith, c.requires)) in
    let bit_is : 1 * 2 ^ c.args.server % 65536 ≡ 2 ^ c.args.server = omega arith in
    rw bit_is (marked-or c.args.map c.args.server)
