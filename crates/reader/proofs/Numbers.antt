-- Numbers as bytes: one byte more, and what fits.
use Prim.Native.Nat.{ℕ, zero, suc, ◌+◌, ◌-◌, ◌*◌, ◌^◌, ◌≤◌, ◌<◌}
use native.Mathlib.Nat.{pow-le-pow_right}
use native.Mathlib.Numerals.{add-one}
use native.Mathlib.Omega.{arith}
use mathlib.Core.Path.{◌≡◌, refl, ◌∙◌}
use mathlib.Core.List.{List}
use lib.ListN.{length, get_or, take, drop, length-drop}
use lib.Seq.{get_or-take, get_or-drop, length-take-le}
use Rattle.config.specs.Cluster.{stamp_bytes, most_stamp}
use Rattle.config.specs.declared.cluster.Config.{Config}
use Rattle.message.specs.Cursors.{number_at}

-- one byte more
pub number-next : (msg : List ℕ) (at k : ℕ) → number_at msg at (k + 1) ≡ number_at msg at k * 256 + get_or msg (at + k) 0
unfolding number_at
number-next msg at k = rw add-one

-- the number in a part of a message
in_part : (msg : List ℕ) (at w k : ℕ) → k ≤ w → number_at (take w (drop at msg)) 0 k ≡ number_at msg at k
unfolding number_at
in_part msg at w zero h = refl
in_part msg at w (suc k) h =
    let first : 0 + k ≡ k = omega arith in
    let byte : get_or (take w (drop at msg)) (0 + k) 0 ≡ get_or msg (at + k) 0 =
    rw first (get_or-take w (drop at msg) k 0 (omega arith) ∙ get_or-drop at msg k 0) in
    omega (arith, in_part msg at w k (omega arith), byte)

pub number_part : (msg : List ℕ) (at w : ℕ) → at + w ≤ length msg
    → number_at (take (at + w - at) (drop at msg)) 0 (length (take (at + w - at) (drop at msg))) ≡ number_at msg at w
number_part msg at w l =
    let e : at + w - at ≡ w = omega arith in
    let size : length (take w (drop at msg)) ≡ w = length-take-le w (drop at msg) (omega (arith, length-drop at msg)) in
    rw (e, size) (in_part msg at w w (omega arith))

-- one byte more of a whole list
pub number-first : (bytes : List ℕ) (k : ℕ) → number_at bytes 0 (k + 1) ≡ number_at bytes 0 k * 256 + get_or bytes k 0
number-first bytes k = let first : 0 + k ≡ k = omega arith in rw first at (number-next bytes 0 k)

pub byte_more : (k x b : ℕ) → x < 256 ^ k → b < 256 → x * 256 + b < 256 ^ (k + 1)
byte_more k x b h l = rw add-one (omega arith)

-- a number of fewer than 8 bytes has room for one more
pub byte-room : (k x : ℕ) → k < 8 → x < 256 ^ k → x < 72057594037927936
byte-room k x l h = let p : 256 ^ k ≤ 256 ^ 7 = let l7 : k ≤ 7 = omega arith in pow-le-pow_right (omega arith) l7 in omega arith

-- a stamp of any cluster
pub stamp-width : (c : Config) → stamp_bytes c ≤ 8
unfolding stamp_bytes
stamp-width c = omega arith

pub stamp-room : (c : Config) → most_stamp c ≤ 4294967295
unfolding stamp_bytes most_stamp
stamp-room c = omega arith
