-- A reader at the bytes of a register finds its tag and its value where the register is good, and refuses it by 4 where it isn't.
use Prim.Native.Nat.{ℕ, ◌+◌, ◌<◌, ◌≤◌, min}
use native.Mathlib.Omega.{arith}
use mathlib.Core.Path.{◌≡◌, refl, sym, ap, ◌∙◌}
use mathlib.Core.Logic.{◌⊎◌, inl, inr, ⊎_elim}
use mathlib.Core.Bool.{Bool, true, false}
use mathlib.Core.List.{List, ◌++◌, append_assoc}
use lib.ListN.{length, take, drop}
use lib.Seq.{take-append_seam, drop-append_seam}
use Rattle.quorums.proofs.Tests.{le-or-lt}
use Rattle.config.specs.Cluster.{stamp_bytes, most_stamp}
use Rattle.config.specs.declared.cluster.Config.{Config}
use Rattle.format.specs.Bytes.{number, stands}
use Rattle.format.specs.Table.{register_mark, register}
use Rattle.replica.specs.declared.register.Register.{Register}
use Rattle.replica.specs.Values.{bytes_of}
use Rattle.replica.specs.Registers.{is_start, register_fits, Typed as TypedRegister}
use Rattle.replica.proofs.Values.{bytes-length, fits-short, short-fits}
use Rattle.replica.proofs.Registers.{start-told, start-shown, start-passes, fits-tagged, tagged-fits, typed-stamp, fits-value}
use Rattle.message.specs.Cursors.{Cursor}
use Rattle.message.specs.Cursors.{read_number}
use Rattle.message.specs.Scans.{register_of}
use Rattle.message.proofs.Stuck.{Stuck, read_number-stuck, skip-stuck}
use Rattle.message.proofs.Ahead.{apart, past}
use Rattle.message.proofs.Moves.{in-range, below-range, above-range, Stands, behind, behind-stands, move, refuse, skip-move}

-- The register is the start, or has a stamp, a desk and a value of up to 64 bytes.
pub record RegisterGood (stamp desk n : ℕ) : Type 0 where
  pub stamp-stands : 0 < register_mark stamp desk n → 1 ≤ stamp
  pub desk-stands : 0 < register_mark stamp desk n → 1 ≤ desk
  pub short : n ≤ 64

pub fits-good : (c : Config) (g : Register) → register_fits c g ≡ true → RegisterGood g.stamp g.desk (length (bytes_of g.value))
unfolding register_mark
fits-good c g e = by-start (is_start g) refl
  where
    short : length (bytes_of g.value) ≤ 64
    short = omega (arith, bytes-length g.value, fits-short g.value (fits-value c g e))

    by-start : (b : Bool) → is_start g ≡ b → RegisterGood g.stamp g.desk (length (bytes_of g.value))
    by-start true s =
        let t = start-told g s in
        let none : g.stamp + g.desk + length (bytes_of g.value) ≡ 0 = omega (arith, t.0, t.1, t.2, bytes-length g.value) in
        record { stamp-stands = λ p. absurd (omega arith); desk-stands = λ p. absurd (omega arith); short = short }
    by-start false s =
        let t = fits-tagged c g e s in
        record { stamp-stands = λ p. t.stamp-stands; desk-stands = λ p. t.desk-stands; short = short }

pub good-fits : (c : Config) (g : Register) → TypedRegister g → RegisterGood g.stamp g.desk (length (bytes_of g.value))
    → register_fits c g ≡ true
unfolding register_mark
good-fits c g t r =
    let size = bytes-length g.value in
    ⊎_elim
    (λ (z : g.stamp + g.desk + length (bytes_of g.value) ≤ 0).
    start-passes c g (start-shown g (omega arith) (omega arith) (omega (arith, size))))
    (λ (p : 0 < g.stamp + g.desk + length (bytes_of g.value)).
    tagged-fits c g (record {
      stamp-stands = r.stamp-stands p;
      stamp-most = typed-stamp c g t;
      desk-stands = r.desk-stands p;
      value-fits = short-fits g.value (omega (arith, size, r.short));
    }))
    (le-or-lt (g.stamp + g.desk + length (bytes_of g.value)) 0)

-- ---- a reader before a register

pub record AtRegister (c : Config) (msg pre t : List ℕ) (from : Cursor) (stamp desk : ℕ) (v : List ℕ) : Type 0 where
  pub stamp-fits : stamp ≤ 4294967295
  pub desk-fits : desk ≤ 65535
  pub stands-there : Stands from pre
  pub ahead : msg ≡ pre ++ (register c stamp desk v ++ t)

absent : (stamp desk n : ℕ) → register_mark stamp desk n ≡ 0 → (stamp ≡ 0) × (desk ≡ 0) × (n ≡ 0)
unfolding register_mark
absent stamp desk n e = (omega arith, omega arith, omega arith)

module _ (c : Config) (msg pre t : List ℕ) (from : Cursor) (stamp desk : ℕ) (v : List ℕ) (a : AtRegister c msg pre t from stamp desk v) where
  mark : ℕ
  mark = register_mark stamp desk (length v)

  stamp_behind : List ℕ
  stamp_behind = pre ++ number mark (stamp_bytes c) stamp

  desk_behind : List ℕ
  desk_behind = stamp_behind ++ number mark 2 desk

  pub value_from : List ℕ
  value_from = desk_behind ++ number mark 1 (min (length v) 255)

  shape : register c stamp desk v ≡ number mark (stamp_bytes c) stamp ++ number mark 2 desk ++ number mark 1 (min (length v) 255) ++ v
  unfolding register mark
  shape = refl

  ahead-stamp : msg ≡ pre ++ (number mark (stamp_bytes c) stamp ++ (number mark 2 desk ++ (number mark 1 (min (length v) 255) ++ (v ++ t))))
  ahead-stamp =
      apart msg pre (number mark (stamp_bytes c) stamp) (number mark 2 desk) _
      (apart msg pre (number mark (stamp_bytes c) stamp ++ number mark 2 desk) (number mark 1 (min (length v) 255)) _
      (apart msg pre (number mark (stamp_bytes c) stamp ++ number mark 2 desk ++ number mark 1 (min (length v) 255)) v t
      (a.ahead ∙ ap (λ e. pre ++ (e ++ t)) shape)))

  ahead-desk : msg ≡ stamp_behind ++ (number mark 2 desk ++ (number mark 1 (min (length v) 255) ++ (v ++ t)))
  unfolding stamp_behind
  ahead-desk = past msg pre (number mark (stamp_bytes c) stamp) _ ahead-stamp

  ahead-length : msg ≡ desk_behind ++ (number mark 1 (min (length v) 255) ++ (v ++ t))
  unfolding desk_behind
  ahead-length = past msg stamp_behind (number mark 2 desk) _ ahead-desk

  ahead-value : msg ≡ value_from ++ (v ++ t)
  unfolding value_from
  ahead-value = past msg desk_behind (number mark 1 (min (length v) 255)) _ ahead-length

  whole : value_from ++ v ≡ pre ++ register c stamp desk v
  unfolding value_from desk_behind stamp_behind
  whole =
      ap (λ e. e ++ v)
      (ap (λ e. e ++ number mark 1 (min (length v) 255)) (append_assoc pre (number mark (stamp_bytes c) stamp) (number mark 2 desk))
      ∙ append_assoc pre (number mark (stamp_bytes c) stamp ++ number mark 2 desk) (number mark 1 (min (length v) 255)))
      ∙ append_assoc pre (number mark (stamp_bytes c) stamp ++ number mark 2 desk ++ number mark 1 (min (length v) 255)) v
      ∙ ap (λ e. pre ++ e) (sym shape)

  stamp-read : (0 < mark → 1 ≤ stamp) → read_number msg (stands mark) (stamp_bytes c) 1 (most_stamp c) from ≡ behind stamp_behind stamp
  unfolding stamp_behind stamp_bytes most_stamp mark
  stamp-read p =
      move msg pre _ from (register_mark stamp desk (length v)) 4 1 4294967295 stamp a.stands-there ahead-stamp (omega (arith, a.stamp-fits))
      (λ e. (absent stamp desk (length v) e).0) (λ h. in-range 1 4294967295 stamp (p h) a.stamp-fits)

  desk-read : (0 < mark → 1 ≤ desk) → read_number msg (stands mark) 2 1 65535 (behind stamp_behind stamp) ≡ behind desk_behind desk
  unfolding desk_behind mark
  desk-read p =
      move msg stamp_behind _ (behind stamp_behind stamp) (register_mark stamp desk (length v)) 2 1 65535 desk (behind-stands stamp_behind stamp) ahead-desk
      (omega (arith, a.desk-fits)) (λ e. (absent stamp desk (length v) e).1) (λ h. in-range 1 65535 desk (p h) a.desk-fits)

  length-read : length v ≤ 64 → read_number msg (stands mark) 1 0 64 (behind desk_behind desk) ≡ behind value_from (length v)
  unfolding value_from mark
  length-read l =
      let e : min (length v) 255 ≡ length v = omega arith in
      move msg desk_behind _ (behind desk_behind desk) (register_mark stamp desk (length v)) 1 0 64 (min (length v) 255) (behind-stands desk_behind desk)
      ahead-length (omega arith) (λ z. e ∙ (absent stamp desk (length v) z).2) (λ h. in-range 0 64 _ (omega arith) (omega arith))
      ∙ ap (λ x. behind (desk_behind ++ number (register_mark stamp desk (length v)) 1 (min (length v) 255)) x) e

  -- a good register is found
  pub register-found : RegisterGood stamp desk (length v)
      → register_of c msg (stands (register_mark stamp desk (length v))) from
      ≡ record { stamp = stamp; desk = desk; from = length value_from; length = length v; cursor = behind (pre ++ register c stamp desk v) 0 }
  unfolding register_of mark
  register-found g =
      rw (stamp-read g.stamp-stands, desk-read g.desk-stands, length-read g.short, skip-move msg value_from v t (behind value_from (length v)) (behind-stands value_from (length v)) ahead-value, whole)
      refl

  pub value_found : take (length v) (drop (length value_from) msg) ≡ v
  value_found =
      ap (λ m. take (length v) (drop (length value_from) m)) ahead-value
      ∙ ap (take (length v)) (drop-append_seam value_from (v ++ t))
      ∙ take-append_seam v t

  -- ---- a register that isn't good

  stamp-refused : 0 < mark → stamp ≤ 0 → Stuck (register_of c msg (stands mark) from).cursor 3
  unfolding register_of stamp_bytes most_stamp
  stamp-refused p z =
      skip-stuck msg _ _ 3
      (read_number-stuck msg _ _ _ _ _ 3
      (read_number-stuck msg _ _ _ _ _ 3
      (refuse msg pre _ from mark 4 1 4294967295 stamp a.stands-there ahead-stamp (omega (arith, a.stamp-fits)) p
      (below-range 1 4294967295 stamp (omega arith)))))

  desk-refused : 0 < mark → 1 ≤ stamp → desk ≤ 0 → Stuck (register_of c msg (stands mark) from).cursor 3
  unfolding register_of
  desk-refused p q z =
      skip-stuck msg _ _ 3
      (read_number-stuck msg _ _ _ _ _ 3
      (rw (stamp-read (λ h. q))
      (refuse msg stamp_behind _ (behind stamp_behind stamp) mark 2 1 65535 desk (behind-stands stamp_behind stamp) ahead-desk (omega (arith, a.desk-fits)) p
      (below-range 1 65535 desk (omega arith)))))

  length-refused : 0 < mark → 1 ≤ stamp → 1 ≤ desk → 64 < length v → Stuck (register_of c msg (stands mark) from).cursor 3
  unfolding register_of
  length-refused p q r z =
      skip-stuck msg _ _ 3
      (rw (stamp-read (λ h. q), desk-read (λ h. r))
      (refuse msg desk_behind _ (behind desk_behind desk) mark 1 0 64 (min (length v) 255) (behind-stands desk_behind desk) ahead-length (omega arith) p
      (above-range 0 64 (min (length v) 255) (omega arith))))

  -- whether the register is good
  decides : RegisterGood stamp desk (length v) ⊎ Stuck (register_of c msg (stands mark) from).cursor 3
  unfolding mark
  decides =
      ⊎_elim
      (λ (z : register_mark stamp desk (length v) ≤ 0).
      inl (record {
        stamp-stands = λ p. absurd (omega arith);
        desk-stands = λ p. absurd (omega arith);
        short = omega (arith, (absent stamp desk (length v) (omega arith)).2);
      }))
      (λ (p : 0 < register_mark stamp desk (length v)).
      ⊎_elim (λ (z : stamp ≤ 0). inr (stamp-refused p z))
      (λ (q : 0 < stamp).
      ⊎_elim (λ (z : desk ≤ 0). inr (desk-refused p q z))
      (λ (r : 0 < desk).
      ⊎_elim (λ (l : length v ≤ 64). inl (record { stamp-stands = λ h. q; desk-stands = λ h. r; short = l }))
      (λ (z : 64 < length v). inr (length-refused p q r z))
      (le-or-lt (length v) 64))
      (le-or-lt desk 0))
      (le-or-lt stamp 0))
      (le-or-lt (register_mark stamp desk (length v)) 0)

  pub register-refused : (RegisterGood stamp desk (length v) → ⊥) → Stuck (register_of c msg (stands (register_mark stamp desk (length v))) from).cursor 3
  unfolding mark
  register-refused bad =
      ⊎_elim (λ (g : RegisterGood stamp desk (length v)). absurd (bad g))
      (λ (s : Stuck (register_of c msg (stands (register_mark stamp desk (length v))) from).cursor 3). s)
      decides
