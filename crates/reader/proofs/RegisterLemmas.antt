-- The register of a message, step by step: where a step is refused the register is, and where none is, each was read.
use Rattle.std.specs.Prelude.{Ok, Err}
use Prim.Native.Nat.{ℕ}
use mathlib.Core.Path.{◌≡◌, refl}
use mathlib.Core.List.{List}
use lib.ListN.{take, drop}
use Rattle.config.specs.Cluster.{stamp_bytes, most_stamp}
use Rattle.config.specs.declared.cluster.Config.{Config}
use Rattle.config.specs.declared.answer.Refusal.{Refusal}
use Rattle.message.specs.Cursors.{Cursor, read_number, skip}
use Rattle.message.specs.Scans.{register_of}
use Rattle.message.proofs.Stuck.{skip-stuck}
use Rattle.reader.specs.Registers.{register_answer}
use Rattle.reader.proofs.Outcomes.{Clean, Refused, answer-ok, refused-answer, keeps-refused, number-refused}

module _ (c : Config) (msg : List ℕ) (s : ℕ) (from : Cursor) where
  abbrev pub stamp_at : Cursor
  stamp_at = read_number msg s (stamp_bytes c) 1 (most_stamp c) from

  abbrev pub tag_desk_at : Cursor
  tag_desk_at = read_number msg s 2 1 65535 stamp_at

  abbrev pub length_at : Cursor
  length_at = read_number msg s 1 0 64 tag_desk_at

  abbrev pub value_at : Cursor
  value_at = skip msg length_at.x length_at

  pub refused_at-value : (r : Refusal) → Refused value_at r → Err r ≡ register_answer c msg s from
  unfolding register_answer register_of
  refused_at-value r h = refused-answer value_at r _ h

  pub refused_at-length : (r : Refusal) → Refused length_at r → Err r ≡ register_answer c msg s from
  refused_at-length r h = refused_at-value r (keeps-refused (skip-stuck msg length_at.x length_at) h)

  pub refused_at-tag_desk : (r : Refusal) → Refused tag_desk_at r → Err r ≡ register_answer c msg s from
  refused_at-tag_desk r h = refused_at-length r (number-refused msg _ _ _ _ h)

  pub refused_at-stamp : (r : Refusal) → Refused stamp_at r → Err r ≡ register_answer c msg s from
  refused_at-stamp r h = refused_at-tag_desk r (number-refused msg _ _ _ _ h)

  pub register-read : {t d x a b at end : ℕ} → Clean stamp_at a t → Clean tag_desk_at b d → Clean length_at at x
      → (value_at.number ≡ 0) × (value_at.at ≡ end)
      → Ok (record { tag = record { stamp = t; desk = d }; value = take x (drop at msg); end = end }) ≡ register_answer c msg s from
  unfolding register_answer register_of
  register-read stamp desk length value =
      answer-ok _ _ _ value.0 (rw (← stamp.found, ← desk.found, ← length.found, ← length.here, ← value.1) refl)
