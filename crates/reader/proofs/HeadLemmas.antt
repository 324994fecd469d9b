-- The head of a message, step by step: where a step is refused the head is, and where none is, each was read.
use Rattle.std.specs.Prelude.{Ok, Err}
use Prim.Native.Nat.{ℕ, ◌-◌}
use mathlib.Core.Path.{◌≡◌, refl}
use mathlib.Core.Bool.{true, false}
use mathlib.Core.List.{List}
use Rattle.config.specs.Refusals.{refusal}
use Rattle.config.specs.declared.cluster.Config.{Config}
use Rattle.config.specs.declared.answer.Refusal.{Refusal}
use Rattle.format.specs.Bytes.{bit}
use Rattle.message.specs.Cursors.{Cursor, read_number}
use Rattle.message.specs.Scans.{map_lawful, kind_has, read_map, read_kind, head_of}
use Rattle.reader.specs.Heads.{head_answer}
use Rattle.reader.specs.Steps.{at_place, read_answer}
use Rattle.reader.specs.declared.step.Read.{Read}
use Rattle.reader.proofs.Outcomes.{Clean, Refused, answer-ok, read-clean, read-refused, refused-answer, next-clean, next-refused, test-clean, test-refused, number-refused, require-refused}

-- ---- the map

module _ (msg : List ℕ) where
  pub map-refused : (r : Refusal) → Err r ≡ read_answer (read_number msg 1 2 0 65535 (at_place 0)) → Refused (read_map msg) r
  unfolding read_map
  map-refused r e = require-refused _ 3 (read-refused _ r e)

  module _ (map : Read) (is : Ok map ≡ read_answer (read_number msg 1 2 0 65535 (at_place 0))) where
    pub map-clean : map_lawful map.x ≡ true → Clean (read_map msg) map.at map.x
    unfolding read_map
    map-clean t = let h = read-clean _ map is in test-clean h _ 3 (rw h.found t)

    pub map-unlawful : map_lawful map.x ≡ false → Refused (read_map msg) (refusal 3)
    unfolding read_map
    map-unlawful t = let h = read-clean _ map is in test-refused h _ 2 (rw h.found t)

  -- ---- the kind

  module _ {at m : ℕ} (map : Clean (read_map msg) at m) where
    pub kind-refused : (r : Refusal) → Err r ≡ read_answer (read_number msg 1 1 1 3 (at_place at)) → Refused (read_kind msg (read_map msg)) r
    unfolding read_kind
    kind-refused r e = require-refused _ 3 (next-refused map msg 1 1 1 3 r e)

    module _ (kind : Read) (is : Ok kind ≡ read_answer (read_number msg 1 1 1 3 (at_place at))) where
      pub kind-clean : kind_has kind.x m ≡ true → Clean (read_kind msg (read_map msg)) kind.at kind.x
      unfolding read_kind
      kind-clean t = let h = next-clean map msg 1 1 1 3 kind is in test-clean h _ 3 (rw (h.found, map.found) t)

      pub kind-unlawful : kind_has kind.x m ≡ false → Refused (read_kind msg (read_map msg)) (refusal 3)
      unfolding read_kind
      kind-unlawful t = let h = next-clean map msg 1 1 1 3 kind is in test-refused h _ 2 (rw (h.found, map.found) t)

-- ---- the head

module _ (c : Config) (msg : List ℕ) where
  abbrev kind_at : Cursor
  kind_at = read_kind msg (read_map msg)

  abbrev pub server_at : Cursor
  server_at = read_number msg 1 1 0 (c.n - 1) kind_at

  abbrev pub desk_at : Cursor
  desk_at = read_number msg (bit (read_map msg).x 2) 2 1 65535 server_at

  abbrev pub round_at : Cursor
  round_at = read_number msg (bit (read_map msg).x 3) 4 1 4294967295 desk_at

  pub refused_at-round : (r : Refusal) → Refused round_at r → Err r ≡ head_answer c msg
  unfolding head_answer head_of
  refused_at-round r h = refused-answer round_at r _ h

  pub refused_at-desk : (r : Refusal) → Refused desk_at r → Err r ≡ head_answer c msg
  refused_at-desk r h = refused_at-round r (number-refused msg _ _ _ _ h)

  pub refused_at-server : (r : Refusal) → Refused server_at r → Err r ≡ head_answer c msg
  refused_at-server r h = refused_at-desk r (number-refused msg _ _ _ _ h)

  pub refused_at-kind : (r : Refusal) → Refused kind_at r → Err r ≡ head_answer c msg
  refused_at-kind r h = refused_at-server r (number-refused msg _ _ _ _ h)

  pub refused_at-map : (r : Refusal) → Refused (read_map msg) r → Err r ≡ head_answer c msg
  unfolding read_kind
  refused_at-map r h = refused_at-kind r (require-refused _ 3 (number-refused msg _ _ _ _ h))

  pub head-read : {m k s d n a b e f at : ℕ} → Clean (read_map msg) a m → Clean kind_at b k → Clean server_at e s → Clean desk_at f d → Clean round_at at n
      → Ok (record { map = m; envelope = record { kind = k; server = s; desk = d; round = n; note = 0 }; at = at }) ≡ head_answer c msg
  unfolding head_answer head_of
  head-read map kind server desk round =
      answer-ok _ _ _ round.none (rw (← map.found, ← kind.found, ← server.found, ← desk.found, ← round.found, ← round.here) refl)
