-- What a write answers and leaves in the buffer: refused, taken, and then too long or done.
use Rattle.std.specs.Prelude.{Ok, Err}
use Prim.Native.Nat.{ℕ, ◌+◌, ◌-◌, ◌≤◌, ◌<◌}
use native.Mathlib.Nat.{le_refl}
use mathlib.Core.Path.{◌≡◌, ap}
use mathlib.Core.List.{List, [], ◌++◌, append-nil}
use borrow.Author.Tests.{eq-eqb, le-leb, lt-leb}
use lib.ListN.{length, take, drop, length-drop, drop_of_length-le}
use lib.Seq.{length-take-le, take_all}
use Rattle.config.specs.declared.cluster.Config.{Config}
use Rattle.config.specs.declared.answer.Refusal.{Refusal}
use Rattle.config.specs.Refusals.{refusal}
use Rattle.replica.specs.declared.replica.Replica.{Replica}
use Rattle.message.specs.declared.envelope.Envelope.{Envelope}
use Rattle.message.specs.Envelopes.{message_of}
use Rattle.message.specs.Answers.{Written, check, verdict_of, fits, over, place, write_of}
use Rattle.message.proofs.Numbers.{verdict-refused}

-- the part of a buffer from p on, as it is lent, and the buffer when that part has come back as ys
abbrev pub lent : ℕ → List ℕ → List ℕ
lent p xs = take (length xs - p) (drop p xs)

abbrev pub back : ℕ → List ℕ → List ℕ → List ℕ
back p xs ys = take p xs ++ (ys ++ drop (length xs - p) (drop p xs))

pub lent_length : (p : ℕ) (xs : List ℕ) → length (lent p xs) ≡ length xs - p
lent_length p xs = length-take-le (length xs - p) (drop p xs) (rw length-drop (le_refl (length xs - p)))

-- what is written is an answer and a buffer
pub in_parts : {w v : Written} → w ≡ v → (w.answer ≡ v.answer) × (w.out ≡ v.out)
in_parts e = (ap (λ (x : Written). x.answer) e, ap (λ (x : Written). x.out) e)

module _ (c : Config) (e : Envelope) (r : Replica) (out : List ℕ) (at : ℕ) where
  pub write-refused : (k : Refusal) → verdict_of (check c (message_of c e r)) ≡ Err k
      → (Err k ≡ (write_of c e r out at).answer) × (out ≡ (write_of c e r out at).out)
  unfolding write_of
  write-refused k found =
      in_parts
      (verdict-refused (check c (message_of c e r)) k (place (message_of c e r) out at) (λ (x : Refusal). record { answer = Err x; out = out }) found)

  pub write-taken : check c (message_of c e r) ≡ 0 → place (message_of c e r) out at ≡ write_of c e r out at
  unfolding write_of
  write-taken found = rw (eq-eqb (check c (message_of c e r)) 0 found)

module _ (m out : List ℕ) (at : ℕ) where
  pub place-narrow : length out < at + length m → (Err (refusal 13) ≡ (place m out at).answer) × (out ≡ (place m out at).out)
  unfolding place fits
  place-narrow long = let narrow = lt-leb (at + length m) (length out) long in (rw narrow, rw narrow)

  -- the part from the place on comes back with the message at its front
  part-over : (ys : List ℕ) → ys ≡ over m (lent at out) → back at out ys ≡ take at out ++ over m (drop at out)
  part-over ys given =
      let whole : lent at out ≡ drop at out = take_all (length out - at) (drop at out) (rw length-drop (le_refl (length out - at))) in
      let none : drop (length out - at) (drop at out) ≡ [] =
      drop_of_length-le (drop at out) {i = length out - at} (rw length-drop (le_refl (length out - at))) in
      rw (none, append-nil, given, whole)

  pub place-done : (ys : List ℕ) (n : ℕ) → at + length m ≤ length out → ys ≡ over m (lent at out) → n ≡ length m
      → (Ok (at + n) ≡ (place m out at).answer) × (back at out ys ≡ (place m out at).out)
  unfolding place fits
  place-done ys n room given end =
      let wide = le-leb (at + length m) (length out) room in
      (rw (wide, end), rw wide (part-over ys given))
