-- What a call that writes leaves in a buffer: from the place on it is the message, and before it and after it nothing has changed.
use Rattle.std.specs.Prelude.{Ok, Err}
use Prim.Native.Nat.{ℕ, ◌+◌, ◌-◌, ◌≤◌}
use native.Mathlib.Omega.{arith}
use mathlib.Core.Path.{◌≡◌, refl, sym, ap, ◌∙◌}
use mathlib.Core.Bool.{Bool, true, false, cond}
use mathlib.Core.List.{List, ◌++◌}
use borrow.Author.Tests.{leb-true}
use lib.ListN.{length, take, drop}
use lib.Seq.{length-take-le, take-append_seam, drop-append_seam, drop-append-add, drop-drop}
use Rattle.config.specs.Refusals.{refusal}
use Rattle.config.proofs.Clusters.{value-not-refused}
use Rattle.message.specs.Answers.{fits as room, over, Written, place, between}

module _ (m out : List ℕ) (at : ℕ) where
  -- what `place` gives, by whether the message has room
  abbrev given : Bool → Written
  given b =
      cond b (record { answer = Ok (at + length m); out = take at out ++ over m (drop at out) })
      (record { answer = Err (refusal 13); out = out })

  -- a message that has room is written
  pub place-room : room (length out) at (length m) ≡ true → (place m out at).answer ≡ Ok (at + length m)
  unfolding place
  place-room e = rw e refl

  -- one that is written has room
  pub place-value : (x : ℕ) → (place m out at).answer ≡ Ok x → room (length out) at (length m) ≡ true
  unfolding place
  place-value x e = by-test (room (length out) at (length m)) e
    where
      by-test : (b : Bool) → (given b).answer ≡ Ok x → b ≡ true
      by-test true d = refl
      by-test false d = absurd (value-not-refused x (refusal 13) (sym d))

-- the message stands in the buffer
record Standing (m out : List ℕ) (at next : ℕ) : Type 0 where
  pub place_in : at + length m ≤ length out
  pub next-is : next ≡ at + length m
  pub out-is : (place m out at).out ≡ take at out ++ (m ++ drop (length m) (drop at out))

stands : (m out : List ℕ) (at next : ℕ) → (place m out at).answer ≡ Ok next → Standing m out at next
unfolding place room over
stands m out at next e =
    let r = place-value m out at next e in
    let d : Ok (at + length m) ≡ Ok next = sym (place-room m out at r) ∙ e in
    record { place_in = leb-true _ _ r; next-is = cc; out-is = rw r refl }

module _ (m out : List ℕ) (at next : ℕ) (e : (place m out at).answer ≡ Ok next) where
  placed : Standing m out at next
  placed = stands m out at next e

  -- the part before the place, and what follows the message
  front : List ℕ
  front = take at out

  rest : List ℕ
  rest = drop (length m) (drop at out)

  front_length : length front ≡ at
  unfolding front
  front_length = length-take-le at out (omega (arith, placed.place_in))

  buffer : (place m out at).out ≡ front ++ (m ++ rest)
  unfolding front rest
  buffer = placed.out-is

  -- the bytes from the place up to the one handed back are the message
  pub placed-message : between (place m out at).out at next ≡ m
  placed-message =
      let dropped : drop at (front ++ (m ++ rest)) ≡ m ++ rest =
      ap (λ k. drop k (front ++ (m ++ rest))) (sym front_length) ∙ drop-append_seam front (m ++ rest) in
      let long : next - at ≡ length m = omega (arith, placed.next-is) in
      rw (buffer, dropped, long) (take-append_seam m rest)

  -- the bytes before the place, and those after the message, are as they were
  pub placed-before : take at (place m out at).out ≡ take at out
  unfolding front
  placed-before = rw buffer (ap (λ k. take k (front ++ (m ++ rest))) (sym front_length) ∙ take-append_seam front (m ++ rest))

  pub placed-after : drop next (place m out at).out ≡ drop next out
  unfolding rest
  placed-after =
      let split : next ≡ length front + length m = omega (arith, placed.next-is, front_length) in
      rw buffer
      (ap (λ k. drop k (front ++ (m ++ rest))) split
      ∙ drop-append-add front (m ++ rest) (length m)
      ∙ drop-append_seam m rest
      ∙ drop-drop (length m) at out
      ∙ ap (λ k. drop k out) (sym placed.next-is))
