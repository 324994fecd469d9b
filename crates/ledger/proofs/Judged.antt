-- What is wrong with a cluster is what a call on it answers: what one test refuses, another refuses alike.
use Rattle.std.specs.Prelude.{Ok, Err}
use Prim.Native.Nat.{ℕ}
use mathlib.Core.Path.{◌≡◌, refl, sym, ap, ◌∙◌}
use mathlib.Core.Bool.{Bool, true, false}
use Rattle.config.specs.Cluster.{valid_of, lawful_of, server_of, start_of}
use Rattle.config.specs.Answers.{judged, start_answer, least_answer}
use Rattle.config.specs.Refusals.{refusal}
use Rattle.config.specs.declared.answer.Refusal.{Refusal}
use Rattle.config.specs.declared.cluster.Config.{Config}
use Rattle.config.proofs.Clusters.{value-not-refused, least-refused, judged-fault, fault-second}
use Rattle.ledger.specs.Maps.{map_of}
use Rattle.ledger.proofs.Maps.{map-valid}

module _ {A : Type 0} (c : Config) (r : Refusal) (x : A) (refused : Refusal → A) where
  -- of a cluster
  pub least-judged : least_answer c ≡ Err r → judged (valid_of c) c x refused ≡ refused r
  least-judged e = let t = least-refused c r e in judged-fault c x refused t.0 ∙ ap refused (sym t.1)

  -- of one whose servers a map names
  pub map-judged : (m : ℕ) → map_of c m ≡ true → least_answer c ≡ Err r → judged (map_of c m) c x refused ≡ refused r
  map-judged m p e =
      let t = least-refused c r e in
      rw (p, t.0) (ap refused (sym (t.1 ∙ ap refusal (fault-second c (map-valid c m p).0 t.0))))

  -- of a server
  pub start-judged : (i : ℕ) → start_answer c i ≡ Err r → judged (server_of c i) c x refused ≡ refused r
  unfolding start_answer
  start-judged i e = by_tests (server_of c i) (lawful_of c) refl refl
    where
      by_tests : (s l : Bool) → server_of c i ≡ s → lawful_of c ≡ l → judged (server_of c i) c x refused ≡ refused r
      by_tests true true p q = absurd (value-not-refused _ _ (rw (p, q) at e))
      by_tests true false p q = rw (p, q) (ap refused (cc (rw (p, q) at e)))
      by_tests false l p q = rw p (ap refused (cc (rw p at e)))

-- a server that has a start weight, and that weight
pub start-told : (c : Config) (i y : ℕ) → start_answer c i ≡ Ok y → (server_of c i ≡ true) × (lawful_of c ≡ true)
unfolding start_answer
start-told c i y e = by_tests (server_of c i) (lawful_of c) refl refl
  where
    by_tests : (s l : Bool) → server_of c i ≡ s → lawful_of c ≡ l → (server_of c i ≡ true) × (lawful_of c ≡ true)
    by_tests true true p q = (p, q)
    by_tests true false p q = absurd (value-not-refused _ _ (sym (rw (p, q) at e)))
    by_tests false l p q = absurd (value-not-refused _ _ (sym (rw p at e)))

pub start-is : (c : Config) (i y : ℕ) → start_answer c i ≡ Ok y → y ≡ start_of c i
unfolding start_answer
start-is c i y e = let t = start-told c i y e in cc (rw (t.0, t.1) at e)
