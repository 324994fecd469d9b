-- What the calls on messages answer to n, f and a list that are not lawful (paper 02, N2): 1 or 15, whatever the message, the server and the map are.
use Prim.Native.Nat.{ℕ}
use mathlib.Core.Path.{◌≡◌, refl, sym, ◌∙◌}
use mathlib.Core.Bool.{Bool, true, false}
use mathlib.Core.List.{List}
use borrow.Author.Tests.{ne_eqb}
use Rattle.config.specs.Cluster.{House, house_fault, config_of, lawful_of}
use Rattle.config.specs.Refusals.{refusal}
use Rattle.config.proofs.Clusters.{fault-none}
use Rattle.config.proofs.Houses.{given-fault}
use Rattle.message.specs.Answers.{check, check_answer, verdict_of}
use Rattle.reader.specs.Weighings.{weight_in, quorum_in}
use Rattle.host.specs.Codes.{refusal_code, check_code, weight_code, quorum_code}

module _ (h : House) (bad : house_fault h ≡ 0 → ⊥) (msg : List ℕ) where
  -- the number of the check is the house's
  fault-told : check (config_of h) msg ≡ house_fault h
  unfolding check
  fault-told = by_lawful (lawful_of (config_of h)) refl
    where
      by_lawful : (t : Bool) → lawful_of (config_of h) ≡ t → check (config_of h) msg ≡ house_fault h
      by_lawful true l = absurd (bad (sym (given-fault h) ∙ fault-none (config_of h) l))
      by_lawful false l = rw l (given-fault h)

  pub check-given : check_code (config_of h) msg ≡ refusal_code (refusal (house_fault h))
  unfolding check_code check_answer verdict_of
  check-given = rw (fault-told, ne_eqb (house_fault h) 0 bad) refl

  pub weight-given : (i : ℕ) → weight_code (config_of h) i msg ≡ refusal_code (refusal (house_fault h))
  unfolding weight_code weight_in
  weight-given i = rw (fault-told, ne_eqb (house_fault h) 0 bad) refl

  pub quorum-given : (map : ℕ) → quorum_code (config_of h) map msg ≡ refusal_code (refusal (house_fault h))
  unfolding quorum_code quorum_in
  quorum-given map = rw (fault-told, ne_eqb (house_fault h) 0 bad) refl
