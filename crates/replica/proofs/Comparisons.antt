-- How two replicas compare that fit: whether they join, and what they join to. Where one has nothing that the other lacks, both together are the other's
-- ledger, so that no weight has to be looked at again.
use Rattle.std.specs.Prelude.{Ok, Err}
use mathlib.Core.Path.{◌≡◌, refl, sym, ap, ◌∙◌}
use mathlib.Core.Bool.{Bool, true, false, cond}
use Rattle.config.specs.Refusals.{refusal}
use Rattle.config.specs.declared.answer.Refusal.{Refusal}
use Rattle.config.specs.declared.cluster.Config.{Config}
use lib.ListN.{length}
use Rattle.ledger.specs.declared.ledger.Ledger.{Ledger}
use Rattle.ledger.specs.declared.join.Compared.{Compared}
use Rattle.ledger.specs.Joins.{joins, joined, lacks}
use Rattle.ledger.specs.Checks.{above_floor}
use Rattle.ledger.proofs.Comparisons as L
use Rattle.ledger.proofs.Kept.{joined-bounded}
use Rattle.ledger.proofs.Unions.{joined-has}
use Rattle.replica.specs.declared.register.Register.{Register}
use Rattle.replica.specs.declared.replica.Replica.{Replica}
use Rattle.replica.specs.Registers.{register_fits, agree, higher}
use Rattle.replica.specs.Replicas.{fits, joinable, join, compared_of}
use Rattle.replica.proofs.Registers.{higher-either}
use Rattle.replica.proofs.Replicas.{Fits, fits_told}

-- a ledger with the register of the higher tag
abbrev pub with_higher : Ledger → Register → Register → Replica
with_higher l g h = record { ledger = l; register = higher g h }

itself : (b : Bool) → b ≡ cond b true false
itself true = refl
itself false = refl

module _ (c : Config) (a b : Replica) (p : fits c a ≡ true) (q : fits c b ≡ true) where
  s : Fits c a
  s = fits_told c a p

  t : Fits c b
  t = fits_told c b q

  -- what they compare to, by the whole ledgers
  compared-whole : compared_of c.n a b
      ≡ cond (agree a.register b.register)
      (cond (joins a.ledger b.ledger) (Ok (record { lacks = lacks a.ledger b.ledger; ahead = lacks b.ledger a.ledger })) (Err (refusal 6)))
      (Err (refusal 6))
  unfolding compared_of
  compared-whole = rw (L.compared-whole c a.ledger b.ledger s.ledger-bounded t.ledger-bounded) refl

  -- rows that do not agree, or values of equal tags, keep them from joining
  pub compared-apart : (k : Refusal) → compared_of c.n a b ≡ Err k → (k ≡ refusal 6) × (joinable c a b ≡ false)
  unfolding joinable
  compared-apart k e =
      by-test (agree a.register b.register) (joins a.ledger b.ledger) (above_floor c (joined a.ledger b.ledger)) _ (sym compared-whole ∙ e)
    where
      by-test : (g j f : Bool) (x : Compared) → cond g (cond j (Ok x) (Err (refusal 6))) (Err (refusal 6)) ≡ Err k
          → (k ≡ refusal 6) × (cond g (cond j f false) false ≡ false)
      by-test true true f x d = cc
      by-test true false f x d = (let n : k ≡ refusal 6 = cc in n, refl)
      by-test false j f x d = (let n : k ≡ refusal 6 = cc in n, refl)

  module _ (x : Compared) (e : compared_of c.n a b ≡ Ok x) where
    agreeing : (agree a.register b.register ≡ true) × ((joins a.ledger b.ledger ≡ true) × (record { lacks = lacks a.ledger b.ledger; ahead = lacks b.ledger a.ledger } ≡ x))
    agreeing = by-test (agree a.register b.register) (joins a.ledger b.ledger) _ (sym compared-whole ∙ e)
      where
        by-test : (g j : Bool) (y : Compared) → cond g (cond j (Ok y) (Err (refusal 6))) (Err (refusal 6)) ≡ Ok x
            → (g ≡ true) × ((j ≡ true) × (y ≡ x))
        by-test true true y d = (refl, (refl, cc))
        by-test true false y d = cc
        by-test false j y d = cc

    pub rows_join : joins a.ledger b.ledger ≡ true
    rows_join = agreeing.1.0

    -- otherwise they join exactly where a party may hold both together: where the union is not light
    pub compared-joinable : joinable c a b ≡ fits c (join a b)
    unfolding joinable join fits
    compared-joinable =
        simp (
          agreeing.0,
          rows_join,
          s.lawful,
          joined-bounded c a.ledger b.ledger s.ledger-bounded t.ledger-bounded,
          higher-either (λ r. register_fits c r ≡ true) a.register b.register s.register-fits t.register-fits,
        )
        (itself (above_floor c (joined a.ledger b.ledger)))

    pub compared-lacks : x.lacks ≡ lacks a.ledger b.ledger
    compared-lacks = ap (λ (y : Compared). y.lacks) (sym agreeing.1.1)

    pub compared-ahead : x.ahead ≡ lacks b.ledger a.ledger
    compared-ahead = ap (λ (y : Compared). y.ahead) (sym agreeing.1.1)

    -- where the other brings no transfer, the ledger is what it was
    pub known-join : length a.ledger.counts ≡ 16 → length a.ledger.cells ≡ 256 → x.lacks ≡ false
        → join a b ≡ with_higher a.ledger a.register b.register
    unfolding join
    known-join m n l = ap (λ y. with_higher y a.register b.register) (joined-has a.ledger b.ledger m n (sym compared-lacks ∙ l))

    -- and where it lacks none, the ledger is the other's
    pub told-join : length b.ledger.counts ≡ 16 → length b.ledger.cells ≡ 256 → x.ahead ≡ false
        → join a b ≡ with_higher b.ledger a.register b.register
    unfolding join
    told-join m n l =
        ap (λ y. with_higher y a.register b.register) (L.joined-told a.ledger b.ledger m n rows_join (sym compared-ahead ∙ l))

-- a ledger fits with one register that fits as with another
pub fits-either : (c : Config) (l : Ledger) (g h : Register) → register_fits c g ≡ true → register_fits c h ≡ true
    → fits c (record { ledger = l; register = g }) ≡ fits c (record { ledger = l; register = h })
unfolding fits
fits-either c l g h p q = rw (p, q) refl

-- so either ledger fits with the register of the higher tag
pub higher-fits : (c : Config) (l : Ledger) (g h : Register) → register_fits c g ≡ true → register_fits c h ≡ true
    → fits c (with_higher l g h) ≡ fits c (record { ledger = l; register = g })
higher-fits c l g h p q = fits-either c l (higher g h) g (higher-either (λ r. register_fits c r ≡ true) g h p q) p
