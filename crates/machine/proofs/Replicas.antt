-- Good replicas stay good: joined, with a higher register, and while the history grows.
use mathlib.Core.Path.{◌≡◌}
use mathlib.Core.Logic.{inr, ⊎_elim}
use mathlib.Core.Bool.{true}
use mathlib.Core.List.{◌∷◌}
use Rattle.machine.specs.Sets.{Transfer, Transfers, has}
use Rattle.machine.specs.Parties.{Register, Replica, fresh, join}
use Rattle.machine.specs.Views.{◌≼◌}
use Rattle.machine.proofs.Tags.{tag-trans, higher-left, higher-right}
use Rattle.machine.proofs.Sets.{has-none, union-either}
use Rattle.machine.proofs.Histories.{Gift, History, Carried, Good}
use Rattle.machine.proofs.Closed.{closed-empty, closed-union, closed-more}

carried-higher : (h : History) (a b : Register) (t : Transfer) → a ≼ b → Carried h a t → Carried h b t
carried-higher h a b t le k = record { gift = k.gift; made = k.made; transfer = k.transfer; tag = tag-trans k.gift.tag a b k.tag le }

pub good-fresh : (h : History) → Good h fresh
good-fresh h = record { closed = closed-empty h; carried = λ t e. absurd (has-none t e) }

pub good-higher : (h : History) (a : Transfers) (g b : Register) → g ≼ b → Good h (record { set = a; register = g }) → Good h (record { set = a; register = b })
good-higher h a g b le k = record { closed = k.closed; carried = λ t e. carried-higher h g b t le (k.carried t e) }

pub good-join : (h : History) (a b : Replica) → Good h a → Good h b → Good h (join a b)
unfolding join
good-join h a b p q =
    record {
      closed = closed-union h a.set b.set p.closed q.closed;
      carried =
          λ t e.
          ⊎_elim
          (λ (l : has a.set t ≡ true).
          carried-higher h a.register _ t (higher-left a.register b.register) (p.carried t l))
          (λ (l : has b.set t ≡ true).
          carried-higher h b.register _ t (higher-right a.register b.register) (q.carried t l))
          (union-either a.set b.set t e);
    }

pub good_more : (g : Gift) (h : History) (r : Replica) → Good h r → Good (g ∷ h) r
good_more g h r k =
    record {
      closed = closed-more g h r.set k.closed;
      carried =
          λ t e.
          let y = k.carried t e in
          record { gift = y.gift; made = inr y.made; transfer = y.transfer; tag = y.tag };
    }
