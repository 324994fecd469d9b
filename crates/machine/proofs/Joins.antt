-- Laws of joining replicas: the joined set has each part's transfers, and the joined register is one of the two and no lower than either.
use Rattle.machine.specs.Parties.{Register, Replica, join}
use Rattle.machine.specs.Views.{◌≼◌}
use Rattle.machine.proofs.Histories.{◌⊇◌}
use Rattle.machine.proofs.Tags.{higher-left, higher-right, higher-either}
use Rattle.machine.proofs.Sets.{union_left, union_right}

pub join-left : (a b : Replica) → a.register ≼ (join a b).register
unfolding join
join-left a b = higher-left a.register b.register

pub join-right : (a b : Replica) → b.register ≼ (join a b).register
unfolding join
join-right a b = higher-right a.register b.register

pub join-either : (P : Register → Type 0) (a b : Replica) → P a.register → P b.register → P (join a b).register
unfolding join
join-either P a b p q = higher-either P a.register b.register p q

pub join-has-left : (a b : Replica) → ◌⊇◌ (join a b).set a.set
unfolding join
join-has-left a b = union_left a.set b.set

pub join-has-right : (a b : Replica) → ◌⊇◌ (join a b).set b.set
unfolding join
join-has-right a b = union_right a.set b.set
