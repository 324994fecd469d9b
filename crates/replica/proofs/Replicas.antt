-- Replicas: what their tests say, and what a join keeps and adds. A replica that a call can have stays one, one that a party may hold stays one, and
-- what is joined has all that each part has.
use Prim.Native.Nat.{ℕ, ◌≤◌, ◌<◌}
use mathlib.Core.Path.{◌≡◌, sym, ◌∙◌, subst}
use mathlib.Core.Bool.{true, false}
use lib.ListN.{get_or}
use Rattle.quorums.proofs.Tests.{both}
use Rattle.quorums.proofs.Sums.{all-each}
use Rattle.config.specs.Cluster.{lawful_of}
use Rattle.config.specs.declared.cluster.Config.{Config}
use Rattle.ledger.specs.declared.ledger.Ledger.{Ledger}
use Rattle.ledger.specs.Ledgers.{count_of}
use Rattle.ledger.specs.Checks.{bounded, above_floor}
use Rattle.ledger.specs.Joins.{agree_at, joins, joined, lacks}
use Rattle.ledger.proofs.Fresh as fresh
use Rattle.ledger.proofs.Kept.{joined_typed, joined-bounded}
use Rattle.ledger.proofs.Unions.{joined-cell, joined-left, joined-right, joined-comm, joins-comm, later-grows}
use Rattle.ledger.proofs.ComparedLemmas.{lacks-nothing}
use Rattle.replica.specs.declared.replica.Replica.{Replica}
use Rattle.replica.specs.Registers.{register_fits, below, agree, Typed as TypedRegister}
use Rattle.replica.specs.Replicas.{fresh_replica, fits, joinable, join, Typed}
use Rattle.replica.proofs.Registers.{start-typed, start_fits, higher-either, higher-left, higher-right}

-- ---- a replica that a party may hold

pub record Fits (c : Config) (r : Replica) : Type 0 where
  pub lawful : lawful_of c ≡ true
  pub ledger-bounded : bounded c r.ledger ≡ true
  pub ledger-above : above_floor c r.ledger ≡ true
  pub register-fits : register_fits c r.register ≡ true

pub fits_told : (c : Config) (r : Replica) → fits c r ≡ true → Fits c r
unfolding fits
fits_told c r e =
    let v = both (lawful_of c) _ e in
    let b = both (bounded c r.ledger) _ v.1 in
    let f = both (above_floor c r.ledger) _ b.1 in
    record { lawful = v.0; ledger-bounded = b.0; ledger-above = f.0; register-fits = f.1 }

pub told-fits : (c : Config) (r : Replica) → Fits c r → fits c r ≡ true
unfolding fits
told-fits c r t = simp (t.lawful, t.ledger-bounded, t.ledger-above, t.register-fits)

pub fresh-typed : Typed fresh_replica
fresh-typed = record { ledger-typed = fresh.fresh-typed; register-typed = start-typed }

pub fresh-fits : (c : Config) → lawful_of c ≡ true → fits c fresh_replica ≡ true
fresh-fits c v =
    told-fits c fresh_replica
    (record { lawful = v; ledger-bounded = fresh.fresh-bounded c; ledger-above = fresh.fresh-above c v; register-fits = start_fits c })

-- ---- two replicas that join

pub record Joinable (c : Config) (a b : Replica) : Type 0 where
  pub agreeing : agree a.register b.register ≡ true
  pub joining : joins a.ledger b.ledger ≡ true
  pub above : above_floor c (joined a.ledger b.ledger) ≡ true

pub joinable-told : (c : Config) (a b : Replica) → joinable c a b ≡ true → Joinable c a b
unfolding joinable
joinable-told c a b e =
    let g = both (agree a.register b.register) _ e in
    let j = both (joins a.ledger b.ledger) _ g.1 in
    record { agreeing = g.0; joining = j.0; above = j.1 }

pub told-joinable : (c : Config) (a b : Replica) → Joinable c a b → joinable c a b ≡ true
unfolding joinable
told-joinable c a b t = simp (t.agreeing, t.joining, t.above)

-- ---- what a join keeps

pub join-typed : (a b : Replica) → Typed a → Typed b → Typed (join a b)
unfolding join
join-typed a b s t = record {
  ledger-typed = joined_typed a.ledger b.ledger s.ledger-typed t.ledger-typed;
  register-typed = higher-either TypedRegister a.register b.register s.register-typed t.register-typed;
}

pub join-fits : (c : Config) (a b : Replica) → fits c a ≡ true → fits c b ≡ true → joinable c a b ≡ true → fits c (join a b) ≡ true
unfolding join
join-fits c a b p q e =
    let s = fits_told c a p in
    let t = fits_told c b q in
    let j = joinable-told c a b e in
    told-fits c (join a b) (record {
      lawful = s.lawful;
      ledger-bounded = joined-bounded c a.ledger b.ledger s.ledger-bounded t.ledger-bounded;
      ledger-above = j.above;
      register-fits = higher-either (λ r. register_fits c r ≡ true) a.register b.register s.register-fits t.register-fits;
    })

-- ---- what a join adds

-- j has all that a has: its transfers, and a tag that is not below.
pub record Grows (a j : Replica) : Type 0 where
  pub counts : (i : ℕ) → i < 16 → count_of a.ledger i ≤ count_of j.ledger i
  pub cells : (k : ℕ) → k < 256 → get_or a.ledger.cells k 0 ≤ get_or j.ledger.cells k 0
  pub all_known : lacks j.ledger a.ledger ≡ false
  pub tag : below j.register a.register ≡ false

-- a joined ledger has at least each part's cells
joined-cell-left : (a b : Ledger) → joins a b ≡ true → (k : ℕ) → k < 256 → get_or a.cells k 0 ≤ get_or (joined a b).cells k 0
unfolding joins
joined-cell-left a b e k h = rw (joined-cell a b k h) (later-grows _ _ _ _ (all-each 256 (agree_at a b) e k h))

joined-cell-right : (a b : Ledger) → joins a b ≡ true → (k : ℕ) → k < 256 → get_or b.cells k 0 ≤ get_or (joined a b).cells k 0
joined-cell-right a b e k h =
    subst (λ (l : Ledger). get_or b.cells k 0 ≤ get_or l.cells k 0) (sym (joined-comm a b e)) (joined-cell-left b a (sym (joins-comm a b) ∙ e) k h)

pub grows-left : (c : Config) (a b : Replica) → joinable c a b ≡ true → Grows a (join a b)
unfolding join
grows-left c a b e =
    let j = joinable-told c a b e in
    record {
      counts = joined-left a.ledger b.ledger;
      cells = joined-cell-left a.ledger b.ledger j.joining;
      all_known = (lacks-nothing (joined a.ledger b.ledger) a.ledger).1 (joined-left a.ledger b.ledger);
      tag = higher-left a.register b.register;
    }

pub grows-right : (c : Config) (a b : Replica) → joinable c a b ≡ true → Grows b (join a b)
unfolding join
grows-right c a b e =
    let j = joinable-told c a b e in
    record {
      counts = joined-right a.ledger b.ledger;
      cells = joined-cell-right a.ledger b.ledger j.joining;
      all_known = (lacks-nothing (joined a.ledger b.ledger) b.ledger).1 (joined-right a.ledger b.ledger);
      tag = higher-right a.register b.register;
    }
