-- A reply of a desk's current round has every transfer of the desk's set. The request carried that set, the server replies with what it holds after
-- joining it, and within a round the desk's set gets nothing new: a reply that would add to it begins the next round.
use Prim.Native.Nat.{ℕ, zero, suc}
use native.Mathlib.Omega.{arith}
use mathlib.Core.Path.{◌≡◌, refl, sym, ◌∙◌, subst}
use mathlib.Core.Logic.{◌⊎◌, inl, inr, ⊎_elim}
use mathlib.Core.Bool.{true}
use mathlib.Core.List.{List, [], ◌∷◌, ◌++◌}
use Rattle.config.specs.Cluster.{House, config_of, lawful_of}
use Rattle.config.specs.declared.cluster.Config.{Config}
use Rattle.machine.specs.Sets.{has, includes}
use Rattle.machine.specs.Parties.{Replica, join, share, Message, Desk}
use Rattle.machine.specs.Runs.{done, put, nth, nothing, after_desk, at, desk_at}
use Rattle.machine.specs.Calls.{accept, reply_to, served, request_of}
use Rattle.machine.specs.Steps.{machine, Step, run_of, PlainRun}
use Rattle.machine.proofs.Lists.{In, each_append, each-one, nth_in}
use Rattle.machine.proofs.Branches.{when-cases}
use Rattle.machine.proofs.Sets.{union-included}
use Rattle.machine.proofs.Joins.{join-has-right}
use Rattle.machine.proofs.Histories.{History, ◌⊇◌}
use Rattle.machine.proofs.Moves.{PlainState, stepped, moved}
use Rattle.machine.proofs.Desks.{put-cases}
use Rattle.machine.proofs.Invariant.{Invariant}
use Rattle.machine.proofs.DesksKept.{kinds-apart}
use Rattle.machine.proofs.Always.{invariant}

-- the reply to a request, made after joining it, has the request's set
pub reply-has-request : (m : Message) (i : ℕ) (r : Replica) → ◌⊇◌ (reply_to m i (served r m)).replica.set m.replica.set
reply-has-request m i r = join-has-right r m.replica

-- a desk is x, and y after a step: the next round begins, or the set gets nothing new
abbrev Goes : Desk → Desk → Type 0
Goes x y = (y.round ≡ suc x.round) ⊎ ((y.round ≡ x.round) × ◌⊇◌ x.replica.set y.replica.set)

-- joining a reply that has nothing new
joined-nothing : (x m : Replica) → includes x.set m.set ≡ true → ◌⊇◌ x.set (join x m).set
unfolding join
joined-nothing x m e t k = subst (λ a. has a t ≡ true) (union-included x.set m.set e) k

-- a request or reply with a desk's number and round has the desk's set
abbrev Covers : Message → Desk → Type 0
Covers m x = (m.kind ≡ share → ⊥) → m.round ≡ x.round → ◌⊇◌ m.replica.set x.replica.set

abbrev AllCover : PlainState → Type 0
AllCover s = (m : Message) → In m s.sent → Covers m (s.desks m.desk)

module _ {c : Config} {h : History} {s : PlainState} (inv : Invariant c h s) (p : AllCover s) where
  -- one desk changes: no message is of the round to come
  desk-covers : (d : ℕ) (y : Desk) → Goes (s.desks d) y → (m : Message) → In m s.sent → Covers m (put s.desks d y m.desk)
  desk-covers d y goes m i =
      put-cases (Covers m) s.desks d y m.desk
      (λ e.
      ⊎_elim (λ (f : y.round ≡ suc (s.desks d).round). λ ns g. absurd (omega (arith, rw e at (inv.rounds m i))))
      (λ (f : (y.round ≡ (s.desks d).round) × ◌⊇◌ (s.desks d).replica.set y.replica.set).
      λ ns g t k. subst (λ z. Covers m (s.desks z)) e (p m i) ns (g ∙ f.0) t (f.1 t k))
      goes)
      (λ e. p m i)

  -- a message more, or none
  one_more : (f : ℕ → Desk) (m : Message) → ((n : Message) → In n s.sent → Covers n (f n.desk)) → Covers m (f m.desk)
      → (n : Message) → In n (s.sent ++ (m ∷ []))
      → Covers n (f n.desk)
  one_more f m q new = each_append (λ z. Covers z (f z.desk)) s.sent (m ∷ []) q (each-one (λ z. Covers z (f z.desk)) m new)

  none_more : (f : ℕ → Desk) → ((n : Message) → In n s.sent → Covers n (f n.desk))
      → (n : Message) → In n (s.sent ++ [])
      → Covers n (f n.desk)
  none_more f q = each_append (λ z. Covers z (f z.desk)) s.sent [] q (λ n i. absurd i)

  quiet : (d : ℕ) (y : Desk) → Goes (s.desks d) y → AllCover (after_desk s d (accept done y))
  quiet d y goes = none_more (put s.desks d y) (desk-covers d y goes)

  same : (x : Desk) → Goes x x
  same x = inr (refl, λ t e. e)

  step-covers : (st : Step) → AllCover (stepped c s st).state
  step-covers st =
      moved c s (λ g z. AllCover z.state) st
      (record {
        still = λ a e. p;
        tells = λ d y e at f. p;
        crashes = λ i e l. p;
        gives = λ i j amount e up g. none_more s.desks p;
        shares = λ i place size next e up. one_more s.desks _ p (λ ns. absurd (ns refl));
        takes = λ i k place size m next e up f g. none_more s.desks p;
        replies =
            λ i k place size m next e up f g l.
            one_more s.desks _ p
            (λ ns q t a.
            reply-has-request m i (s.servers i) t
            (p m (nth_in s.sent k m f) (λ z. kinds-apart (sym g ∙ z) (λ b. omega arith)) q t a));
        begins = λ d t note e at l rests room. quiet d _ (inl refl);
        asks =
            λ d i place size o next e at f l.
            one_more (put s.desks d (s.desks d)) (request_of d (s.desks d) o i) (desk-covers d (s.desks d) (same (s.desks d)))
            (put-cases (Covers (request_of d (s.desks d) o i)) s.desks d (s.desks d) d (λ z ns q t k. k) (λ z. absurd (z refl)));
        drops = λ d o e at f. quiet d _ (same (s.desks d));
        restarts = λ d k m o x i room. quiet d _ (inl refl);
        marks = λ d k m o x i q. quiet d _ (inr (refl, joined-nothing (s.desks d).replica m.replica i));
        chooses = λ d k m o x i q f room w. quiet d _ (inl refl);
        ends = λ d k m o g x i q f. quiet d _ (inr (refl, joined-nothing (s.desks d).replica m.replica i));
      })

module _ (house : House) (lawful : lawful_of (config_of house) ≡ true) (steps : List Step) where
  abbrev c : Config
  c = config_of house

  abbrev r : PlainRun
  r = run_of machine house steps

  all-cover : (k : ℕ) → AllCover (at r k)
  unfolding at
  all-cover zero = λ m i. absurd i
  all-cover (suc k) =
      when-cases (λ z. AllCover z.state) (nth steps k) (nothing (at r k)) (stepped c (at r k)) (all-cover k)
      (λ st e. step-covers (invariant house lawful steps k) (all-cover k) st)

  -- a request or reply of desk d in its current round has the desk's set
  pub current-has : (d k : ℕ) (m : Message) → In m (at r k).sent → (m.kind ≡ share → ⊥) → m.desk ≡ d → m.round ≡ (desk_at r d k).round
      → ◌⊇◌ m.replica.set (desk_at r d k).replica.set
  current-has d k m i ns e = subst (λ z. Covers m (desk_at r z k)) e (all-cover k m i) ns
