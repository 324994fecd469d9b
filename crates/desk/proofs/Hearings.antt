-- Hear step by step is hear. A reply that lacks no transfer of the desk's and joins with what it holds has, joined with it, the reply's own ledger, which was
-- weighed when it was read; and where neither lacks one, the desk's own, which the record test has weighed.
use Rattle.std.specs.Prelude.{Result, Ok, Err}
use Prim.Native.Nat.{ℕ, ◌<◌}
use native.Mathlib.Omega.{arith}
use borrow.Author.Tests.{ltb-true}
use Rattle.config.specs.declared.cluster.Config.{Config}
use Rattle.config.proofs.Clusters.{lawful-valid, valid-bounds}
use Rattle.message.proofs.Lawful.{lawful-told}
use mathlib.Core.Path.{◌≡◌, refl, sym, ap, ◌∙◌}
use mathlib.Core.Bool.{Bool, true, false, cond}
use mathlib.Core.List.{List}
use lib.Dec.{eqb, ltb}
use lib.ListN.{length}
use Rattle.config.specs.Refusals.{Verdict, by-verdict, refusal, granted}
use Rattle.config.specs.declared.answer.Refusal.{Refusal}
use Rattle.ledger.specs.Joins.{lacks}
use Rattle.ledger.specs.Weights.{margin_of, quorum_of}
use Rattle.ledger.specs.declared.ledger.Ledger.{Ledger}
use Rattle.ledger.specs.declared.join.Compared.{Compared}
use Rattle.ledger.proofs.Answers.{quorum-margin}
use Rattle.ledger.proofs.Unions.{joined-has}
use Rattle.message.specs.declared.answer.Taken.{Taken}
use Rattle.message.specs.declared.envelope.Envelope.{Envelope}
use Rattle.message.specs.Answers.{Received, taken_answer, taken_ledger}
use Rattle.message.specs.Envelopes.{Bytes}
use Rattle.message.specs.Faults.{Passed}
use Rattle.message.proofs.TakenLemmas.{taken-refused, taken-received, taken-passed}
use Rattle.replica.specs.declared.register.Register.{Register}
use Rattle.replica.specs.declared.replica.Replica.{Replica}
use Rattle.replica.specs.Registers.{register_fits, higher}
use Rattle.replica.specs.Replicas.{fits as fits_replica, join, joinable, compared_of}
use Rattle.replica.proofs.Registers.{higher-either}
use Rattle.replica.proofs.Replicas.{fits_told as replica-told}
use Rattle.replica.proofs.Comparisons.{with_higher, compared-apart, compared-joinable, compared-lacks, compared-ahead, told-join, fits-either}
use Rattle.desk.specs.declared.record.Desk.{Desk}
use Rattle.desk.specs.declared.record.Heard.{Heard}
use Rattle.desk.specs.declared.hear.Listening.{Listening}
use Rattle.desk.specs.declared.hear.Listening.TheVariants.{Late, Larger, Equal}
use Rattle.desk.specs.Desks.{most_round, fits}
use Rattle.desk.specs.Hears.{accepted, late, refused, stray, timely, clashes, restarted, restart_of, marked, no_stamp, chose, choose_of, finished, mark_of, hear_fields, hear_of}
use Rattle.desk.specs.Hearings.{outcome, listening_of, pair, mark_in}
use Rattle.desk.proofs.Desks.{fits_told}
use Rattle.desk.proofs.Heeded.{waiting}
use Rattle.desk.proofs.ToldLemmas.{clash-lacking, clash-rest, fields-stray, fields-late, fields-clash, fields-larger, fields-equal, hear-taken, hear-untaken}

-- a server marked on the desk's own ledger, by the margin of all that have answered
pub mark-margin : (x : Desk) (g : Register) (i : ℕ) →
    let m = marked x.operation.answered i in
    mark_of x (pair x.replica.ledger g) i ≡ mark_in x g m (margin_of x.config x.replica.ledger m)
unfolding mark_of mark_in
mark-margin x g i = rw quorum-margin refl

-- ---- the ledger that is held once a reply is taken

module _ (x : Desk) (p : Replica) where
  -- the joined one, but in the last round
  pub restart-ledger : (restart_of x p).desk.replica.ledger ≡ cond (ltb x.round most_round) p.ledger x.replica.ledger
  unfolding restart_of
  restart-ledger = by-test (ltb x.round most_round)
    where
      by-test : (b : Bool) → (cond b (accepted (restarted x p)) (refused (refusal 12) x)).desk.replica.ledger ≡ cond b p.ledger x.replica.ledger
      by-test true = refl
      by-test false = refl

  -- what the end of phase 1 comes to: b, whether a round is left, and s, whether no stamp is
  abbrev chosen : (b s : Bool) → Heard
  chosen b s = cond b (cond s (refused (refusal 12) x) (accepted (chose x p))) (refused (refusal 12) x)

  -- where the two are equal it stays the desk's own
  choose-ledger : p.ledger ≡ x.replica.ledger → (choose_of x p).desk.replica.ledger ≡ x.replica.ledger
  unfolding choose_of
  choose-ledger e = by_tests (ltb x.round most_round) (no_stamp x p.register)
    where
      by_tests : (b s : Bool) → (chosen b s).desk.replica.ledger ≡ x.replica.ledger
      by_tests true true = refl
      by_tests true false = e
      by_tests false s = refl

  module _ (i : ℕ) where
    abbrev m : ℕ
    m = marked x.operation.answered i

    -- and what a server marked comes to: q, whether there is a quorum, and f, whether phase 1 ends with it
    abbrev answered : (q f : Bool) → Heard
    answered q f = cond q (cond f (choose_of x p) (accepted (finished x p))) (accepted (waiting x p i))

    pub mark-ledger : p.ledger ≡ x.replica.ledger → (mark_of x p i).desk.replica.ledger ≡ x.replica.ledger
    unfolding mark_of
    mark-ledger e = by_tests (quorum_of x.config p.ledger m) (eqb x.operation.phase 1)
      where
        by_tests : (q f : Bool) → (answered q f).desk.replica.ledger ≡ x.replica.ledger
        by_tests true true = choose-ledger e
        by_tests true false = e
        by_tests false f = e

-- ---- what becomes of a message

-- what is known of a reply that is taken, and whether it has a transfer that the desk lacks
pub record Listens (x : Desk) (v : Verdict) (e : Envelope) (r : Replica) (more : Bool) : Type 0 where
  pub taken : v ≡ granted
  pub mine : stray x e ≡ false
  pub current : timely x e ≡ true
  pub compared : Compared
  pub joining : compared_of x.config.n x.replica r ≡ Ok compared
  pub whole : compared.ahead ≡ false
  pub lacking : compared.lacks ≡ more

-- what a reply that is taken is told as
abbrev brings : Bool → Result Listening Refusal
brings more = cond more (Ok Larger) (Ok Equal)

-- all tests of a message that the reader takes
abbrev tested : Bool → Bool → Result Compared Refusal → Result Listening Refusal
tested s t z = cond s (Err (refusal 7)) (cond t (outcome z) (Ok Late))

not-refused : (more : Bool) (k : Refusal) → Err k ≡ brings more → ⊥
not-refused true k d = cc
not-refused false k d = cc

not_late : (more : Bool) → Ok Late ≡ brings more → ⊥
not_late true d = cc
not_late false d = cc

same_more : (l more : Bool) → brings l ≡ brings more → l ≡ more
same_more true true d = refl
same_more true false d = cc
same_more false true d = cc
same_more false false d = refl

module _ (x : Desk) (e : Envelope) (r : Replica) where
  -- the comparison decides of a reply of the operation's round
  pub compared-decides : stray x e ≡ false → timely x e ≡ true → listening_of x e r ≡ outcome (compared_of x.config.n x.replica r)
  unfolding listening_of
  compared-decides s t = rw (s, t) refl

  -- v is the reader's verdict, which comes before what becomes of a message
  pub listens-told : (v : Verdict) (more : Bool) → by-verdict v (listening_of x e r) Err ≡ brings more → Listens x v e r more
  unfolding listening_of
  listens-told v more = by-verdicts v refl
    where
      y : Result Compared Refusal
      y = compared_of x.config.n x.replica r

      by_parts : v ≡ granted → stray x e ≡ false → timely x e ≡ true → (z : Compared) → y ≡ Ok z → (a : Bool) → z.ahead ≡ a
          → cond a (Err (refusal 6)) (brings z.lacks) ≡ brings more → Listens x v e r more
      by_parts w p q z o true g d = absurd (not-refused more _ d)
      by_parts w p q z o false g d =
          record { taken = w; mine = p; current = q; compared = z; joining = o; whole = g; lacking = same_more z.lacks more d }

      by_tests : v ≡ granted → (s t : Bool) (z : Result Compared Refusal) → stray x e ≡ s → timely x e ≡ t → y ≡ z
          → tested s t z ≡ brings more → Listens x v e r more
      by_tests w true t z p q o d = absurd (not-refused more _ d)
      by_tests w false true (Ok z) p q o d = by_parts w p q z o z.ahead refl d
      by_tests w false true (Err k) p q o d = absurd (not-refused more k d)
      by_tests w false false z p q o d = absurd (not_late more d)

      by-verdicts : (w : Verdict) → v ≡ w → by-verdict w (tested (stray x e) (timely x e) y) Err ≡ brings more → Listens x v e r more
      by-verdicts (Ok _) w d = by_tests w (stray x e) (timely x e) y refl refl refl d
      by-verdicts (Err k) w d = absurd (not-refused more k d)

-- ---- a reply that was read

-- what hear comes to by what becomes of a reply, where g is the register after joining
abbrev pub heeded : Desk → Envelope → Replica → Result Listening Refusal → Heard
heeded x e r (Ok Late) = late x
heeded x e r (Ok Larger) = restart_of x (pair r.ledger (higher x.replica.register r.register))
heeded x e r (Ok Equal) =
    let m = marked x.operation.answered e.server in
    mark_in x (higher x.replica.register r.register) m (margin_of x.config x.replica.ledger m)
heeded x e r (Err k) = refused k x

module _ (x : Desk) (e : Envelope) (r : Replica) (f : fits x ≡ true) (passed : Passed x.config e r)
    (counted : length x.replica.ledger.counts ≡ 16) (celled : length x.replica.ledger.cells ≡ 256) where
  abbrev compared : Result Compared Refusal
  compared = compared_of x.config.n x.replica r

  held_fits : fits_replica x.config x.replica ≡ true
  held_fits = (fits_told x f).replica-fits

  -- of a reply of the operation's round
  module _ (s : stray x e ≡ false) (t : timely x e ≡ true) where
    apart : (k : Refusal) → compared ≡ Err k → hear_fields x e r ≡ refused k x
    apart k j = fields-clash x e r s t (by-lack (lacks r.ledger x.replica.ledger) refl) ∙ ap (λ i. refused i x) (sym unlike.0)
      where
        unlike : (k ≡ refusal 6) × (joinable x.config x.replica r ≡ false)
        unlike = compared-apart x.config x.replica r held_fits passed.replica-fits k j

        by-lack : (b : Bool) → lacks r.ledger x.replica.ledger ≡ b → clashes x r ≡ true
        by-lack true h = clash-lacking x r h
        by-lack false h = clash-rest x r false h unlike.1

    module _ (y : Compared) (j : compared ≡ Ok y) where
      short : y.ahead ≡ true → hear_fields x e r ≡ refused (refusal 6) x
      short a = fields-clash x e r s t (clash-lacking x r (sym (compared-ahead x.config x.replica r held_fits passed.replica-fits y j) ∙ a))

      lack : (b : Bool) → y.lacks ≡ b → lacks x.replica.ledger r.ledger ≡ b
      lack b l = sym (compared-lacks x.config x.replica r held_fits passed.replica-fits y j) ∙ l

      module _ (a : y.ahead ≡ false) where
        -- where both together are a ledger that fits, with the register of the higher tag, the reply does not clash
        clear : (l : Ledger) (g : Register) → join x.replica r ≡ with_higher l x.replica.register r.register
            → register_fits x.config g ≡ true → fits_replica x.config (pair l g) ≡ true → clashes x r ≡ false
        clear l g d h q =
            clash-rest x r true (sym (compared-ahead x.config x.replica r held_fits passed.replica-fits y j) ∙ a)
            (compared-joinable x.config x.replica r held_fits passed.replica-fits y j
            ∙ ap (fits_replica x.config) d
            ∙ fits-either x.config l (higher x.replica.register r.register) g
            (higher-either (λ b. register_fits x.config b ≡ true) x.replica.register r.register
            (replica-told x.config x.replica held_fits).register-fits (replica-told x.config r passed.replica-fits).register-fits) h
            ∙ q)

        -- a larger ledger is the reply's own
        larger : y.lacks ≡ true → hear_fields x e r ≡ heeded x e r (Ok Larger)
        larger l =
            let u = passed.replica-typed.ledger-typed in
            let d = told-join x.config x.replica r held_fits passed.replica-fits y j u.counts-length u.cells-length a in
            let c = clear r.ledger r.register d (replica-told x.config r passed.replica-fits).register-fits passed.replica-fits in
            fields-larger x e r s t c (lack true l) ∙ ap (restart_of x) d

        -- an equal ledger is the desk's
        equal : y.lacks ≡ false → hear_fields x e r ≡ heeded x e r (Ok Equal)
        unfolding join
        equal l =
            let d : join x.replica r ≡ with_higher x.replica.ledger x.replica.register r.register =
            ap (λ l. with_higher l x.replica.register r.register) (joined-has x.replica.ledger r.ledger counted celled (lack false l)) in
            let c = clear x.replica.ledger x.replica.register d (replica-told x.config x.replica held_fits).register-fits held_fits in
            fields-equal x e r s t c (lack false l) ∙ ap (λ p. mark_of x p e.server) d ∙ mark-margin x _ e.server

  pub listening-hears : hear_fields x e r ≡ heeded x e r (listening_of x e r)
  unfolding listening_of
  listening-hears = by_tests (stray x e) (timely x e) compared refl refl refl
    where
      by_parts : stray x e ≡ false → timely x e ≡ true → (y : Compared) → compared ≡ Ok y → (a l : Bool) → y.ahead ≡ a → y.lacks ≡ l
          → hear_fields x e r ≡ heeded x e r (cond a (Err (refusal 6)) (cond l (Ok Larger) (Ok Equal)))
      by_parts p q y o true l g d = short p q y o g
      by_parts p q y o false true g d = larger p q y o g d
      by_parts p q y o false false g d = equal p q y o g d

      by_tests : (s t : Bool) (z : Result Compared Refusal) → stray x e ≡ s → timely x e ≡ t → compared ≡ z
          → hear_fields x e r ≡ heeded x e r (cond s (Err (refusal 7)) (cond t (outcome z) (Ok Late)))
      by_tests true t z p q o = fields-stray x e r p
      by_tests false true (Ok y) p q o = by_parts p q y o y.ahead y.lacks refl refl
      by_tests false true (Err k) p q o = apart p q k o
      by_tests false false z p q o = fields-late x e r p q

-- ---- a message

-- the server of one that passes is a number below 16
pub taken-small : (c : Config) (msg : List ℕ) (t : Taken) → Bytes msg → taken_answer c msg ≡ Ok t → t.envelope.server < 16
taken-small c msg t b d =
    let g = taken-passed c msg t d _ refl b in
    let lawful = (replica-told c _ g.replica-fits).lawful in
    let inside = ltb-true t.envelope.server c.n (lawful-told c t.envelope g.envelope-lawful).server-good in
    omega (arith, (valid-bounds c (lawful-valid c lawful)).most)

module _ (x : Desk) (msg : List ℕ) (f : fits x ≡ true) where
  pub untaken-hears : (k : Refusal) → taken_answer x.config msg ≡ Err k → hear_of x msg ≡ refused k x
  untaken-hears k d = hear-untaken x msg _ f refl k (ap (λ (z : Received). z.verdict) (taken-refused x.config msg k d))

  -- t and the ledger l, which were taken of it
  pub taken-hears : (t : Taken) (l : Ledger) → Bytes msg → taken_answer x.config msg ≡ Ok t → l ≡ taken_ledger x.config msg
      → length x.replica.ledger.counts ≡ 16 → length x.replica.ledger.cells ≡ 256
      → hear_of x msg ≡ heeded x t.envelope (pair l t.register) (listening_of x t.envelope (pair l t.register))
  taken-hears t l b d g p q =
      hear-taken x msg _ f (sym (taken-received x.config msg t d l g)) refl
      ∙ listening-hears x t.envelope (pair l t.register) f (taken-passed x.config msg t d l g b) p q
