-- `may_give` meets its contract: the record test, and then the tests of a transfer by what the giver received and gave.
use Prim.Native.Nat.{◌+◌, ◌-◌, ◌≤◌, ◌<◌}
use native.Mathlib.Omega.{arith}
use mathlib.Core.Path.{◌≡◌, sym, ◌∙◌}
use mathlib.Core.Bool.{true}
use borrow.Author.Rules.{rules}
use borrow.Author.Tests.{lt-leb, le-leb, lt-ltb, le-ltb}
use lib.Dec.{leb}
use lib.ListN.{get_or}
use Rattle.config.specs.Cluster.{server_of, lawful_of, least_of}
use Rattle.config.proofs.Clusters.{server-valid, server-small, least-told, least-refused}
use Rattle.ledger.specs.Ledgers.{count_of}
use Rattle.ledger.specs.Checks.{fits}
use Rattle.ledger.specs.Changes.{most_count, spares, give_answer, held_answer}
use Rattle.ledger.proofs.Checks.{fit-told, fit_refused, ledger-told}
use Rattle.ledger.proofs.Spared.{rest-told}
use Rattle.ledger.proofs.ledger.Ledger.may_give.Goals.{Else-not-has, In-Ok, In-Ok-test, After-start_at}
use Rattle.ledger.proofs.ledger.Ledger.may_give.Goals as goal

-- ---- what each test tells
has : (c : Else-not-has) → server_of c.args.config.now c.args.giver ≡ true
has c = sym c.has.ensures ∙ c.if-not-has.false

least : (c : In-Ok) → (lawful_of c.args.config.now ≡ true) × (c.in-Ok.least ≡ least_of c.args.config.now)
least c = least-told _ _ (sym c.in-Ok.ensures)

sound : (c : In-Ok-test) → fits c.args.config.now c.args.self.now ≡ true
sound c = fit-told _ _ (sym c.test.ensures.0 ∙ c.in-Ok-test.is)

pub returns-then-not-has : goal.returns-then-not-has
unfolding held_answer
returns-then-not-has c = simp (sym c.has.ensures ∙ c.if-not-has.true)

pub returns-in_default : goal.returns-in_default
unfolding held_answer
returns-in_default c = simp (has (goal.at.returns-in_default c).Else-not-has, (least-refused _ _ (sym c.in_default.ensures)).0)

pub test-requires : goal.test-requires
test-requires c = let e = least (goal.at.test-requires c).In-Ok in (e.0, e.1, c.none-tally.ensures.1)

pub returns-in_default-test : goal.returns-in_default-test
unfolding held_answer
returns-in_default-test c =
    let at = goal.at.returns-in_default-test c in
    simp (has at.Else-not-has, (least at.In-Ok).0, fit_refused _ c.args.self.now _ (sym c.test.ensures.0 ∙ c.in_default-test.is))

pub returns-then-not-lawful : goal.returns-then-not-lawful
unfolding held_answer give_answer
returns-then-not-lawful c =
    let at = goal.at.returns-then-not-lawful c in
    simp (has at.Else-not-has, (least at.In-Ok).0, sound at.In-Ok-test, sym c.lawful.ensures ∙ c.if-not-lawful.true)

pub returns-then-self-i : goal.returns-then-self-i
unfolding held_answer give_answer
returns-then-self-i c =
    let at = goal.at.returns-then-self-i c in
    simp (has at.Else-not-has, (least at.In-Ok).0, sound at.In-Ok-test, sym c.lawful.ensures ∙ c.if-not-lawful.false, le-ltb (count_of c.args.self.now c.args.giver) most_count (omega arith))

-- ---- by the giver's sums, which are those of its ledger
small : (c : Else-not-has) → c.args.giver < 16
small c = server-small _ _ (has c)

rest : (c : After-start_at) → let t = c.test.new.tally in
    (get_or t.given c.args.giver 0 + c.in-Ok.least ≤ c.start_at.result + get_or t.received c.args.giver 0)
    × (spares c.args.config.now c.args.self.now c.args.giver c.args.amount
    ≡ leb c.args.amount (c.start_at.result + get_or t.received c.args.giver 0 - get_or t.given c.args.giver 0 - c.in-Ok.least))
rest c =
    let v = server-valid _ _ (sym c.has.ensures ∙ c.if-not-has.false) in
    let sums = c.test.ensures.1 c.in-Ok-test.is in
    rest-told _ _ _ _ _ _ _ _ v.0 (ledger-told _ _ (fit-told _ _ (sym c.test.ensures.0 ∙ c.in-Ok-test.is))).1 v.1 c.start_at.ensures.0 (sums.takes _ v.1) (sums.gives _ v.1)
    (least-told _ _ (sym c.in-Ok.ensures)).1

pub offset_bounds-self-i : goal.offset_bounds-self-i
offset_bounds-self-i c = omega (arith, small (goal.at.offset_bounds-self-i c).Else-not-has)

pub bounds-self-i : goal.bounds-self-i
bounds-self-i c = small (goal.at.bounds-self-i c).Else-not-has

pub offset_bounds-tally-i : goal.offset_bounds-tally-i
offset_bounds-tally-i c = omega (arith, small (goal.at.offset_bounds-tally-i c).Else-not-has)

pub bounds-tally-i : goal.bounds-tally-i
bounds-tally-i c = small (goal.at.bounds-tally-i c).Else-not-has

pub offset_bounds-tally-i-2 : goal.offset_bounds-tally-i-2
offset_bounds-tally-i-2 c = omega (arith, small (goal.at.offset_bounds-tally-i-2 c).Else-not-has)

pub bounds-tally-i-2 : goal.bounds-tally-i-2
bounds-tally-i-2 c = small (goal.at.bounds-tally-i-2 c).Else-not-has

pub overflow_sub-start_at : goal.overflow_sub-start_at
overflow_sub-start_at c = omega (arith, (rest (goal.at.overflow_sub-start_at c).After-start_at).0)

pub overflow_sub-start_at-2 : goal.overflow_sub-start_at-2
overflow_sub-start_at-2 c = omega (arith, (rest (goal.at.overflow_sub-start_at-2 c).After-start_at).0)

pub returns-then-start_at-tally : goal.returns-then-start_at-tally
unfolding held_answer give_answer
returns-then-start_at-tally c =
    let at = goal.at.returns-then-start_at-tally c in
    let few : count_of c.args.self.now c.args.giver ≤ 65535 = search rules in
    simp (has at.Else-not-has, (least at.In-Ok).0, sound at.In-Ok-test, sym c.lawful.ensures ∙ c.if-not-lawful.false, lt-ltb (count_of c.args.self.now c.args.giver) most_count (omega arith), (rest at.After-start_at).1 ∙ lt-leb _ _ c.if-start_at-tally.true)

pub returns : goal.returns
unfolding held_answer give_answer
returns c =
    let at = goal.at.returns c in
    let few : count_of c.args.self.now c.args.giver ≤ 65535 = search rules in
    simp (has at.Else-not-has, (least at.In-Ok).0, sound at.In-Ok-test, sym c.lawful.ensures ∙ c.if-not-lawful.false, lt-ltb (count_of c.args.self.now c.args.giver) most_count (omega arith), (rest at.After-start_at).1 ∙ le-leb _ _ c.if-start_at-tally.false)
