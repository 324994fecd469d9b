-- `quorum` meets its contract: the check, the map, and then the margin of the sums.
use Rattle.std.proofs.Common.{◌≡◌, ℕ, ◌/◌, ◌^◌, sym, ap, ◌∙◌, Ok, true, arith}
use borrow.Author.Tests.{eq-eqb, ne_eqb}
use lib.Dec.{eqb}
use Rattle.config.specs.Cluster.{valid_of, lawful_of}
use Rattle.config.specs.declared.cluster.Config.{Config}
use Rattle.config.proofs.Clusters.{lawful-valid, lawful-bounds}
use Rattle.ledger.specs.Maps.{map_of}
use Rattle.ledger.proofs.Answers.{read_back}
use Rattle.ledger.proofs.Maps.{shifted-zero}
use Rattle.message.proofs.Rounds.{check-told}
use Rattle.reader.proofs.Outcomes.{passed-on}
use Rattle.reader.proofs.Answered.{passes, quorum-refused, quorum-passed, map-refused}
use Rattle.reader.proofs.read.quorum.Goals.{In_ok-read_message}
use Rattle.reader.proofs.read.quorum.Goals as goal

-- the map is tested by what is left of it after n bits
map_is : (c : Config) (m : ℕ) → valid_of c ≡ true → map_of c m ≡ eqb (m / 2 ^ c.n) 0
unfolding map_of
map_is c m v = simp v (sym (shifted-zero m c.n))

lawful : (c : In_ok-read_message) → lawful_of c.args.config.now ≡ true
lawful c = (check-told _ _ (passes _ _ _ c.in_ok-read_message.ensures.ends)).0

pub returns-in_err-read_message : goal.returns-in_err-read_message
returns-in_err-read_message c =
    passed-on c.from_residual.ensures (quorum-refused _ _ _ c.in_err-read_message.ensures.ends _)

pub overflow_cast-config : goal.overflow_cast-config
overflow_cast-config c = omega (arith, (lawful-bounds _ (lawful (goal.at.overflow_cast-config c).In_ok-read_message)).most)

pub overflow_shr-map : goal.overflow_shr-map
overflow_shr-map c = omega (arith, (lawful-bounds _ (lawful (goal.at.overflow_shr-map c).In_ok-read_message)).most)

pub returns-then-map-config-ne0 : goal.returns-then-map-config-ne0
returns-then-map-config-ne0 c =
    let a = c.args in
    let l = lawful (goal.at.returns-then-map-config-ne0 c).In_ok-read_message in
    map-refused _ _ _ c.in_ok-read_message.ensures.ends _ (map_is _ _ (lawful-valid _ l) ∙ ne_eqb (a.map / 2 ^ a.config.now.n) 0 c.if-map-config-ne0.true)

pub margin-requires : goal.margin-requires
margin-requires c = lawful (goal.at.margin-requires c).In_ok-read_message

pub returns : goal.returns
returns c =
    let a = c.args in
    let found = c.in_ok-read_message.ensures in
    let inside : map_of a.config.now a.map ≡ true =
    map_is _ _ (lawful-valid _ (lawful (goal.at.returns c).In_ok-read_message)) ∙ eq-eqb (a.map / 2 ^ a.config.now.n) 0 c.if-map-config-ne0.false in
    ap Ok (read_back c.margin.result c.margin.type_inv ∙ c.margin.ensures) ∙ quorum-passed _ _ _ found.ends c.read_message.new.sums found.adds _ inside
