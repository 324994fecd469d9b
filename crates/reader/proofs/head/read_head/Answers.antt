-- `read_head` meets its contract: each field in turn, from the place behind the one before it.
use Rattle.std.proofs.Common.{rules, sym, ap, ◌∙◌, arith}
use Rattle.config.proofs.Clusters.{lawful-bounds}
use Rattle.format.specs.Bytes.{bit}
use Rattle.message.specs.Scans.{read_map, read_kind}
use Rattle.reader.proofs.Outcomes.{Clean, handed-back, next-clean, next-refused, stood-clean, stood-refused}
use Rattle.reader.proofs.HeadLemmas.{map-refused, map-clean, map-unlawful, kind-refused, kind-clean, kind-unlawful, server_at, desk_at, refused_at-map, refused_at-kind, refused_at-server, refused_at-desk, refused_at-round, head-read}
use Rattle.reader.proofs.head.read_head.Goals.{Else-not-map_lawful, Else-not-kind_has, In_ok-server, In_ok-desk}
use Rattle.reader.proofs.head.read_head.Goals as goal

-- what each step found
map : (c : Else-not-map_lawful) → let m = c.in_ok-map.map in Clean (read_map c.args.msg.now) m.at m.x
map c = map-clean _ _ c.in_ok-map.ensures.0 (search rules)

kind : (c : Else-not-kind_has) → (let m = c.in_ok-map.map in Clean (read_map c.args.msg.now) m.at m.x) → let k = c.in_ok-kind.kind in Clean (read_kind c.args.msg.now (read_map c.args.msg.now)) k.at k.x
kind c m = kind-clean _ m _ (rw (c.from.ensures, c.from-2.ensures) at c.in_ok-kind.ensures.0) (search rules)

server : (c : In_ok-server) → (let k = c.in_ok-kind.kind in Clean (read_kind c.args.msg.now (read_map c.args.msg.now)) k.at k.x) → let s = c.in_ok-server.server in Clean (server_at c.args.config.now c.args.msg.now) s.at s.x
server c k = next-clean k _ _ _ _ _ _ c.in_ok-server.ensures.0

desk : (c : In_ok-desk) → (let m = c.in_ok-map.map in Clean (read_map c.args.msg.now) m.at m.x) → (let s = c.in_ok-server.server in Clean (server_at c.args.config.now c.args.msg.now) s.at s.x) → let d = c.in_ok-desk.desk in Clean (desk_at c.args.config.now c.args.msg.now) d.at d.x
desk c m s = stood-clean s _ _ _ _ _ _ (c.bit.ensures.0 ∙ ap (λ x. bit x 2) (sym m.found)) c.in_ok-desk.ensures.0

pub returns-in_err-map : goal.returns-in_err-map
returns-in_err-map c =
    handed-back _ c.from_residual.ensures (refused_at-map _ _ _ (map-refused _ _ c.in_err-map.ensures.0))

pub returns-then-not-map_lawful : goal.returns-then-not-map_lawful
returns-then-not-map_lawful c = (refused_at-map _ _ _ (map-unlawful _ _ c.in_ok-map.ensures.0 (search rules)), tt)

pub returns-in_err-kind : goal.returns-in_err-kind
returns-in_err-kind c =
    let g = goal.at.returns-in_err-kind c in
    handed-back _ c.from_residual-in_err-kind.ensures (refused_at-kind _ _ _ (kind-refused _ (map g.Else-not-map_lawful) _ (rw (c.from.ensures, c.from-2.ensures) at c.in_err-kind.ensures.0)))

pub returns-then-not-kind_has : goal.returns-then-not-kind_has
returns-then-not-kind_has c =
    let g = goal.at.returns-then-not-kind_has c in
    (refused_at-kind _ _ _ (kind-unlawful _ (map g.Else-not-map_lawful) _ (rw (c.from.ensures, c.from-2.ensures) at c.in_ok-kind.ensures.0) (search rules)), tt)

pub overflow_sub-config : goal.overflow_sub-config
overflow_sub-config c = omega (arith, lawful-bounds _ c.requires)

pub returns-in_err-server : goal.returns-in_err-server
returns-in_err-server c =
    let g = goal.at.returns-in_err-server c in
    let k = kind g.Else-not-kind_has (map g.Else-not-map_lawful) in
    handed-back _ c.from_residual-in_err-server.ensures (refused_at-server _ _ _ (next-refused k _ _ _ _ _ _ c.in_err-server.ensures.0))

pub returns-in_err-desk : goal.returns-in_err-desk
returns-in_err-desk c =
    let g = goal.at.returns-in_err-desk c in
    let m = map g.Else-not-map_lawful in
    let s = server g.In_ok-server (kind g.Else-not-kind_has m) in
    handed-back _ c.from_residual-in_err-desk.ensures (refused_at-desk _ _ _ (stood-refused s _ _ _ _ _ _ (c.bit.ensures.0 ∙ ap (λ x. bit x 2) (sym m.found)) c.in_err-desk.ensures.0))

pub returns-in_err-round : goal.returns-in_err-round
returns-in_err-round c =
    let g = goal.at.returns-in_err-round c in
    let m = map g.Else-not-map_lawful in
    let d = desk g.In_ok-desk m (server g.In_ok-server (kind g.Else-not-kind_has m)) in
    handed-back _ c.from_residual-in_err-round.ensures (refused_at-round _ _ _ (stood-refused d _ _ _ _ _ _ (c.bit-2.ensures.0 ∙ ap (λ x. bit x 3) (sym m.found)) c.in_err-round.ensures.0))

pub overflow_cast-result-2 : goal.overflow_cast-result-2
overflow_cast-result-2 c = omega (arith, lawful-bounds _ c.requires, c.in_ok-server.ensures.1)

pub returns : goal.returns
returns c =
    let g = goal.at.returns c in
    let m = map g.Else-not-map_lawful in
    let k = kind g.Else-not-kind_has m in
    let s = server g.In_ok-server k in
    let d = desk g.In_ok-desk m s in
    let r = stood-clean d _ _ _ _ _ _ (c.bit-2.ensures.0 ∙ ap (λ x. bit x 3) (sym m.found)) c.in_ok-round.ensures.0 in
    (head-read _ _ m k s d r, c.in_ok-round.ensures.1.0)
