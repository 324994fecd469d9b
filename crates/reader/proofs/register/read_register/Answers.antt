-- `read_register` meets its contract: each part in turn, from the place behind the one before it.
use Rattle.std.proofs.Common.{◌≡◌, ◌-◌, sym, arith}
use Rattle.reader.specs.Registers.{shown}
use Rattle.reader.specs.Steps.{at_place}
use Rattle.reader.proofs.Numbers.{stamp-width, stamp-room}
use Rattle.reader.proofs.Outcomes.{Clean, handed-back_on, read-clean, read-refused, next-clean, next-refused, skip-refused, skip-clean}
use Rattle.reader.proofs.RegisterLemmas.{stamp_at, tag_desk_at, length_at, refused_at-stamp, refused_at-tag_desk, refused_at-length, refused_at-value, register-read}
use Rattle.reader.proofs.register.read_register.Goals.{In_ok-stamp, In_ok-desk, In_ok-length}
use Rattle.reader.proofs.register.read_register.Goals as goal

-- what each step found
stamp : (c : In_ok-stamp) → let t = c.in_ok-stamp.stamp in Clean (stamp_at c.args.config.now c.args.msg.now c.args.stands (at_place c.args.at)) t.at t.x
stamp c = read-clean _ _ (rw (c.stamp_bytes-width.ensures, c.most_stamp.ensures) at c.in_ok-stamp.ensures.0)

desk : (c : In_ok-desk) → (let t = c.in_ok-stamp.stamp in Clean (stamp_at c.args.config.now c.args.msg.now c.args.stands (at_place c.args.at)) t.at t.x)
    → let d = c.in_ok-desk.desk in Clean (tag_desk_at c.args.config.now c.args.msg.now c.args.stands (at_place c.args.at)) d.at d.x
desk c t = next-clean t _ _ _ _ _ _ c.in_ok-desk.ensures.0

length : (c : In_ok-length) → (let d = c.in_ok-desk.desk in Clean (tag_desk_at c.args.config.now c.args.msg.now c.args.stands (at_place c.args.at)) d.at d.x)
    → let l = c.in_ok-length.length in Clean (length_at c.args.config.now c.args.msg.now c.args.stands (at_place c.args.at)) l.at l.x
length c d = next-clean d _ _ _ _ _ _ (rw c.from.ensures at c.in_ok-length.ensures.0)

pub read_number-requires : goal.read_number-requires
read_number-requires c = (c.requires, omega (arith, c.stamp_bytes-width.ensures, stamp-width c.args.config.now))

pub returns-in_err-stamp : goal.returns-in_err-stamp
returns-in_err-stamp c =
    handed-back_on shown _ _ c.from_residual.ensures (refused_at-stamp _ _ _ _ _ (read-refused _ _ (rw (c.stamp_bytes-width.ensures, c.most_stamp.ensures) at c.in_err-stamp.ensures.0)))

pub returns-in_err-desk : goal.returns-in_err-desk
returns-in_err-desk c =
    let t = stamp (goal.at.returns-in_err-desk c).In_ok-stamp in
    handed-back_on shown _ _ c.from_residual-in_err-desk.ensures (refused_at-tag_desk _ _ _ _ _ (next-refused t _ _ _ _ _ _ c.in_err-desk.ensures.0))

pub returns-in_err-length : goal.returns-in_err-length
returns-in_err-length c =
    let g = goal.at.returns-in_err-length c in
    let d = desk g.In_ok-desk (stamp g.In_ok-stamp) in
    handed-back_on shown _ _ c.from_residual-in_err-length.ensures (refused_at-length _ _ _ _ _ (next-refused d _ _ _ _ _ _ (rw c.from.ensures at c.in_err-length.ensures.0)))

pub returns-in_err-end : goal.returns-in_err-end
returns-in_err-end c =
    let g = goal.at.returns-in_err-end c in
    let l = length g.In_ok-length (desk g.In_ok-desk (stamp g.In_ok-stamp)) in
    handed-back_on shown _ _ c.from_residual-in_err-end.ensures (refused_at-value _ _ _ _ _ (skip-refused l _ _ _ (sym l.found) c.in_err-end.ensures.0))

pub overflow_cast-result : goal.overflow_cast-result
overflow_cast-result c = omega (arith, c.in_ok-stamp.ensures.1, c.most_stamp.ensures, stamp-room c.args.config.now)

pub returns : goal.returns
returns c =
    let g = goal.at.returns c in
    let t = stamp g.In_ok-stamp in
    let d = desk g.In_ok-desk t in
    let l = length g.In_ok-length d in
    let end = c.in_ok-end.ensures in
    let width : c.in_ok-end.end - c.in_ok-length.length.at ≡ c.in_ok-length.length.x = omega (arith, end.1) in
    (rw width (register-read _ _ _ _ t d l (skip-clean l _ _ _ (sym l.found) end.0)), end.1.1)
