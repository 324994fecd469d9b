-- `serve_lent` meets its contract: what becomes of a message decides, and for a refusal whether the server fits.
use mathlib.Core.Path.{refl, sym}
use Rattle.server.proofs.Servings.{refuses, refuses-unfit, knows, gains}
use Rattle.server.proofs.record.Server.serve_lent.Goals as goal

pub returns-then-fits : goal.returns-then-fits
returns-then-fits c =
    let a = c.args in
    rw (refuses a.self.now (sym c.if-not-has.ensures) a.msg.now a.out.now a.at c.type_inv.msg c.in-Err.r (sym c.in-Err.ensures.0) (sym c.if-fits.ensures))
    (refl, refl, refl)

pub returns-else-fits : goal.returns-else-fits
returns-else-fits c =
    let a = c.args in
    rw (refuses-unfit a.self.now (sym c.if-not-has.ensures) a.msg.now a.out.now a.at c.type_inv.msg c.in-Err.r (sym c.in-Err.ensures.0) (sym c.if-fits.ensures))
    (refl, refl, refl)

pub returns-in-Known : goal.returns-in-Known
returns-in-Known c =
    let a = c.args in
    let e = c.in-Ok.ensures in
    rw (
      knows a.self.now (sym c.if-not-has.ensures) a.msg.now a.out.now a.at c.type_inv.msg c.in-Ok.considered c.consider.new.told (sym e.0) e.1.0 e.1.1 c.in-Known.is,
      sym c.higher-told.ensures,
    )
    c.serve_known.ensures

pub returns-in-More : goal.returns-in-More
returns-in-More c =
    let a = c.args in
    let e = c.in-Ok.ensures in
    rw (
      gains a.self.now (sym c.if-not-has.ensures) a.msg.now a.out.now a.at c.type_inv.msg c.in-Ok.considered c.consider.new.told (sym e.0) e.1.0 c.in-More.is,
      sym c.higher-told.ensures,
    )
    c.serve_more.ensures
