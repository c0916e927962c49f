-- A turn tests one point; the first that fails is named, and past the last none is. Assumes nothing.
use Rattle.std.proofs.Common.{refl, sym, ap, ◌∙◌}
use Rattle.limits.specs.Outcome.{is_done}
use Rattle.table.specs.Memory.{table_of}
use Rattle.point_lists.proofs.Turns.{passes, fails, ends, told}
use Rattle.point_lists.proofs.later_tests.Goals as goal

pub loop-i-preserved : goal.loop-i-preserved
loop-i-preserved c =
    let l = c.loop-i in
    let o = c.fault_of in
    l.invariant ∙ passes (table_of c.args.m.now) c.args.points.now l.i _ o.result o.ensures c.loop-i-test.true (ap is_done c.in_default.is)

pub returns-in-Err : goal.returns-in-Err
returns-in-Err c =
    let l = c.loop-i in
    let e = sym c.in-Err.is ∙ c.fault_of.ensures in
    sym (l.invariant ∙ fails (table_of c.args.m.now) c.args.points.now l.i _ _ e c.loop-i-test.true refl) ∙ told c.args.m.now c.args.points.now (sym c.well_formed-2.ensures ∙ c.if-not-well_formed.false)

pub returns : goal.returns
returns c =
    let l = c.loop-i in
    let e = l.invariant ∙ ends (table_of c.args.m.now) c.args.points.now l.i c.loop-i-test.false in
    sym e ∙ told c.args.m.now c.args.points.now (sym c.well_formed-2.ensures ∙ c.if-not-well_formed.false)
