-- A choice is denied or selected. Assumes nothing.
use mathlib.Core.Path.{sym, ap, subst}
use Rattle.table.specs.Memory.{table_of}
use Rattle.answers.specs.Choice.{Choice}
use Rattle.answers.specs.System.{answer_to}
use Rattle.answers.proofs.Ends.{sends_along}
use Rattle.interrogations.specs.Interrogations.{CauseOf}
use Rattle.interrogations.proofs.answer_to.Goals as goal

pub returns-in_default : goal.returns-in_default
unfolding answer_to
returns-in_default c =
    let a = c.args in
    let e = ap (answer_to (table_of a.table.now) a.first.command a.first.asdu.now a.types.now a.cause) c.in_default.is in
    sends_along _ _ _ _ _ (sym e) c.deny.ensures

pub report-requires : goal.report-requires
report-requires c =
    let p = c.requires in
    (p.0, p.1, subst (λ (x : Choice). CauseOf x c.args.cause) c.in-Some.is p.2)

pub returns : goal.returns
unfolding answer_to
returns c =
    let a = c.args in
    let e = ap (answer_to (table_of a.table.now) a.first.command a.first.asdu.now a.types.now a.cause) c.in-Some.is in
    sends_along _ _ _ _ _ (sym e) c.report.ensures
