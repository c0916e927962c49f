-- By the fault of the point alone, and whether its address stands earlier. Assumes nothing.
use Rattle.std.proofs.Common.{sym, ◌∙◌, rules}
use Rattle.table.specs.Memory.{table_of}
use Rattle.point_lists.proofs.Faults.{stands, apart, before}
use Rattle.point_lists.proofs.fault_of.Goals as goal

pub returns-in-Ok : goal.returns-in-Ok
returns-in-Ok c =
    let a = c.args in
    stands (table_of a.m.now) a.point a.earlier.now _ c.fault_alone-alone.ensures (search rules) (sym c.stands_in.ensures ∙ c.if-stands_in.true)

pub returns-in_default : goal.returns-in_default
returns-in_default c =
    let a = c.args in
    before (table_of a.m.now) a.point a.earlier.now _ c.fault_alone-alone.ensures (search rules) (search rules)

pub returns-in_default-2 : goal.returns-in_default-2
returns-in_default-2 c =
    let a = c.args in
    apart (table_of a.m.now) a.point a.earlier.now _ c.fault_alone-alone.ensures (sym c.stands_in.ensures ∙ c.if-stands_in.false)
