-- Each arm reads the group that its selection asks for.
use mathlib.Core.Path.{sym, ap, ap₂, ◌∙◌}
use Prim.Native.Nat.{ℕ}
use lib.Dec.{eqb}
use Rattle.model.specs.Place.{point_at}
use Rattle.report.specs.declared.Selection.{Selection}
use Rattle.report.specs.Selection.{selects}
use Rattle.report.proofs.selects_at.Goals as goal

pub returns-in-Group : goal.returns-in-Group
returns-in-Group c =
    let a = c.args in
    let e = ap (λ (s : Selection). selects s (point_at a.m.now a.at)) c.in-Group.is in
    ap₂ (λ (x y : ℕ). eqb x y) c.number_at.ensures.0 c.from.ensures ∙ sym e

pub returns-in-CounterGroup : goal.returns-in-CounterGroup
returns-in-CounterGroup c =
    let a = c.args in
    sym (ap (λ (s : Selection). selects s (point_at a.m.now a.at)) c.in-CounterGroup.is)
