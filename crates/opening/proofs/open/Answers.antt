-- Refused, all is as it was; else the fresh table lies over the front of the memory.
use mathlib.Core.Path.{sym, ◌∙◌}
use Rattle.table.specs.Table.{image}
use Rattle.registry.specs.Opening.{fresh}
use Rattle.opening.proofs.Plan.{length_planned}
use Rattle.opening.proofs.Fresh.{opens_is, over_front}
use native.Mathlib.Omega.{arith}
use Rattle.opening.proofs.open.Goals as goal

pub returns-then-not-may_open : goal.returns-then-not-may_open
returns-then-not-may_open c =
    let off = sym c.may_open.ensures ∙ c.if-not-may_open.true in
    (simp off, simp off)

pub put_fresh-requires : goal.put_fresh-requires
put_fresh-requires c =
    let a = c.args in
    let on = sym c.may_open.ensures ∙ c.if-not-may_open.false in
    let o = opens_is _ a.plan.now _ on in
    let e = length_planned a.plan.now in
    let h = o.k_high in
    let s = o.s_high in
    let r = o.room in
    (omega arith, omega arith, omega arith)

pub returns : goal.returns
returns c =
    let a = c.args in
    let on = sym c.may_open.ensures ∙ c.if-not-may_open.false in
    let w = over_front a.table.now (image (fresh a.capacity a.plan.now)) in
    (simp on, simp on (c.put_fresh.ensures ∙ w))
