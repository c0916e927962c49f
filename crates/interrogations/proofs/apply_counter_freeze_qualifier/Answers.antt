-- Each action and choice leads to its table. Assumes nothing.
use mathlib.Core.Path.{ap, ◌∙◌}
use Rattle.octets.specs.Number.{Octets}
use Rattle.table.proofs.Parse.{passed}
use Rattle.report.specs.declared.Reach.{Reach}
use Rattle.output.proofs.Reached.{reached}
use Rattle.resets.specs.Resets.{reset_places}
use Rattle.interrogations.proofs.Resets.{reach_reset}
use Rattle.interrogations.proofs.Laws.{no_action, none_chosen, some_chosen}
use native.Mathlib.Omega.{arith}
use Rattle.interrogations.proofs.apply_counter_freeze_qualifier.Goals as goal

pub returns-then-qualifier-lt2 : goal.returns-then-qualifier-lt2
returns-then-qualifier-lt2 c =
    let a = c.args in
    let o : Octets a.table.now = λ k. omega (arith, c.slice_known-1.given k) in
    no_action a.table.now o c.requires a.ca a.qualifier a.choice c.if-qualifier-lt2.true

pub returns-in_default : goal.returns-in_default
returns-in_default c =
    let a = c.args in
    let o : Octets a.table.now = λ k. omega (arith, c.slice_known-1.given k) in
    none_chosen a.table.now o c.requires a.ca a.qualifier a.choice c.in_default.is

pub reach_of-reach-requires : goal.reach_of-reach-requires
reach_of-reach-requires c =
    let p = (passed c.args.table.now c.requires).top in
    (p.s_high, p.room)

pub reset-requires : goal.reset-requires
reset-requires c =
    let t = c.args.table.now in
    let o : Octets t = λ k. omega (arith, c.slice_known-1.given k) in
    let e = c.reach_of-reach.ensures in
    let eb = ap (λ (x : Reach). x.base) e in
    let en = ap (λ (x : Reach). x.n) e in
    let lies = (reached t c.args.ca o c.requires).lies in
    omega arith

pub returns : goal.returns
returns c =
    let a = c.args in
    let t = a.table.now in
    let o : Octets t = λ k. omega (arith, c.slice_known-1.given k) in
    let r = c.reach_of-reach.ensures in
    c.reset.ensures ∙ (λ j. reset_places c.in-Some.selection t (r j).base (r j).n) ∙ reach_reset t o c.requires a.ca c.in-Some.selection
    ∙ some_chosen t o c.requires a.ca a.qualifier a.choice c.in-Some.selection c.in-Some.is c.if-qualifier-lt2.false
