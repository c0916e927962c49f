-- The places are put in the order of an answer and linked in it; the counts of the chains give the size.
use native.Mathlib.Omega.{arith}
use mathlib.Core.Path.{subst}
use mathlib.Core.List.{List}
use Prim.Native.Nat.{ℕ}
use lib.ListN.{replicate, length-replicate}
use Rattle.chains.specs.Chain.{slot_on, LinkedBy}
use Rattle.output.proofs.Answer.{order_taken, order_inside, order_long}
use Rattle.output.proofs.data.size_report.Goals as goal

pub link-requires : goal.link-requires
link-requires c =
    let a = c.args in
    let r = a.reach in
    let o = c.arrange in
    let z = length-replicate {A = ℕ} 4096 0 in
    let few = c.requires.0.1 in
    let l = order_long r.every a.m.now r.base r.n (replicate 4096 0) c.arrange.new.order o.ensures (omega arith) in
    (c.requires.0, (omega arith, order_inside r.every a.m.now r.base r.n (replicate 4096 0) c.arrange.new.order o.ensures), c.requires.3)

pub returns : goal.returns
returns c =
    let a = c.args in
    let r = a.reach in
    let k = c.link in
    let o = c.arrange in
    let e = order_taken r.every a.m.now r.base r.n (replicate 4096 0) c.arrange.new.order o.ensures in
    let linked = subst (λ (js : List ℕ). LinkedBy (slot_on a.s a.m.now r.base) js a.heads.now a.next.now c.link.new.heads c.link.new.next c.link.new.counts) e k.ensures in
    (linked, c.report_octets.ensures.0, c.report_octets.ensures.1)
