use native.Mathlib.Omega.{arith}
use Rattle.octets.specs.Number.{Octets}
use Rattle.updates.proofs.Turns.{going_on, going_end}
use Rattle.updates.proofs.apply_model_updates.Goals as goal

pub loop-i-preserved : goal.loop-i-preserved
loop-i-preserved c =
    let a = c.args in
    let l = c.loop-i in
    let p = c.apply_one-o in
    let o : Octets c.apply_one-o.new.m = λ j. omega (arith, c.type_inv.m j) in
    going_on a.m.now a.updates.now a.n a.out.now l.m l.out l.o l.i l.invariant
    c.apply_one-o.new.m c.apply_one-o.new.out p.result (omega arith) c.requires.2 o (omega arith) p.ensures.output.0 p.ensures.memory p.ensures.output.1

pub returns : goal.returns
returns c =
    let a = c.args in
    let l = c.loop-i in
    going_end a.m.now a.updates.now a.n a.out.now l.m l.out l.o l.i l.invariant (omega arith)
