-- The answer fits, or it does not. Assumes nothing.
use mathlib.Core.Bool.{true}
use Rattle.asdu.proofs.Lengths.{length_confirmation}
use Rattle.answers.specs.System.{denied}
use Rattle.answers.proofs.Ends.{one_nothing, one_all}
use native.Mathlib.Omega.{arith}
use Rattle.confirming.proofs.deny.Goals as goal

pub returns-then-answer-first : goal.returns-then-answer-first
returns-then-answer-first c =
    let a = c.args in
    let l = length_confirmation a.first.command a.first.asdu.now 7 true a.first.inside in
    (one_nothing (denied a.first.command a.first.asdu.now) a.answer.now (omega arith))

pub put_confirmation-requires : goal.put_confirmation-requires
put_confirmation-requires c =
    let a = c.args in
    let l = length_confirmation a.first.command a.first.asdu.now 7 true a.first.inside in
    (omega arith, omega arith)

pub returns : goal.returns
returns c =
    let a = c.args in
    let l = length_confirmation a.first.command a.first.asdu.now 7 true a.first.inside in
    let e = c.put_confirmation.ensures in
    rw c.given.ensures (one_all (denied a.first.command a.first.asdu.now) a.answer.now _ _ (omega arith) e.0 e.1)
