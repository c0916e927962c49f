-- The answer fits, or it does not. Assumes nothing.
use Rattle.asdu.specs.Confirmation.{echo}
use Rattle.asdu.proofs.Lengths.{length_echo}
use Rattle.answers.proofs.Ends.{one_nothing, one_all}
use native.Mathlib.Omega.{arith}
use Rattle.confirming.proofs.echo.Goals as goal

pub returns-then-answer-asked : goal.returns-then-answer-asked
returns-then-answer-asked c =
    let a = c.args in
    let l = length_echo a.asked.command a.asked.asdu.now 7 a.negative a.asked.whole in
    (one_nothing (echo a.asked.command a.asked.asdu.now 7 a.negative) a.answer.now (omega arith))

pub put_echo-requires : goal.put_echo-requires
put_echo-requires c =
    let a = c.args in
    let l = length_echo a.asked.command a.asked.asdu.now 7 a.negative a.asked.whole in
    (omega arith, omega arith)

pub returns : goal.returns
returns c =
    let a = c.args in
    let l = length_echo a.asked.command a.asked.asdu.now 7 a.negative a.asked.whole in
    let e = c.put_echo.ensures in
    rw c.given.ensures (one_all (echo a.asked.command a.asked.asdu.now 7 a.negative) a.answer.now _ _ (omega arith) e.0 e.1)
