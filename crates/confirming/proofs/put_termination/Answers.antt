-- The part lent is written at its front. Assumes nothing.
use mathlib.Core.Bool.{false}
use Rattle.octets.proofs.Laws.{lent_over}
use Rattle.asdu.specs.Header.{asdu_octets}
use Rattle.asdu.proofs.Lengths.{length_confirmation}
use Rattle.answers.specs.System.{terminated}
use native.Mathlib.Omega.{arith}
use Rattle.confirming.proofs.put_termination.Goals as goal

pub put_confirmation-requires : goal.put_confirmation-requires
put_confirmation-requires c =
    let a = c.args in
    let l = length_confirmation a.first.command a.first.asdu.now 10 false a.first.inside in
    (omega arith, omega arith)

pub returns : goal.returns
returns c =
    let a = c.args in
    let l = length_confirmation a.first.command a.first.asdu.now 10 false a.first.inside in
    rw c.put_confirmation.ensures.1 (lent_over a.answer.now (asdu_octets (terminated a.first.command a.first.asdu.now)) a.at (omega arith))
