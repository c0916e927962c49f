-- By the cause. Assumes nothing.
use borrow.Author.Tests.{eq-eqb, ne_eqb}
use native.Mathlib.Omega.{arith}
use Rattle.commands.proofs.command_reply_cot.Goals as goal

pub returns-then-cause-eq-DEACTIVATION : goal.returns-then-cause-eq-DEACTIVATION
returns-then-cause-eq-DEACTIVATION c = (simp (eq-eqb _ _ c.if-cause-eq-DEACTIVATION.true), omega arith)

pub returns : goal.returns
returns c = (simp (ne_eqb _ _ c.if-cause-eq-DEACTIVATION.false), omega arith)
