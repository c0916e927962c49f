-- By the flag. Assumes nothing.
use native.Mathlib.Omega.{arith}
use Rattle.commands.proofs.updates_read.Goals as goal

pub returns-then-negative : goal.returns-then-negative
returns-then-negative c = (simp c.if-negative.true, omega arith)

pub returns : goal.returns
returns c = (simp c.if-negative.false, omega arith)
