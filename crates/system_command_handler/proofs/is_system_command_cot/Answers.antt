-- Each cause. Assumes nothing.
use mathlib.Core.Path.{sym}
use borrow.Author.Tests.{eq-eqb, ne_eqb}
use Rattle.limits.specs.Test.{◌&◌}
use Rattle.system_command_handler.proofs.is_system_command_cot.Goals as goal

pub returns-then-kind-eq-C_IC_NA_1 : goal.returns-then-kind-eq-C_IC_NA_1
unfolding ◌&◌
returns-then-kind-eq-C_IC_NA_1 c =
    sym (simp (ne_eqb _ _ c.if-cause-eq-ACTIVATION.false, eq-eqb _ _ c.if-kind-eq-C_IC_NA_1.true))

pub returns : goal.returns
unfolding ◌&◌
returns c =
    sym (simp (ne_eqb _ _ c.if-cause-eq-ACTIVATION.false, ne_eqb _ _ c.if-kind-eq-C_IC_NA_1.false))
