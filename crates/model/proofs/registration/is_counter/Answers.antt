-- By the two types.
use borrow.Author.Tests.{eq-eqb, ne_eqb}
use Rattle.model.proofs.registration.is_counter.Goals as goal

pub returns-then-kind-eq-M_IT_NA_1 : goal.returns-then-kind-eq-M_IT_NA_1
returns-then-kind-eq-M_IT_NA_1 c = simp (eq-eqb _ _ c.if-kind-eq-M_IT_NA_1.true)

pub returns : goal.returns
returns c = simp (ne_eqb _ _ c.if-kind-eq-M_IT_NA_1.false)
