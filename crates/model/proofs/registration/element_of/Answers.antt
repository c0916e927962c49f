-- Zeros written past the element make the octets that are kept.
use mathlib.Core.Path.{◌∙◌}
use Rattle.model.proofs.Requests.{element_over}
use native.Mathlib.Omega.{arith}
use Rattle.model.proofs.registration.element_of.Goals as goal

pub returns : goal.returns
returns c = c.clear.ensures ∙ element_over _ _ (omega arith) (omega arith)
