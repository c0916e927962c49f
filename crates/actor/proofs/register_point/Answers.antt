-- No table, no station, or what registration at the seat says. Assumes nothing.
use native.Mathlib.Omega.{arith}
use mathlib.Core.Path.{sym, ap, ◌∙◌}
use Rattle.replies.specs.Replies.{placeless}
use Rattle.replies.proofs.Ways.{no_table}
use Rattle.actor.proofs.Register.{register_absent}
use Rattle.actor.proofs.register_point.Goals as goal

pub returns-then-not-well_formed : goal.returns-then-not-well_formed
returns-then-not-well_formed c = no_table _ _ (sym c.well_formed-2.ensures ∙ c.if-not-well_formed.true)

pub returns-in_default : goal.returns-in_default
returns-in_default c =
    let z = register_absent _ (λ k. omega (arith, c.slice_known-1.given k)) (sym c.well_formed-2.ensures ∙ c.if-not-well_formed.false) _ (sym c.seat_at.ensures ∙ c.in_default.is) in
    (ap placeless c.own_fault.ensures ∙ z.0, z.1)
