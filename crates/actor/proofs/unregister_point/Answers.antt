-- Each way out is one law of removal. Assumes nothing.
use native.Mathlib.Omega.{arith}
use mathlib.Core.Path.{sym, ◌∙◌}
use Rattle.replies.proofs.Ways.{no_table}
use Rattle.actor.proofs.Unregister.{out_absent, out_missing, out_done}
use Rattle.actor.proofs.unregister_point.Goals as goal

pub returns-then-not-well_formed : goal.returns-then-not-well_formed
returns-then-not-well_formed c = no_table _ _ (sym c.well_formed-2.ensures ∙ c.if-not-well_formed.true)

pub returns-in_default : goal.returns-in_default
returns-in_default c = out_absent _ (sym c.well_formed-2.ensures ∙ c.if-not-well_formed.false) _ _ (sym c.seat_at.ensures ∙ c.in_default.is)

pub returns-in_default-find : goal.returns-in_default-find
returns-in_default-find c =
    out_missing _ (sym c.well_formed-2.ensures ∙ c.if-not-well_formed.false) _ _ (λ k. omega (arith, c.slice_known-1.given k)) _ (sym c.seat_at.ensures ∙ c.in-Some.is) _ (sym c.find.ensures ∙ c.in_default-find.is)

pub returns : goal.returns
returns c =
    let z = out_done _ (sym c.well_formed-2.ensures ∙ c.if-not-well_formed.false) _ _ (λ k. omega (arith, c.slice_known-1.given k)) _ (sym c.seat_at.ensures ∙ c.in-Some.is) _ (sym c.find.ensures ∙ c.in-Ok.is) in
    (z.0, c.take_out.ensures ∙ z.1)
