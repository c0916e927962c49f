-- Each way out is one law of removal. Assumes nothing.
use native.Mathlib.Omega.{arith}
use mathlib.Core.Path.{sym, ◌∙◌}
use Rattle.std.specs.Prelude.{Ok}
use Rattle.replies.specs.Replies.{numbered}
use Rattle.replies.proofs.Ways.{no_table}
use Rattle.lookup.proofs.Laws.{seats_readable}
use Rattle.actor.proofs.Unregister.{all_done}
use Rattle.actor.proofs.unregister_all.Goals as goal

pub returns-then-not-well_formed : goal.returns-then-not-well_formed
returns-then-not-well_formed c = no_table _ _ (sym c.well_formed-2.ensures ∙ c.if-not-well_formed.true)

pub take_all_out-requires : goal.take_all_out-requires
take_all_out-requires c = let z = seats_readable _ (sym c.well_formed-2.ensures ∙ c.if-not-well_formed.false) in (z.1, z.2)

pub returns : goal.returns
returns c =
    let z = all_done _ (λ k. omega (arith, c.slice_known-1.given k)) (sym c.well_formed-2.ensures ∙ c.if-not-well_formed.false) in
    let e = c.take_all_out.ensures in
    ((λ j. numbered (Ok (e.0 j))) ∙ z.0, e.1 ∙ z.1)
