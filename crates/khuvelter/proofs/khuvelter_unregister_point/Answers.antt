-- What the entry gives back, in plain numbers; the memory is as the entry leaves it. Assumes nothing.
use mathlib.Core.Path.{ap, ◌∙◌}
use Rattle.khuvelter.specs.Interface.{place_reply}
use Rattle.khuvelter.specs.Calls.{table_alone}
use Rattle.khuvelter.proofs.khuvelter_unregister_point.Goals as goal

pub returns : goal.returns
returns c =
    let e = c.unregister_point.ensures in
    record { answered = c.plain_reply.ensures ∙ ap place_reply e.0; left = ap table_alone e.1 }
