-- What the entry gives back, in plain numbers; the memory is as the entry leaves it. Assumes nothing.
use mathlib.Core.Path.{ap, ◌∙◌}
use Rattle.khuvelter.specs.Interface.{answer_reply}
use Rattle.khuvelter.proofs.khuvelter_connection_started.Goals as goal

pub returns : goal.returns
returns c =
    let e = c.connection_started.ensures in
    record { answered = c.answer_reply.ensures ∙ ap answer_reply e.answers; left = e.leaves }
