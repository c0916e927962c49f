-- What the entry gives back, in plain numbers; the memories are as the entry leaves them. Assumes nothing.
use mathlib.Core.Path.{ap, ◌∙◌}
use Rattle.khuvelter.specs.Interface.{answer_reply}
use Rattle.khuvelter.proofs.khuvelter_system_command.Goals as goal

pub returns : goal.returns
returns c =
    let e = c.system_command.ensures in
    record { answered = c.answer_reply.ensures ∙ ap answer_reply e.answers; left = e.leaves }
