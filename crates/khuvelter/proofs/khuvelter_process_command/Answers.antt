-- What the entry gives back, in plain numbers; the memories are as the entry leaves them. Assumes nothing.
use mathlib.Core.Path.{ap, ◌∙◌}
use mathlib.Core.List.{[]}
use mathlib.Core.Bool.{Bool}
use Rattle.table.specs.Table.{Table}
use Rattle.answers.specs.Said.{Said, lent, answered_on, lent_after}
use Rattle.answers.specs.Process.{process_said}
use Rattle.commands.specs.Entry.{proposal_of}
use Rattle.khuvelter.specs.Interface.{answer_reply}
use Rattle.khuvelter.proofs.khuvelter_process_command.Goals as goal

pub returns : goal.returns
returns c =
    let a = c.args in
    let e = c.process_command.ensures in
    let l = lent a.table.now [] a.answer.now a.spontaneous.now in
    let f : Bool → Table → Said = λ b. process_said [] (proposal_of b c.args.reply_type a.reply.now a.updates.now) a.asdu.now in
    record {
      answered = c.answer_reply.ensures ∙ ap answer_reply e.answers ∙ (λ j. answer_reply (answered_on (f (c.is_set.ensures j)) l));
      left = e.leaves ∙ (λ j. lent_after (f (c.is_set.ensures j)) l);
    }
