-- The types are the table's, the qualifier is the cause. Assumes nothing.
use mathlib.Core.Path.{sym, ap, subst, ◌∙◌}
use Rattle.table.specs.Memory.{table_of}
use Rattle.output.specs.Data.{TypesOk}
use Rattle.answers.specs.Choice.{Choice}
use Rattle.answers.specs.System.{interrogated, answer_to, interrogation_answer}
use Rattle.answers.proofs.Ends.{sends_along}
use Rattle.interrogations.specs.Interrogations.{CauseOf}
use Rattle.interrogations.proofs.Laws.{interrogation_slots, interrogated_cause}
use Rattle.interrogations.proofs.handle_interrogation.Goals as goal

pub answer_to-requires : goal.answer_to-requires
answer_to-requires c =
    let t = table_of c.args.table.now in
    let types = c.interrogation_types_of-types.ensures in
    let q = c.qualifier_of-qualifier.result in
    (c.requires.0, subst TypesOk (sym types) (interrogation_slots t), subst (λ (x : Choice). CauseOf x q) (sym c.interrogated.ensures) (interrogated_cause q))

pub returns : goal.returns
unfolding interrogation_answer
returns c =
    let a = c.args in
    let t = table_of a.table.now in
    let types = c.interrogation_types_of-types.ensures in
    let q = c.qualifier_of-qualifier.ensures in
    let choice = c.interrogated.ensures ∙ ap interrogated q in
    sends_along _ _ _ _ _ (λ j. answer_to t a.first.command a.first.asdu.now (types j) (q j) (choice j)) c.answer_to.ensures
