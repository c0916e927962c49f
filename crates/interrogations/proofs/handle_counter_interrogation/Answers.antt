-- The answer, then the reset if it was given. Assumes nothing.
use mathlib.Core.Path.{refl, sym, ap, subst, ◌∙◌}
use Rattle.std.proofs.lemmas.Result.{err_from_is_err_and}
use Rattle.limits.specs.Test.{pick}
use Rattle.table.specs.Memory.{table_of}
use Rattle.report.specs.Selection.{counter_types}
use Rattle.registry.specs.Effect.{holding}
use Rattle.answers.specs.Choice.{Choice}
use Rattle.answers.specs.Said.{answered, Sends}
use Rattle.answers.specs.System.{chosen, counter_cause, resets, reset_by, answer_to, counter_answer, after_counters}
use Rattle.answers.proofs.Ends.{sends_along, sends_as}
use Rattle.interrogations.specs.Interrogations.{CauseOf}
use Rattle.interrogations.proofs.Laws.{counter_slots, chosen_cause}
use Rattle.interrogations.proofs.handle_counter_interrogation.Goals as goal
use Rattle.interrogations.proofs.handle_counter_interrogation.Goals.{After-answer_to}

-- the answer that was sent
answer_sent : (c : After-answer_to) → Sends (counter_answer c.args.first.command c.args.first.asdu.now (table_of c.args.table.now)) c.args.answer.now (answered c.answer_to.result) c.answer_to.new.answer
unfolding counter_answer counter_types
answer_sent c =
    let a = c.args in
    let q = c.qualifier_of-qualifier.ensures in
    let cause = c.counter_interrogation_data_cot-cause.ensures ∙ ap counter_cause q in
    let choice = c.chosen-choice.ensures ∙ ap chosen q in
    sends_along _ _ _ _ _ (λ j. answer_to (table_of a.table.now) a.first.command a.first.asdu.now counter_types (cause j) (choice j)) c.answer_to.ensures

pub answer_to-requires : goal.answer_to-requires
unfolding counter_types
answer_to-requires c =
    let q = c.qualifier_of-qualifier.result in
    let cause = c.counter_interrogation_data_cot-cause.ensures in
    let choice = c.chosen-choice.ensures in
    let caused = subst (λ (x : Choice). CauseOf x (counter_cause q)) (sym choice) (chosen_cause q) in
    (c.requires.0, counter_slots, subst (CauseOf c.chosen-choice.result) (sym cause) caused)

pub returns-in_err-written : goal.returns-in_err-written
returns-in_err-written c =
    let r = err_from_is_err_and c.from_residual.result c.from_residual.ensures.1 in
    rw (r.1, r.2)
    (record { sends = sends_as _ _ _ _ _ c.in_err-written.was (answer_sent (goal.at.returns-in_err-written c).After-answer_to); table_after = refl })

pub returns : goal.returns
unfolding after_counters
returns c =
    let a = c.args in
    let t = a.table.now in
    let q = c.qualifier_of-qualifier.ensures in
    let choice = c.chosen-choice.ensures ∙ ap chosen q in
    let e = c.apply_counter_freeze_qualifier.ensures ∙ (λ j. holding t (table_of t) (pick (resets (q j)) (reset_by (table_of t) a.first.command.ca (choice j)) (table_of t))) in
    record { sends = sends_as _ _ _ _ _ c.in_ok-written.was (answer_sent (goal.at.returns c).After-answer_to); table_after = e }
