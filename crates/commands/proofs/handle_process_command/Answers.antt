-- Each way out is one of the laws: the refusals are decided from sizes before anything is written. Assumes nothing.
use native.Mathlib.Omega.{arith}
use mathlib.Core.Path.{◌≡◌, sym, ap, ◌∙◌}
use mathlib.Core.List.{[]}
use mathlib.Core.Bool.{true, false}
use Prim.Native.Nat.{ℕ, ◌/◌}
use lib.ListN.{length}
use Rattle.limits.specs.Test.{pick}
use Rattle.octets.specs.Over.{over}
use Rattle.table.specs.Settings.{limit_of}
use Rattle.table.specs.Memory.{table_of}
use Rattle.answers.specs.Said.{lent}
use Rattle.answers.specs.Process.{update_octets, proposal_ok, process_cause_taken}
use Rattle.answers.proofs.Proposals.{most_reply, whole_reply}
use Rattle.updates.specs.Updates.{told_by_all, left_by_all}
use Rattle.commands.proofs.Laws.{process_silent, process_bad, process_untold, process_unanswered, process_done}
use Rattle.commands.proofs.handle_process_command.Goals as goal
use Rattle.commands.proofs.handle_process_command.Goals.{After-is_proposal, After-told_octets-told, Else-not-is_command_cot}

-- the cause is one that is taken
taken : (c : Else-not-is_command_cot) → process_cause_taken c.args.command.cause ≡ true
taken c = sym c.is_command_cot.ensures ∙ c.if-not-is_command_cot.false

-- whether the proposal is one
proposal : (c : After-is_proposal) →
    proposal_ok (limit_of (table_of c.args.table.now)) c.args.reply_type c.args.reply.now ≡ c.is_proposal.result
proposal c =
    ap (λ (n : ℕ). proposal_ok n c.args.reply_type c.args.reply.now) (sym c.limit_of.ensures.0) ∙ sym c.is_proposal.ensures

-- how much the updates tell
told : (c : After-told_octets-told) →
    let us = c.args.updates.now in
    c.told_octets-told.result ≡ length (told_by_all c.args.table.now us 0 (pick c.args.negative 0 (length us / update_octets)))
told c =
    c.told_octets-told.ensures ∙ ap (λ (n : ℕ). length (told_by_all c.args.table.now c.args.updates.now 0 n)) c.updates_read-n.ensures.0

pub returns-then-not-is_command_cot : goal.returns-then-not-is_command_cot
returns-then-not-is_command_cot c =
    let a = c.args in
    let untaken : process_cause_taken a.command.cause ≡ false = sym c.is_command_cot.ensures ∙ c.if-not-is_command_cot.true in
    (process_silent (lent c.args.table.now [] c.args.answer.now c.args.spontaneous.now) a.negative c.args.reply_type a.reply.now a.updates.now a.command c.requires untaken)

pub limit_of-requires : goal.limit_of-requires
limit_of-requires c =
    c.requires

pub returns-then-not-is_proposal : goal.returns-then-not-is_proposal
returns-then-not-is_proposal c =
    let a = c.args in
    let bad = proposal (goal.at.returns-then-not-is_proposal c).After-is_proposal ∙ c.if-not-is_proposal.true in
    (process_bad (lent c.args.table.now [] c.args.answer.now c.args.spontaneous.now) a.negative c.args.reply_type a.reply.now a.updates.now a.command c.requires (taken (goal.at.returns-then-not-is_proposal c).Else-not-is_command_cot) bad)

pub told_octets-told-requires : goal.told_octets-told-requires
told_octets-told-requires c =
    (c.requires, c.updates_read-n.ensures.1)

pub returns-then-spontaneous-told : goal.returns-then-spontaneous-told
returns-then-spontaneous-told c =
    let a = c.args in
    let ok = proposal (goal.at.returns-then-spontaneous-told c).After-is_proposal ∙ c.if-not-is_proposal.false in
    let t = told (goal.at.returns-then-spontaneous-told c).After-told_octets-told in
    (process_untold (lent c.args.table.now [] c.args.answer.now c.args.spontaneous.now) a.negative c.args.reply_type a.reply.now a.updates.now a.command c.requires (taken (goal.at.returns-then-spontaneous-told c).Else-not-is_command_cot) ok (omega arith))

pub overflow_add-reply : goal.overflow_add-reply
overflow_add-reply c =
    let a = c.args in
    let most = most_reply c.limit_of.result c.args.reply_type a.reply.now (sym c.is_proposal.ensures ∙ c.if-not-is_proposal.false) in
    omega arith

pub returns-then-answer-reply : goal.returns-then-answer-reply
returns-then-answer-reply c =
    let a = c.args in
    let ok = proposal (goal.at.returns-then-answer-reply c).After-is_proposal ∙ c.if-not-is_proposal.false in
    let t = told (goal.at.returns-then-answer-reply c).After-told_octets-told in
    (process_unanswered (lent c.args.table.now [] c.args.answer.now c.args.spontaneous.now) a.negative c.args.reply_type a.reply.now a.updates.now a.command c.requires (taken (goal.at.returns-then-answer-reply c).Else-not-is_command_cot) ok (omega arith) (omega arith))

pub apply_model_updates-requires : goal.apply_model_updates-requires
apply_model_updates-requires c =
    let t = c.told_octets-told.ensures in
    (c.requires, c.updates_read-n.ensures.1, omega arith)

pub send_command_confirmation-octets-requires : goal.send_command_confirmation-octets-requires
send_command_confirmation-octets-requires c =
    let a = c.args in
    let ok = sym c.is_proposal.ensures ∙ c.if-not-is_proposal.false in
    let most = most_reply c.limit_of.result c.args.reply_type a.reply.now ok in
    let high = c.limit_of.ensures.2 in
    let room = c.if-answer-reply.false in
    (whole_reply c.limit_of.result c.args.reply_type a.reply.now ok, omega arith, omega arith)

pub returns : goal.returns
returns c =
    let a = c.args in
    let l = (lent c.args.table.now [] c.args.answer.now c.args.spontaneous.now) in
    let us = a.updates.now in
    let ok = proposal (goal.at.returns c).After-is_proposal ∙ c.if-not-is_proposal.false in
    let n = c.updates_read-n.ensures.0 in
    let t = told (goal.at.returns c).After-told_octets-told in
    let p = c.apply_model_updates.ensures in
    let q = c.send_command_confirmation-octets.ensures in
    let short = c.if-spontaneous-told.false in
    let room = c.if-answer-reply.false in
    process_done l a.negative c.args.reply_type a.reply.now us a.command c.requires (taken (goal.at.returns c).Else-not-is_command_cot) ok _ _ _ _ _ q (omega arith) t (omega arith)
    (p.memory ∙ (λ j. left_by_all l.table us 0 (n j)))
    (p.output.1 ∙ (λ j. over l.spontaneous 0 (told_by_all l.table us 0 (n j))))
