-- 3, then the reading's own tests, then the command that was read. Assumes nothing.
use mathlib.Core.Path.{◌≡◌, sym, ap, ◌∙◌}
use mathlib.Core.List.{[]}
use mathlib.Core.Bool.{true}
use Rattle.std.proofs.lemmas.Result.{err_from_is_err_and}
use Prim.Native.Nat.{ℕ}
use Rattle.table.specs.Memory.{well_formed, table_of}
use Rattle.table.specs.Settings.{limit_of}
use Rattle.asdu.specs.declared.command.Entry.TheVariants.{ProcessCommands}
use Rattle.asdu.specs.Command.{read_as}
use Rattle.answers.specs.Said.{lent}
use Rattle.answers.specs.Process.{process_said}
use Rattle.answers.proofs.Ends.{ends_no_table}
use Rattle.commands.specs.Entry.{proposal_of}
use Rattle.commands.proofs.Laws.{process_unread, process_read}
use Rattle.commands.proofs.process_command.Goals as goal
use Rattle.commands.proofs.process_command.Goals.{After-parse, Else-not-well_formed}

-- the table is there
there : (c : Else-not-well_formed) → well_formed c.args.table.now ≡ true
there c = sym c.well_formed-2.ensures ∙ c.if-not-well_formed.false

-- what was read is what the table's limit allows
is_read : (c : After-parse) → c.parse.result ≡ read_as (limit_of (table_of c.args.table.now)) ProcessCommands c.args.asdu.now
is_read c =
    c.parse.ensures ∙ ap (λ (n : ℕ). read_as n ProcessCommands c.args.asdu.now) c.limit_of-limit.ensures.0

pub returns-then-not-well_formed : goal.returns-then-not-well_formed
returns-then-not-well_formed c =
    (ends_no_table (process_said [] (proposal_of c.args.negative c.args.reply_type c.args.reply.now c.args.updates.now) c.args.asdu.now) (lent c.args.table.now [] c.args.answer.now c.args.spontaneous.now) (sym c.well_formed-2.ensures ∙ c.if-not-well_formed.true))

pub limit_of-limit-requires : goal.limit_of-limit-requires
limit_of-limit-requires c = there (goal.at.limit_of-limit-requires c).Else-not-well_formed

pub returns-in_err-command : goal.returns-in_err-command
returns-in_err-command c =
    let g = goal.at.returns-in_err-command c in
    let l = lent c.args.table.now [] c.args.answer.now c.args.spontaneous.now in
    let p = proposal_of c.args.negative c.args.reply_type c.args.reply.now c.args.updates.now in
    let w = there g.Else-not-well_formed in
    let r = err_from_is_err_and c.from_residual.result c.from_residual.ensures.1 in
    rw (r.1, r.2) (process_read l l p c.args.asdu.now _ _ w (sym c.in_err-command.was ∙ is_read g.After-parse) (process_unread l p w _))

pub handle_process_command-requires : goal.handle_process_command-requires
handle_process_command-requires c =
    there (goal.at.handle_process_command-requires c).Else-not-well_formed

pub returns : goal.returns
returns c =
    process_read (lent c.args.table.now [] c.args.answer.now c.args.spontaneous.now) _ (proposal_of c.args.negative c.args.reply_type c.args.reply.now c.args.updates.now) c.args.asdu.now _ _ (there (goal.at.returns c).Else-not-well_formed) (sym c.in_ok-command.was ∙ is_read (goal.at.returns c).After-parse) c.handle_process_command.ensures
