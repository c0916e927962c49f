-- Each entry asks for the class of its own types.
use mathlib.Core.Path.{sym, ap, ◌∙◌}
use Rattle.limits.specs.Size.{class_of}
use Rattle.asdu.specs.declared.command.Entry.{Entry}
use Rattle.asdu.specs.Command.{is_system, is_process, serves}
use Rattle.asdu.proofs.command.is_served.Goals as goal

pub returns-in-SystemCommands : goal.returns-in-SystemCommands
returns-in-SystemCommands c =
    let kind = c.args.kind in
    c.is_system.ensures ∙ ap is_system c.class_of-class.ensures ∙ sym (ap (λ (e : Entry). serves e (class_of kind)) c.in-SystemCommands.is)

pub returns-in-ProcessCommands : goal.returns-in-ProcessCommands
returns-in-ProcessCommands c =
    let kind = c.args.kind in
    c.is_process.ensures ∙ ap is_process c.class_of-class.ensures ∙ sym (ap (λ (e : Entry). serves e (class_of kind)) c.in-ProcessCommands.is)
