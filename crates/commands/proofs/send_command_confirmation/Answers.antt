-- The reply with its count and cause: whole objects that were read are written as they lay, and fewer than an octet can count. Assumes nothing.
use native.Mathlib.Omega.{arith}
use native.Mathlib.Nat.{div-le_self}
use mathlib.Core.Path.{sym, ap, ◌∙◌}
use mathlib.Core.List.{◌++◌}
use Prim.Native.Nat.{◌+◌, ◌/◌}
use lib.ListN.{length}
use Rattle.limits.specs.Size.{address_octets, element_octets}
use Rattle.octets.specs.Number.{Octets}
use Rattle.octets.specs.Over.{over}
use Rattle.asdu.specs.Header.{header}
use Rattle.asdu.specs.Confirmation.{reply_to}
use Rattle.asdu.proofs.Lengths.{reply_run}
use Rattle.answers.specs.Process.{confirmation_cause}
use Rattle.commands.proofs.send_command_confirmation.Goals as goal

pub overflow_cast-count : goal.overflow_cast-count
overflow_cast-count c =
    let d = div-le_self (length c.args.reply.now) (3 + c.element_octets-element.result) in omega arith

pub returns : goal.returns
returns c =
    let a = c.args in
    let objects = a.reply.now in
    let o : Octets objects = λ j. omega (arith, c.shared_slice_known-1.given j) in
    let e = c.element_octets-element.ensures.0 in
    let k = c.command_reply_cot-cause.ensures.0 in
    let p = c.put_reply.ensures in
    let x =
    (λ j. header (reply_to a.command a.kind (length objects / (address_octets + e j)) (k j) a.negative) ++ objects)
    ∙ sym (reply_run a.command a.kind (confirmation_cause a.command.cause) a.negative (element_octets a.kind) objects o c.requires.0) in
    (p.0 ∙ ap length x, p.1 ∙ ap (over a.answer.now 0) x)
