-- The three tests in their order. Assumes nothing.
use borrow.Author.Tests.{lt-leb, le-leb}
use native.Mathlib.Omega.{arith}
use mathlib.Core.Path.{◌≡◌, sym, ◌∙◌}
use mathlib.Core.Bool.{true, false}
use Prim.Native.Nat.{◌+◌, ◌-◌, ◌%◌}
use lib.ListN.{length}
use lib.Dec.{leb, eqb}
use Rattle.limits.specs.Test.{◌&◌}
use Rattle.limits.specs.Size.{class_of, control_octets, header_octets, address_octets}
use Rattle.asdu.specs.Command.{is_process}
use Rattle.answers.specs.Process.{proposal_ok}
use Rattle.commands.proofs.is_proposal.Goals as goal

pub returns-then-not-is_supported_command_type : goal.returns-then-not-is_supported_command_type
unfolding proposal_ok ◌&◌
returns-then-not-is_supported_command_type c =
    let d : is_process (class_of c.args.kind) ≡ false = sym c.is_supported_command_type.ensures ∙ c.if-not-is_supported_command_type.true in
    simp d

pub returns-then-limit-reply : goal.returns-then-limit-reply
unfolding proposal_ok ◌&◌
returns-then-limit-reply c =
    let a = c.args in
    let d : is_process (class_of a.kind) ≡ true = sym c.is_supported_command_type.ensures ∙ c.if-not-is_supported_command_type.false in
    let l : leb (length a.reply.now) (a.limit - (control_octets + header_octets)) ≡ false = lt-leb (length a.reply.now) (a.limit - (control_octets + header_octets)) (omega arith) in
    simp (d, l)

pub returns : goal.returns
unfolding proposal_ok ◌&◌
returns c =
    let a = c.args in
    let d : is_process (class_of a.kind) ≡ true = sym c.is_supported_command_type.ensures ∙ c.if-not-is_supported_command_type.false in
    let l : leb (length a.reply.now) (a.limit - (control_octets + header_octets)) ≡ true = le-leb (length a.reply.now) (a.limit - (control_octets + header_octets)) (omega arith) in
    let e = c.element_octets-element.ensures.0 in
    simp (d, l) (λ j. eqb (length a.reply.now % (address_octets + e j)) 0)
