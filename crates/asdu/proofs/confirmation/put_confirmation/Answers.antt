-- The part that is lent is the first object.
use mathlib.Core.Path.{◌≡◌}
use Prim.Native.Nat.{◌+◌, ◌-◌}
use lib.ListN.{length-take, length-drop}
use Rattle.asdu.proofs.Lengths.{confirmation_octets}
use native.Mathlib.Omega.{arith}
use Rattle.asdu.proofs.confirmation.put_confirmation.Goals as goal

pub put_reply-requires : goal.put_reply-requires
put_reply-requires c =
    let a = c.args in
    let n : 6 + (3 + a.first.command.element) - 6 ≡ 3 + a.first.command.element = omega arith in
    (c.requires.0, rw n (simp (length-take, length-drop) (omega arith)))

pub returns : goal.returns
returns c =
    let a = c.args in
    let n : 6 + (3 + a.first.command.element) - 6 ≡ 3 + a.first.command.element = omega arith in
    rw (confirmation_octets a.first.command a.first.asdu.now a.cause a.negative a.first.octets a.first.inside) (rw n at c.put_reply.ensures)
