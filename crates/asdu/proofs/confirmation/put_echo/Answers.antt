-- The part that is lent is all octets after the command's own header.
use native.Mathlib.Omega.{arith}
use lib.ListN.{length-drop}
use Rattle.asdu.proofs.Lengths.{echo_octets}
use Rattle.asdu.proofs.Laws.{lent_rest}
use Rattle.asdu.proofs.confirmation.put_echo.Goals as goal

pub put_reply-requires : goal.put_reply-requires
put_reply-requires c =
    let n = lent_rest c.args.asked.asdu.now 6 in
    (c.requires.0, rw n (simp length-drop (omega arith)))

pub returns : goal.returns
returns c =
    let a = c.args in
    let n = lent_rest a.asked.asdu.now 6 in
    rw (echo_octets a.asked.command a.asked.asdu.now a.cause a.negative a.asked.octets a.asked.whole) (rw n at c.put_reply.ensures)
