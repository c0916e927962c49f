-- What was counted and what is left make the whole at each turn.
use mathlib.Core.Path.{◌≡◌}
use Prim.Native.Nat.{◌+◌, ◌*◌, ◌-◌, ◌≤◌}
use Rattle.std.specs.Prelude.{Some}
use Rattle.limits.specs.Size.{header_octets, address_octets}
use Rattle.read_data.specs.Reads.{together, asked_at}
use Rattle.read_data.proofs.read_octets.Given as goal

abbrev pub invariant-loop-i : goal.invariant-loop-i
invariant-loop-i l =
    (asked_at l.m l.first l.h l.asked.asdu.now header_octets l.fn.asked.command.count ≡ together (Some l.octets) (asked_at l.m l.first l.h l.asked.asdu.now (header_octets + address_octets * l.i) (l.fn.asked.command.count - l.i)))
    × (l.octets ≤ 21 * l.i)
