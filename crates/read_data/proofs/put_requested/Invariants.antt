-- What is written and what is to come are the whole at each turn.
use Prim.Native.Nat.{◌+◌, ◌*◌, ◌-◌}
use Rattle.limits.specs.Size.{header_octets, address_octets}
use Rattle.asdu.specs.Header.{wire}
use Rattle.octets.proofs.Log.{Log}
use Rattle.read_data.specs.Reads.{requested_at, requested_by}
use Rattle.read_data.proofs.put_requested.Given as goal

abbrev pub invariant-loop-i : goal.invariant-loop-i
invariant-loop-i l =
    Log l.initial.out l.from (wire (requested_by l.m l.first l.h l.asked.command l.asked.asdu.now)) l.out l.o
    (wire (requested_at l.m l.first l.h l.asked.command.ca l.asked.asdu.now (header_octets + address_octets * l.i) (l.asked.command.count - l.i)))
