-- One station a turn: what is written and what is still to come are together the entries of the whole plan.
use Prim.Native.Nat.{◌+◌, ◌*◌}
use lib.ListN.{drop}
use Rattle.octets.proofs.Log.{Log}
use Rattle.table.specs.Table.{entries}
use Rattle.registry.specs.Opening.{planned}
use Rattle.opening.proofs.put_stations.Given as goal

abbrev pub invariant-loop-i : goal.invariant-loop-i
invariant-loop-i l = Log l.initial.table l.at (entries (planned l.plan)) l.table (l.at + 8 * l.i) (entries (planned (drop (3 * l.i) l.plan)))
