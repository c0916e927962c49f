-- What was added up and what is still to come are together the whole sum.
use mathlib.Core.Path.{◌≡◌}
use Prim.Native.Nat.{◌+◌, ◌*◌, ◌≤◌}
use lib.ListN.{drop}
use Rattle.limits.specs.Test.{total}
use Rattle.table.specs.Table.{reserved}
use Rattle.registry.specs.Opening.{planned}
use Rattle.opening.proofs.reservations.Given as goal

abbrev pub invariant-loop-i : goal.invariant-loop-i
invariant-loop-i l = (total reserved (planned l.plan) ≡ l.sum + total reserved (planned (drop (3 * l.i) l.plan))) × (l.sum ≤ 65536 * l.i)
