-- What was added up so far, and a bound on each sum.
use Prim.Native.Nat.{◌*◌, ◌≤◌}
use Rattle.wellformed.specs.Station.{AddedUp}
use Rattle.wellformed.proofs.add_up.Given as goal

abbrev pub invariant-loop-i : goal.invariant-loop-i
invariant-loop-i l =
    AddedUp l.m l.at l.i l.sums × (l.sums.reserved ≤ 65536 * l.i) × (l.sums.held ≤ 65536 * l.i) × (l.sums.unmet ≤ 65536 * l.i)
