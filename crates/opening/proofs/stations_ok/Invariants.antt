-- One station a turn: the plan from the station of index i on, above the running lower bound, is what is still to be tested.
use mathlib.Core.Path.{◌≡◌}
use Prim.Native.Nat.{◌*◌}
use lib.ListN.{drop}
use Rattle.table.specs.Table.{plan_ok}
use Rattle.registry.specs.Opening.{planned}
use Rattle.opening.proofs.stations_ok.Given as goal

abbrev pub invariant-loop-i : goal.invariant-loop-i
invariant-loop-i l = plan_ok l.k 1 (planned l.plan) ≡ plan_ok l.k l.low (planned (drop (3 * l.i) l.plan))
