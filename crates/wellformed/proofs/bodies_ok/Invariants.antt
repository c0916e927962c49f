-- What is left of the stations has its places from the running place on, and they lie in the memory.
use Prim.Native.Nat.{◌+◌, ◌*◌, ◌-◌, ◌≤◌}
use mathlib.Core.Path.{◌≡◌}
use lib.ListN.{length}
use Rattle.layout.specs.Layout.{held_at}
use Rattle.table.specs.Memory.{sum_at, bodies_at}
use Rattle.wellformed.proofs.bodies_ok.Given as goal

abbrev pub invariant-loop-i : goal.invariant-loop-i
invariant-loop-i l =
    (bodies_at l.m 64 l.at l.n ≡ bodies_at l.m l.place (l.at + 8 * l.i) (l.n - l.i)) × (l.place + 48 * sum_at held_at l.m (l.at + 8 * l.i) (l.n - l.i) ≤ length l.m)
