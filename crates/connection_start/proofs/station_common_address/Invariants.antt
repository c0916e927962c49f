-- What is left of the stations gives the same address at each turn.
use mathlib.Core.Path.{◌≡◌}
use Prim.Native.Nat.{◌+◌, ◌*◌, ◌-◌}
use Rattle.layout.specs.Layout.{station_size}
use Rattle.connection_start.specs.Starting.{common_address_at}
use Rattle.connection_start.proofs.station_common_address.Given as goal

abbrev pub invariant-loop-i : goal.invariant-loop-i
invariant-loop-i l = common_address_at l.m l.at l.n ≡ common_address_at l.m (l.at + station_size * l.i) (l.n - l.i)
