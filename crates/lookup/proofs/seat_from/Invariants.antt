use Rattle.lookup.specs.Seats.{seat_in}
use Prim.Native.Nat.{◌+◌, ◌*◌, ◌-◌, ◌≤◌}
use mathlib.Core.Path.{◌≡◌}
use Rattle.lookup.proofs.seat_from.Given as goal

abbrev pub invariant-loop-i : goal.invariant-loop-i
invariant-loop-i l = (seat_in l.m l.ca 0 64 l.at l.n ≡ seat_in l.m l.ca l.i l.place (l.at + 8 * l.i) (l.n - l.i)) × (l.place ≤ 64 + 48 * (65536 * l.i))
