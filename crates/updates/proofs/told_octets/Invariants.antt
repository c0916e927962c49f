-- The sum runs over the updates in the table at entry; what is told in all is as long, since no update changes a type or an address. Assumes nothing.
use mathlib.Core.Path.{◌≡◌}
use Prim.Native.Nat.{◌+◌, ◌*◌, ◌≤◌}
use Rattle.updates.specs.Updates.{most_told}
use Rattle.updates.proofs.Turns.{size_left}
use Rattle.updates.proofs.told_octets.Given as goal

abbrev pub invariant-loop-i : goal.invariant-loop-i
invariant-loop-i l = (size_left l.m l.updates l.n 0 ≡ l.sum + size_left l.m l.updates l.n l.i) × (l.sum ≤ most_told * l.i)
