-- The records of the points before the i-th are laid down.
use Rattle.std.proofs.Common.{◌≡◌, ◌*◌, take}
use Rattle.points.specs.Points.{flat_records}
use Rattle.points.proofs.lay_down.Given as goal

abbrev pub invariant-loop-i : goal.invariant-loop-i
invariant-loop-i l = take (24 * l.i) l.records ≡ flat_records (take l.i l.points)
