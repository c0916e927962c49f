-- Every later point before the i-th passed its own tests.
use Rattle.std.proofs.Common.{◌≡◌}
use Rattle.table.specs.Memory.{table_of}
use Rattle.points.specs.Points.{deciding}
use Rattle.point_lists.proofs.Turns.{left}
use Rattle.point_lists.proofs.later_tests.Given as goal

abbrev pub invariant-loop-i : goal.invariant-loop-i
invariant-loop-i l = left (table_of l.m) l.points deciding ≡ left (table_of l.m) l.points l.i
