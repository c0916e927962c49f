-- Which of the points that stand after the first of a batch, which decide on room, fails its own tests first: in the words of the batch's own tests.
use Rattle.std.specs.Prelude.{ℕ, ltb, List, map, reverse, take, drop}
use Rattle.limits.specs.Test.{pick}
use Rattle.limits.specs.Outcome.{done, is_done, number_of}
use Rattle.model.specs.declared.Request.{Request}
use Rattle.table.specs.Memory.{well_formed, table_of}
use Rattle.registry.specs.Effect.{Reply}
use Rattle.registry.specs.Registry.{own_tests}
use Rattle.replies.specs.Replies.{placeless}
use Rattle.points.specs.Points.{whole, deciding}

-- The points of a list, the last first: so the tests of the next one take them.
abbrev pub last_first : List Request → List Request
last_first ps = reverse (map whole ps)

-- The tests of the later points: the first that has a fault is named with its place; done where there is no table.
unfoldable pub later_tests : List ℕ → List Request → Reply
later_tests m ps = pick (well_formed m) (own_tests (table_of m) (last_first (take deciding ps)) deciding (map whole (drop deciding ps))) (placeless done)

-- A reply that gives way to the fault of a later point, if there is one.
abbrev pub after_faults : Reply → Reply → Reply
after_faults later first = pick (is_done later.outcome) first later

-- The reply of the first points; a refusal for room, number 19 or 20, gives way to the fault of a later point.
unfoldable pub answer_of : Reply → Reply → Reply
answer_of later first = pick (ltb (number_of first.outcome) 19) first (after_faults later first)
