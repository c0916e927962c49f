-- The first points' reply, or the fault of a later one, is the reply to all. Assumes nothing.
use Rattle.std.proofs.Common.{rules}
use Rattle.octets.specs.Number.{Octets}
use Rattle.point_lists.proofs.Lists.{comes}
use Rattle.point_lists.proofs.register_points.Goals as goal

pub returns : goal.returns
returns c =
    let f = c.register_first-first in
    let o : Octets c.args.table.now = λ i. search rules in
    comes c.args.table.now c.args.points.now o _ _ _ f.new.table c.later_tests-later.ensures f.ensures c.answer_of.ensures
