-- A turn, by the lists that the arrays of numbers are.
use Rattle.limits.specs.Size.{values_from}
use Rattle.model.specs.Limits.{first_of, last_of}
use Rattle.model.proofs.Limits.{filled_turn}
use native.Mathlib.Omega.{arith}
use Rattle.model.proofs.places.PlaceLimits.new.Goals as goal

pub loop-kind-preserved : goal.loop-kind-preserved
unfolding values_from first_of last_of
loop-kind-preserved c =
    let l = c.loop-kind in
    filled_turn c.point_sizes-sizes.result l.kind c.from-size.result c.point_sizes-sizes.ensures c.from-size.ensures l.numbers l.invariant (omega arith)
