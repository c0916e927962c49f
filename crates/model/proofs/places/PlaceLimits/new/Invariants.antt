-- A turn fills in the two limits of one type more; the counters' limits come last.
use mathlib.Core.Path.{◌≡◌}
use Rattle.model.proofs.Limits.{filled}
use Rattle.model.proofs.places.PlaceLimits.new.Given as goal

abbrev pub invariant-loop-kind : goal.invariant-loop-kind
invariant-loop-kind l = l.numbers ≡ filled l.kind
