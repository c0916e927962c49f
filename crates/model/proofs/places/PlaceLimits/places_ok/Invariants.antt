-- What is left to test says the same as the whole, at every turn.
use mathlib.Core.Path.{◌≡◌}
use Prim.Native.Nat.{◌+◌, ◌*◌, ◌-◌}
use Rattle.model.specs.Place.{places_ok}
use Rattle.model.proofs.places.PlaceLimits.places_ok.Given as goal

abbrev pub invariant-loop-i : goal.invariant-loop-i
invariant-loop-i l = places_ok l.m l.at l.ca 0 l.n ≡ places_ok l.m (l.at + 48 * l.i) l.ca l.low (l.n - l.i)
