-- The test of the whole memory, answered at the first part that fails, or at the last. Assumes nothing.
use mathlib.Core.Path.{◌≡◌}
use mathlib.Core.List.{List}
use mathlib.Core.Bool.{true, false}
use Prim.Native.Nat.{ℕ, ◌+◌, ◌*◌, ◌-◌, ◌≤◌}
use Rattle.limits.specs.Test.{◌&◌}
use Rattle.octets.specs.Number.{zeros}
use Rattle.layout.specs.Layout.{head_size, place_size, held_at, capacity_in, stations_in, points_in, after_places, stations_from}
use Rattle.table.specs.Memory.{sum_at, head_at, shares_at, bodies_at, well_formed}
use Rattle.table.proofs.Parse.{shares_is}
use Rattle.wellformed.specs.Station.{places_at}

module _ (m : List ℕ) (k n points : ℕ) where
  pub bodies_bad : bodies_at m head_size (after_places k) n ≡ false → places_at m k n points ≡ false
  unfolding places_at ◌&◌
  bodies_bad h = simp h

  pub unused_test : bodies_at m head_size (after_places k) n ≡ true
      → places_at m k n points ≡ zeros m (head_size + place_size * points) (place_size * (k - points))
  unfolding places_at ◌&◌
  unused_test h = simp h

-- what the stations' numbers say of the points
module _ (m : List ℕ) (k at n points : ℕ) (h : shares_at m k at n points ≡ true) where
  pub points_are : points ≡ sum_at held_at m at n
  points_are = (shares_is m k at n points h).count

  pub points_few : points ≤ k
  points_few = (shares_is m k at n points h).few

module _ (m : List ℕ) where
  pub head_bad : head_at m ≡ false → well_formed m ≡ false
  unfolding well_formed ◌&◌
  head_bad h = simp h

  pub shares_bad : head_at m ≡ true → shares_at m (capacity_in m) (stations_from m) (stations_in m) (points_in m) ≡ false → well_formed m ≡ false
  unfolding well_formed ◌&◌
  shares_bad h s = simp (h, s)

  pub places_test : head_at m ≡ true → shares_at m (capacity_in m) (stations_from m) (stations_in m) (points_in m) ≡ true
      → well_formed m ≡ places_at m (capacity_in m) (stations_in m) (points_in m)
  unfolding well_formed places_at ◌&◌
  places_test h s = simp (h, s)
