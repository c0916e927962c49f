-- The eight octets of a station as its share, and the part of the test that looks at places.
use Rattle.std.specs.Prelude.{ℕ, ◌+◌, ◌*◌, ◌-◌, ◌≡◌, List, Bool}
use Rattle.limits.specs.Test.{◌&◌}
use Rattle.limits.specs.declared.share.Share.{Share}
use Rattle.octets.specs.Number.{zeros}
use Rattle.layout.specs.Layout.{head_size, place_size, after_places, reservation_at, ceiling_at, held_at}
use Rattle.table.specs.Memory.{sum_at, unmet_at, bodies_at}
use Rattle.wellformed.specs.declared.Sums.{Sums}

-- The share of the station whose eight octets start at `sb`.
abbrev pub share_at : List ℕ → ℕ → Share
share_at m sb = record { held = held_at m sb; reservation = reservation_at m sb; ceiling = ceiling_at m sb }

-- What the n stations from `sb` have reserved, hold and are still owed, each added up.
abbrev pub AddedUp : List ℕ → ℕ → ℕ → Sums → Type 0
AddedUp m sb n s = (s.reserved ≡ sum_at reservation_at m sb n) × (s.held ≡ sum_at held_at m sb n) × (s.unmet ≡ sum_at unmet_at m sb n)

-- The places of n stations hold their points, and the places after them are zero.
unfoldable pub places_at : List ℕ → ℕ → ℕ → ℕ → Bool
places_at m k n points = bodies_at m head_size (after_places k) n & zeros m (head_size + place_size * points) (place_size * (k - points))
