-- What putting a point in does to a memory, as the code runs: nobody need believe these, the image law ties them to `added`.
use Rattle.std.specs.Prelude.{ℕ, ◌+◌, ◌*◌, ◌≤◌, ◌<◌, List, length}
use Rattle.octets.specs.Over.{over, shifted}
use Rattle.octets.specs.Number.{pair}
use Rattle.layout.specs.Layout.{place_size, station_size, points_offset, held_offset, capacity_in, stations_in, points_in, after_places, stations_from, size_in}
use Rattle.model.specs.declared.Point.{Point}
use Rattle.model.specs.Place.{place_of}

-- Octets of one place put in at `at`; what lies from there up to `to` is one place higher.
unfoldable pub put_in : List ℕ → ℕ → ℕ → List ℕ → List ℕ
put_in m at to xs = over (shifted m at to place_size) at xs

-- The memory with a point of station ca put in at `at`, into the station of index i, which held h: held and points are one more.
unfoldable pub placed : List ℕ → ℕ → Point → ℕ → ℕ → ℕ → List ℕ
placed m ca p i h at =
    over
    (over (put_in m at (after_places (points_in m)) (place_of ca p)) (stations_from m + station_size * i + held_offset) (pair (h + 1)))
    points_offset
    (pair (points_in m + 1))

-- There is an unused place, a station of index i, which may hold one more than h, and `at` lies where a point may go.
abbrev pub HasRoom : List ℕ → ℕ → ℕ → ℕ → Type 0
HasRoom m i h at =
    (size_in m ≤ length m) × (points_in m < capacity_in m) × (i < stations_in m) × (h < 65535) × (at ≤ after_places (points_in m))
