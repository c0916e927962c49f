-- What taking points out does to a memory, as the code runs: nobody need believe these, the image laws tie them to `removed` and `emptied`.
use Rattle.std.specs.Prelude.{ℕ, zero, suc, ◌+◌, ◌*◌, ◌-◌, ◌≤◌, ◌<◌, List, length, replicate}
use Rattle.octets.specs.Over.{over, lowered}
use Rattle.octets.specs.Number.{pair}
use Rattle.layout.specs.Layout.{head_size, place_size, station_size, points_offset, held_offset, capacity_in, stations_in, points_in, after_places, stations_from, size_in}

-- The place at `at` closed up: what lies after it up to `to` is one place lower, and the last place is zero.
unfoldable pub closed_up : List ℕ → ℕ → ℕ → List ℕ
closed_up m at to = over (lowered m at to place_size) (to - place_size) (replicate place_size 0)

-- The memory without the place at `at`, one of the h places of the station of index i: held and points are one less.
unfoldable pub taken_out : List ℕ → ℕ → ℕ → ℕ → List ℕ
taken_out m i h at =
    over
    (over (closed_up m at (after_places (points_in m))) (stations_from m + station_size * i + held_offset) (pair (h - 1)))
    points_offset
    (pair (points_in m - 1))

-- The place at `at` is a used one, and one of the h places of the station of index i.
abbrev pub Removable : List ℕ → ℕ → ℕ → ℕ → Type 0
Removable m i h at =
    (size_in m ≤ length m) × (points_in m ≤ capacity_in m) × (i < stations_in m)
    × (0 < h) × (h < 65536) × (head_size ≤ at) × (at + place_size ≤ after_places (points_in m))

-- The memory with held 0 at each of the n stations from `at`.
unfoldable pub none_held : List ℕ → ℕ → ℕ → List ℕ
none_held m at zero = m
none_held m at (suc n) = none_held (over m (at + held_offset) (pair 0)) (at + station_size) n

-- The memory without points: the used places are zero, no station holds a point, points is 0.
unfoldable pub all_taken_out : List ℕ → List ℕ
all_taken_out m =
    over
    (none_held (over m head_size (replicate (place_size * points_in m) 0)) (stations_from m) (stations_in m))
    points_offset
    (pair 0)
