-- The table that a memory holds, and the test for one, as the code reads: nobody need believe these, the laws tie them to `good` and `image`.
use Rattle.std.specs.Prelude.{ℕ, zero, suc, ◌+◌, ◌*◌, ◌-◌, List, [], ◌∷◌, Bool, true, length, leb, eqb}
use Rattle.std.proofs.Math.Option.{Option, none, some}
use Rattle.limits.specs.Test.{◌&◌, pick}
use Rattle.model.specs.declared.Point.{Point}
use Rattle.octets.specs.Number.{four, zeros}
use Rattle.layout.specs.Layout.{head_size, place_size, station_size, most_places, most_stations, mark, settings_offset, settings_size, spare_offset, spare_size, capacity_in, stations_in, points_in, stations_from, size_in, ca_at, reservation_at, ceiling_at, held_at}
use Rattle.model.specs.Place.{point_at, places_ok}
use Rattle.table.specs.Table.{Settings, document01, Station, Table, numbers_ok, shares_ok}

-- n points from the place at `at`
unfoldable pub points_at : List ℕ → ℕ → ℕ → List Point
points_at m at zero = []
points_at m at (suc n) = point_at m at ∷ points_at m (at + place_size) n

-- n stations from `sb`, whose places start at `pb`
unfoldable pub stations_at : List ℕ → ℕ → ℕ → ℕ → List Station
stations_at m pb sb zero = []
stations_at m pb sb (suc n) =
    record { ca = ca_at m sb; reservation = reservation_at m sb; ceiling = ceiling_at m sb; points = points_at m pb (held_at m sb) }
    ∷ stations_at m (pb + place_size * held_at m sb) (sb + station_size) n

-- the settings in the head
abbrev pub settings_in : List ℕ → Settings
settings_in m = document01

unfoldable pub table_of : List ℕ → Table
table_of m = record { settings = settings_in m; capacity = capacity_in m; stations = stations_at m head_size (stations_from m) (stations_in m) }

-- a sum over n stations from `sb`
unfoldable pub sum_at : (List ℕ → ℕ → ℕ) → List ℕ → ℕ → ℕ → ℕ
sum_at f m sb zero = 0
sum_at f m sb (suc n) = f m sb + sum_at f m (sb + station_size) n

abbrev pub unmet_at : List ℕ → ℕ → ℕ
unmet_at m sb = reservation_at m sb - held_at m sb

-- the test of the numbers of the station at `sb`
abbrev pub numbers_at : List ℕ → ℕ → ℕ → ℕ → Bool
numbers_at m k low sb = numbers_ok k low (ca_at m sb) (reservation_at m sb) (ceiling_at m sb) (held_at m sb)

unfoldable pub plan_at : List ℕ → ℕ → ℕ → ℕ → ℕ → Bool
plan_at m k low sb zero = true
plan_at m k low sb (suc n) = numbers_at m k low sb & plan_at m k (ca_at m sb + 1) (sb + station_size) n

-- the places of n stations
unfoldable pub bodies_at : List ℕ → ℕ → ℕ → ℕ → Bool
bodies_at m pb sb zero = true
bodies_at m pb sb (suc n) = places_ok m pb (ca_at m sb) 0 (held_at m sb) & bodies_at m (pb + place_size * held_at m sb) (sb + station_size) n

unfoldable pub mark_at : List ℕ → Bool
mark_at m = eqb (four m 0) (four mark 0)

-- the four octets of the settings
unfoldable pub settings_at : List ℕ → Bool
settings_at m = zeros m settings_offset settings_size

unfoldable pub head_at : List ℕ → Bool
head_at m =
    leb head_size (length m) & mark_at m
    & leb 1 (capacity_in m) & leb (capacity_in m) most_places & leb 1 (stations_in m) & leb (stations_in m) most_stations
    & leb (size_in m) (length m) & settings_at m & zeros m spare_offset spare_size

-- the stations' numbers
unfoldable pub shares_at : List ℕ → ℕ → ℕ → ℕ → ℕ → Bool
shares_at m k sb n points =
    plan_at m k 1 sb n
    & eqb points (sum_at held_at m sb n)
    & shares_ok k (sum_at reservation_at m sb n) points (sum_at unmet_at m sb n)

unfoldable pub well_formed : List ℕ → Bool
well_formed m =
    head_at m
    & shares_at m (capacity_in m) (stations_from m) (stations_in m) (points_in m)
    & bodies_at m head_size (stations_from m) (stations_in m)
    & zeros m (head_size + place_size * points_in m) (place_size * (capacity_in m - points_in m))

-- The table that a memory holds, or none where the memory is not well formed.
unfoldable pub parse : List ℕ → Option Table
parse m = pick (well_formed m) (some (table_of m)) none
