-- The layout of a table's memory: a head, K places, the stations; the size of each, and where their numbers lie. Low octet first.
-- Number 10 of document 01 has the sizes: 48 × K + 8 × stations + 64.
use Rattle.std.specs.Prelude.{ℕ, ◌+◌, ◌*◌, List, [], ◌∷◌}
use Rattle.octets.specs.Number.{two}

-- ---- sizes, in octets

-- The head: mark, K, number of stations, number of points, settings, spare octets.
abbrev pub head_size : ℕ
head_size = 64

-- A place, which holds a point or is unused.
abbrev pub place_size : ℕ
place_size = 48

-- A station: its CA, reservation, ceiling and held.
abbrev pub station_size : ℕ
station_size = 8

-- ---- the most of each

abbrev pub most_places : ℕ
most_places = 4096

abbrev pub most_stations : ℕ
most_stations = 64

-- ---- in the head

-- The first octets of every table.
abbrev pub mark : List ℕ
mark = 0x4B ∷ 0x48 ∷ 0x56 ∷ 0x01 ∷ []

abbrev pub capacity_offset : ℕ
capacity_offset = 4

abbrev pub stations_offset : ℕ
stations_offset = 6

abbrev pub points_offset : ℕ
points_offset = 8

abbrev pub settings_offset : ℕ
settings_offset = 10

abbrev pub settings_size : ℕ
settings_size = 4

-- From here on the head is zero.
abbrev pub spare_offset : ℕ
spare_offset = 14

abbrev pub spare_size : ℕ
spare_size = 50

-- ---- in a place

abbrev pub ca_offset : ℕ
ca_offset = 1

abbrev pub ioa_offset : ℕ
ioa_offset = 3

abbrev pub group_offset : ℕ
group_offset = 6

abbrev pub counter_offset : ℕ
counter_offset = 8

-- An octet that is zero, and stands after the counter group.
abbrev pub gap_offset : ℕ
gap_offset = 9

abbrev pub value_offset : ℕ
value_offset = 10

-- The octets of a value, those past its element included.
abbrev pub value_size : ℕ
value_size = 12

-- From here on a place is zero.
abbrev pub rest_offset : ℕ
rest_offset = 22

abbrev pub rest_size : ℕ
rest_size = 26

-- ---- in a station

abbrev pub reservation_offset : ℕ
reservation_offset = 2

abbrev pub ceiling_offset : ℕ
ceiling_offset = 4

abbrev pub held_offset : ℕ
held_offset = 6

-- ---- what a head says

-- K.
abbrev pub capacity_in : List ℕ → ℕ
capacity_in m = two m capacity_offset

-- The number of stations.
abbrev pub stations_in : List ℕ → ℕ
stations_in m = two m stations_offset

-- The number of points.
abbrev pub points_in : List ℕ → ℕ
points_in m = two m points_offset

-- Where the stations start in a table of capacity K: after the head and K places.
abbrev pub after_places : ℕ → ℕ
after_places k = head_size + place_size * k

-- Where the stations of the table in a memory start.
abbrev pub stations_from : List ℕ → ℕ
stations_from m = after_places (capacity_in m)

-- The octets of the table in a memory.
abbrev pub size_in : List ℕ → ℕ
size_in m = stations_from m + station_size * stations_in m

-- The CA, reservation, ceiling and held of the station at `at`.
abbrev pub ca_at : List ℕ → ℕ → ℕ
ca_at m at = two m at

abbrev pub reservation_at : List ℕ → ℕ → ℕ
reservation_at m at = two m (at + reservation_offset)

abbrev pub ceiling_at : List ℕ → ℕ → ℕ
ceiling_at m at = two m (at + ceiling_offset)

abbrev pub held_at : List ℕ → ℕ → ℕ
held_at m at = two m (at + held_offset)
