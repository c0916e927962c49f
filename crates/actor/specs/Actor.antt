-- ---- as the code reads: nobody need believe what follows, the laws in proofs/ tie it to the effects of `registry`
use Rattle.std.specs.Prelude.{ℕ, ◌+◌, ◌*◌, ◌-◌, ◌≤◌, ◌<◌, List, length}
use Rattle.limits.specs.Share.{admission_of}
use Rattle.limits.specs.declared.share.Share.{Share}
use Rattle.limits.specs.Outcome.{Outcome}
use Rattle.layout.specs.Layout.{station_size, most_stations, capacity_in, stations_in, points_in, stations_from, size_in}
use Rattle.table.specs.Memory.{sum_at, unmet_at}
use Rattle.wellformed.specs.Station.{share_at}
use Rattle.registry.specs.declared.StationShare.{StationShare}

-- a memory long enough for its head's numbers, with a station of index i
abbrev pub HasStation : List ℕ → ℕ → Type 0
HasStation m i = (size_in m ≤ length m) × (i < stations_in m) × (stations_in m ≤ most_stations) × (points_in m ≤ capacity_in m)

-- the share of the station of index i, as its octets say
abbrev pub share_here : List ℕ → ℕ → Share
share_here m i = share_at m (stations_from m + station_size * i)

-- what is free, and what is kept for all stations
abbrev pub free_in : List ℕ → ℕ
free_in m = capacity_in m - points_in m

abbrev pub unmet_in : List ℕ → ℕ
unmet_in m = sum_at unmet_at m (stations_from m) (stations_in m)

-- the share rule's answer to one more point of the station of index i
unfoldable pub room_at : List ℕ → ℕ → Outcome
room_at m i = admission_of (share_here m i) (free_in m) (unmet_in m)

-- the share of the station of index i
unfoldable pub station_share_at : List ℕ → ℕ → StationShare
station_share_at m i =
    record {
      share = share_here m i;
      free = free_in m;
      unmet = unmet_in m;
    }
