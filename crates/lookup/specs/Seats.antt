-- Where a station's places lie: as the code looks. The laws in proofs/Laws.antt say which station that is.
use Rattle.std.specs.Prelude.{ℕ, zero, suc, ◌+◌, ◌*◌, List, eqb, Option, Some, None}
use Rattle.limits.specs.Test.{pick}
use Rattle.layout.specs.Layout.{head_size, place_size, station_size, stations_in, stations_from, ca_at, held_at}
use Rattle.lookup.specs.declared.Seat.{Seat}

-- the seat of a station that was found: its index, its first place, and how many points it holds
abbrev pub here : ℕ → ℕ → ℕ → Option Seat
here i first held = Some (record { index = i; first = first; held = held })

-- the seat among n stations from `sb` on, the first of which has index i and its places from `pb`
unfoldable pub seat_in : List ℕ → ℕ → ℕ → ℕ → ℕ → ℕ → Option Seat
seat_in m ca i pb sb zero = None
seat_in m ca i pb sb (suc n) =
    pick (eqb (ca_at m sb) ca) (here i pb (held_at m sb)) (seat_in m ca (i + 1) (pb + place_size * held_at m sb) (sb + station_size) n)

-- the seat of a station of a table's memory
unfoldable pub seat_at : List ℕ → ℕ → Option Seat
seat_at m ca = seat_in m ca 0 head_size (stations_from m) (stations_in m)
