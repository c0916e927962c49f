-- What a call does to a table: a change of one station, a point taken in, a point let go, all points let go.
-- Document 01, 'Points, stations and shares'. Other stations' lists are not touched: the change stands at one station.
use Rattle.std.specs.Prelude.{ℕ, suc, List, [], ◌∷◌, ◌++◌, map, Bool, true, false, take, drop, leb, eqb}
use Rattle.std.proofs.Math.Option.{Option, none, some}
use Rattle.limits.specs.Test.{pick}
use Rattle.model.specs.declared.Point.{Point}
use Rattle.table.specs.Table.{Station, Table}

-- The station with a common address, or none where the plan has none.
unfoldable pub station_of : ℕ → List Station → Option Station
station_of ca [] = none
station_of ca (s ∷ ss) = pick (eqb s.ca ca) (some s) (station_of ca ss)

-- The stations with one of them changed.
unfoldable pub in_station : ℕ → (Station → Station) → List Station → List Station
in_station ca f [] = []
in_station ca f (s ∷ ss) = pick (eqb s.ca ca) (f s ∷ ss) (s ∷ in_station ca f ss)

-- A station with other points: its address, reservation and ceiling stay.
abbrev pub with_points : (List Point → List Point) → Station → Station
with_points f s = record { ca = s.ca; reservation = s.reservation; ceiling = s.ceiling; points = f s.points }

-- A table with other stations: its settings and K stay.
abbrev pub with_stations : List Station → Table → Table
with_stations ss t = record { settings = t.settings; capacity = t.capacity; stations = ss }

-- A table with the points of one station changed.
unfoldable pub changed : Table → ℕ → (List Point → List Point) → Table
changed t ca f = with_stations (in_station ca (with_points f) t.stations) t

-- How many points of an ascending list have an IOA below `ioa`.
unfoldable pub seek_in : ℕ → List Point → ℕ
seek_in ioa [] = 0
seek_in ioa (q ∷ qs) = pick (leb ioa q.ioa) 0 (suc (seek_in ioa qs))

-- The point of an ascending list with an IOA, or none.
unfoldable pub point_in : ℕ → List Point → Option Point
point_in ioa [] = none
point_in ioa (q ∷ qs) = pick (eqb q.ioa ioa) (some q) (point_in ioa qs)

-- Is there such a point?
unfoldable pub known : ℕ → List Point → Bool
known ioa [] = false
known ioa (q ∷ qs) = pick (eqb q.ioa ioa) true (known ioa qs)

-- The points with one more, at its place in the order.
unfoldable pub insert_in : Point → List Point → List Point
insert_in p ps = take (seek_in p.ioa ps) ps ++ (p ∷ drop (seek_in p.ioa ps) ps)

-- The points without the one that has an IOA.
unfoldable pub remove_in : ℕ → List Point → List Point
remove_in ioa [] = []
remove_in ioa (q ∷ qs) = pick (eqb q.ioa ioa) qs (q ∷ remove_in ioa qs)

-- A point taken into its station.
unfoldable pub added : Table → ℕ → Point → Table
added t ca p = changed t ca (insert_in p)

-- A point let go from its station.
unfoldable pub removed : Table → ℕ → ℕ → Table
removed t ca ioa = changed t ca (remove_in ioa)

-- Every station without points: the plan and K stay.
unfoldable pub emptied : Table → Table
emptied t = with_stations (map (with_points (λ (ps : List Point). [])) t.stations) t
