-- The table: stations that own their points; which tables are good; and the octets that a table is laid out as.
-- Document 01, 'Points, stations and shares'; DESIGN.md, sections 2 and 3.
use Rattle.std.specs.Prelude.{ℕ, ◌+◌, ◌*◌, ◌-◌, List, [], ◌∷◌, ◌++◌, Bool, true, length, replicate, leb}
use Rattle.limits.specs.Test.{◌&◌, total}
use Rattle.limits.specs.declared.share.Share.{Share}
use Rattle.octets.specs.Number.{pair}
use Rattle.layout.specs.Layout.{place_size, most_places, most_stations, mark, spare_size}
use Rattle.model.specs.declared.Point.{Point}
use Rattle.model.specs.Place.{place_of, point_ok}

-- A station of the plan: its common address, reservation and ceiling, and its points.
pub record Station : Type 0 where
  pub ca : ℕ
  pub reservation : ℕ
  pub ceiling : ℕ
  pub points : List Point

-- What is chosen at opening and kept with the table. Document 01 leaves nothing to choose, so there is no field yet.
pub record Settings : Type 0 where

-- Document 01's behaviour.
abbrev pub document01 : Settings
document01 = record {}

-- A table: its settings, its capacity K and its stations.
pub record Table : Type 0 where
  pub settings : Settings
  pub capacity : ℕ
  pub stations : List Station

-- Held is a station's number of points.
abbrev pub held : Station → ℕ
held s = length s.points

-- A station's share, as the share rule sees it.
abbrev pub share_of : Station → Share
share_of s = record { held = held s; reservation = s.reservation; ceiling = s.ceiling }

-- A station's unmet room: r − held, which stops at 0 by itself.
abbrev pub unmet : Station → ℕ
unmet s = s.reservation - held s

abbrev pub reserved : Station → ℕ
reserved s = s.reservation

-- ---- which tables are good

-- Points as described, IOA strictly ascending, none below `low`.
unfoldable pub rising : ℕ → List Point → Bool
rising low [] = true
rising low (p ∷ ps) = leb low p.ioa & point_ok p & rising (p.ioa + 1) ps

unfoldable pub all_rising : List Station → Bool
all_rising [] = true
all_rising (s ∷ ss) = rising 0 s.points & all_rising ss

-- The highest common address of a station; 65,535 means all stations.
abbrev pub highest_ca : ℕ
highest_ca = 65534

-- A station's numbers: CA from `low` to 65,534, r ≤ c ≤ K, held ≤ c.
unfoldable pub numbers_ok : ℕ → ℕ → ℕ → ℕ → ℕ → ℕ → Bool
numbers_ok k low ca r c h = leb low ca & leb ca highest_ca & leb r c & leb c k & leb h c

-- The same of each station, CA strictly ascending.
unfoldable pub plan_ok : ℕ → ℕ → List Station → Bool
plan_ok k low [] = true
plan_ok k low (s ∷ ss) = numbers_ok k low s.ca s.reservation s.ceiling (held s) & plan_ok k (s.ca + 1) ss

-- The sums: reservations and points at most K, and free ≥ unmet.
unfoldable pub shares_ok : ℕ → ℕ → ℕ → ℕ → Bool
shares_ok k r h u = leb r k & leb h k & leb u (k - h)

-- Settings within their ranges.
abbrev pub settings_ok : Settings → Bool
settings_ok c = true

-- A good table: settings within their ranges; K from 1 to 4,096; 1 to 64 stations with a valid plan, none above its ceiling; the sums; points as described, in order.
unfoldable pub good : Table → Bool
good t =
    settings_ok t.settings
    & leb 1 t.capacity & leb t.capacity most_places
    & leb 1 (length t.stations) & leb (length t.stations) most_stations
    & plan_ok t.capacity 1 t.stations
    & shares_ok t.capacity (total reserved t.stations) (total held t.stations) (total unmet t.stations)
    & all_rising t.stations

-- ---- the octets of a table

-- The places of the points of station ca.
unfoldable pub places_of : ℕ → List Point → List ℕ
places_of ca [] = []
places_of ca (p ∷ ps) = place_of ca p ++ places_of ca ps

-- The places, station after station.
unfoldable pub bodies : List Station → List ℕ
bodies [] = []
bodies (s ∷ ss) = places_of s.ca s.points ++ bodies ss

-- A station's eight octets: CA, reservation, ceiling, held.
abbrev pub eight : ℕ → ℕ → ℕ → ℕ → List ℕ
eight ca r c h = pair ca ++ (pair r ++ (pair c ++ pair h))

unfoldable pub entries : List Station → List ℕ
entries [] = []
entries (s ∷ ss) = eight s.ca s.reservation s.ceiling (held s) ++ entries ss

-- The four octets of the settings.
abbrev pub settings_octets : Settings → List ℕ
settings_octets c = 0 ∷ 0 ∷ 0 ∷ 0 ∷ []

-- The head of 64 octets: the mark 4B 48 56 01, K, stations, points, settings, zeros.
abbrev pub head : Settings → ℕ → ℕ → ℕ → List ℕ
head c k s n = mark ++ (pair k ++ (pair s ++ (pair n ++ (settings_octets c ++ replicate spare_size 0))))

-- What lies in memory for a table: head, places, unused places, stations.
unfoldable pub image : Table → List ℕ
image t =
    head t.settings t.capacity (length t.stations) (total held t.stations)
    ++ (bodies t.stations
    ++ (replicate (place_size * (t.capacity - total held t.stations)) 0
    ++ entries t.stations))
