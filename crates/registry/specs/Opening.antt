-- Opening a table under a plan. Document 01, 'Points, stations and shares' and number 10.
use Rattle.std.specs.Prelude.{ℕ, ◌+◌, ◌*◌, ◌%◌, List, [], ◌∷◌, ◌++◌, Bool, length, drop, leb, eqb, Err}
use Rattle.limits.specs.Test.{◌&◌, pick, total}
use Rattle.limits.specs.Outcome.{Outcome, done}
use Rattle.limits.specs.declared.outcome.Refusal.TheVariants.{InvalidPlan}
use Rattle.layout.specs.Layout.{head_size, place_size, station_size, most_places, most_stations}
use Rattle.table.specs.Table.{document01, Station, Table, plan_ok, reserved, image}

-- The stations of a plan, CA, reservation and ceiling in turn, with no points.
unfoldable pub planned : List ℕ → List Station
planned [] = []
planned (ca ∷ []) = []
planned (ca ∷ (r ∷ [])) = []
planned (ca ∷ (r ∷ (c ∷ rest))) = record { ca = ca; reservation = r; ceiling = c; points = [] } ∷ planned rest

-- A plan is valid under K: K from 1 to 4,096, 1 to 64 stations, CA strictly ascending from 1 to 65,534, r ≤ c ≤ K, the r adding up to at most K.
unfoldable pub valid_plan : ℕ → List Station → Bool
valid_plan k ss = leb 1 k & leb k most_places & leb 1 (length ss) & leb (length ss) most_stations & plan_ok k 1 ss & leb (total reserved ss) k

-- The octets that a table needs.
abbrev pub table_octets : ℕ → ℕ → ℕ
table_octets k stations = place_size * k + station_size * stations + head_size

-- May a table be opened in a memory of n octets?
unfoldable pub opens : ℕ → List ℕ → ℕ → Bool
opens k plan n = eqb (length plan % 3) 0 & valid_plan k (planned plan) & leb (table_octets k (length (planned plan))) n

-- The fresh table of a plan, with document 01's settings.
abbrev pub fresh : ℕ → List ℕ → Table
fresh k plan = record { settings = document01; capacity = k; stations = planned plan }

-- Opening gives only 10, or 0.
abbrev pub open_outcome : ℕ → List ℕ → List ℕ → Outcome
open_outcome k plan m = pick (opens k plan (length m)) done (Err InvalidPlan)

-- The memory after opening: the fresh table, and what lies past it as it was; or, refused, all as it was.
abbrev pub opened_memory : ℕ → List ℕ → List ℕ → List ℕ
opened_memory k plan m = pick (opens k plan (length m)) (image (fresh k plan) ++ drop (length (image (fresh k plan))) m) m
