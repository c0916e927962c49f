-- What raising the stations' numbers does to a memory, as the code runs: nobody need believe these, the image law ties them to the table with the points;
-- and what the storing of a batch waits for.
use Rattle.std.specs.Prelude.{ℕ, zero, suc, ◌+◌, ◌<◌, ◌≡◌, true, List, [], get_or}
use Rattle.limits.specs.Outcome.{done}
use Rattle.octets.specs.Over.{over}
use Rattle.octets.specs.Number.{pair}
use Rattle.layout.specs.Layout.{station_size, held_offset, held_at}
use Rattle.table.specs.Memory.{well_formed, table_of}
use Rattle.batch_records.specs.Records.{requests_in}
use Rattle.registry.specs.Registry.{own_tests, room_tests}

-- The n stations from `at`, the first of which has index i, hold what they took in besides.
unfoldable pub raised : List ℕ → List ℕ → ℕ → ℕ → ℕ → List ℕ
raised m taken i at zero = m
raised m taken i at (suc n) = raised (over m (at + held_offset) (pair (held_at m at + get_or taken i 0))) taken (i + 1) (at + station_size) n

-- What each then holds is a number of two octets.
unfoldable pub Raisable : List ℕ → List ℕ → ℕ → ℕ → ℕ → Type 0
Raisable m taken i at zero = Unit
Raisable m taken i at (suc n) = (held_at m at + get_or taken i 0 < 65536) × Raisable m taken (i + 1) (at + station_size) n

-- Every point of a batch has passed its own tests and the share rule.
abbrev pub AllPass : List ℕ → List ℕ → Type 0
AllPass m r =
    (well_formed m ≡ true) × ((own_tests (table_of m) [] 0 (requests_in r)).outcome ≡ done) × ((room_tests (table_of m) 0 (requests_in r)).outcome ≡ done)
