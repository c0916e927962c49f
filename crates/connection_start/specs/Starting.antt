-- ---- as the code reads: nobody need believe what follows, `common_address_law` ties it to the table
use Rattle.std.specs.Prelude.{ℕ, zero, suc, ◌+◌, List, eqb}
use Rattle.limits.specs.Test.{pick}
use Rattle.layout.specs.Layout.{station_size, ca_at, held_at}

-- the common address of the first of n stations from `at` whose held is not 0, or 0
unfoldable pub common_address_at : List ℕ → ℕ → ℕ → ℕ
common_address_at m at zero = 0
common_address_at m at (suc n) = pick (eqb (held_at m at) 0) (common_address_at m (at + station_size) n) (ca_at m at)
