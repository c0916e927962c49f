-- What a table's settings say. Today it has none: each of these is document 01's behaviour.
use Rattle.std.specs.Prelude.{ℕ}
use Rattle.limits.specs.Size.{standard_limit}
use Rattle.table.specs.Table.{Table}

-- The length limit L of an APDU.
unfoldable pub limit_of : Table → ℕ
limit_of t = standard_limit
