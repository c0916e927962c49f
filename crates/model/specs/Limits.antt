-- The limits of a place by its type, as the code compares numbers of several octets at once: nobody need believe them, the code's `places_ok` is told in the definition of that name.
use Rattle.std.specs.Prelude.{ℕ, ◌-◌, min, List, ◌++◌, leb}
use Rattle.limits.specs.Test.{pick}
use Rattle.limits.specs.Size.{point_octets, values_from}
use Rattle.octets.specs.Number.{power}
use Rattle.model.specs.Place.{is_counter, counter_groups}

-- the first eight octets of a value, as a number, are at most this, by the octets of its element
unfoldable pub first_of : ℕ → ℕ
first_of size = power (min size 8) - 1

-- the last four are below this: 0 where there is no element, which none is below
unfoldable pub last_of : ℕ → ℕ
last_of size = pick (leb 1 size) (power (size - 8)) 0

-- the same by the type
unfoldable pub first_limit : ℕ → ℕ
first_limit kind = first_of (point_octets kind)

unfoldable pub last_limit : ℕ → ℕ
last_limit kind = last_of (point_octets kind)

-- the counter group and the octet after it, as a number, are at most this
unfoldable pub counter_limit : ℕ → ℕ
counter_limit kind = pick (is_counter kind) counter_groups 0

-- the types from 0 to the last that is a point's
abbrev pub types : ℕ
types = 41

-- the three limits, each of these types
unfoldable pub place_limits : List ℕ
place_limits = values_from first_limit 0 types ++ (values_from last_limit 0 types ++ values_from counter_limit 0 types)
