-- The places that a common address speaks of, as the code finds them. Nobody need believe these: a law ties them to `points_for`.
use Rattle.std.specs.Prelude.{ℕ, List, true, false, eqb, Option, Some, None}
use Rattle.limits.specs.Test.{pick}
use Rattle.layout.specs.Layout.{head_size, points_in}
use Rattle.asdu.specs.Header.{global_address}
use Rattle.lookup.specs.declared.Seat.{Seat}
use Rattle.lookup.specs.Seats.{seat_at}
use Rattle.report.specs.declared.Reach.{Reach}

-- a station's own places
abbrev pub seat_reach : Option Seat → Reach
seat_reach (Some seat) = record { base = seat.first; n = seat.held; every = false }
seat_reach None = record { base = head_size; n = 0; every = false }

-- a CA's places
unfoldable pub reach_of : List ℕ → ℕ → Reach
reach_of m ca = pick (eqb ca global_address) (record { base = head_size; n = points_in m; every = true }) (seat_reach (seat_at m ca))
