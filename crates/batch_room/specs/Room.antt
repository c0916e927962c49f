-- The share rule over a batch: the answer, and below the line the turns as the code takes them.
-- Document 01, 'Points, stations and shares': then the share rule as if registered one by one.
use Rattle.std.specs.Prelude.{ℕ, ◌+◌, ◌*◌, ◌-◌, ◌≡◌, List, [], ◌∷◌, map, get_or, set, Option, Some, None, Result, Ok, Err, is_ok}
use Rattle.limits.specs.Test.{pick}
use Rattle.limits.specs.Share.{unmet_of, taken_in, admission_of}
use Rattle.limits.specs.Outcome.{Outcome, done}
use Rattle.limits.specs.declared.outcome.Refusal.{Refusal}
use Rattle.limits.specs.declared.outcome.Refusal.TheVariants.{StationNotPlanned}
use Rattle.limits.specs.declared.share.Share.{Share}
use Rattle.layout.specs.Layout.{station_size, stations_from}
use Rattle.model.specs.declared.Request.{Request}
use Rattle.lookup.specs.declared.Seat.{Seat}
use Rattle.lookup.specs.Seats.{seat_at}
use Rattle.table.specs.Table.{Station, Table, held}
use Rattle.wellformed.specs.Station.{share_at}
use Rattle.registry.specs.Effect.{Reply}
use Rattle.registry.specs.Registry.{room_tests}
use Rattle.registry.specs.History.{Holding, holding_of}
use Rattle.batch_room.specs.declared.Standing.{Standing}

-- What the share rule answers to a batch: Done, or the first point that has no room, counted from 0.
unfoldable pub room_reply : Table → List Request → Reply
room_reply t qs = record { outcome = (room_tests t 0 qs).outcome; place = (room_tests t 0 qs).place }

-- What stations hold with what each took in besides, the first of them having index i.
unfoldable pub holding_with : List Station → List ℕ → ℕ → List Holding
holding_with [] taken i = []
holding_with (s ∷ ss) taken i =
    record { ca = s.ca; reservation = s.reservation; ceiling = s.ceiling; held = held s + get_or taken i 0 } ∷ holding_with ss taken (i + 1)

-- Where a batch has room, what each station took in is what it holds more afterwards.
abbrev pub TookIn : Table → List Request → List ℕ → Type 0
TookIn t qs taken = (room_tests t 0 qs).outcome ≡ done → map holding_of (room_tests t 0 qs).after.stations ≡ holding_with t.stations taken 0

-- ---- as the code runs: nobody need believe what follows, `room_fresh` ties it to `room_reply`

-- the share of the station whose octets lie from `at`, with `taken` points more than they say
unfoldable pub share_with : List ℕ → ℕ → ℕ → Share
share_with m at taken = record { held = (share_at m at).held + taken; reservation = (share_at m at).reservation; ceiling = (share_at m at).ceiling }

-- with one point more of the share: what is free, and what is kept for all stations
abbrev pub one_more : Share → Standing → Standing
one_more s now = record { free = now.free - 1; unmet = now.unmet - (unmet_of s - unmet_of (taken_in s)) }

-- what stands where the rule admits, or its refusal
abbrev pub admitting : Outcome → Standing → Result Standing Refusal
admitting (Ok u) after = Ok after
admitting (Err r) after = Err r

-- the rule's answer: what is free and kept with one point more, or a refusal
unfoldable pub standing_of : Share → Standing → Result Standing Refusal
standing_of s now = admitting (admission_of s now.free now.unmet) (one_more s now)

-- where the octets of the station of index i lie
abbrev pub station_at : List ℕ → ℕ → ℕ
station_at m i = stations_from m + station_size * i

-- the turn of a request whose station has a seat
unfoldable pub standing_at : List ℕ → List ℕ → Option Seat → Standing → Result Standing Refusal
standing_at m taken (Some seat) now = standing_of (share_with m (station_at m seat.index) (get_or taken seat.index 0)) now
standing_at m taken None now = Err StationNotPlanned

-- what the stations have taken in after the turn
unfoldable pub taken_at : List ℕ → List ℕ → Option Seat → Standing → List ℕ
taken_at m taken (Some seat) now =
    pick (is_ok (standing_of (share_with m (station_at m seat.index) (get_or taken seat.index 0)) now))
    (set taken seat.index (get_or taken seat.index 0 + 1)) taken
taken_at m taken None now = taken

-- what the turn of a request of station `ca` gives back, and what the stations have then taken in
abbrev pub Turned : List ℕ → List ℕ → ℕ → Standing → Result Standing Refusal → List ℕ → Type 0
Turned m taken ca now result taken' = (result ≡ standing_at m taken (seat_at m ca) now) × (taken' ≡ taken_at m taken (seat_at m ca) now)

-- on with the rest where a turn was admitted, else the end
abbrev pub going_on : {A : Type 0} → Result Standing Refusal → (Standing → A) → (Refusal → A) → A
going_on (Ok after) rest end = rest after
going_on (Err r) rest end = end r

-- the turns of the requests, the first of which has place i
unfoldable pub room_run : List ℕ → List ℕ → Standing → ℕ → List Request → Reply
room_run m taken now i [] = record { outcome = done; place = 0 }
room_run m taken now i (q ∷ qs) =
    going_on (standing_at m taken (seat_at m q.ca) now)
    (λ after. room_run m (taken_at m taken (seat_at m q.ca) now) after (i + 1) qs)
    (λ r. record { outcome = Err r; place = i })

-- what the stations have taken in after those turns
unfoldable pub taken_run : List ℕ → List ℕ → Standing → List Request → List ℕ
taken_run m taken now [] = taken
taken_run m taken now (q ∷ qs) =
    going_on (standing_at m taken (seat_at m q.ca) now)
    (λ after. taken_run m (taken_at m taken (seat_at m q.ca) now) after qs)
    (λ r. taken_at m taken (seat_at m q.ca) now)

-- what all turns give back, and what the stations have then taken in
abbrev pub AllTurned : List ℕ → List ℕ → Standing → List Request → Reply → List ℕ → Type 0
AllTurned m taken first qs reply taken' = (reply ≡ room_run m taken first 0 qs) × (taken' ≡ taken_run m taken first qs)
