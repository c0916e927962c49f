-- Registration of one point and of a batch, removal, and a station's share, said of a table.
-- Document 01, 'Points, stations and shares' and 'Numbers given back'.
use Rattle.std.specs.Prelude.{ℕ, ◌+◌, ◌-◌, List, [], ◌∷◌, map, Bool, true, false, eqb, Ok, Err, Result}
use Rattle.std.proofs.Math.Option.{Option, none, some}
use Rattle.limits.specs.Test.{◌&◌, pick, total}
use Rattle.limits.specs.Share.{admission_in}
use Rattle.limits.specs.declared.outcome.Refusal.{Refusal}
use Rattle.limits.specs.Outcome.{Outcome, done, is_done}
use Rattle.limits.specs.declared.outcome.Refusal.TheVariants.{TableNotWellFormed, StationNotPlanned, AddressTwice, AlreadyRegistered, NotRegistered, CeilingReached, NotAdmitted}
use Rattle.model.specs.declared.Request.{Request}
use Rattle.model.specs.Request.{own_fault, point_of}
use Rattle.table.specs.Table.{Station, Table, held, unmet, share_of}
use Rattle.table.specs.Memory.{parse}
use Rattle.table.specs.Change.{station_of, known, added, removed, emptied}
use Rattle.registry.specs.Effect.{Reply, Effect, refused, accepted, first_fault}
use Rattle.registry.specs.declared.StationShare.{StationShare}

-- ---- one point

-- Is the CA in the plan?
unfoldable pub is_planned : Option Station → Bool
is_planned none = false
is_planned (some s) = true

-- Is a point with this IOA registered in the station?
unfoldable pub is_registered : ℕ → Option Station → Bool
is_registered ioa none = false
is_registered ioa (some s) = known ioa s.points

-- The share rule's answer to one more point of a station of the table.
unfoldable pub room_fault : Table → Option Station → Outcome
room_fault t none = (Err StationNotPlanned)
room_fault t (some s) = admission_in t.capacity (map share_of t.stations) (share_of s)

-- Already registered (17)?
abbrev pub registered_fault : Request → Option Station → Outcome
registered_fault q s = pick (is_registered q.ioa s) (Err AlreadyRegistered) done

-- The outcome of registering one point: 11 to 15, 17, then 19 and 20.
unfoldable pub request_outcome : Table → Request → Option Station → Outcome
request_outcome t q s = first_fault (own_fault (is_planned s) q) (first_fault (registered_fault q s) (room_fault t s))

-- The table with the point of a request.
abbrev pub with_request : Table → Request → Table
with_request t q = added t q.ca (point_of q)

-- Registering one point.
unfoldable pub registering : Request → Table → Effect
registering q t = record { outcome = request_outcome t q (station_of q.ca t.stations); place = 0; after = with_request t q }

-- ---- a batch

-- Does the request's address stand in a list of requests?
unfoldable pub stands_in : Request → List Request → Bool
stands_in q [] = false
stands_in q (e ∷ es) = pick (eqb e.ca q.ca & eqb e.ioa q.ioa) true (stands_in q es)

-- The tests 11 to 17 of one request, `earlier` being those that stand before it in the batch.
unfoldable pub batch_fault : Table → List Request → Request → Outcome
batch_fault t earlier q =
    first_fault (own_fault (is_planned (station_of q.ca t.stations)) q)
    (first_fault (pick (stands_in q earlier) (Err AddressTwice) done) (registered_fault q (station_of q.ca t.stations)))

-- Every request passes its own tests in list order; the first that does not is named, counted from i.
unfoldable pub own_tests : Table → List Request → ℕ → List Request → Reply
own_tests t earlier i [] = record { outcome = done; place = 0 }
own_tests t earlier i (q ∷ qs) =
    pick (is_done (batch_fault t earlier q)) (own_tests t (q ∷ earlier) (i + 1) qs) (record { outcome = batch_fault t earlier q; place = i })

-- Then the share rule, as if the points were registered one by one.
unfoldable pub room_tests : Table → ℕ → List Request → Effect
room_tests t i [] = accepted 0 t
room_tests t i (q ∷ qs) =
    pick (is_done (room_fault t (station_of q.ca t.stations)))
    (room_tests (with_request t q) (i + 1) qs)
    (refused (room_fault t (station_of q.ca t.stations)) i t)

-- Registering a batch: all or none.
unfoldable pub registering_all : List Request → Table → Effect
registering_all qs t =
    pick (is_done (own_tests t [] 0 qs).outcome) (room_tests t 0 qs) (refused (own_tests t [] 0 qs).outcome (own_tests t [] 0 qs).place t)

-- ---- removal

-- Removing one point.
unfoldable pub unregistering : ℕ → ℕ → Table → Effect
unregistering ca ioa t =
    pick (is_registered ioa (station_of ca t.stations)) (accepted 0 (removed t ca ioa)) (refused (Err NotRegistered) 0 t)

-- Removing all points gives back their number and keeps the plan.
unfoldable pub unregistering_all : Table → Effect
unregistering_all t = accepted (total held t.stations) (emptied t)

-- ---- a station's share

unfoldable pub share_in : Table → Option Station → Result StationShare Refusal
share_in t none = Err StationNotPlanned
share_in t (some s) =
    Ok
    record {
      share = share_of s;
      free = t.capacity - total held t.stations;
      unmet = total unmet t.stations;
    }

unfoldable pub share_from : ℕ → Option Table → Result StationShare Refusal
share_from ca none = Err TableNotWellFormed
share_from ca (some t) = share_in t (station_of ca t.stations)

-- The share of a station, as a lent memory says: 3, then 12.
abbrev pub share_on : ℕ → List ℕ → Result StationShare Refusal
share_on ca m = share_from ca (parse m)
