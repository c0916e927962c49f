-- Demand 3: "From a table opened under a valid plan, after any calls, each given the table as the call before left it: no station holds more than its
-- ceiling, and a well-formed, unregistered point of a planned station holding less than its reservation is granted when registered alone, and at its
-- turn in a batch is never refused for room. Holdings are points granted minus removed, counted from the calls since opening. Room is refused exactly
-- by the share rule."
use Rattle.std.specs.Prelude.{ℕ, suc, ◌+◌, ◌-◌, ◌≤◌, ◌<◌, ◌≡◌, List, [], ◌∷◌, map, true, false, ◌⊎◌, length, eqb, Err}
use Rattle.std.proofs.Math.Option.{some}
use Rattle.limits.specs.Test.{◌&◌, pick, total}
use Rattle.limits.specs.Outcome.{Outcome, done}
use Rattle.limits.specs.declared.outcome.Refusal.TheVariants.{CeilingReached, NotAdmitted}
use Rattle.model.specs.declared.Request.{Request}
use Rattle.model.specs.Request.{own_fault, request_at}
use Rattle.table.specs.Table.{Station, Table, held, unmet, good}
use Rattle.table.specs.Change.{station_of}
use Rattle.table.specs.Memory.{parse}
use Rattle.registry.specs.Effect.{reply_on}
use Rattle.registry.specs.Registry.{is_planned, is_registered, room_fault, with_request, own_tests, registering_all}
use Rattle.registry.specs.Opening.{planned, opens, opened_memory}
use Rattle.registry.specs.History.{Line, line_of, Tally, at_opening, requests_of, held_at}
use Rattle.batch_records.specs.Records.{requests_in}
use Rattle.answers.specs.Said.{Lent, lent}
use Rattle.khuvelter.specs.declared.Reply.{Reply}
use Rattle.khuvelter.specs.Calls.{Change, Call, reply_to, left_by}
use Rattle.khuvelter.specs.Calls.Change.{register_point, register_points, unregister_point, unregister_all}
use Rattle.khuvelter.specs.Calls.Call.{open_table, change, ask}

-- ---- "after any calls, each given the table as the call before left it"

-- A call, and the memories other than the table's that are lent to it: any octets.
pub record Step : Type 0 where
  pub call : Call
  pub clock : List ℕ
  pub answer : List ℕ
  pub spontaneous : List ℕ

-- What is lent, the table being as the call before left it.
abbrev pub lent_at : List ℕ → Step → Lent
lent_at m s = lent m s.clock s.answer s.spontaneous

-- The table's memory after these calls.
unfoldable pub memory_after : List ℕ → List Step → List ℕ
memory_after m [] = m
memory_after m (s ∷ ss) = memory_after (left_by s.call (lent_at m s)).table ss

-- ---- "points granted minus removed, counted from the calls since opening"

-- The points that a call grants to a station, by its answer.
abbrev pub granted_by : ℕ → Change → Reply → ℕ
granted_by ca (register_point q) r = pick (eqb r.number 0 & eqb (request_at q 0).ca ca) 1 0
granted_by ca (register_points qs) r = pick (eqb r.number 0) (requests_of ca (requests_in qs)) 0
granted_by ca (unregister_point c ioa) r = 0
granted_by ca unregister_all r = 0

-- The points that a call removes from a station which has `left` of those granted, by its answer.
abbrev pub removed_by : ℕ → Change → Reply → ℕ → ℕ
removed_by ca (unregister_point c ioa) r left = pick (eqb r.number 0 & eqb c ca) 1 0
removed_by ca unregister_all r left = pick (eqb r.number 0) left 0
removed_by ca (register_point q) r left = 0
removed_by ca (register_points qs) r left = 0

-- What an owner can keep from the answers alone: K and the plan of the last accepted opening, and each station's points granted and removed since.
pub record Books : Type 0 where
  pub capacity : ℕ
  pub plan : List Line
  pub tally : ℕ → Tally

-- The books of a table just opened.
abbrev pub opened_books : ℕ → List ℕ → Books
opened_books k plan = record { capacity = k; plan = map line_of (planned plan); tally = λ ca. at_opening }

-- One call that changes which points there are, and its answer, counted.
abbrev pub counted : Books → Change → Reply → Books
counted b c r =
    record {
      capacity = b.capacity;
      plan = b.plan;
      tally = λ ca.
          record {
            granted = (b.tally ca).granted + granted_by ca c r;
            removed = (b.tally ca).removed + removed_by ca c r ((b.tally ca).granted - (b.tally ca).removed);
          };
    }

-- An accepted opening begins new books; a change is counted; a call that is answered by ASDUs grants and removes nothing.
abbrev pub entered : Books → Call → Reply → Books
entered b (open_table k plan) r = pick (eqb r.number 0) (opened_books k plan) b
entered b (change c) r = counted b c r
entered b (ask q) r = b

-- The books after these calls.
unfoldable pub books_after : Books → List ℕ → List Step → Books
books_after b m [] = b
books_after b m (s ∷ ss) = books_after (entered b s.call (reply_to s.call (lent_at m s))) (left_by s.call (lent_at m s)).table ss

-- ---- who has room

-- "A well-formed, unregistered point of a planned station."
pub record Registrable (t : Table) (q : Request) (s : Station) : Type 0 where
  pub described : own_fault (is_planned (station_of q.ca t.stations)) q ≡ done
  pub unregistered : is_registered q.ioa (station_of q.ca t.stations) ≡ false
  pub of_station : station_of q.ca t.stations ≡ some s

-- 19: "ceiling: held = c".
abbrev pub AtCeiling : Table → Station → Type 0
AtCeiling t s = held s ≡ s.ceiling

-- 20: "held < c, not admitted", that is neither held < r nor free > unmet.
pub record NotAdmittedIn (t : Table) (s : Station) : Type 0 where
  pub below_ceiling : held s < s.ceiling
  pub reservation_met : s.reservation ≤ held s
  pub free_is_kept : t.capacity - total held t.stations ≤ total unmet t.stations

-- A point registered alone, well formed and unregistered, of whose station P holds.
pub record Alone (t : Table) (q : Request) (P : Table → Station → Type 0) : Type 0 where
  pub station : Station
  pub registrable : Registrable t q station
  pub so : P t station

-- The turn of point i of a batch: the points before it have room and are taken in.
pub data Turn : Table → List Request → ℕ → Table → Request → Type 0 where
  turn_now : {t : Table} {q : Request} {qs : List Request} → Turn t (q ∷ qs) 0 t q
  turn_later : {t u : Table} {q r : Request} {qs : List Request} {i : ℕ} → room_fault t (station_of q.ca t.stations) ≡ done
      → Turn (with_request t q) qs i u r → Turn t (q ∷ qs) (suc i) u r

-- A batch whose points all pass their own tests, and P holds at the turn of point i of the table and the station then.
pub record AtTurn (t : Table) (qs : List Request) (i : ℕ) (P : Table → Station → Type 0) : Type 0 where
  pub own_tests_passed : (own_tests t [] 0 qs).outcome ≡ done
  pub table : Table
  pub asks : Request
  pub turn : Turn t qs i table asks
  pub station : Station
  pub of_station : station_of asks.ca table.stations ≡ some station
  pub so : P table station

-- The one wherever the other.
pub record Exactly (A B : Type 0) : Type 0 where
  pub only : A → B
  pub always : B → A

-- ---- the demand

-- What stands in the memory m, the books being b:
pub record Stands (b : Books) (m : List ℕ) : Type 0 where
  -- a good table, with the K and the plan of the books;
  pub table : Table
  pub read : parse m ≡ some table
  pub is_well_formed : good table ≡ true
  pub capacity : table.capacity ≡ b.capacity
  pub plan : map line_of table.stations ≡ b.plan
  -- "Holdings are points granted minus removed";
  pub holdings : (ca : ℕ) → held_at ca table ≡ (b.tally ca).granted - (b.tally ca).removed
  pub never_below : (ca : ℕ) → (b.tally ca).removed ≤ (b.tally ca).granted
  -- "no station holds more than its ceiling";
  pub ceilings : (ca : ℕ) (s : Station) → station_of ca table.stations ≡ some s → held s ≤ s.ceiling
  -- "a well-formed, unregistered point of a planned station holding less than its reservation is granted when registered alone,"
  pub granted_alone : (q : List ℕ) (l : Lent) (s : Station) → l.table ≡ m → Registrable table (request_at q 0) s → held s < s.reservation
      → (reply_to (change (register_point q)) l).number ≡ 0
  -- "and at its turn in a batch is never refused for room";
  pub never_refused : (qs : List ℕ) (i : ℕ) → AtTurn table (requests_in qs) i (λ u s. held s < s.reservation) → (o : Outcome) → (o ≡ (Err CeilingReached)) ⊎ (o ≡ (Err NotAdmitted))
      → reply_on (registering_all (requests_in qs)) m ≡ record { outcome = o; place = i } → ⊥
  -- "Room is refused exactly by the share rule": 19 and 20 of a point alone,
  pub ceiling_alone : (q : List ℕ) (l : Lent) → l.table ≡ m → Exactly ((reply_to (change (register_point q)) l).number ≡ 19) (Alone table (request_at q 0) AtCeiling)
  pub room_alone : (q : List ℕ) (l : Lent) → l.table ≡ m → Exactly ((reply_to (change (register_point q)) l).number ≡ 20) (Alone table (request_at q 0) NotAdmittedIn)
  -- and of a batch, which names the point.
  pub ceiling_in_batch : (qs : List ℕ) (i : ℕ)
      → Exactly (reply_on (registering_all (requests_in qs)) m ≡ record { outcome = (Err CeilingReached); place = i }) (AtTurn table (requests_in qs) i AtCeiling)
  pub room_in_batch : (qs : List ℕ) (i : ℕ)
      → Exactly (reply_on (registering_all (requests_in qs)) m ≡ record { outcome = (Err NotAdmitted); place = i }) (AtTurn table (requests_in qs) i NotAdmittedIn)

-- Demand 3: from a table opened under a valid plan, after any calls.
pub record TheShares : Type 0 where
  pub after_any_calls : (k : ℕ) (plan m : List ℕ) → opens k plan (length m) ≡ true → (steps : List Step)
      → Stands (books_after (opened_books k plan) (opened_memory k plan m) steps) (memory_after (opened_memory k plan m) steps)
