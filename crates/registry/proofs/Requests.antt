-- Registration of one point and removal: an accepted request makes a good table, one held more or less at its own station, the rest as it was.
-- Assumes nothing.
use mathlib.Core.Path.{◌≡◌, refl, sym, ap, ◌∙◌}
use mathlib.Core.List.{List, [], ◌∷◌, map}
use mathlib.Core.Bool.{Bool, true, false}
use mathlib.Core.Option.{Option, none, some}
use Prim.Native.Nat.{ℕ, ◌+◌}
use native.Mathlib.Omega.{arith}
use lib.ListN.{length}
use lib.Dec.{eqb}
use borrow.Author.Tests.{eqb-true, eqb-false}
use Rattle.limits.specs.Test.{pick}
use Rattle.std.specs.Prelude.{Ok, Err}
use Rattle.limits.specs.Outcome.{Outcome, done, is_done}
use Rattle.limits.specs.declared.outcome.Refusal.TheVariants.{AlreadyRegistered, CeilingReached, NotAdmitted}
use Rattle.limits.specs.Share.{admission_in}
use Rattle.limits.proofs.Outcomes.{not_both}
use Rattle.model.specs.declared.Point.{Point}
use Rattle.model.specs.declared.Request.{Request}
use Rattle.model.specs.Place.{point_ok}
use Rattle.model.specs.Request.{own_fault, point_of}
use Rattle.model.proofs.Requests.{faultless, done_point}
use Rattle.table.specs.Table.{Station, Table, held, share_of}
use Rattle.table.specs.Change.{station_of, with_points, changed, known, insert_in, remove_in, added, removed}
use Rattle.table.proofs.Parse.{Good}
use Rattle.table.proofs.Change.{station_found, good_added, changed_station, other_station, insert_length, remove_length}
use Rattle.registry.specs.Registry.{is_planned, is_registered, registered_fault, with_request}
use Rattle.registry.specs.History.{Twelve, held_by, held_at}

-- ---- what an accepted request says

-- A record without a fault is planned, and its point is as described.
pub described : (q : Request) (planned : Bool) → Twelve q → own_fault planned q ≡ done → (planned ≡ true) × (point_ok (point_of q) ≡ true)
described q planned w e =
    let p : planned ≡ true = (faultless planned q e).is_planned_lem in
    (p, done_point q w (ap (λ (b : Bool). own_fault b q) (sym p) ∙ e))

pub planned_is : (o : Option Station) → is_planned o ≡ true → (s : Station) × (o ≡ some s)
unfolding is_planned
planned_is none e = not_both e
planned_is (some s) e = (s, refl)

pub unregistered_is : (q : Request) (o : Option Station) → registered_fault q o ≡ done → is_registered q.ioa o ≡ false
unregistered_is q o e = by_test (is_registered q.ioa o) e
  where
    by_test : (b : Bool) → pick b (Err AlreadyRegistered) done ≡ done → b ≡ false
    by_test true e' = not_both (ap is_done e')
    by_test false e' = refl

-- ---- one point more

-- What an accepted request says: its station is planned, its point as described and new, and the share rule admits it.
pub record Accepted (t : Table) (q : Request) : Type 0 where
  pub station : Station
  pub found : station_of q.ca t.stations ≡ some station
  pub described : point_ok (point_of q) ≡ true
  pub new : known q.ioa station.points ≡ false
  pub admitted : admission_in t.capacity (map share_of t.stations) (share_of station) ≡ done

pub accepted_good : (t : Table) (q : Request) → Good t → Accepted t q → Good (with_request t q)
unfolding point_of
accepted_good t q g a = good_added t q.ca (point_of q) a.station g (station_found _ _ _ a.found) a.described a.new a.admitted

-- held at each address after a change of one station's points
held_changed : (t : Table) (ca other : ℕ) (f : List Point → List Point) (s : Station) → station_of ca t.stations ≡ some s
    → (b : Bool) → eqb ca other ≡ b → held_at other (changed t ca f) ≡ pick b (length (f s.points)) (held_at other t)
unfolding changed held_by
held_changed t ca other f s e true b =
    let q : ca ≡ other = eqb-true _ _ b in
    rw (← q) (ap held_by (changed_station ca f t.stations s e))
held_changed t ca other f s e false b = ap held_by (other_station ca other f t.stations (eqb-false _ _ b))

held_here : (t : Table) (ca other : ℕ) (s : Station) → station_of ca t.stations ≡ some s → eqb ca other ≡ true → held_at other t ≡ held s
unfolding held_by
held_here t ca other s e b = let q : ca ≡ other = eqb-true _ _ b in rw (← q) (ap held_by e)

-- One point more at the request's station, and none elsewhere.
pub held_added : (t : Table) (q : Request) (other : ℕ) (s : Station) → station_of q.ca t.stations ≡ some s
    → held_at other (with_request t q) ≡ held_at other t + pick (eqb q.ca other) 1 0
unfolding added
held_added t q other s e = by_test (eqb q.ca other) refl
  where
    by_test : (b : Bool) → eqb q.ca other ≡ b → held_at other (changed t q.ca (insert_in (point_of q))) ≡ held_at other t + pick b 1 0
    by_test true b =
        let h = held_changed t q.ca other (insert_in (point_of q)) s e true b in
        let l = insert_length (point_of q) s.points in
        let k = held_here t q.ca other s e b in
        omega arith
    by_test false b = let h = held_changed t q.ca other (insert_in (point_of q)) s e false b in omega arith

-- One point less at its station, and none elsewhere.
pub held_removed : (t : Table) (ca ioa other : ℕ) (s : Station) → station_of ca t.stations ≡ some s → known ioa s.points ≡ true
    → held_at other (removed t ca ioa) + pick (eqb ca other) 1 0 ≡ held_at other t
unfolding removed
held_removed t ca ioa other s e n = by_test (eqb ca other) refl
  where
    by_test : (b : Bool) → eqb ca other ≡ b → held_at other (changed t ca (remove_in ioa)) + pick b 1 0 ≡ held_at other t
    by_test true b =
        let h = held_changed t ca other (remove_in ioa) s e true b in
        let l = remove_length ioa s.points n in
        let k = held_here t ca other s e b in
        omega arith
    by_test false b = let h = held_changed t ca other (remove_in ioa) s e false b in omega arith

-- Nothing held anywhere after the removal of all.
pub held_emptied : (ss : List Station) (ca : ℕ) → held_by (station_of ca (map (with_points (λ (ps : List Point). [])) ss)) ≡ 0
unfolding held_by station_of
held_emptied [] ca = refl
held_emptied (s ∷ ss) ca = by_test (held_emptied ss ca) (eqb s.ca ca) refl
  where
    by_test : held_by (station_of ca (map (with_points (λ (ps : List Point). [])) ss)) ≡ 0 → (b : Bool) → eqb s.ca ca ≡ b
        → held_by (pick b (some (with_points (λ (ps : List Point). []) s)) (station_of ca (map (with_points (λ (ps : List Point). [])) ss))) ≡ 0
    by_test ih true t = refl
    by_test ih false t = ih
