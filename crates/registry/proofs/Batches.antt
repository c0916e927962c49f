-- A batch: requests that passed their own tests stay ready while those before them are taken in, so the table stays good at every turn. Assumes nothing.
use mathlib.Core.Path.{◌≡◌, refl, sym, ap, ◌∙◌}
use mathlib.Core.List.{List, [], ◌∷◌}
use mathlib.Core.Bool.{Bool, true, false}
use mathlib.Core.Option.{Option, some}
use Prim.Native.Nat.{ℕ, ◌+◌}
use native.Mathlib.Omega.{arith}
use lib.Dec.{eqb}
use borrow.Author.Tests.{eqb-true, eqb-false}
use Rattle.limits.specs.Test.{◌&◌, pick}
use Rattle.std.specs.Prelude.{Err}
use Rattle.limits.specs.Outcome.{done, is_done}
use Rattle.limits.specs.declared.outcome.Refusal.TheVariants.{AddressTwice}
use Rattle.limits.proofs.Outcomes.{not_both, first_done, done_is}
use Rattle.model.specs.declared.Request.{Request}
use Rattle.model.specs.Request.{own_fault, point_of}
use Rattle.table.specs.Table.{Station, Table}
use Rattle.table.specs.Change.{station_of, in_station, with_points, with_stations, changed, known, insert_in, added}
use Rattle.table.proofs.Parse.{Good}
use Rattle.table.proofs.Change.{changed_station, other_station, known_insert}
use Rattle.registry.specs.Effect.{Effect, refused}
use Rattle.registry.specs.Registry.{is_planned, is_registered, room_fault, with_request, stands_in, batch_fault, own_tests, room_tests}
use Rattle.registry.specs.History.{Twelve, AllTwelve, held_at, requests_of}
use Rattle.registry.proofs.Requests.{Accepted, accepted_good, held_added, described, planned_is, unregistered_is}

-- ---- requests that have passed 11 to 17

-- the addresses differ
abbrev pub Apart : Request → Request → Type 0
Apart a b = (eqb a.ca b.ca & eqb a.ioa b.ioa) ≡ false

pub data AllApart (a : Request) : List Request → Type 0 where
  apart_none : AllApart a []
  apart_more : {q : Request} {qs : List Request} → Apart a q → AllApart a qs → AllApart a (q ∷ qs)

-- one request passed its own tests against a table
pub record Passes (t : Table) (q : Request) : Type 0 where
  pub own : own_fault (is_planned (station_of q.ca t.stations)) q ≡ done
  pub new : is_registered q.ioa (station_of q.ca t.stations) ≡ false

-- all of them did, and no two have one address
pub data Ready (t : Table) : List Request → Type 0 where
  ready_none : Ready t []
  ready_more : {q : Request} {qs : List Request} → Passes t q → AllApart q qs → Ready t qs → Ready t (q ∷ qs)

-- each of a list is apart from each of another
pub data EachApart : List Request → List Request → Type 0 where
  each_none : {qs : List Request} → EachApart [] qs
  each_more : {e : Request} {es qs : List Request} → AllApart e qs → EachApart es qs → EachApart (e ∷ es) qs

each_nil : (es : List Request) → EachApart es []
each_nil [] = each_none
each_nil (e ∷ es) = each_more apart_none (each_nil es)

each_cons : (es : List Request) (q : Request) (qs : List Request) → stands_in q es ≡ false → EachApart es qs → EachApart es (q ∷ qs)
unfolding stands_in
each_cons [] q qs s a = each_none
each_cons (e ∷ es) q qs s (each_more x y) = by_test (λ r. each_cons es q qs r y) (eqb e.ca q.ca & eqb e.ioa q.ioa) refl s
  where
    by_test : (stands_in q es ≡ false → EachApart es (q ∷ qs)) → (b : Bool) → (eqb e.ca q.ca & eqb e.ioa q.ioa) ≡ b
        → pick b true (stands_in q es) ≡ false → EachApart (e ∷ es) (q ∷ qs)
    by_test ih true t s' = not_both (sym s')
    by_test ih false t s' = each_more (apart_more t x) (ih s')

twice_is : (b : Bool) → pick b (Err AddressTwice) done ≡ done → b ≡ false
twice_is true e = not_both (ap is_done e)
twice_is false e = refl

-- Where the own tests are passed, all are ready, and apart from those that stand earlier.
pub own_tests_ready : (t : Table) (earlier : List Request) (i : ℕ) (qs : List Request) → (own_tests t earlier i qs).outcome ≡ done
    → Ready t qs × EachApart earlier qs
unfolding own_tests batch_fault
own_tests_ready t earlier i [] e = (ready_none, each_nil earlier)
own_tests_ready t earlier i (q ∷ qs) e = by_test (λ r. own_tests_ready t (q ∷ earlier) (i + 1) qs r) (is_done (batch_fault t earlier q)) refl e
  where
    split : Ready t qs × EachApart (q ∷ earlier) qs → batch_fault t earlier q ≡ done → Ready t (q ∷ qs) × EachApart earlier (q ∷ qs)
    split (r, each_more x y) d =
        let f1 = first_done _ _ d in
        let f2 = first_done _ _ f1.1 in
        (ready_more (record { own = f1.0; new = unregistered_is q _ f2.1 }) x r, each_cons earlier q qs (twice_is _ f2.0) y)

    by_test : ((own_tests t (q ∷ earlier) (i + 1) qs).outcome ≡ done → Ready t qs × EachApart (q ∷ earlier) qs)
        → (b : Bool) → is_done (batch_fault t earlier q) ≡ b
        → (pick b (own_tests t (q ∷ earlier) (i + 1) qs) (record { outcome = batch_fault t earlier q; place = i })).outcome ≡ done
        → Ready t (q ∷ qs) × EachApart earlier (q ∷ qs)
    by_test ih true d e' = split (ih e') (done_is _ d)
    by_test ih false d e' = not_both (sym d ∙ ap is_done e')

-- ---- taking in the first keeps the others ready

-- a request passes as it did, where the points of its own station did not come to have its address
passes_like : (t : Table) (q r : Request) (s : Station) → station_of q.ca t.stations ≡ some s → Apart q r → Passes t r → Passes (with_request t q) r
unfolding added changed is_planned is_registered ◌&◌ point_of
passes_like t q r s e x p = by_test (eqb q.ca r.ca) refl x
  where
    by_test : (b : Bool) → eqb q.ca r.ca ≡ b → (b & eqb q.ioa r.ioa) ≡ false
        → Passes (with_stations (in_station q.ca (with_points (insert_in (point_of q))) t.stations) t) r
    by_test true b x' =
        let c : q.ca ≡ r.ca = eqb-true _ _ b in
        let old : station_of r.ca t.stations ≡ some s = rw (← c) e in
        let now : station_of r.ca (in_station q.ca (with_points (insert_in (point_of q))) t.stations) ≡ some (with_points (insert_in (point_of q)) s) =
        rw (← c) (changed_station q.ca (insert_in (point_of q)) t.stations s e) in
        let was : known r.ioa s.points ≡ false = sym (ap (is_registered r.ioa) old) ∙ p.new in
        record {
          own = ap (λ (o : Option Station). own_fault (is_planned o) r) now ∙ sym (ap (λ (o : Option Station). own_fault (is_planned o) r) old) ∙ p.own;
          new = ap (is_registered r.ioa) now ∙ known_insert (point_of q) r.ioa s.points ∙ simp (x', was);
        }
    by_test false b x' =
        let o = other_station q.ca r.ca (insert_in (point_of q)) t.stations (eqb-false _ _ b) in
        record {
          own = ap (λ (o : Option Station). own_fault (is_planned o) r) o ∙ p.own;
          new = ap (is_registered r.ioa) o ∙ p.new;
        }

pub ready_after : (t : Table) (q : Request) (s : Station) (qs : List Request) → station_of q.ca t.stations ≡ some s → AllApart q qs → Ready t qs
    → Ready (with_request t q) qs
ready_after t q s [] e apart_none ready_none = ready_none
ready_after t q s (r ∷ rs) e (apart_more x xs) (ready_more p a y) = ready_more (passes_like t q r s e x p) a (ready_after t q s rs e xs y)

-- ---- the turns of a batch

-- The table at the turn of a request: those before it have been admitted and taken in.
pub data Turn : Table → List Request → Table → Request → Type 0 where
  turn_now : {t : Table} {q : Request} {qs : List Request} → Turn t (q ∷ qs) t q
  turn_later : {t u : Table} {q r : Request} {qs : List Request} → room_fault t (station_of q.ca t.stations) ≡ done → Turn (with_request t q) qs u r
      → Turn t (q ∷ qs) u r

-- A request that passed and has room is accepted.
pub passes_accepted : (t : Table) (q : Request) → Twelve q → Passes t q → room_fault t (station_of q.ca t.stations) ≡ done → Accepted t q
unfolding is_registered room_fault
passes_accepted t q w p r =
    let d = described q _ w p.own in
    let s = planned_is (station_of q.ca t.stations) d.0 in
    record {
      station = s.0;
      found = s.1;
      described = d.1;
      new = sym (ap (is_registered q.ioa) s.1) ∙ p.new;
      admitted = sym (ap (room_fault t) s.1) ∙ r;
    }

-- At every turn the table is good and the request passes.
pub turn_good : (t : Table) (qs : List Request) (u : Table) (r : Request) → Good t → Ready t qs → AllTwelve qs → Turn t qs u r → Good u × Passes u r
unfolding AllTwelve
turn_good t [] u r g _ w turned = elim turned [ ]
turn_good t (q ∷ qs) u r g (ready_more p x y) w turn_now = (g, p)
turn_good t (q ∷ qs) u r g (ready_more p x y) w (turn_later d l) =
    let a = passes_accepted t q w.0 p d in
    turn_good (with_request t q) qs u r (accepted_good t q g a) (ready_after t q a.station qs a.found x y) w.1 l

-- A batch that has room throughout leaves a good table with its points granted, each at its own station.
pub room_tests_good : (t : Table) (i : ℕ) (qs : List Request) → Good t → Ready t qs → AllTwelve qs → (room_tests t i qs).outcome ≡ done
    → Good (room_tests t i qs).after × ((ca : ℕ) → held_at ca (room_tests t i qs).after ≡ held_at ca t + requests_of ca qs)
unfolding AllTwelve room_tests requests_of
room_tests_good t i [] g r w e = (g, λ ca. omega arith)
room_tests_good t i (q ∷ qs) g (ready_more p x y) w e =
    by_test (λ d f.
    let a = passes_accepted t q w.0 p d in
    let ih = room_tests_good (with_request t q) (i + 1) qs (accepted_good t q g a) (ready_after t q a.station qs a.found x y) w.1 f in
    (ih.0, λ ca. let h = ih.1 ca in let k = held_added t q ca a.station a.found in omega arith))
    (is_done (room_fault t (station_of q.ca t.stations))) refl e
  where
    Goal : Effect → Type 0
    Goal z = Good z.after × ((ca : ℕ) → held_at ca z.after ≡ held_at ca t + (pick (eqb q.ca ca) 1 0 + requests_of ca qs))

    by_test : (room_fault t (station_of q.ca t.stations) ≡ done → (room_tests (with_request t q) (i + 1) qs).outcome ≡ done → Goal (room_tests (with_request t q) (i + 1) qs))
        → (b : Bool) → is_done (room_fault t (station_of q.ca t.stations)) ≡ b
        → (pick b (room_tests (with_request t q) (i + 1) qs) (record { outcome = room_fault t (station_of q.ca t.stations); place = i; after = t })).outcome ≡ done
        → Goal (pick b (room_tests (with_request t q) (i + 1) qs) (record { outcome = room_fault t (station_of q.ca t.stations); place = i; after = t }))
    by_test ih true d e' = ih (done_is _ d) e'
    by_test ih false d e' = not_both (sym d ∙ ap is_done e')

-- ---- the settings

-- A batch keeps the table's settings.
pub room_settings : (t : Table) (i : ℕ) (qs : List Request) → (room_tests t i qs).after.settings ≡ t.settings
unfolding room_tests added changed
room_settings t i [] = refl
room_settings t i (q ∷ qs) = by_test (room_settings (with_request t q) (i + 1) qs) (is_done (room_fault t (station_of q.ca t.stations)))
  where
    by_test : (room_tests (with_request t q) (i + 1) qs).after.settings ≡ t.settings
        → (b : Bool) → (pick b (room_tests (with_request t q) (i + 1) qs) (refused (room_fault t (station_of q.ca t.stations)) i t)).after.settings ≡ t.settings
    by_test ih true = ih
    by_test ih false = refl
