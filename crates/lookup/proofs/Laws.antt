-- What a seat says of the table: which station it is, and that the places from it are the station's points. Assumes nothing.
use mathlib.Core.Path.{◌≡◌, refl, sym, ap, ◌∙◌, subst}
use mathlib.Core.List.{List, [], ◌∷◌, ◌++◌}
use mathlib.Core.Bool.{Bool, true, false}
use mathlib.Core.Option.{none, some}
use Prim.Native.Nat.{ℕ, zero, suc, ◌+◌, ◌*◌, ◌≤◌, ◌<◌}
use native.Mathlib.Omega.{arith}
use lib.ListN.{length, length-append}
use lib.Dec.{eqb}
use borrow.Author.Tests.{eqb-true, eqb-false}
use Rattle.std.specs.Prelude.{Option, Some, None}
use Rattle.limits.specs.Test.{pick, total}
use Rattle.octets.specs.Number.{two, Octets}
use Rattle.octets.proofs.At.{At, at_fst, at_rest}
use Rattle.table.specs.Table.{Station, Table, held, rising, bodies, places_of}
use Rattle.table.specs.Memory.{points_at, stations_at, table_of, well_formed}
use Rattle.table.specs.Change.{station_of, seek_in}
use Rattle.table.proofs.Points.{length_points_at, points_complete}
use Rattle.table.proofs.Stations.{length_bodies}
use Rattle.table.proofs.Parse.{Good, Laid, holds, passed}
use Rattle.table.proofs.Cut.{bodies_at_lem, held_at_lem}
use Rattle.table.proofs.Change.{Found, station_rises}
use Rattle.table.proofs.Change.Absent.{absent_none, absent_more}
use Rattle.lookup.specs.declared.Seat.{Seat}
use Rattle.lookup.specs.Seats.{here, seat_in, seat_at}

-- ---- the seat in a list of stations

-- the seat among stations, the first of which has index i and its places from `pb`
unfoldable pub seat_of : ℕ → ℕ → ℕ → List Station → Option Seat
seat_of ca i pb [] = None
seat_of ca i pb (s ∷ ss) = pick (eqb s.ca ca) (here i pb (held s)) (seat_of ca (i + 1) (pb + 48 * held s) ss)

-- what the code finds, as of the stations read: no condition
pub seat_is : (m : List ℕ) (ca i pb sb n : ℕ) → seat_in m ca i pb sb n ≡ seat_of ca i pb (stations_at m pb sb n)
unfolding seat_in seat_of stations_at
seat_is m ca i pb sb zero = refl
seat_is m ca i pb sb (suc n) =
    let e : length (points_at m pb (two m (sb + 6))) ≡ two m (sb + 6) = length_points_at m pb (two m (sb + 6)) in
    rw e (ap (λ (r : Option Seat). pick (eqb (two m sb) ca) (here i pb (two m (sb + 6))) r) (seat_is m ca (i + 1) (pb + 48 * two m (sb + 6)) (sb + 8) n))

-- The seat read from memory is the seat in the table that the memory holds.
pub seat_of_lem : (m : List ℕ) (ca : ℕ) → seat_at m ca ≡ seat_of ca 0 64 (table_of m).stations
unfolding seat_at table_of
seat_of_lem m ca = seat_is m ca 0 64 (64 + 48 * two m 4) (two m 6)

-- what a seat says of stations whose first has index i and its places from `pb`: the station, what stands before and after it, and its numbers
pub record Seated (ss : List Station) (ca i pb j first h : ℕ) : Type 0 where
  pub s : Station
  pub found : Found ca ss s
  pub is_station : station_of ca ss ≡ some s
  pub count : h ≡ held s
  pub index : j ≡ i + length found.before
  pub place : first ≡ pb + 48 * total held found.before

-- one seat, one set of numbers
pub same_numbers : {i pb g j first h : ℕ} → here i pb g ≡ here j first h → (i ≡ j) × (pb ≡ first) × (g ≡ h)
same_numbers {i} {pb} {g} {j} {first} {h} e =
    let s : ◌≡◌ {A = Seat} (record { index = i; first = pb; held = g }) (record { index = j; first = first; held = h }) = cc in
    (ap (λ (x : Seat). x.index) s, ap (λ (x : Seat). x.first) s, ap (λ (x : Seat). x.held) s)

-- a seat found
pub seated : (ca i pb : ℕ) (ss : List Station) (j first h : ℕ) → seat_of ca i pb ss ≡ here j first h → Seated ss ca i pb j first h
unfolding seat_of station_of total
seated ca i pb [] j first h e = let z : ◌≡◌ {A = ℕ} 0 1 = cc in absurd (omega arith)
seated ca i pb (s ∷ ss) j first h e = go (eqb s.ca ca) refl e (λ f. seated ca (i + 1) (pb + 48 * held s) ss j first h f)
  where
    go : (b : Bool) → eqb s.ca ca ≡ b → pick b (here i pb (held s)) (seat_of ca (i + 1) (pb + 48 * held s) ss) ≡ here j first h
        → (seat_of ca (i + 1) (pb + 48 * held s) ss ≡ here j first h → Seated ss ca (i + 1) (pb + 48 * held s) j first h) → Seated (s ∷ ss) ca i pb j first h
    go true t f again =
        let n = same_numbers f in
        let x = n.0 in
        let p = n.1 in
        record {
          s = s;
          found = record { before = []; after = ss; split = refl; absent = absent_none; is_ca = eqb-true _ _ t };
          is_station = simp t;
          count = sym n.2;
          index = omega arith;
          place = omega arith;
        }
    go false t f again =
        let ih : Seated ss ca (i + 1) (pb + 48 * held s) j first h = again f in
        let w = ih.found in
        let pl : first ≡ pb + 48 * held s + 48 * total held w.before = ih.place in
        let ix : j ≡ i + 1 + length w.before = ih.index in
        record {
          s = ih.s;
          found = record {
            before = s ∷ w.before;
            after = w.after;
            split = ap (λ (l : List Station). s ∷ l) w.split;
            absent = absent_more (eqb-false _ _ t) w.absent;
            is_ca = w.is_ca;
          };
          is_station = simp t ih.is_station;
          count = ih.count;
          index = omega arith;
          place = omega arith;
        }

-- none found: the plan has no such station
pub not_planned : (ca i pb : ℕ) (ss : List Station) → seat_of ca i pb ss ≡ None → station_of ca ss ≡ none
unfolding seat_of station_of
not_planned ca i pb [] e = refl
not_planned ca i pb (s ∷ ss) e = go (eqb s.ca ca) e (λ f. not_planned ca (i + 1) (pb + 48 * held s) ss f)
  where
    go : (b : Bool) → pick b (here i pb (held s)) (seat_of ca (i + 1) (pb + 48 * held s) ss) ≡ None
        → (seat_of ca (i + 1) (pb + 48 * held s) ss ≡ None → station_of ca ss ≡ none) → pick b (some s) (station_of ca ss) ≡ none
    go true f again = let z : ◌≡◌ {A = ℕ} 0 1 = cc in absurd (omega arith)
    go false f again = again f

-- ---- the places of the station

-- The places from a seat found are the station's points, in a memory that holds a good table.
pub seat_points : (m : List ℕ) (t : Table) (ca i first h : ℕ) → Good t → Laid m t → (d : Seated t.stations ca 0 64 i first h)
    → At m first (places_of ca d.s.points) × (points_at m first h ≡ d.s.points)
seat_points m t ca i first h g l d =
    let s : Station = d.s in
    let w = d.found in
    let P : List ℕ = places_of s.ca s.points in
    let b : bodies t.stations ≡ bodies w.before ++ (P ++ bodies w.after) = ap bodies w.split ∙ bodies_at_lem w.before s w.after in
    let c : At m 64 (bodies w.before ++ (P ++ bodies w.after)) = subst (λ (x : List ℕ). At m 64 x) b l.places in
    let e : At m (64 + 48 * total held w.before) (P ++ bodies w.after) =
    at_rest m (bodies w.before) (P ++ bodies w.after) 64 (48 * total held w.before) (length_bodies w.before) c in
    let f : At m (64 + 48 * total held w.before) P = at_fst m P (bodies w.after) (64 + 48 * total held w.before) e in
    let q : At m first P = subst (λ (x : ℕ). At m x P) (sym d.place) f in
    let p = points_complete m first s.ca 0 s.points q (station_rises t ca s g w) in
    (subst (λ (x : ℕ). At m first (places_of x s.points)) w.is_ca q, ap (points_at m first) d.count ∙ p.0)

-- ---- the laws as a caller has them, who asked `well_formed`

-- What a seat of a well-formed table says: the station, its places, its points, and bounds on the numbers.
pub record Seen (m : List ℕ) (ca i first h : ℕ) : Type 0 where
  pub seat : Seated (table_of m).stations ca 0 64 i first h
  pub lies : At m first (places_of ca seat.s.points)
  pub points : points_at m first h ≡ seat.s.points
  pub rises : rising 0 seat.s.points ≡ true
  pub places : first + 48 * h ≤ 64 + 48 * two m 8
  pub stations : i < two m 6

-- A seat found in a well-formed memory.
pub seat_law : (m : List ℕ) (ca i first h : ℕ) → Octets m → well_formed m ≡ true → seat_at m ca ≡ here i first h → Seen m ca i first h
seat_law m ca i first h o w e =
    let gl = holds m o w in
    let t : Table = table_of m in
    let d : Seated t.stations ca 0 64 i first h = seated ca 0 64 t.stations i first h (sym (seat_of_lem m ca) ∙ e) in
    let p = seat_points m t ca i first h gl.0 gl.1 d in
    let f = d.found in
    let n : two m 8 ≡ total held t.stations = gl.1.is_n in
    let k : two m 6 ≡ length t.stations = gl.1.is_s in
    let a : total held t.stations ≡ total held f.before + (held d.s + total held f.after) = ap (total held) f.split ∙ held_at_lem f.before d.s f.after in
    let c : length t.stations ≡ length f.before + suc (length f.after) = ap length f.split ∙ length-append f.before (d.s ∷ f.after) in
    let x : i ≡ 0 + length f.before = d.index in
    let y : h ≡ held d.s = d.count in
    let z : first ≡ 64 + 48 * total held f.before = d.place in
    record { seat = d; lies = p.0; points = p.1; rises = station_rises t ca d.s gl.0 f; places = omega arith; stations = omega arith }

-- No seat: the plan has no such station.
pub absent_law : (m : List ℕ) (ca : ℕ) → seat_at m ca ≡ None → station_of ca (table_of m).stations ≡ none
absent_law m ca e = not_planned ca 0 64 (table_of m).stations (sym (seat_of_lem m ca) ∙ e)

seat_index : (m : List ℕ) (ca i pb sb n j first h : ℕ) → seat_in m ca i pb sb n ≡ here j first h → j < i + n
unfolding seat_in
seat_index m ca i pb sb zero j first h e = let z : ◌≡◌ {A = ℕ} 0 1 = cc in absurd (omega arith)
seat_index m ca i pb sb (suc n) j first h e =
    by_test (eqb (two m sb) ca) e (λ f. seat_index m ca (i + 1) (pb + 48 * two m (sb + 6)) (sb + 8) n j first h f)
  where
    by_test : (t : Bool) → pick t (here i pb (two m (sb + 6))) (seat_in m ca (i + 1) (pb + 48 * two m (sb + 6)) (sb + 8) n) ≡ here j first h
        → (seat_in m ca (i + 1) (pb + 48 * two m (sb + 6)) (sb + 8) n ≡ here j first h → j < i + 1 + n) → j < i + suc n
    by_test true f again = let d = (same_numbers f).0 in omega arith
    by_test false f again = let r = again f in omega arith

-- The index of a seat is below the number of stations, whatever the memory holds.
pub seat_inside : (m : List ℕ) (ca : ℕ) (s : Seat) → seat_at m ca ≡ Some s → s.index < two m 6
unfolding seat_at
seat_inside m ca s e = let r = seat_index m ca 0 64 (64 + 48 * two m 4) (two m 6) s.index s.first s.held e in omega arith

-- What `seat_at` asks of a memory, and that the points fit.
pub seats_readable : (m : List ℕ) → well_formed m ≡ true → (two m 6 ≤ 64) × (64 + 48 * two m 4 + 8 * two m 6 ≤ length m) × (two m 8 ≤ two m 4)
seats_readable m w = let p = passed m w in (p.top.s_high, p.top.room, p.few)

-- What `find` asks at a seat.
pub places_readable : (m : List ℕ) (ca : ℕ) (s : Seat) → Octets m → well_formed m ≡ true → seat_at m ca ≡ Some s → s.first + 48 * s.held ≤ length m
places_readable m ca s o w e =
    let p = passed m w in
    let few = p.few in
    let room = p.top.room in
    let places = (seat_law m ca s.index s.first s.held o w e).places in
    omega arith

-- Where a point of a station stands or would go: the station's index and held, and the place's offset by the points that lie before it.
pub record Standing (ss : List Station) (ca ioa : ℕ) (s : Station) (w : Found ca ss s) (i h at : ℕ) : Type 0 where
  pub index : i ≡ length w.before
  pub count : h ≡ held s
  pub place : at ≡ 64 + 48 * (total held w.before + seek_in ioa s.points)

-- A seat and the plain search of its points give that.
pub standing : (ss : List Station) (ca ioa i first h at : ℕ) (d : Seated ss ca 0 64 i first h) → at ≡ first + 48 * seek_in ioa d.s.points
    → Standing ss ca ioa d.s d.found i h at
standing ss ca ioa i first h at d e =
    let x : i ≡ 0 + length d.found.before = d.index in
    let z : first ≡ 64 + 48 * total held d.found.before = d.place in
    record { index = omega arith; count = d.count; place = omega arith }
