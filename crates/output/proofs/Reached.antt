-- The places that a common address reaches hold the points that it speaks of. Assumes nothing.
use Rattle.std.specs.Prelude.{Option, Some, None}
use mathlib.Core.Path.{◌≡◌, refl, sym, ap, ◌∙◌, subst}
use mathlib.Core.List.{List, [], ◌∷◌, ◌++◌}
use mathlib.Core.Bool.{Bool, true, false}
use Prim.Native.Nat.{ℕ, zero, suc, ◌+◌, ◌*◌, ◌≤◌}
use native.Mathlib.Omega.{arith}
use lib.ListN.{length}
use lib.Dec.{eqb}
use borrow.Author.Tests.{eqb-true, eqb-false}
use Rattle.limits.specs.Test.{pick}
use Rattle.octets.specs.Number.{two, Octets}
use Rattle.asdu.specs.Header.{global_address}
use Rattle.model.specs.declared.Point.{Point}
use Rattle.model.specs.Place.{point_at}
use Rattle.table.specs.Memory.{points_at, stations_at, sum_at, table_of, well_formed}
use Rattle.layout.specs.Layout.{held_at}
use Rattle.table.proofs.Parse.{Passed, passed}
use Rattle.report.specs.declared.Reach.{Reach}
use Rattle.report.specs.Packing.{joined}
use Rattle.report.specs.Order.{by_address, points_of, own_points, all_points, points_for}
use Rattle.report.proofs.Order.{points_own}
use Rattle.lookup.specs.declared.Seat.{Seat}
use Rattle.lookup.specs.Seats.{seat_at}
use Rattle.lookup.proofs.Laws.{Seen, seat_law, absent_law}
use Rattle.output.specs.Data.{arranged}
use Rattle.output.specs.Reach.{seat_reach, reach_of}

-- ---- the points of all stations

points_add : (m : List ℕ) (at a b : ℕ) → points_at m at (a + b) ≡ points_at m at a ++ points_at m (at + 48 * a) b
unfolding points_at
points_add m at zero b =
    let e : 0 + b ≡ b = omega arith in
    let f : at + 48 * 0 ≡ at = omega arith in
    ap (points_at m at) e ∙ ap (λ (x : ℕ). points_at m x b) (sym f)
points_add m at (suc a) b =
    let e : suc a + b ≡ suc (a + b) = omega arith in
    let f : at + 48 + 48 * a ≡ at + 48 * suc a = omega arith in
    ap (points_at m at) e
    ∙ ap (λ (l : List Point). point_at m at ∷ l) (points_add m (at + 48) a b ∙ ap (λ (x : ℕ). points_at m (at + 48) a ++ points_at m x b) f)

-- the stations' points, one station after another, are those of the places in order
all_read : (m : List ℕ) (pb sb n : ℕ) → all_points (stations_at m pb sb n) ≡ points_at m pb (sum_at held_at m sb n)
unfolding all_points joined stations_at sum_at points_at
all_read m pb sb zero = refl
all_read m pb sb (suc n) =
    ap (λ (l : List Point). points_at m pb (two m (sb + 6)) ++ l) (all_read m (pb + 48 * two m (sb + 6)) (sb + 8) n)
    ∙ sym (points_add m pb (two m (sb + 6)) (sum_at held_at m (sb + 8) n))

-- ---- the reach of a CA in a well-formed memory

pub record Reached (m : List ℕ) (ca : ℕ) (r : Reach) : Type 0 where
  pub lies : r.base + 48 * r.n ≤ length m
  pub few : r.n ≤ 4096
  pub points : arranged r.every (points_at m r.base r.n) ≡ points_for ca (table_of m).stations

-- every station's places
reached_all : (m : List ℕ) → well_formed m ≡ true → Reached m global_address (record { base = 64; n = two m 8; every = true })
unfolding points_for table_of
reached_all m w =
    let p : Passed m = passed m w in
    let t = p.top.room in
    let k = p.top.k_high in
    let f = p.few in
    let a : points_at m 64 (two m 8) ≡ all_points (stations_at m 64 (64 + 48 * two m 4) (two m 6)) =
    ap (points_at m 64) p.count ∙ sym (all_read m 64 (64 + 48 * two m 4) (two m 6)) in
    record { lies = omega arith; few = omega arith; points = ap by_address a }

no_point : (m : List ℕ) → points_at m 64 0 ≡ []
unfolding points_at
no_point m = refl

-- a station's own
pub record Own (m : List ℕ) (ca : ℕ) (r : Reach) : Type 0 where
  pub lies : r.base + 48 * r.n ≤ length m
  pub few : r.n ≤ 4096
  pub points : arranged r.every (points_at m r.base r.n) ≡ own_points ca (table_of m).stations

own_places : (m : List ℕ) (ca : ℕ) → Octets m → well_formed m ≡ true → (s : Option Seat) → seat_at m ca ≡ s → Own m ca (seat_reach s)
own_places m ca o w (Some s) e =
    let p : Passed m = passed m w in
    let v : Seen m ca s.index s.first s.held = seat_law m ca s.index s.first s.held o w e in
    let a = v.places in
    let z = v.seat.place in
    let t = p.top.room in
    let k = p.top.k_high in
    let f = p.few in
    record { lies = omega arith; few = omega arith; points = v.points ∙ sym (ap points_of v.seat.is_station) }
own_places m ca o w None e =
    let t = (passed m w).top.long in
    record { lies = omega arith; few = omega arith; points = no_point m ∙ sym (ap points_of (absent_law m ca e)) }

-- THE REACH of a CA in a well-formed memory lies there, and its points are those that the CA speaks of, in the order of an answer
pub reached : (m : List ℕ) (ca : ℕ) → Octets m → well_formed m ≡ true → Reached m ca (reach_of m ca)
unfolding reach_of
reached m ca o w = by_address_lem (eqb ca global_address) refl
  where
    by_address_lem : (b : Bool) → eqb ca global_address ≡ b → Reached m ca (pick b (record { base = 64; n = two m 8; every = true }) (seat_reach (seat_at m ca)))
    by_address_lem true e =
        subst (λ (x : ℕ). Reached m x (record { base = 64; n = two m 8; every = true })) (sym (eqb-true ca global_address e)) (reached_all m w)
    by_address_lem false e =
        let r = own_places m ca o w (seat_at m ca) refl in
        record { lies = r.lies; few = r.few; points = r.points ∙ sym (points_own ca (table_of m).stations (λ q. eqb-false ca global_address e q)) }
