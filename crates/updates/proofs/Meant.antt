-- Which point an update means: what the code finds in a well-formed memory is the point that the definition names. Assumes nothing.
use Rattle.std.specs.Prelude.{Option, Some, None, Result, Ok, Err}
use mathlib.Core.Path.{◌≡◌, refl, sym, ap, ◌∙◌, subst}
use mathlib.Core.List.{List, [], ◌∷◌}
use mathlib.Core.Bool.{Bool, true, false}
use mathlib.Core.Option.{none, some}
use Prim.Native.Nat.{ℕ, ◌+◌, ◌*◌, ◌≤◌}
use native.Mathlib.Omega.{arith}
use lib.ListN.{length, get_or}
use lib.Dec.{eqb}
use borrow.Author.Tests.{eqb-true}
use Rattle.limits.specs.Test.{pick, total}
use Rattle.octets.specs.Number.{Octets}
use Rattle.model.specs.declared.Point.{Point}
use Rattle.model.specs.Place.{point_at}
use Rattle.table.specs.Table.{Station, held, rising}
use Rattle.table.specs.Memory.{points_at, table_of, well_formed}
use Rattle.table.specs.Change.{station_of, seek_in, point_in, known}
use Rattle.table.proofs.Change.{Found}
use Rattle.report.specs.Order.{points_of}
use Rattle.lookup.specs.declared.Seat.{Seat}
use Rattle.lookup.specs.Seats.{here, seat_at}
use Rattle.lookup.specs.Find.{find_at}
use Rattle.lookup.proofs.Laws.{Seated, Seen, seat_law, absent_law, places_readable}
use Rattle.lookup.proofs.Halving.{HeldAt, held_law, missing_law}
use Rattle.answers.specs.Process.{Update, updated, update_of, revalued}
use Rattle.updates.specs.Updates.{target_on, target_in, target_at}

-- ---- bounds of what is found in a well-formed memory

module _ (m : List ℕ) (w : well_formed m ≡ true) (o : Octets m) (ca : ℕ) (s : Seat) (e : seat_at m ca ≡ Some s) where
  spot_law : (ioa at : ℕ) → find_at m s.first s.held ioa ≡ Ok at → HeldAt m s.first s.held ioa at (points_at m s.first s.held)
  spot_law ioa at f =
      let seen : Seen m ca s.index s.first s.held = seat_law m ca s.index s.first s.held o w e in
      held_law m s.first s.held ioa at (ap (rising 0) seen.points ∙ seen.rises) f

  pub held_bounds : (ioa at : ℕ) → find_at m s.first s.held ioa ≡ Ok at → at + 48 ≤ length m
  held_bounds ioa at f = let b = places_readable m ca s o w e in let k = (spot_law ioa at f).inside in omega arith

-- ---- the point that is meant

-- An update whose target was found at `at`: its station, the point there, and the point with the new value.
pub record Targeted (m : List ℕ) (u : Update) (at : ℕ) : Type 0 where
  pub station : Station
  pub found : Found u.ca (table_of m).stations station
  pub rises : rising 0 station.points ≡ true
  pub is_point : point_in u.ioa station.points ≡ some (point_at m at)
  pub is_kind : get_or m at 0 ≡ u.kind
  pub place : at ≡ 64 + 48 * (total held found.before + seek_in u.ioa station.points)
  pub inside : at + 48 ≤ length m
  pub update : update_of (table_of m) u ≡ some (revalued (point_at m at) u.value)

-- a point that is not known is not found
unknown_none : (ioa : ℕ) (ps : List Point) → known ioa ps ≡ false → point_in ioa ps ≡ none
unfolding known point_in
unknown_none ioa [] k = refl
unknown_none ioa (q ∷ qs) k = by_test (eqb q.ioa ioa) k (λ f. unknown_none ioa qs f)
  where
    by_test : (b : Bool) → pick b true (known ioa qs) ≡ false → (known ioa qs ≡ false → point_in ioa qs ≡ none) → pick b (some q) (point_in ioa qs) ≡ none
    by_test true f again = let z : ◌≡◌ {A = ℕ} 0 1 = cc in absurd (omega arith)
    by_test false f again = again f

module _ (m : List ℕ) (u : Update) (o : Octets m) (w : well_formed m ≡ true) where
  -- the station planned, and a point at the address
  module _ (i first h : ℕ) (e : seat_at m u.ca ≡ here i first h) (a : ℕ) (f : find_at m first h u.ioa ≡ Ok a) where
    found_update : station_of u.ca (table_of m).stations ≡ some (seat_law m u.ca i first h o w e).seat.s
        → update_of (table_of m) u ≡ updated u (some (point_at m a))
    found_update is =
        let seen : Seen m u.ca i first h = seat_law m u.ca i first h o w e in
        let q : point_in u.ioa seen.seat.s.points ≡ some (point_at m a) =
        ap (point_in u.ioa) (sym seen.points) ∙ (spot_law m w o u.ca (record { index = i; first = first; held = h }) e u.ioa a f).is_point in
        ap (λ (x : _). updated u (point_in u.ioa (points_of x))) is ∙ ap (updated u) q

    place_found : eqb (get_or m a 0) u.kind ≡ true → Targeted m u a
    unfolding updated
    place_found k =
        let seen : Seen m u.ca i first h = seat_law m u.ca i first h o w e in
        let d : Seated (table_of m).stations u.ca 0 64 i first h = seen.seat in
        let s : HeldAt m first h u.ioa a (points_at m first h) = spot_law m w o u.ca (record { index = i; first = first; held = h }) e u.ioa a f in
        let y : first ≡ 64 + 48 * total held d.found.before = d.place in
        let x : a ≡ first + 48 * seek_in u.ioa d.s.points = s.place ∙ ap (λ (ps : List Point). first + 48 * seek_in u.ioa ps) seen.points in
        record {
          station = d.s;
          found = d.found;
          rises = seen.rises;
          is_point = ap (point_in u.ioa) (sym seen.points) ∙ s.is_point;
          is_kind = eqb-true _ _ k;
          place = omega arith;
          inside = held_bounds m w o u.ca (record { index = i; first = first; held = h }) e u.ioa a f;
          update = found_update d.is_station ∙ simp k;
        }

    other_kind : eqb (get_or m a 0) u.kind ≡ false → update_of (table_of m) u ≡ none
    unfolding updated
    other_kind k = found_update (seat_law m u.ca i first h o w e).seat.is_station ∙ simp k

  -- no point at the address
  module _ (i first h : ℕ) (e : seat_at m u.ca ≡ here i first h) (a : ℕ) (f : find_at m first h u.ioa ≡ Err a) where
    no_point : update_of (table_of m) u ≡ none
    unfolding updated
    no_point =
        let seen : Seen m u.ca i first h = seat_law m u.ca i first h o w e in
        let k : known u.ioa seen.seat.s.points ≡ false =
        ap (known u.ioa) (sym seen.points) ∙ (missing_law m first h u.ioa a (ap (rising 0) seen.points ∙ seen.rises) f).not_known in
        ap (λ (x : _). updated u (point_in u.ioa (points_of x))) seen.seat.is_station ∙ ap (updated u) (unknown_none u.ioa seen.seat.s.points k)

  -- no such station
  no_station : seat_at m u.ca ≡ None → update_of (table_of m) u ≡ none
  unfolding updated point_in
  no_station e = ap (λ (x : _). updated u (point_in u.ioa (points_of x))) (absent_law m u.ca e)

  -- A place: the update changes the point there.
  pub target_place : (at : ℕ) → target_at m u ≡ Some at → Targeted m u at
  unfolding target_at
  target_place at e = of_seat (seat_at m u.ca) refl e
    where
      of_kind_lem : (i first h : ℕ) → seat_at m u.ca ≡ here i first h → (a : ℕ) → find_at m first h u.ioa ≡ Ok a
          → (b : Bool) → eqb (get_or m a 0) u.kind ≡ b → pick b (Some a) None ≡ Some at → Targeted m u at
      of_kind_lem i first h p a q true k f = let z : a ≡ at = cc in subst (λ (x : ℕ). Targeted m u x) z (place_found i first h p a q k)
      of_kind_lem i first h p a q false k f = let z : ◌≡◌ {A = ℕ} 0 1 = cc in absurd (omega arith)

      of_spot : (i first h : ℕ) → seat_at m u.ca ≡ here i first h → (x : Result ℕ ℕ) → find_at m first h u.ioa ≡ x → target_on m u x ≡ Some at → Targeted m u at
      of_spot i first h p (Ok a) q f = of_kind_lem i first h p a q (eqb (get_or m a 0) u.kind) refl f
      of_spot i first h p (Err a) q f = let z : ◌≡◌ {A = ℕ} 0 1 = cc in absurd (omega arith)

      of_seat : (x : Option Seat) → seat_at m u.ca ≡ x → target_in m u x ≡ Some at → Targeted m u at
      of_seat (Some s) p f = of_spot s.index s.first s.held p (find_at m s.first s.held u.ioa) refl f
      of_seat None p f = let z : ◌≡◌ {A = ℕ} 0 1 = cc in absurd (omega arith)

  -- Skipped: it changes nothing.
  pub target_skipped : target_at m u ≡ None → update_of (table_of m) u ≡ none
  unfolding target_at
  target_skipped e = of_seat (seat_at m u.ca) refl e
    where
      of_kind_lem : (i first h : ℕ) → seat_at m u.ca ≡ here i first h → (a : ℕ) → find_at m first h u.ioa ≡ Ok a
          → (b : Bool) → eqb (get_or m a 0) u.kind ≡ b → pick b (Some a) None ≡ None → update_of (table_of m) u ≡ none
      of_kind_lem i first h p a q true k f = let z : ◌≡◌ {A = ℕ} 0 1 = cc in absurd (omega arith)
      of_kind_lem i first h p a q false k f = other_kind i first h p a q k

      of_spot : (i first h : ℕ) → seat_at m u.ca ≡ here i first h → (x : Result ℕ ℕ) → find_at m first h u.ioa ≡ x → target_on m u x ≡ None → update_of (table_of m) u ≡ none
      of_spot i first h p (Ok a) q f = of_kind_lem i first h p a q (eqb (get_or m a 0) u.kind) refl f
      of_spot i first h p (Err a) q f = no_point i first h p a q

      of_seat : (x : Option Seat) → seat_at m u.ca ≡ x → target_in m u x ≡ None → update_of (table_of m) u ≡ none
      of_seat (Some s) p f = of_spot s.index s.first s.held p (find_at m s.first s.held u.ioa) refl f
      of_seat None p f = no_station p
