-- The laws as an entry has them, over a well-formed memory: what the code counts and writes are the requested ASDUs of the points asked for,
-- of a planned station, and an address is missing exactly where the points asked for are none. Assumes nothing.
use mathlib.Core.Path.{◌≡◌, refl, sym, ap, ◌∙◌}
use mathlib.Core.List.{List, [], ◌∷◌, ◌++◌, map}
use mathlib.Core.Bool.{Bool, true, false}
use mathlib.Core.Option.{Option, none, some}
use Prim.Native.Nat.{ℕ, zero, suc, ◌+◌, ◌-◌, ◌<◌}
use native.Mathlib.Omega.{arith}
use lib.ListN.{length, get_or, length-append}
use lib.Dec.{eqb}
use Rattle.std.specs.Prelude.{Option as Asked, Some, None, Result, Ok, Err}
use Rattle.limits.specs.Test.{pick}
use Rattle.limits.specs.Size.{header_octets, address_octets, point_octets}
use Rattle.limits.proofs.Outcomes.{not_both}
use Rattle.octets.specs.Number.{three, Octets}
use Rattle.model.specs.declared.Point.{Point}
use Rattle.model.specs.Place.{point_at}
use Rattle.asdu.specs.Header.{Asdu, asdu_octets, wire}
use Rattle.asdu.specs.Joined.{joined}
use Rattle.asdu.specs.declared.command.Command.{Command}
use Rattle.answers.specs.Said.{size}
use Rattle.table.specs.Table.{rising}
use Rattle.table.specs.Memory.{points_at, table_of, well_formed}
use Rattle.table.specs.Change.{station_of, point_in, known}
use Rattle.lookup.specs.declared.Seat.{Seat}
use Rattle.lookup.specs.Seats.{seat_at}
use Rattle.lookup.specs.Find.{find_at}
use Rattle.lookup.proofs.Laws.{seat_law, absent_law}
use Rattle.lookup.proofs.Halving.{held_law, missing_law}
use Rattle.report.specs.Order.{points_of}
use Rattle.report.specs.Single.{requested_asdu}
use Rattle.report.proofs.Single.{length_single}
use Rattle.answers.specs.System.{addresses_in, points_asked, points_read}
use Rattle.read_data.specs.Reads.{asked_of, together, asked_at, requested_of, requested_at, requested_by}

-- ---- the points asked for, one address after another

not_in : (a : ℕ) (ps : List Point) → known a ps ≡ false → point_in a ps ≡ none
unfolding known point_in
not_in a [] k = refl
not_in a (p ∷ ps) k = by_test (λ e. not_in a ps e) (eqb p.ioa a) k
  where
    by_test : (known a ps ≡ false → point_in a ps ≡ none) → (b : Bool) → pick b true (known a ps) ≡ false → pick b (some p) (point_in a ps) ≡ none
    by_test ih true e = not_both (sym e)
    by_test ih false e = ih e

module _ (a : ℕ) (rest : List ℕ) (ps : List Point) where
  asked_none : point_in a ps ≡ none → points_asked (a ∷ rest) ps ≡ none
  unfolding points_asked
  asked_none e = simp e

  asked_not_all : (p : Point) → point_in a ps ≡ some p → points_asked rest ps ≡ none → points_asked (a ∷ rest) ps ≡ none
  unfolding points_asked
  asked_not_all p e f = simp (e, f)

  asked_some : (p : Point) (qs : List Point) → point_in a ps ≡ some p → points_asked rest ps ≡ some qs → points_asked (a ∷ rest) ps ≡ some (p ∷ qs)
  unfolding points_asked
  asked_some p qs e f = simp (e, f)

-- ---- over rising points

-- what the code counts for the points asked for
counted : ℕ → Option (List Point) → Asked ℕ
counted ca none = None
counted ca (some ps) = Some (size (map (requested_asdu ca) ps))

one_more : (m : List ℕ) (ca at : ℕ) (qs : List Point)
    → 9 + point_octets (get_or m at 0) + size (map (requested_asdu ca) qs) ≡ size (map (requested_asdu ca) (point_at m at ∷ qs))
unfolding wire joined
one_more m ca at qs =
    let l : length (asdu_octets (requested_asdu ca (point_at m at))) ≡ 9 + point_octets (get_or m at 0) = length_single 5 ca (point_at m at) refl in
    simp length-append (omega arith)

module _ (m : List ℕ) (first h ca : ℕ) (asdu : List ℕ) (r : rising 0 (points_at m first h) ≡ true) where
  asked_is : (at n : ℕ) → asked_at m first h asdu at n ≡ counted ca (points_asked (addresses_in asdu at n) (points_at m first h))
  unfolding asked_at asked_of addresses_in counted points_asked wire joined
  asked_is at zero = refl
  asked_is at (suc n) = by_spot (find_at m first h (three asdu at)) refl (asked_is (at + 3) n)
    where
      a : ℕ
      a = three asdu at

      rest : List ℕ
      rest = addresses_in asdu (at + 3) n

      ps : List Point
      ps = points_at m first h

      by_rest : (p : ℕ) → point_in a ps ≡ some (point_at m p) → (x : Option (List Point)) → points_asked rest ps ≡ x → asked_at m first h asdu (at + 3) n ≡ counted ca x
          → together (Some (9 + point_octets (get_or m p 0))) (asked_at m first h asdu (at + 3) n) ≡ counted ca (points_asked (a ∷ rest) ps)
      by_rest p e none f ih =
          ap (together (Some (9 + point_octets (get_or m p 0)))) ih ∙ ap (counted ca) (sym (asked_not_all a rest ps (point_at m p) e f))
      by_rest p e (some qs) f ih =
          ap (together (Some (9 + point_octets (get_or m p 0)))) ih ∙ ap Some (one_more m ca p qs) ∙ ap (counted ca) (sym (asked_some a rest ps (point_at m p) qs e f))

      by_spot : (x : Result ℕ ℕ) → find_at m first h a ≡ x → asked_at m first h asdu (at + 3) n ≡ counted ca (points_asked rest ps)
          → together (asked_of m x) (asked_at m first h asdu (at + 3) n) ≡ counted ca (points_asked (a ∷ rest) ps)
      by_spot (Ok p) e ih = by_rest p (held_law m first h a p r e).is_point (points_asked rest ps) refl ih
      by_spot (Err p) e ih = ap (counted ca) (sym (asked_none a rest ps (not_in a ps (missing_law m first h a p r e).not_known)))

  requested_is : (at n : ℕ) (qs : List Point) → points_asked (addresses_in asdu at n) (points_at m first h) ≡ some qs
      → requested_at m first h ca asdu at n ≡ map (requested_asdu ca) qs
  unfolding requested_at requested_of addresses_in points_asked
  requested_is at zero qs e = let q : [] ≡ qs = cc in ap (map (requested_asdu ca)) q
  requested_is at (suc n) qs e = by_spot (λ x f. requested_is (at + 3) n x f) (find_at m first h (three asdu at)) refl
    where
      a : ℕ
      a = three asdu at

      rest : List ℕ
      rest = addresses_in asdu (at + 3) n

      ps : List Point
      ps = points_at m first h

      by_rest : ((x : List Point) → points_asked rest ps ≡ some x → requested_at m first h ca asdu (at + 3) n ≡ map (requested_asdu ca) x)
          → (p : ℕ) → point_in a ps ≡ some (point_at m p) → (x : Option (List Point)) → points_asked rest ps ≡ x
          → requested_asdu ca (point_at m p) ∷ requested_at m first h ca asdu (at + 3) n ≡ map (requested_asdu ca) qs
      by_rest again p d none f =
          let g : none ≡ some qs = sym (asked_not_all a rest ps (point_at m p) d f) ∙ e in
          let z : ◌≡◌ {A = ℕ} 0 1 = cc in
          absurd (omega arith)
      by_rest again p d (some x) f =
          let g : some (point_at m p ∷ x) ≡ some qs = sym (asked_some a rest ps (point_at m p) x d f) ∙ e in
          let q : point_at m p ∷ x ≡ qs = cc in
          ap (λ (l : List Asdu). requested_asdu ca (point_at m p) ∷ l) (again x f) ∙ ap (map (requested_asdu ca)) q

      by_spot : ((x : List Point) → points_asked rest ps ≡ some x → requested_at m first h ca asdu (at + 3) n ≡ map (requested_asdu ca) x)
          → (x : Result ℕ ℕ) → find_at m first h a ≡ x → requested_of m ca x ++ requested_at m first h ca asdu (at + 3) n ≡ map (requested_asdu ca) qs
      by_spot again (Ok p) d = by_rest again p (held_law m first h a p r d).is_point (points_asked rest ps) refl
      by_spot again (Err p) d =
          let g : none ≡ some qs = sym (asked_none a rest ps (not_in a ps (missing_law m first h a p r d).not_known)) ∙ e in
          let z : ◌≡◌ {A = ℕ} 0 1 = cc in
          absurd (omega arith)

-- ---- the laws

-- Every address is known: the points, and what the code counts and writes of them.
pub record Requested (m : List ℕ) (first h : ℕ) (c : Command) (asdu : List ℕ) (octets : ℕ) : Type 0 where
  pub points : List Point
  pub is_asked : points_read c asdu (table_of m) ≡ some points
  pub is_octets : octets ≡ size (map (requested_asdu c.ca) points)
  pub is_data : requested_by m first h c asdu ≡ map (requested_asdu c.ca) points

module _ (m : List ℕ) (seat : Seat) (o : Octets m) (w : well_formed m ≡ true) (c : Command) (e : seat_at m c.ca ≡ Some seat) where
  -- the points at the seat are the station's, and they rise
  seat_rises : rising 0 (points_at m seat.first seat.held) ≡ true
  seat_rises = let z = seat_law m c.ca seat.index seat.first seat.held o w e in ap (rising 0) z.points ∙ z.rises

  seat_points : points_at m seat.first seat.held ≡ points_of (station_of c.ca (table_of m).stations)
  seat_points = let z = seat_law m c.ca seat.index seat.first seat.held o w e in z.points ∙ sym (ap points_of z.seat.is_station)

  module _ (asdu : List ℕ) where
    counted_is : asked_at m seat.first seat.held asdu header_octets c.count ≡ counted c.ca (points_read c asdu (table_of m))
    counted_is =
        asked_is m seat.first seat.held c.ca asdu seat_rises header_octets c.count
        ∙ ap (λ (ps : List Point). counted c.ca (points_asked (addresses_in asdu header_octets c.count) ps)) seat_points

    data_is : (qs : List Point) → points_read c asdu (table_of m) ≡ some qs → requested_by m seat.first seat.held c asdu ≡ map (requested_asdu c.ca) qs
    data_is qs f =
        requested_is m seat.first seat.held c.ca asdu seat_rises header_octets c.count qs
        (ap (λ (ps : List Point). points_asked (addresses_in asdu header_octets c.count) ps) seat_points ∙ f)

    -- The octets were counted: every address is known, and these are the points.
    pub requested_law : (octets : ℕ) → Some octets ≡ asked_at m seat.first seat.held asdu header_octets c.count → Requested m seat.first seat.held c asdu octets
    unfolding counted
    requested_law octets f = by_asked (points_read c asdu (table_of m)) refl (f ∙ counted_is)
      where
        by_asked : (x : Option (List Point)) → points_read c asdu (table_of m) ≡ x → Some octets ≡ counted c.ca x → Requested m seat.first seat.held c asdu octets
        by_asked none d g = let z : ◌≡◌ {A = ℕ} 0 1 = cc in absurd (omega arith)
        by_asked (some qs) d g = record { points = qs; is_asked = d; is_octets = cc; is_data = data_is qs d }

    -- An address is missing: no points are asked for.
    pub missing_address_law : None ≡ asked_at m seat.first seat.held asdu header_octets c.count → points_read c asdu (table_of m) ≡ none
    unfolding counted
    missing_address_law f = by_asked (points_read c asdu (table_of m)) refl (f ∙ counted_is)
      where
        by_asked : (x : Option (List Point)) → points_read c asdu (table_of m) ≡ x → None ≡ counted c.ca x → points_read c asdu (table_of m) ≡ none
        by_asked none d g = d
        by_asked (some qs) d g = let z : ◌≡◌ {A = ℕ} 0 1 = cc in absurd (omega arith)

-- A CA that is not planned, CA 65,535 too: the first address is missing.
pub unplanned_read_law : (m : List ℕ) (c : Command) (asdu : List ℕ) → seat_at m c.ca ≡ None → 0 < c.count → points_read c asdu (table_of m) ≡ none
unfolding addresses_in point_in
unplanned_read_law m c asdu e some-there =
    let k : c.count ≡ suc (c.count - 1) = omega arith in
    (λ j. points_asked (addresses_in asdu header_octets (k j)) (points_of (absent_law m c.ca e j)))
    ∙ asked_none (three asdu header_octets) (addresses_in asdu (header_octets + address_octets) (c.count - 1)) [] refl
