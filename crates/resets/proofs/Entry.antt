-- The laws as an entry has them, over a well-formed memory: the bounds that the code asks, and the table that the memory holds afterwards,
-- for a planned station, for CA 65,535 and for a CA that is not planned. Assumes nothing.
use Rattle.std.specs.Prelude.{None}
use mathlib.Core.Path.{◌≡◌, refl, sym, ap, ◌∙◌}
use mathlib.Core.List.{List, [], ◌∷◌, ◌++◌}
use mathlib.Core.Bool.{true}
use mathlib.Core.Option.{none}
use Prim.Native.Nat.{ℕ, ◌+◌, ◌*◌, ◌≤◌}
use native.Mathlib.Omega.{arith}
use lib.ListN.{length, drop}
use borrow.Author.Tests.{leb-true, ne_eqb}
use Rattle.limits.proofs.Tests.{both}
use Rattle.octets.specs.Number.{two, Octets}
use Rattle.model.specs.declared.Point.{Point}
use Rattle.table.specs.Table.{Station, Table, plan_ok, numbers_ok, image}
use Rattle.table.specs.Memory.{table_of, well_formed}
use Rattle.table.specs.Change.{with_stations, station_of, in_station, with_points, changed}
use Rattle.table.proofs.Parse.{holds, passed, printed}
use Rattle.table.proofs.Change.{Absent, station_absent}
use Rattle.table.proofs.Change.Absent.{absent_none, absent_more}
use Rattle.lookup.specs.Seats.{here, seat_at}
use Rattle.lookup.proofs.Laws.{Seated, Seen, seat_law, absent_law}
use Rattle.registry.specs.Effect.{holding}
use Rattle.asdu.specs.Header.{global_address}
use Rattle.report.specs.declared.Selection.{Selection}
use Rattle.answers.specs.System.{reset_in, reset_at}
use Rattle.resets.specs.Resets.{reset_places}
use Rattle.resets.proofs.Image.{station_image, every_image}

-- ---- which CA it is

-- the plan's addresses end at 65,534
plan_address : (k low : ℕ) (before : List Station) (s : Station) (after : List Station) → plan_ok k low (before ++ (s ∷ after)) ≡ true → s.ca ≤ 65534
unfolding plan_ok numbers_ok
plan_address k low [] s after e = leb-true _ _ (both _ _ (both _ _ (both _ _ e).0).1).0
plan_address k low (x ∷ before) s after e = plan_address k (x.ca + 1) before s after (both _ _ e).1

-- under a station's own address only that station changes
own_reset : (t : Table) (ca : ℕ) (sel : Selection) → (ca ≡ global_address → ⊥) → reset_at t ca sel ≡ changed t ca (reset_in sel)
unfolding reset_at
own_reset t ca sel n = simp (ne_eqb _ _ n)

in_absent : (ca : ℕ) (f : Station → Station) (ss : List Station) → Absent ca ss → in_station ca f ss ≡ ss
unfolding in_station
in_absent ca f [] absent_none = refl
in_absent ca f (x ∷ ss) (absent_more n a) = simp (ne_eqb _ _ n) (ap (λ (l : List Station). x ∷ l) (in_absent ca f ss a))

-- A change of a station that the plan does not have changes nothing.
pub changed_absent : (t : Table) (ca : ℕ) (f : List Point → List Point) → station_of ca t.stations ≡ none → changed t ca f ≡ t
unfolding changed
changed_absent t ca f e = λ j. with_stations (in_absent ca (with_points f) t.stations (station_absent ca t.stations e) j) t

-- ---- the laws

-- The reset of a planned station, whose h places lie from `first`.
pub record StationReset (m : List ℕ) (ca first h : ℕ) (sel : Selection) : Type 0 where
  pub bounds : first + 48 * h ≤ length m
  pub memory : reset_places sel m first h ≡ holding m (table_of m) (reset_at (table_of m) ca sel)

pub station_reset_law : (m : List ℕ) (ca i first h : ℕ) (sel : Selection) → Octets m → well_formed m ≡ true → seat_at m ca ≡ here i first h
    → StationReset m ca first h sel
station_reset_law m ca i first h sel o w e =
    let t : Table = table_of m in
    let gl = holds m o w in
    let z : Seen m ca i first h = seat_law m ca i first h o w e in
    let d : Seated t.stations ca 0 64 i first h = z.seat in
    let p = passed m w in
    let r = p.top.room in
    let few = p.few in
    let places = z.places in
    let c : d.s.ca ≡ ca = d.found.is_ca in
    let l : d.s.ca ≤ 65534 = plan_address t.capacity 1 d.found.before d.s d.found.after (ap (plan_ok t.capacity 1) (sym d.found.split) ∙ gl.0.plan) in
    let R : List ℕ = drop (length (image t)) m in
    record {
      bounds = omega arith;
      memory = ap (λ (x : List ℕ). reset_places sel x first h) (printed m o p)
          ∙ station_image t R ca sel d.s d.found first h gl.0 d.place d.count
          ∙ ap (λ (u : Table). image u ++ R) (sym (own_reset t ca sel (λ q. omega arith)));
    }

-- The reset of every station, under CA 65,535.
pub record EveryReset (m : List ℕ) (sel : Selection) : Type 0 where
  pub bounds : 64 + 48 * two m 8 ≤ length m
  pub memory : reset_places sel m 64 (two m 8) ≡ holding m (table_of m) (reset_at (table_of m) global_address sel)

pub every_reset_law : (m : List ℕ) (sel : Selection) → Octets m → well_formed m ≡ true → EveryReset m sel
unfolding reset_at
every_reset_law m sel o w =
    let t : Table = table_of m in
    let gl = holds m o w in
    let p = passed m w in
    let r = p.top.room in
    let few = p.few in
    let R : List ℕ = drop (length (image t)) m in
    record {
      bounds = omega arith;
      memory = (λ j. reset_places sel (printed m o p j) 64 (gl.1.is_n j)) ∙ every_image t R sel gl.0;
    }

-- A CA that is neither planned nor 65,535: nothing changes.
pub unplanned_reset_law : (m : List ℕ) (ca : ℕ) (sel : Selection) → Octets m → well_formed m ≡ true → seat_at m ca ≡ None → (ca ≡ global_address → ⊥)
    → (reset_at (table_of m) ca sel ≡ table_of m) × (m ≡ holding m (table_of m) (reset_at (table_of m) ca sel))
unplanned_reset_law m ca sel o w e n =
    let t : Table = table_of m in
    let s : reset_at t ca sel ≡ t = own_reset t ca sel n ∙ changed_absent t ca (reset_in sel) (absent_law m ca e) in
    (s, printed m o (passed m w) ∙ ap (λ (u : Table). image u ++ drop (length (image t)) m) (sym s))
