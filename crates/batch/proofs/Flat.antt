-- The places of all stations as one list in order of their addresses: they are read so from memory, they rise, and a point taken into a station
-- is put in by its address. Assumes nothing.
use mathlib.Core.Path.{◌≡◌, refl, sym, ap, ap₂, ◌∙◌, subst}
use mathlib.Core.List.{List, [], ◌∷◌, ◌++◌}
use mathlib.Core.Bool.{Bool, true, false}
use mathlib.Core.Option.{some}
use Prim.Native.Nat.{ℕ, ◌+◌, ◌*◌, ◌/◌, ◌%◌, ◌≤◌, ◌<◌}
use native.Mathlib.Omega.{arith}
use native.Mathlib.Nat.{add_assoc}
use lib.ListN.{length, take, drop}
use lib.Seq.{get_or-drop}
use lib.Dec.{leb, eqb}
use borrow.Author.Tests.{leb-true, leb-false, le-leb, lt-leb, eqb-true}
use Rattle.limits.specs.Test.{pick, total}
use Rattle.limits.proofs.Tests.{both}
use Rattle.octets.proofs.At.{At, at_fst, at_rest}
use Rattle.model.specs.declared.Point.{Point}
use Rattle.model.specs.Place.{place_of, point_ok}
use Rattle.table.specs.Table.{Station, held, rising, all_rising, places_of, bodies}
use Rattle.table.specs.Change.{station_of, in_station, with_points, seek_in, insert_in}
use Rattle.table.proofs.Points.{length_places}
use Rattle.table.proofs.Shares.{planned}
use Rattle.merging.specs.Merge.{Placed, with_place, places_octets, Rises, address_at, placed_at, placed_from}
use Rattle.merging.proofs.Joined.{Below, FirstFrom, put_none, put_first, put_later, put_past, put_before, octets_append}
use Rattle.merging.proofs.Turns.{placed_append}

-- The place of a point of station ca.
abbrev pub placed_point : ℕ → Point → Placed
placed_point ca p = record { address = 16777216 * ca + p.ioa; octets = place_of ca p }

-- The places of the points of station ca.
unfoldable pub flat_of : ℕ → List Point → List Placed
flat_of ca [] = []
flat_of ca (p ∷ ps) = placed_point ca p ∷ flat_of ca ps

-- The places of all stations, one after another.
unfoldable pub flat : List Station → List Placed
flat [] = []
flat (s ∷ ss) = flat_of s.ca s.points ++ flat ss

-- ---- their octets

-- of one station
octets_of_points : (ca : ℕ) (ps : List Point) → places_octets (flat_of ca ps) ≡ places_of ca ps
unfolding flat_of places_octets places_of
octets_of_points ca [] = refl
octets_of_points ca (p ∷ ps) = ap (λ (l : List ℕ). place_of ca p ++ l) (octets_of_points ca ps)

-- The octets of all are the table's places.
pub flat_octets : (ss : List Station) → places_octets (flat ss) ≡ bodies ss
unfolding flat places_octets bodies
flat_octets [] = refl
flat_octets (s ∷ ss) =
    octets_append (flat_of s.ca s.points) (flat ss) ∙ ap₂ (λ (a b : List ℕ). a ++ b) (octets_of_points s.ca s.points) (flat_octets ss)

-- ---- read from memory

-- an address is read from the list that starts at the place
address_drop : (m : List ℕ) (at : ℕ) → address_at m at ≡ address_at (drop at m) 0
unfolding address_at
address_drop m at = simp (get_or-drop, add_assoc)

-- the address of a point's place
address_here : (ca : ℕ) (p : Point) (Y : List ℕ) → address_at (place_of ca p ++ Y) 0 ≡ 16777216 * ca + p.ioa
unfolding address_at
address_here ca p Y =
    let c : ca % 256 + 256 * (ca / 256) ≡ ca = omega arith in
    let i : p.ioa % 256 + 256 * (p.ioa / 256 % 256 + 256 * (p.ioa / 65536)) ≡ p.ioa = omega arith in
    λ j. 16777216 * c j + i j

-- a point's place in memory
place_read : (m : List ℕ) (at ca : ℕ) (p : Point) → At m at (place_of ca p) → placed_at m at ≡ placed_point ca p
place_read m at ca p a =
    let e : address_at m at ≡ 16777216 * ca + p.ioa = address_drop m at ∙ ap (λ (l : List ℕ). address_at l 0) a.is ∙ address_here ca p (drop (at + 48) m) in
    let f : take 48 (drop at m) ≡ place_of ca p = ap (take 48) a.is in
    λ j. record { address = e j; octets = f j }

-- the places of one station
points_read_lem : (m : List ℕ) (at ca : ℕ) (ps : List Point) → At m at (places_of ca ps) → placed_from m at (length ps) ≡ flat_of ca ps
unfolding placed_from places_of flat_of
points_read_lem m at ca [] a = refl
points_read_lem m at ca (p ∷ ps) a =
    ap₂ (λ (x : Placed) (l : List Placed). x ∷ l) (place_read m at ca p (at_fst m (place_of ca p) (places_of ca ps) at a))
    (points_read_lem m (at + 48) ca ps (at_rest m (place_of ca p) (places_of ca ps) at 48 refl a))

-- The places in memory are those of the stations.
pub flat_read : (m : List ℕ) (at : ℕ) (ss : List Station) → At m at (bodies ss) → placed_from m at (total held ss) ≡ flat ss
unfolding bodies total flat placed_from
flat_read m at [] a = refl
flat_read m at (s ∷ ss) a =
    let P : List ℕ = places_of s.ca s.points in
    placed_append m at (held s) (total held ss)
    ∙ ap₂ (λ (x y : List Placed). x ++ y) (points_read_lem m at s.ca s.points (at_fst m P (bodies ss) at a))
    (flat_read m (at + 48 * held s) ss (at_rest m P (bodies ss) at (48 * held s) (length_places s.ca s.points) a))

-- ---- their order

-- the addresses of a station's points are below those of the next
points_below : (k ca low : ℕ) (ps : List Point) → 16777216 * (ca + 1) ≤ k → rising low ps ≡ true → Below k (flat_of ca ps)
unfolding flat_of Below rising point_ok
points_below k ca low [] h r = tt
points_below k ca low (p ∷ ps) h r =
    let r1 = both _ _ r in
    let r2 = both _ _ r1.1 in
    let i : p.ioa ≤ 16777215 = leb-true _ _ (both _ _ r2.0).0 in
    (omega arith, points_below k ca (p.ioa + 1) ps h r2.1)

-- the addresses of stations from `low` on are not below its first
stations_from_lem : (k cap low : ℕ) (ss : List Station) → k ≤ 16777216 * low → planned cap low ss ≡ true → FirstFrom k (flat ss)
unfolding flat flat_of planned FirstFrom
stations_from_lem k cap low [] h p = tt
stations_from_lem k cap low (s ∷ ss) h p =
    let p1 = both _ _ p in
    let c : low ≤ s.ca = leb-true _ _ p1.0 in
    let q : planned cap (s.ca + 1) ss ≡ true = (both _ _ (both _ _ (both _ _ p1.1).1).1).1 in
    first s.points c (stations_from_lem k cap (s.ca + 1) ss (omega arith) q)
  where
    first : (ps : List Point) → low ≤ s.ca → FirstFrom k (flat ss) → FirstFrom k (flat_of s.ca ps ++ flat ss)
    first [] c f = f
    first (x ∷ ps) c f = omega arith

-- what rises from a number rises from a lower one
rises_lower : (low high : ℕ) (l : List Placed) → low ≤ high → Rises high l → Rises low l
unfolding Rises
rises_lower low high [] h r = tt
rises_lower low high (x ∷ l) h r = let a : high ≤ x.address = r.0 in (omega arith, r.1)

-- two lists that rise, one above the other
rises_append : (low k : ℕ) (a b : List Placed) → low ≤ k → Rises low a → Below k a → Rises k b → Rises low (a ++ b)
unfolding Rises Below
rises_append low k [] b h r w s = rises_lower low k b h s
rises_append low k (x ∷ a) b h r w s = let u : x.address < k = w.0 in (r.0, rises_append (x.address + 1) k a b (omega arith) r.1 w.1 s)

-- the places of one station rise
points_rise : (ca low : ℕ) (ps : List Point) → rising low ps ≡ true → Rises (16777216 * ca + low) (flat_of ca ps)
unfolding flat_of Rises rising
points_rise ca low [] r = tt
points_rise ca low (p ∷ ps) r =
    let r1 = both _ _ r in
    let l : low ≤ p.ioa = leb-true _ _ r1.0 in
    let e : 16777216 * ca + (p.ioa + 1) ≡ 16777216 * ca + p.ioa + 1 = omega arith in
    (omega arith, subst (λ (x : ℕ). Rises x (flat_of ca ps)) e (points_rise ca (p.ioa + 1) ps (both _ _ r1.1).1))

-- the places of stations rise
stations_rise : (cap low : ℕ) (ss : List Station) → planned cap low ss ≡ true → all_rising ss ≡ true → Rises (16777216 * low) (flat ss)
unfolding flat planned all_rising Rises
stations_rise cap low [] p r = tt
stations_rise cap low (s ∷ ss) p r =
    let p1 = both _ _ p in
    let c : low ≤ s.ca = leb-true _ _ p1.0 in
    let q : planned cap (s.ca + 1) ss ≡ true = (both _ _ (both _ _ (both _ _ p1.1).1).1).1 in
    let r1 = both _ _ r in
    rises_append (16777216 * low) (16777216 * (s.ca + 1)) (flat_of s.ca s.points) (flat ss) (omega arith)
    (rises_lower (16777216 * low) (16777216 * s.ca + 0) (flat_of s.ca s.points) (omega arith) (points_rise s.ca 0 s.points r1.0))
    (points_below (16777216 * (s.ca + 1)) s.ca 0 s.points (omega arith) r1.0)
    (stations_rise cap (s.ca + 1) ss q r1.1)

-- The addresses of a table's places rise.
pub flat_rises : (cap : ℕ) (ss : List Station) → planned cap 1 ss ≡ true → all_rising ss ≡ true → Rises 0 (flat ss)
flat_rises cap ss p r = rises_lower 0 (16777216 * 1) (flat ss) (omega arith) (stations_rise cap 1 ss p r)

-- ---- one point more

-- where a point goes in its station
insert_first : (p q : Point) (qs : List Point) → p.ioa ≤ q.ioa → insert_in p (q ∷ qs) ≡ p ∷ (q ∷ qs)
unfolding insert_in seek_in
insert_first p q qs h = simp (le-leb _ _ h)

insert_later : (p q : Point) (qs : List Point) → q.ioa < p.ioa → insert_in p (q ∷ qs) ≡ q ∷ insert_in p qs
unfolding insert_in seek_in
insert_later p q qs h = simp (lt-leb _ _ h)

insert_none : (p : Point) → insert_in p [] ≡ p ∷ []
unfolding insert_in seek_in
insert_none p = refl

-- among the points of its station
points_added : (ca : ℕ) (p : Point) (ps : List Point) → flat_of ca (insert_in p ps) ≡ with_place (placed_point ca p) (flat_of ca ps)
unfolding flat_of
points_added ca p [] = ap (flat_of ca) (insert_none p) ∙ sym (put_none (placed_point ca p))
points_added ca p (q ∷ qs) = by_test (points_added ca p qs) (leb p.ioa q.ioa) refl
  where
    by_test : flat_of ca (insert_in p qs) ≡ with_place (placed_point ca p) (flat_of ca qs) → (b : Bool) → leb p.ioa q.ioa ≡ b
        → flat_of ca (insert_in p (q ∷ qs)) ≡ with_place (placed_point ca p) (placed_point ca q ∷ flat_of ca qs)
    by_test ih true t =
        let h : p.ioa ≤ q.ioa = leb-true _ _ t in
        ap (flat_of ca) (insert_first p q qs h) ∙ sym (put_first (placed_point ca p) (placed_point ca q) (flat_of ca qs) (omega arith))
    by_test ih false t =
        let h : q.ioa < p.ioa = leb-false _ _ t in
        ap (flat_of ca) (insert_later p q qs h) ∙ ap (λ (l : List Placed). placed_point ca q ∷ l) ih
        ∙ sym (put_later (placed_point ca p) (placed_point ca q) (flat_of ca qs) (omega arith))

-- a station that is found does not lie below the first address of the plan
found_from : (cap low ca : ℕ) (ss : List Station) (s : Station) → planned cap low ss ≡ true → station_of ca ss ≡ some s → low ≤ ca
unfolding planned station_of
found_from cap low ca [] s p e = let z : ◌≡◌ {A = ℕ} 0 1 = cc in absurd (omega arith)
found_from cap low ca (x ∷ ss) s p e =
    let p1 = both _ _ p in
    let c : low ≤ x.ca = leb-true _ _ p1.0 in
    let q : planned cap (x.ca + 1) ss ≡ true = (both _ _ (both _ _ (both _ _ p1.1).1).1).1 in
    by_test c (λ f. found_from cap (x.ca + 1) ca ss s q f) (eqb x.ca ca) refl e
  where
    by_test : low ≤ x.ca → (station_of ca ss ≡ some s → x.ca + 1 ≤ ca) → (b : Bool) → eqb x.ca ca ≡ b → pick b (some x) (station_of ca ss) ≡ some s → low ≤ ca
    by_test c ih true t f = let g : x.ca ≡ ca = eqb-true _ _ t in omega arith
    by_test c ih false t f = let g : x.ca + 1 ≤ ca = ih f in omega arith

-- A point taken into its station is put in by its address.
pub flat_added : (cap low ca : ℕ) (p : Point) (ss : List Station) (s : Station) → planned cap low ss ≡ true → all_rising ss ≡ true → p.ioa ≤ 16777215
    → station_of ca ss ≡ some s → flat (in_station ca (with_points (insert_in p)) ss) ≡ with_place (placed_point ca p) (flat ss)
unfolding planned all_rising station_of in_station flat
flat_added cap low ca p [] s pl ri i e = let z : ◌≡◌ {A = ℕ} 0 1 = cc in absurd (omega arith)
flat_added cap low ca p (x ∷ ss) s pl ri i e =
    let p1 = both _ _ pl in
    let q : planned cap (x.ca + 1) ss ≡ true = (both _ _ (both _ _ (both _ _ p1.1).1).1).1 in
    let r1 = both _ _ ri in
    by_test q r1.0 (λ f. found_from cap (x.ca + 1) ca ss s q f) (λ f. flat_added cap (x.ca + 1) ca p ss s q r1.1 i f) (eqb x.ca ca) refl e
  where
    by_test : planned cap (x.ca + 1) ss ≡ true → rising 0 x.points ≡ true → (station_of ca ss ≡ some s → x.ca + 1 ≤ ca)
        → (station_of ca ss ≡ some s → flat (in_station ca (with_points (insert_in p)) ss) ≡ with_place (placed_point ca p) (flat ss))
        → (b : Bool) → eqb x.ca ca ≡ b → pick b (some x) (station_of ca ss) ≡ some s
        → flat (pick b (with_points (insert_in p) x ∷ ss) (x ∷ in_station ca (with_points (insert_in p)) ss)) ≡ with_place (placed_point ca p) (flat_of x.ca x.points ++ flat ss)
    by_test q r from ih true t f =
        let g : x.ca ≡ ca = eqb-true _ _ t in
        let y : Placed = placed_point x.ca p in
        ap (λ (l : List Placed). l ++ flat ss) (points_added x.ca p x.points)
        ∙ sym (put_before y (flat_of x.ca x.points) (flat ss) (stations_from_lem (16777216 * x.ca + p.ioa) cap (x.ca + 1) ss (omega arith) q))
        ∙ ap (λ (c : ℕ). with_place (placed_point c p) (flat_of x.ca x.points ++ flat ss)) g
    by_test q r from ih false t f =
        let g : x.ca + 1 ≤ ca = from f in
        ap (λ (l : List Placed). flat_of x.ca x.points ++ l) (ih f)
        ∙ sym (put_past (placed_point ca p) (flat_of x.ca x.points) (flat ss) (points_below (16777216 * ca + p.ioa) x.ca 0 x.points (omega arith) r))
